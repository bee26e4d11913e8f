use Rattle.std.proofs.Common.{◌≡◌, None, Some, true, false, add-one, ap, arith, length, refl, slice_get, subst, sym, take, ◌∙◌}
use Rattle.driver.proofs.Names.{slice_get_read, first_other_in, is_other}
use Rattle.driver.proofs.ExplorationLemmas.{first_here, first_other_at, none_more}
use Rattle.driver.proofs.exploring.first_other.Goals as goal

pub returns-then-is_other : goal.returns-then-is_other
returns-then-is_other c =
    let found = c.args.found.now in
    let first = c.in_ok-first.first.now in
    let printed = first.printed.items in
    let index = c.loop-index.index in
    let below = c.loop-index-test.true in
    let it = c.index-found-index.result in
    let again = c.index-found-index-then-is_other.result in
    let there : slice_get found index ≡ Some it = slice_get_read found (length found) index it refl (omega (arith, below)) c.index-found-index.is in
    let there_again : slice_get found index ≡ Some again = slice_get_read found (length found) index again refl (omega (arith, below)) c.index-found-index-then-is_other.is in
    let other : is_other printed it ≡ true = sym (c.is_other.ensures ∙ ap (λ bytes. is_other bytes it) c.deref.ensures.value) ∙ c.if-is_other.true in
    let begins : slice_get found 0 ≡ Some first = slice_get_read found (length found) 0 first refl (omega (arith, below)) c.in_ok-first.ensures.item.1 in
    sym (first_other_at found first begins ∙ first_here printed found index it there other c.loop-index.invariant ∙ (sym there ∙ there_again))

pub loop-index-preserved : goal.loop-index-preserved
loop-index-preserved c =
    let found = c.args.found.now in
    let printed = c.in_ok-first.first.now.printed.items in
    let index = c.loop-index.index in
    let below = c.loop-index-test.true in
    let it = c.index-found-index.result in
    let there : slice_get found index ≡ Some it = slice_get_read found (length found) index it refl (omega (arith, below)) c.index-found-index.is in
    let plain : is_other printed it ≡ false = sym (c.is_other.ensures ∙ ap (λ bytes. is_other bytes it) c.deref.ensures.value) ∙ c.if-is_other.false in
    subst (λ n. first_other_in printed (take n found) ≡ None) (sym (add-one index)) (none_more printed found index it there plain c.loop-index.invariant)
