use Rattle.std.proofs.Common.{◌≡◌, ◌++◌, ◌+◌, suc, Some, length, add-one, ap, arith, refl, slice_get, subst, sym, ◌∙◌}
use Rattle.std.specs.Prelude.{string_bytes}
use Rattle.driver.proofs.Names.{slice_get_read, IsOutcomeText, IsShownBelow}
use Rattle.driver.proofs.outcome_texts.outcomes_text.Goals as goal

pub loop-index-preserved : goal.loop-index-preserved
loop-index-preserved c =
    let found = c.args.found.now in
    let index = c.loop-index.index in
    let below = c.loop-index-test.true in
    let last = c.index-found-index.result in
    let lines = string_bytes c.in_ok-part.part in
    let there : slice_get found index ≡ Some last = slice_get_read found (length found) index last refl (omega (arith, below)) c.index-found-index.is in
    let next : index + 1 ≡ suc index = add-one index in
    subst (λ n. IsShownBelow c.args.explain found n (string_bytes c.push_str.new.self)) (sym next) (
      string_bytes c.loop-index.text,
      c.loop-index.invariant,
      last,
      there,
      lines,
      subst (λ n. IsOutcomeText c.args.explain n last lines) next c.in_ok-part.ensures.text,
      c.in_ok-push_str.ensures.bytes ∙ ap (λ bytes. string_bytes c.loop-index.text ++ bytes) c.as_str.ensures.value,
    )
