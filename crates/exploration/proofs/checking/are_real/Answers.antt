use Rattle.std.proofs.Common.{◌≡◌, ℕ, Some, length, refl, slice_get, sym, ◌∙◌, subst, arith}
use Rattle.exploration.proofs.Names.{same_Some, slice_get_read, slice_get_within, ℕ_discrete, dite, IsReal}
use Rattle.exploration.proofs.checking.are_real.Goals as goal

pub loop-index-preserved : goal.loop-index-preserved
loop-index-preserved g c = λ n below f at. dite (ℕ_discrete n c.loop-index.index)
    (λ same.
    let found = c.args.found.now in
    let there : slice_get found c.loop-index.index ≡ Some c.index-found-index.result = slice_get_read found (length found) c.loop-index.index c.index-found-index.result refl (omega arith) c.index-found-index.is in
    let here : slice_get found c.loop-index.index ≡ Some f = subst (λ (k : ℕ). slice_get found k ≡ Some f) same at in
    subst (IsReal g.M.First.first) (same_Some c.index-found-index.result f (sym there ∙ here)) (c.in_ok-is_real.ensures c.if-not-branch.false))
    (λ other. c.loop-index.invariant n (omega arith) f at)

pub returns : goal.returns
returns g c = λ yes n f at. let within = slice_get_within c.args.found.now n f at in let past = c.loop-index-test.false in c.loop-index.invariant n (omega (arith, within, past)) f at
