use Rattle.std.proofs.Common.{◌≡◌, ◌+◌, ◌*◌, ℕ, Bool, Some, length, refl, sym, ap, ◌∙◌, slice_get, subst, arith}
use Rattle.exploration.proofs.Names.{slice_get_read, ℕ_discrete, dite, MOST_THREADS}
use Rattle.exploration.proofs.CheckedSteps.{either_true}
use Rattle.exploration.proofs.checking.can_any_step.Goals as goal

pub loop-thread-preserved : goal.loop-thread-preserved
loop-thread-preserved c =
    let entries = c.args.entries.now in
    let thread = c.loop-thread.thread in
    let can = c.in-Some-Some.can_step in
    let path_index : ℕ → ℕ = λ t. c.args.path_index * MOST_THREADS + t in
    let there : slice_get entries (path_index thread) ≡ Some (Some can) = slice_get_read entries (length entries) (path_index thread) c.in-Some-Some.field-0.now refl c.in-Some-Some.ensures.lookup.3.0 c.in-Some-Some.ensures.lookup.1 ∙ ap Some c.in-Some-Some.field-0-is in (
      λ t below. dite (ℕ_discrete t thread)
          (λ same. (can, subst (λ k. slice_get entries (path_index k) ≡ Some (Some can)) (sym same) there))
          (λ other. c.loop-thread.invariant.0 t (omega (arith, below, other))),
      λ yes. either_true c.loop-thread.can_any can yes c.loop-thread.invariant.1 (λ is. (thread, c.loop-thread-test.true, there ∙ ap (λ (b : Bool). Some (Some b)) is)),
    )
