-- The outcome of comparisons of references and of exits from monitors, where their rules have a result.
use Rattle.std.proofs.Common.{◌≡◌, ◌==◌, Bool, true, false, ◌&&◌, ◌||◌, if◌then◌else◌, is_some, slice_get, List, [], ◌∷◌, Some, None, refl, sym, ap, ◌∙◌, subst}
use Rattle.std.specs.Prelude.{IsSome}
use Rattle.cil_model.specs.declared.instructions.BranchComparison.{BranchComparison}
use Rattle.cil_model.specs.declared.instructions.BranchComparison.TheVariants as Branch
use Rattle.cil_model.specs.declared.instructions.Comparison.{Comparison}
use Rattle.cil_model.specs.declared.instructions.Comparison.TheVariants as Compare
use Rattle.cil_model.specs.declared.phases.Phase.{Phase}
use Rattle.object_memory.specs.declared.addresses.Addr.{Addr}
use Rattle.object_memory.specs.declared.values.Value.{Value}
use Rattle.object_memory.specs.declared.values.Value.TheVariants.{Ref}
use Rattle.object_memory.specs.Objects.{Objects, monitor_at}
use Rattle.barriers.specs.Barriers.{are_comparable, are_same, is_monitor_storable}
use Rattle.threads_monitors.specs.Frames.{Frames, with_stack}
use Rattle.threads_monitors.specs.Monitors.{with_entry, with_exit}
use Rattle.threads_monitors.specs.declared.effects.Effect.{Effect}
use Rattle.threads_monitors.specs.declared.effects.Effect.TheVariants.{Continues}
use Rattle.threads_monitors.specs.declared.mutators.Mutator.{Mutator}
use Rattle.instructions.specs.BuiltInTransitions.{pop_if_continues, enter_transition, exit_transition, is_countable, reference_from}
use Rattle.instructions.specs.Frames.{branch_reference, branch_test, comparison, same_reference}
use Rattle.instructions.specs.ObjectTransitions.{ObjectTransition}

-- ---- comparisons

module _ (phase : Phase) (o : Objects) (a b : Addr) where
  -- references are compared for being one
  pub compared_is : (op : Comparison) → IsSome (comparison phase o op (Ref a) (Ref b)) → comparison phase o op (Ref a) (Ref b) ≡ Some (are_same phase o a b)
  compared_is op there = by_test (are_comparable phase o a b) op there
    where
      by_test : (t : Bool) (op : Comparison) → IsSome (if t then same_reference op (are_same phase o a b) else None) → (if t then same_reference op (are_same phase o a b) else None) ≡ Some (are_same phase o a b)
      by_test true Compare.Equal h = refl
      by_test _ _ h = absurd cc

  -- and branches are taken on that alone
  pub never_ordered : (op : BranchComparison) → IsSome (branch_test phase o op (Ref a) (Ref b)) → (op ≡ Branch.Equal → ⊥) → (op ≡ Branch.NotEqual → ⊥) → ⊥
  never_ordered op there = by_test (are_comparable phase o a b) op there
    where
      by_test : (t : Bool) (op : BranchComparison) → IsSome (if t then branch_reference op (are_same phase o a b) else None) → (op ≡ Branch.Equal → ⊥) → (op ≡ Branch.NotEqual → ⊥) → ⊥
      by_test true Branch.Equal h equal other = equal refl
      by_test true Branch.NotEqual h equal other = other refl
      by_test _ _ h equal other = cc

-- ---- exits

-- where the thread doesn't continue its operand stays
carried_stays : (m n : Frames) (x : Objects × Effect) → (x.1 ≡ Continues → ⊥) → pop_if_continues m n x ≡ Some (m, x.0, x.1)
carried_stays m n (o, Continues) other = absurd (other refl)
carried_stays m n (o, _) other = refl

-- a rule of an entry or an exit, by which references it admits, and what it makes of the objects
module _ (admits : Addr → Bool) (change : Addr → Objects × Effect) (m : Frames) where
  abbrev transition_by : List Value → ObjectTransition
  transition_by stack = reference_from stack m (λ a n. if admits a then pop_if_continues m n (change a) else None)

  pub stays : (a : Addr) (x : Objects × Effect) → slice_get m.running.stack 0 ≡ Some (Ref a) → IsSome (transition_by m.running.stack) → x ≡ change a → (x.1 ≡ Continues → ⊥) → transition_by m.running.stack ≡ Some (m, x.0, x.1)
  stays a x top there is other = by_stack m.running.stack top there
    where
      by_test : (t : Bool) (rest : List Value) → IsSome (if t then pop_if_continues m (with_stack m rest) (change a) else None) → (if t then pop_if_continues m (with_stack m rest) (change a) else None) ≡ Some (m, x.0, x.1)
      by_test true rest h = ap (pop_if_continues m (with_stack m rest)) (sym is) ∙ carried_stays m (with_stack m rest) x other
      by_test false rest h = absurd cc

      by_stack : (stack : List Value) → slice_get stack 0 ≡ Some (Ref a) → IsSome (transition_by stack) → transition_by stack ≡ Some (m, x.0, x.1)
      by_stack [] e h = absurd cc
      by_stack (v ∷ rest) e h =
          let same : v ≡ Ref a = cc in
          subst (λ w. transition_by (w ∷ rest) ≡ Some (m, x.0, x.1)) (sym same)
          (by_test (admits a) rest (subst (λ w. IsSome (transition_by (w ∷ rest))) same h))

module _ (mutator : Mutator) (m : Frames) (o : Objects) (a : Addr) (x : Objects × Effect) (top : slice_get m.running.stack 0 ≡ Some (Ref a)) (other : x.1 ≡ Continues → ⊥) where
  pub enter_stays : IsSome (enter_transition mutator m o) → x ≡ with_entry mutator o a → enter_transition mutator m o ≡ Some (m, x.0, x.1)
  enter_stays there is = stays (λ b. (b.number == 0) || (is_countable (monitor_at o b) && is_monitor_storable mutator.phase o b)) (with_entry mutator o) m a x top there is other

  pub exit_stays : IsSome (exit_transition mutator m o) → x ≡ with_exit mutator o a → exit_transition mutator m o ≡ Some (m, x.0, x.1)
  exit_stays there is = stays (λ b. (b.number == 0) || (is_some (monitor_at o b) && is_monitor_storable mutator.phase o b)) (with_exit mutator o) m a x top there is other
