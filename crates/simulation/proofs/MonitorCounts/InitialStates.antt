-- In the initial state no monitor is held more often than its owner made steps.
use Rattle.std.proofs.Common.{◌≡◌, ◌≤◌, ℕ, zero, suc, Bool, true, false, if◌then◌else◌, List, [], ◌∷◌, map, Option, Some, None, option_map, slice_get, sym, ap, subst, arith}
use Rattle.std.proofs.lemmas.Option.{option_and_then_some, same_Some}
use Rattle.interpreter.specs.cil_model.declared.types.ClassName.{ClassName}
use Rattle.interpreter.specs.cil_model.declared.trees.Tree.{Tree}
use Rattle.interpreter.specs.cil_model.declared.trees.Method.{Method}
use Rattle.interpreter.specs.cil_model.declared.trees.Code.{Code}
use Rattle.interpreter.specs.cil_model.declared.limits.Limits.{Limits}
use Rattle.interpreter.specs.cil_model.Same.{same_text}
use Rattle.interpreter.specs.cil_model.Mentions.{literals_of}
use Rattle.interpreter.specs.cil_model.Bodies.{code_of, entry_points}
use Rattle.interpreter.specs.reference_machine.States.{Monitor, Free, Thread, State, entry_at}
use Rattle.interpreter.specs.reference_machine.Runs.{initial_state_at, initial_state}
use Rattle.simulation.specs.Counts.{IsCountedMonitor, IsCounted}
use Rattle.interpreter.proofs.cil_model.Lists.{none_is_some}

-- no literal's monitor is held at first
free_at_first : (cs : List (List ℕ)) (c : List ℕ) (m : Monitor) → entry_at same_text c (map (λ (d : List ℕ). (d, Free)) cs) ≡ Some m → Free ≡ m
free_at_first [] c m h = none_is_some m h
free_at_first (d ∷ ds) c m h = by_test (same_text d c) h (free_at_first ds c m)
  where
    by_test : (b : Bool) → (if b then Some Free else entry_at same_text c (map (λ (x : List ℕ). (x, Free)) ds)) ≡ Some m → (entry_at same_text c (map (λ (x : List ℕ). (x, Free)) ds) ≡ Some m → Free ≡ m) → Free ≡ m
    by_test true h' later = same_Some Free m h'
    by_test false h' later = later h'

module _ (tree : Tree) (limits : Limits) (allowed : 1 ≤ limits.budget) where
  -- the state at the beginning of a method
  initial_at_counted : (entry : ClassName × Method) (code : Code) → IsCounted limits (initial_state_at tree limits entry code)
  initial_at_counted entry code = record {
    objects = λ n o there. none_is_some o there;
    literals = λ c m there. subst (λ x. IsCountedMonitor limits first x) (free_at_first (literals_of tree) c m there) tt;
    live = λ n t there lives. subst (λ x. 1 ≤ x) (sym (whole n t there)) allowed;
    within = λ n t there. let e = whole n t there in omega (arith, e);
  }
    where
      first : State
      first = initial_state_at tree limits entry code

      whole : (n : ℕ) (t : Thread) → slice_get first.threads n ≡ Some t → t.steps_left ≡ limits.budget
      whole zero t there = ap (λ (x : Thread). x.steps_left) (sym (same_Some _ t there))
      whole (suc n) t there = none_is_some t there

  -- the initial state
  pub initial_counted : (s : State) → initial_state tree limits ≡ Some s → IsCounted limits s
  initial_counted s h = option_and_then_some _ (slice_get (entry_points tree) 0) s h (λ entry there h'. by_code entry (code_of entry.1.kind) h')
    where
      by_code : (entry : ClassName × Method) (code : Option Code) → option_map (initial_state_at tree limits entry) code ≡ Some s → IsCounted limits s
      by_code entry None e = none_is_some s e
      by_code entry (Some code) e = subst (λ x. IsCounted limits x) (same_Some (initial_state_at tree limits entry code) s e) (initial_at_counted entry code)
