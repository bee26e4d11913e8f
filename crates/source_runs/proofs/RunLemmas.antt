-- What a machine that was made and run shows of its source.
use Rattle.std.proofs.Common.{◌≡◌, ◌≤◌, ◌⊎◌, ℕ, List, length, Option, Some, None, option_map, option_and_then, slice_get, ap, sym, inl, inr, arith}
use Rattle.std.proofs.lemmas.Option.{same_Some}
use Rattle.std.specs.Prelude.{IfSome}
use Rattle.shared_machine.specs.interleaving_core.Histories.{HasDone}
use Rattle.shared_machine.specs.simulation.MachineStates.{MachineState}
use Rattle.cil_model.specs.declared.events.Event.{Event}
use Rattle.cil_model.specs.declared.limits.Limits.{Limits}
use Rattle.cil_model.specs.declared.reports.Report.{Report}
use Rattle.cil_model.specs.declared.trees.Tree.{Tree}
use Rattle.cil_model.specs.declared.trees.Method.{Method}
use Rattle.cil_model.specs.declared.types.ClassName.{ClassName}
use Rattle.cil_model.specs.Bodies.{entry_points}
use Rattle.cil_model.proofs.Lists.{none_is_some}
use Rattle.shared_machine.specs.simulation.Transitions.{machine_state_at, initial_machine_state}
use Rattle.shared_machine.specs.simulation.loaded_program.MethodNumbers.{number_of}
use Rattle.acceptance.specs.Sources.{IsAcceptedSource}
use Rattle.source_runs.specs.Runs.{ResultsInBy, IsPrintedUpTo}

-- what a machine has done shows a run to its state
pub results_in : (source : List ℕ) (tree : Tree) (limits : Limits) (events : List Event) (reports : List Report) (c : MachineState) → IsAcceptedSource source tree →
    (done : HasDone tree limits events reports c) → ResultsInBy source limits events reports done.refines.state
results_in source tree limits events reports c is_accepted done = record {
  tree = tree;
  is_accepted = is_accepted;
  in_range = done.in_range;
  is_run = done.refines.is_run;
  budgets = done.refines.budgets;
  bounded = done.bounded;
}

-- nothing is printed before the first event
initial_prints_nothing : (tree : Tree) (limits : Limits) (c : MachineState) → initial_machine_state tree limits ≡ Some c → length c.printed ≡ 0
initial_prints_nothing tree limits c e = by_entry (slice_get (entry_points tree) 0) e
  where
    by_number : (entry : ClassName × Method) (n : Option ℕ) → option_map (machine_state_at tree limits entry) n ≡ Some c → length c.printed ≡ 0
    by_number entry None e' = none_is_some c e'
    by_number entry (Some n) e' = sym (ap (λ (x : MachineState). length x.printed) (same_Some (machine_state_at tree limits entry n) c e'))

    by_entry : (o : Option (ClassName × Method)) → option_and_then (λ (entry : ClassName × Method). option_map (machine_state_at tree limits entry) (number_of tree entry)) o ≡ Some c → length c.printed ≡ 0
    by_entry None e' = none_is_some c e'
    by_entry (Some entry) e' = by_number entry (number_of tree entry) e'

-- so no more than the bound is printed after it
pub printed_up_to : (tree : Tree) (limits : Limits) (most : Option ℕ) (initial_state : MachineState) (printed : List ℕ) → initial_machine_state tree limits ≡ Some initial_state
    → IfSome most (λ bytes. (length printed ≤ bytes) ⊎ (length printed ≤ length initial_state.printed)) → IsPrintedUpTo most printed
printed_up_to tree limits None initial_state printed e h = tt
printed_up_to tree limits (Some bytes) initial_state printed e h = elim h [
  | inl few ↦ few
  | inr none ↦ let nothing = initial_prints_nothing tree limits initial_state e in omega (arith, none, nothing)
]
