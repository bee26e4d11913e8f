-- What the cycles of a run guarantee: an end after a bounded amount of work, and the words of all but what was reachable in the reference machine's
-- state when the cycle began, or was born since (this profile).
use Rattle.std.specs.Prelude.{◌≡◌, ◌≤◌, ◌++◌, ℕ, List, [], ◌∷◌, length, Some}
use Rattle.std.specs.List.{zip}
use Rattle.interpreter.specs.cil_model.declared.events.Event.{Event}
use Rattle.interpreter.specs.cil_model.declared.events.Event.TheVariants.{Gc}
use Rattle.interpreter.specs.cil_model.declared.limits.Limits.{Limits}
use Rattle.interpreter.specs.cil_model.declared.reports.Report.{Report}
use Rattle.interpreter.specs.cil_model.declared.reports.Report.TheVariants.{CycleDone}
use Rattle.interpreter.specs.cil_model.declared.trees.Tree.{Tree}
use Rattle.interpreter.specs.cil_model.Fields.{static_fields}
use Rattle.interpreter.specs.object_memory.Cells.{used_words}
use Rattle.interpreter.specs.object_memory.Objects.{used_space}
use Rattle.interpreter.specs.reference_machine.Cycles.{BeginsNewestCycle, larger_words, most_working, working_in_cycle}
use Rattle.interpreter.specs.reference_machine.RetainedWords.{RetainsWords}
use Rattle.interpreter.specs.reference_machine.Runs.{RunsTo, initial_state, run, step_reports, thread_part}
use Rattle.interpreter.specs.reference_machine.States.{State}
use Rattle.simulation.specs.MachineStates.{MachineState}
use Rattle.simulation.specs.Rooms.{spaces_of}
use Rattle.simulation.specs.Runs.{HoldsAfter}

-- the reference machine reaches this state by the steps among the events
abbrev pub RunsUpTo : Tree → Limits → State → List (Event × Report) → State → Type 0
RunsUpTo tree limits first events s = run tree limits first (thread_part events) ≡ RunsTo (step_reports events) s

-- what was reachable when the newest cycle began, and what was born since, have this number of words together after all events
pub record RetainsAfter (tree : Tree) (limits : Limits) (events : List Event) (reports : List Report) (words : ℕ) : Type 0 where
  pub earlier : List (Event × Report)
  pub later : List (Event × Report)
  pub split : BeginsNewestCycle (zip events reports) earlier later
  pub first : State
  pub opens : initial_state tree limits ≡ Some first
  pub before : State
  pub began : RunsUpTo tree limits first earlier before
  pub now : State
  pub gives : RunsUpTo tree limits first (zip events reports) now
  pub retains : RetainsWords tree before now words

-- where the last event ends a cycle, no more words are in use than are retained, all in one space
abbrev pub LeavesOnlyRetained : Tree → Limits → List Event → List Report → MachineState → Type 0
LeavesOnlyRetained tree limits events reports c =
    (most : List (Event × Report)) → zip events reports ≡ most ++ (Gc, CycleDone) ∷ [] →
    (words : ℕ) × RetainsAfter tree limits events reports words × (used_space c.objects ≤ words) × (used_words c.objects.spaces.new.cells ≡ 0)

-- After any of the events, the newest cycle has few working events: 16 for each word of the larger one of its two spaces, one for each static field, and 64.
-- A cycle's larger space is the new one, which is the only one once the cycle is over.
abbrev pub AreCyclesBounded : Tree → Limits → List (Event × Report) → Type 0
AreCyclesBounded tree limits events =
    (done rest : List (Event × Report)) → events ≡ done ++ rest →
    (c : MachineState) × HoldsAfter tree limits done c × (working_in_cycle done ≤ most_working (larger_words (spaces_of c.objects)) (length (static_fields tree)))
