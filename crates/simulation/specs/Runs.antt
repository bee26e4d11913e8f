-- What a machine does on a list of events, and that the reference machine does the same (this profile).
use Rattle.std.specs.Prelude.{◌≡◌, ◌↔◌, IsTrue, List, [], ◌∷◌, length, Some}
use Rattle.std.specs.List.{zip}
use Rattle.interpreter.specs.cil_model.declared.events.Event.{Event}
use Rattle.interpreter.specs.cil_model.declared.events.Event.TheVariants.{Step, Ack, Gc}
use Rattle.interpreter.specs.cil_model.declared.limits.Limits.{Limits}
use Rattle.interpreter.specs.cil_model.declared.reports.Report.{Report}
use Rattle.interpreter.specs.cil_model.declared.trees.Tree.{Tree}
use Rattle.interpreter.specs.reference_machine.States.{State}
use Rattle.interpreter.specs.reference_machine.Runs.{RunsTo, is_refusal, initial_state, run, thread_part, step_reports}
use Rattle.interpreter.specs.reference_machine.Steps.{Answers, step}
use Rattle.simulation.specs.MachineStates.{MachineState}
use Rattle.simulation.specs.Refines.{Represents}
use Rattle.simulation.specs.Rooms.{HasNoRoom}
use Rattle.simulation.specs.Transitions.{IsTransition, initial_machine_state}
use Rattle.simulation.specs.Budgets.{AreWithinBudget, KeepsBudgets}

-- one event after another, each with its report
abbrev pub AreTransitions : MachineState → List Event → MachineState → List Report → Type 0
AreTransitions c [] after reports = (after ≡ c) × (reports ≡ [])
AreTransitions c (e ∷ es) after [] = ⊥
AreTransitions c (e ∷ es) after (r ∷ rs) = (next : MachineState) × IsTransition c e (next, r) × AreTransitions next es after rs

-- the same, with the reports beside the events
abbrev pub DoTransitions : MachineState → List (Event × Report) → MachineState → Type 0
DoTransitions c [] last = last ≡ c
DoTransitions c (e ∷ es) last = (next : MachineState) × IsTransition c e.0 (next, e.1) × DoTransitions next es last

-- what a machine holds that was made for a program and has done these events with these reports
abbrev pub HoldsAfter : Tree → Limits → List (Event × Report) → MachineState → Type 0
HoldsAfter tree limits events c = (first : MachineState) × (initial_machine_state tree limits ≡ Some first) × DoTransitions first events c

-- ---- births

-- the state of the reference machine after an event with its report
abbrev pub IsNext : Tree → Limits → State → Event → Report → State → Type 0
IsNext tree limits s (Step t) r next = step tree limits s t (is_refusal r) ≡ Answers r next
IsNext tree limits s (Ack t) r next = next ≡ s
IsNext tree limits s Gc r next = next ≡ s

-- in an event a birth is refused exactly where it exceeds the room
abbrev pub IsRefusedBeyondRoom : MachineState → State → Event → Report → Type 0
IsRefusedBeyondRoom c s (Step t) r = IsTrue (is_refusal r) ↔ HasNoRoom c s t
IsRefusedBeyondRoom c s (Ack t) r = Unit {0}
IsRefusedBeyondRoom c s Gc r = Unit {0}

-- From a machine state and a state of the reference machine to a machine state: each event has its transition, and births are refused exactly beyond
-- the room that the machine has then.
abbrev pub RefusesBeyondRoom : MachineState → State → List (Event × Report) → MachineState → Type 0
RefusesBeyondRoom c s [] last = last ≡ c
RefusesBeyondRoom c s (e ∷ es) last =
    (next : MachineState) × IsTransition c e.0 (next, e.1) × IsRefusedBeyondRoom c s e.0 e.1 × ((after : State) → IsNext c.tree c.limits s e.0 e.1 after → RefusesBeyondRoom next after es last)

-- ---- runs

-- From a state that a machine represents: the run of the reference machine over the steps among these events is never stuck,
-- gives the steps' reports, refuses the same births, which are those beyond the room of the machine, and reaches a state that the machine represents
-- afterwards. Threads keep their budgets.
pub record RunsAlike (old new : MachineState) (events : List (Event × Report)) (s : State) : Type 0 where
  pub state : State
  pub gives : run old.tree old.limits s (thread_part events) ≡ RunsTo (step_reports events) state
  pub refuses : RefusesBeyondRoom old s events new
  pub represents : Represents new state
  pub budgets : KeepsBudgets old new events

-- from every such state
abbrev pub FollowsReference : MachineState → MachineState → List (Event × Report) → Type 0
FollowsReference old new events = (s : State) → Represents old s → RunsAlike old new events s

-- With these reports, one an event, the reference machine's run over their steps is never stuck, gives the steps' reports, and reaches this state; a
-- birth is refused exactly where it exceeds the room that the program's machine has then.
pub record IsRunOf (tree : Tree) (limits : Limits) (events : List Event) (reports : List Report) (s : State) : Type 0 where
  pub each : length reports ≡ length events
  pub first : State
  pub begins : initial_state tree limits ≡ Some first
  pub gives : run tree limits first (thread_part (zip events reports)) ≡ RunsTo (step_reports (zip events reports)) s
  pub machine : MachineState
  pub opened : initial_machine_state tree limits ≡ Some machine
  pub last : MachineState
  pub refuses : RefusesBeyondRoom machine first (zip events reports) last

-- a machine represents such a state, to which each thread came within its budget
pub record RefinesAfter (tree : Tree) (limits : Limits) (events : List Event) (reports : List Report) (c : MachineState) : Type 0 where
  pub state : State
  pub is_run : IsRunOf tree limits events reports state
  pub ends : is_run.last ≡ c
  pub budgets : AreWithinBudget limits (zip events reports) state
  pub represents : Represents c state

-- each event is a step of a thread
abbrev pub AreSteps : List Event → Type 0
AreSteps [] = Unit {0}
AreSteps (Step t ∷ es) = AreSteps es
AreSteps (Ack t ∷ es) = ⊥
AreSteps (Gc ∷ es) = ⊥
