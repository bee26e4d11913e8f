-- What a user sees of a state, and of the machine state that covers it (this profile).
use Rattle.std.specs.Prelude.{Contains, ◌≡◌, ◌⊎◌, ℕ, false, List, Option, map}
use Rattle.interleaving_core.specs.simulation.cil_model.declared.events.Event.TheVariants.{Step}
use Rattle.interleaving_core.specs.simulation.cil_model.declared.reports.End.{End}
use Rattle.interleaving_core.specs.simulation.cil_model.declared.reports.Report.TheVariants.{Blocked}
use Rattle.interleaving_core.specs.simulation.cil_model.declared.limits.Limits.{Limits}
use Rattle.interleaving_core.specs.simulation.cil_model.declared.trees.Tree.{Tree}
use Rattle.interleaving_core.specs.simulation.reference_machine.States.{State, Thread as StateThread, is_live}
use Rattle.interleaving_core.specs.simulation.reference_machine.Steps.{Answers, step}
use Rattle.interleaving_core.specs.simulation.threads_monitors.Threads.{end_of, is_live_at}
use Rattle.interleaving_core.specs.simulation.MachineStates.{MachineState}
use Rattle.interleaving_core.specs.simulation.Transitions.{IsTransition}

-- ---- which threads can make a step

-- the thread is not live, or its next step is blocked
abbrev pub CannotStep : MachineState → ℕ → Type 0
CannotStep c t = (is_live_at c.threads t ≡ false) ⊎ ((next : MachineState) × IsTransition c (Step t) (next, Blocked))

-- no thread can make a step: each has ended or is blocked
abbrev pub IsTerminal : MachineState → Type 0
IsTerminal c = (t : ℕ) → CannotStep c t

-- the same of a state of the reference machine
abbrev pub IsOver : Tree → Limits → State → Type 0
IsOver tree limits s = (t : ℕ) → (is_live s t ≡ false) ⊎ ((next : State) × (step tree limits s t false ≡ Answers Blocked next))

-- ---- outcomes

-- an outcome: the printed bytes, and the end of each thread by its number, which is none for a blocked thread
pub record ShownOutcome : Type 0 where
  pub printed : List ℕ
  pub ends : List (Option End)

-- the outcome of a state
abbrev pub outcome_of : State → ShownOutcome
outcome_of s = record { printed = s.printed; ends = map (λ (t : StateThread). t.ended) s.threads }

-- the outcome of a machine
abbrev pub outcome_shown : MachineState → ShownOutcome
outcome_shown c = record { printed = c.printed; ends = map end_of c.threads }

-- each machine state of the set in which no thread can make a step shows one of these outcomes
abbrev pub ShowOnly : (MachineState → Type 0) → List ShownOutcome → Type 0
ShowOnly known outcomes = (c : MachineState) → known c → IsTerminal c → Contains outcomes (outcome_shown c)
