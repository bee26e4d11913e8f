-- The most words in use during a run (this profile).
use Rattle.std.specs.Prelude.{◌≡◌, [], ◌∷◌, ℕ, List, max}
use Rattle.cil_model.specs.declared.events.Event.{Event}
use Rattle.cil_model.specs.declared.reports.Report.{Report}
use Rattle.run_statistics.specs.Lines.{words_in_use}
use Rattle.shared_machine.specs.simulation.MachineStates.{MachineState}
use Rattle.shared_machine.specs.simulation.Transitions.{IsTransition}

-- The greatest of the words in use of a machine that performs these events with these reports, from one machine state to the last one: before the first
-- event, and after each one.
abbrev pub IsMostInUse : MachineState → List (Event × Report) → MachineState → ℕ → Type 0
IsMostInUse c [] last most = (last ≡ c) × (most ≡ words_in_use c)
IsMostInUse c (e ∷ es) last most =
    (next : MachineState) × IsTransition c e.0 (next, e.1) × (later : ℕ) × IsMostInUse next es last later × (most ≡ max (words_in_use c) later)
