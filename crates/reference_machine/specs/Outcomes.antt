-- What a user sees of a run from the initial state.
use Rattle.std.specs.Prelude.{ℕ, List}
use Rattle.std.specs.Option.{option_map_or}
use Rattle.cil_model.specs.declared.trees.Tree.{Tree}
use Rattle.cil_model.specs.declared.limits.Limits.{Limits}
use Rattle.cil_model.specs.declared.reports.Report.{Report}
use Rattle.reference_machine.specs.States.{State}
use Rattle.reference_machine.specs.Runs.{StepRequest, Run, RunsTo, SticksAfter, initial_state, run}

-- the reports of the steps and all that was printed; or the reports before a step that is stuck; or there is no entry point
pub data Observation : Type 0 where
  Shows : List Report → List ℕ → Observation
  StuckAfter : List Report → Observation
  NeverBegins : Observation

-- what a run shows
abbrev pub observation_of : Run → Observation
observation_of (RunsTo reports s) = Shows reports s.printed
observation_of (SticksAfter reports) = StuckAfter reports

-- what the run of a program shows
abbrev pub outputs_of : Tree → Limits → List StepRequest → Observation
outputs_of tree limits requests = option_map_or (λ (s : State). observation_of (run tree limits s requests)) (initial_state tree limits) NeverBegins
