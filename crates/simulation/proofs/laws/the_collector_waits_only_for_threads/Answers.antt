use Rattle.std.proofs.Common.{sym, ap, ◌∙◌}
use Rattle.interpreter.specs.cil_model.declared.reports.Report.{Report}
use Rattle.simulation.proofs.CollectorEvents.WaitsAndInitialStates.{waits_rightly}
use Rattle.simulation.specs.MachineStates.{MachineState}
use Rattle.simulation.proofs.laws.the_collector_waits_only_for_threads.Goals as goal

pub returns : goal.returns
returns c = λ here after transition. let right = waits_rightly here (ap (λ (x : MachineState × Report). x.1) (sym transition)) in (right.0, ap (λ (x : MachineState × Report). x.0) transition ∙ right.1)
