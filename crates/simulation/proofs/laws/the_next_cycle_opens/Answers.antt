use Rattle.std.proofs.Common.{ap, ◌∙◌}
use Rattle.interpreter.specs.cil_model.declared.reports.Report.{Report}
use Rattle.simulation.proofs.CollectorEvents.WaitsAndInitialStates.{opens_next}
use Rattle.simulation.specs.MachineStates.{MachineState}
use Rattle.simulation.proofs.laws.the_next_cycle_opens.Goals as goal

pub returns : goal.returns
returns c = λ here idle seen after r transition. let opens = opens_next here idle seen in (ap (λ (x : MachineState × Report). x.1) transition ∙ opens.0, ap (λ (x : MachineState × Report). x.0.posts.posted_phase) transition ∙ opens.1)
