use Rattle.reference_machine.proofs.Runs.InstructionEffects.{raised_is_listed}
use Rattle.reference_machine.proofs.laws.raised_faults_are_listed.Goals as goal

pub returns : goal.returns
returns c = raised_is_listed
