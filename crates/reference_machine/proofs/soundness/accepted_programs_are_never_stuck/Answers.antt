use Rattle.reference_machine.proofs.TypedSteps.AllInstructions.{accepted_never_stuck}
use Rattle.reference_machine.proofs.soundness.accepted_programs_are_never_stuck.Goals as goal

pub returns : goal.returns
returns c = accepted_never_stuck
