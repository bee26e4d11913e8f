use Rattle.reference_machine.proofs.Programs.MethodTypings.{framed_has_typing}
use Rattle.reference_machine.proofs.laws.framed_methods_have_typings.Goals as goal

pub returns : goal.returns
returns c = framed_has_typing
