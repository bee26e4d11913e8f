use Rattle.reference_machine.proofs.Programs.MethodTypings.{found_is_declared, target_is_declared}
use Rattle.reference_machine.proofs.laws.found_methods_are_declared.Goals as goal

pub returns-clause-found : goal.returns-clause-found
returns-clause-found c = found_is_declared

pub returns-clause-targets : goal.returns-clause-targets
returns-clause-targets c = target_is_declared
