use Rattle.loaded_program.proofs.NumberLaws.{declared_has_id, index_of_number}
use Rattle.loaded_program.proofs.laws.declared_methods_have_ids.Goals as goal

pub returns-clause-some : goal.returns-clause-some
returns-clause-some c = declared_has_id

pub returns-clause-there : goal.returns-clause-there
returns-clause-there c = index_of_number
