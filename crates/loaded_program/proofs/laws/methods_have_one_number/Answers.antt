use Rattle.loaded_program.proofs.NumberLaws.{number_of_index}
use Rattle.loaded_program.proofs.laws.methods_have_one_number.Goals as goal

pub returns : goal.returns
returns c = number_of_index
