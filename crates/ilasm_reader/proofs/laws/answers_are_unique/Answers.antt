use Rattle.ilasm_reader.proofs.Unique.{one_answer}
use Rattle.ilasm_reader.proofs.laws.answers_are_unique.Goals as goal

pub returns : goal.returns
returns c = one_answer
