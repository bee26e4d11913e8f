use Rattle.instruction_text.proofs.Printable.{printable_class, printable_instruction, printable_method_name}
use Rattle.instruction_text.proofs.laws.texts_are_printable.Goals as goal

pub returns-clause-instructions : goal.returns-clause-instructions
returns-clause-instructions c = λ x. (printable_instruction x).is

pub returns-clause-classes : goal.returns-clause-classes
returns-clause-classes c = λ x. (printable_class x).is

pub returns-clause-methods : goal.returns-clause-methods
returns-clause-methods c = λ x. (printable_method_name x).is
