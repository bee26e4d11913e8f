use Rattle.resolved_code.proofs.Numbers.Declarations.{class_has_number, field_has_number, method_has_number}
use Rattle.resolved_code.proofs.laws.all_have_ids.Goals as goal

pub returns-clause-classes : goal.returns-clause-classes
returns-clause-classes c = class_has_number

pub returns-clause-fields : goal.returns-clause-fields
returns-clause-fields c = field_has_number

pub returns-clause-methods : goal.returns-clause-methods
returns-clause-methods c = method_has_number
