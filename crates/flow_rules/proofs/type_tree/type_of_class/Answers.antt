use Rattle.std.proofs.Common.{ap, ◌∙◌}
use Rattle.std.specs.Option.{is_some}
use Rattle.cil_model.specs.Assignable.{element_of_class}
use Rattle.cil_model.specs.Declarations.{plain}
use Rattle.flow_rules.proofs.Classes.{element_at_number}
use Rattle.flow_rules.proofs.type_tree.type_of_class.Goals as goal

pub returns : goal.returns
returns c = λ tree name at. ap plain (c.element_of_class.ensures.named tree (ap is_some at) ∙ ap element_of_class (element_at_number tree c.args.class name at))
