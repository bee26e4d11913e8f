use Rattle.std.proofs.Common.{sym, ap, ◌∙◌, option_map}
use Rattle.cil_model.specs.Assignable.{type_of_class}
use Rattle.resolved_code.specs.ById.{class_name}
use Rattle.instructions.specs.TypeTransitions.{type_of_kind}
use Rattle.instructions.proofs.Names.{class_type}
use Rattle.instructions.proofs.types.type_of_kind.Goals as goal

pub returns-in-Instance : goal.returns-in-Instance
returns-in-Instance c tree t e =
    class_type tree c.new.result c.element_of_class.result t (c.element_of_class.ensures.named tree) (c.element_of_class.ensures.known tree)
    (ap (λ n. option_map type_of_class (class_name tree n)) (c.new.ensures ∙ c.from.ensures) ∙ sym (ap (type_of_kind tree) c.in-Instance.is) ∙ e)
