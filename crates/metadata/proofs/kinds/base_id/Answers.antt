use Rattle.std.proofs.Common.{◌≡◌, Some, None, option_and_then, sym, ap, ◌∙◌}
use Rattle.cil_model.specs.Declarations.{source_name}
use Rattle.name_tables.specs.Numbers.{class_number}
use Rattle.name_tables.proofs.MemberLaws.{base_in_numbers}
use Rattle.metadata.proofs.CycleLaws.{base_has_id, base_unknown}
use Rattle.metadata.proofs.kinds.base_id.Goals as goal

pub returns-in-None : goal.returns-in-None
returns-in-None c =
    let t = c.args.names.now.classes.tree.now in
    let e : class_number t (source_name c.args.class.now) ≡ None = sym (c.id.ensures ∙ ap (class_number t) c.of_source.ensures) ∙ c.in-None.is in
    sym (ap (option_and_then (class_number t)) (base_unknown t (source_name c.args.class.now) e))

pub returns-in-Some : goal.returns-in-Some
returns-in-Some c =
    let t = c.args.names.now.classes.tree.now in
    let e : class_number t (source_name c.args.class.now) ≡ Some c.in-Some.number = sym (c.id.ensures ∙ ap (class_number t) c.of_source.ensures) ∙ c.in-Some.is in
    c.base.ensures ∙ base_in_numbers t c.in-Some.number ∙ sym (ap (option_and_then (class_number t)) (base_has_id t (source_name c.args.class.now) c.in-Some.number e))
