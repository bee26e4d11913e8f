use Rattle.std.proofs.Common.{◌==◌, sym, ap, ◌∙◌}
use Rattle.std.specs.List.{list_any}
use Rattle.cil_model.specs.Declarations.{source_name}
use Rattle.name_tables.specs.Methods.{line_of}
use Rattle.name_tables.specs.Numbers.{class_number}
use Rattle.metadata.proofs.CycleLaws.{no_number, own_line, not_own}
use Rattle.metadata.proofs.cycles.is_own_base.Goals as goal

pub returns-in_default : goal.returns-in_default
returns-in_default c = sym (no_number c.args.names.now.classes.tree.now (source_name c.args.class.now) (sym (c.id.ensures ∙ ap (class_number c.args.names.now.classes.tree.now) c.of_source.ensures) ∙ c.in_default.is))

pub returns-then-ends : goal.returns-then-ends
returns-then-ends c =
    let t = c.args.names.now.classes.tree.now in
    sym (not_own t (source_name c.args.class.now) c.in-Some.number (sym (c.id.ensures ∙ ap (class_number t) c.of_source.ensures) ∙ c.in-Some.is) (c.ends.ensures.0 c.if-ends.true))

pub returns : goal.returns
returns c =
    let t = c.args.names.now.classes.tree.now in
    c.is_along.ensures ∙ ap (λ o. list_any (λ m. m == c.in-Some.number) (line_of t o)) c.base.ensures ∙
    sym (own_line t (source_name c.args.class.now) c.in-Some.number (sym (c.id.ensures ∙ ap (class_number t) c.of_source.ensures) ∙ c.in-Some.is))
