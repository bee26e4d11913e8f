use Rattle.std.proofs.Common.{is_some, is_none, sym, ap, ◌∙◌}
use Rattle.std.specs.List.{list_all}
use Rattle.cil_model.specs.Legality.{is_known_extern}
use Rattle.resolved_code.proofs.ListLaws.Repeats.{if_ok_then}
use Rattle.resolved_code.proofs.ListLaws.Tests.{not_not}
use Rattle.metadata.proofs.UnknownLaws.{externs_fail, classes_fail, types_fail, code_decides}
use Rattle.metadata.proofs.unknown.unknown_name.Goals as goal

pub returns-in-Some : goal.returns-in-Some
returns-in-Some c = externs_fail c.args.names.now.classes.tree.now (sym (c.unknown_extern.ensures ∙ ap (list_all is_known_extern) c.as_slice.ensures) ∙ ap is_none c.in-Some.is)

pub returns-in-Some-unknown_in_headings : goal.returns-in-Some-unknown_in_headings
returns-in-Some-unknown_in_headings c = classes_fail c.args.names.now.classes.tree.now (sym c.unknown_in_headings.ensures ∙ ap is_none c.in-Some-unknown_in_headings.is)

pub returns-in-Some-2 : goal.returns-in-Some-2
returns-in-Some-2 c = types_fail c.args.names.now.classes.tree.now (sym c.in_ok-unknown.ensures ∙ ap is_none c.in-Some-2.is)

pub returns : goal.returns
returns c =
    if_ok_then c.unknown_in_code.result _ _ (λ v e. sym (not_not (is_some v)) ∙
    code_decides c.args.names.now.classes.tree.now (is_none v) (sym (c.unknown_extern.ensures ∙ ap (list_all is_known_extern) c.as_slice.ensures) ∙ ap is_none c.in_default.is)
    (sym c.unknown_in_headings.ensures ∙ ap is_none c.in_default-unknown_in_headings.is) (sym c.in_ok-unknown.ensures ∙ ap is_none c.in_default-2.is) e) c.unknown_in_code.ensures
