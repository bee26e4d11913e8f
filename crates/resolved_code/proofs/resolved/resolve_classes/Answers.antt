use Rattle.std.proofs.Common.{◌≡◌, sym, ap, subst, ◌∙◌, map}
use Rattle.cil_model.specs.Declarations.{Declaration}
use Rattle.cil_model.specs.declared.types.ClassName.{ClassName}
use Rattle.name_tables.specs.declared.class_tables.ClassTable.{ClassTable}
use Rattle.name_tables.specs.Entries.{declaration_in, entry_of}
use Rattle.name_tables.proofs.Lists.{map_of_map}
use Rattle.resolved_code.specs.Outcomes.{Gives}
use Rattle.resolved_code.specs.Rules.{all_some, class_rule, classes_rule}
use Rattle.resolved_code.proofs.Resolution.Programs.{all_resolved, all_found}
use Rattle.resolved_code.proofs.resolved.resolve_classes.Goals as goal

pub returns : goal.returns
returns c =
    let t = c.args.names.now.classes.tree.now in
    let rule : ClassName × Declaration → _ = λ e. class_rule t e.1 in
    let exact : all_some (map (λ (x : ClassTable). class_rule t (declaration_in x.class)) c.all.result.now) ≡ classes_rule t =
    ap all_some (sym (map_of_map (λ (x : ClassTable). entry_of x.class) rule c.all.result.now) ∙ ap (map rule) c.all.ensures) in
    let given = subst (Gives c.resolve_all.result) exact c.resolve_all.ensures in
    record { resolved = all_resolved t c.resolve_all.result given; legal = all_found t c.resolve_all.result given }
