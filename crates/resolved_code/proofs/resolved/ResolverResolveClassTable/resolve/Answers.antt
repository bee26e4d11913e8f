use Rattle.std.proofs.Common.{sym, subst, ◌∙◌}
use Rattle.name_tables.specs.Entries.{declaration_in}
use Rattle.resolved_code.specs.Outcomes.{Fails}
use Rattle.resolved_code.specs.Rules.{resolved_field_rule, resolved_method_rule}
use Rattle.resolved_code.proofs.ListLaws.FoundItems.{all_some_seen}
use Rattle.resolved_code.proofs.Resolution.ClassesAndMethods.{class_made, fields_fail, methods_fail}
use Rattle.resolved_code.proofs.Resolution.Outcomes.{passed_on}
use Rattle.resolved_code.proofs.resolved.ResolverResolveClassTable.resolve.Goals as goal

pub returns-in_err-resolve_all-2 : goal.returns-in_err-resolve_all-2
returns-in_err-resolve_all-2 c =
    let t = c.args.self.now.names.now.classes.tree.now in
    let d = declaration_in c.args.table.now.class in
    let e = c.in_err-resolve_all-2.field-0.0 in
    let fields = all_some_seen (λ f. f.now) (resolved_field_rule t) _ _ c.as_slice.ensures.value in
    passed_on c.from_residual-in_err-resolve_all-2.result e _ c.from_residual-in_err-resolve_all-2.ensures.1
    (fields_fail t d c.in_ok-base_id.field-0 c.in_ok-resolve_all.field-0 e c.in_ok-base_id.ensures c.in_ok-resolve_all.ensures (subst (Fails e) fields c.in_err-resolve_all-2.ensures))

pub returns-in_err-resolve_all-3 : goal.returns-in_err-resolve_all-3
returns-in_err-resolve_all-3 c =
    let t = c.args.self.now.names.now.classes.tree.now in
    let d = declaration_in c.args.table.now.class in
    let e = c.in_err-resolve_all-3.field-0.0 in
    let fields = all_some_seen (λ f. f.now) (resolved_field_rule t) _ _ c.as_slice.ensures.value in
    let methods = all_some_seen (λ m. m.now) (resolved_method_rule t) _ _ c.as_slice-2.ensures.value in
    passed_on c.from_residual-in_err-resolve_all-3.result e _ c.from_residual-in_err-resolve_all-3.ensures.1
    (methods_fail t d c.in_ok-base_id.field-0 c.in_ok-resolve_all.field-0 c.in_ok-resolve_all-2.field-0 e c.in_ok-base_id.ensures c.in_ok-resolve_all.ensures (sym fields ∙ c.in_ok-resolve_all-2.ensures) (subst (Fails e) methods c.in_err-resolve_all-3.ensures))

pub returns : goal.returns
returns c =
    let t = c.args.self.now.names.now.classes.tree.now in
    let d = declaration_in c.args.table.now.class in
    let fields = all_some_seen (λ f. f.now) (resolved_field_rule t) _ _ c.as_slice.ensures.value in
    let methods = all_some_seen (λ m. m.now) (resolved_method_rule t) _ _ c.as_slice-2.ensures.value in
    class_made t d c.in_ok-base_id.field-0 c.in_ok-resolve_all.field-0 c.in_ok-resolve_all-2.field-0 c.in_ok-resolve_all-3.field-0 c.in_ok-base_id.ensures c.in_ok-resolve_all.ensures (sym fields ∙ c.in_ok-resolve_all-2.ensures) (sym methods ∙ c.in_ok-resolve_all-3.ensures)
