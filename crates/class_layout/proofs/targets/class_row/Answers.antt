use Rattle.std.proofs.Common.{◌≡◌, Some, slice_get, sym, ap, subst, ◌∙◌}
use Rattle.cil_model.specs.declared.types.ClassName.{ClassName}
use Rattle.cil_model.specs.declared.trees.Method.{Method}
use Rattle.cil_model.specs.declared.trees.Tree.{Tree}
use Rattle.cil_model.specs.Declarations.{Declaration}
use Rattle.resolved_code.proofs.ListLaws.Repeats.{if_ok_then}
use Rattle.name_tables.specs.Numbers.{declarations}
use Rattle.name_tables.specs.Sameness.{identity_of}
use Rattle.resolved_code.specs.Identities.{identity_number}
use Rattle.resolved_code.specs.ResolvedPrograms.{AreResolved, IsResolvedMethod}
use Rattle.class_layout.specs.ByClass.{by_class}
use Rattle.class_layout.specs.Targets.{target_number}
use Rattle.class_layout.proofs.targets.class_row.Goals as goal

pub named_row-requires : goal.named_row-requires
named_row-requires c = subst (λ s. AreResolved s.program.now s.all.now) (sym c.in_ok-methods.ensures.classes) c.requires

pub returns : goal.returns
returns c =
    let t = c.args.classes.now.program.now in
    let methods = c.in_ok-methods.methods in
    let made = methods.classes.now.program.now in
    let same : made ≡ t = ap (λ s. s.program.now) c.in_ok-methods.ensures.classes in
    if_ok_then c.named_row.result _ (λ v. (e : ClassName × Declaration) (m : Method) → slice_get (declarations t) c.args.class ≡ Some e → IsResolvedMethod t m c.args.method.now → v.items ≡ by_class t (target_number t e.0 (identity_of m)))
    (λ v h. λ e m there is.
    let P : Tree → Type 0 = λ z. identity_number z (identity_of m) ≡ methods.identity → slice_get (declarations z) c.args.class ≡ Some e → v.items ≡ by_class z (target_number z e.0 (identity_of m)) in
    subst P same (h (identity_of m) e) (sym is.identity ∙ sym c.in_ok-methods.ensures.identity) there)
    c.named_row.ensures
