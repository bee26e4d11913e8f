use Rattle.std.proofs.Common.{sym, subst}
use Rattle.cil_model.specs.Declarations.{Declaration}
use Rattle.resolved_code.specs.declared.classes.ResolvedClass.{ResolvedClass}
use Rattle.resolved_code.specs.ResolvedPrograms.{IsResolvedClass, IsResolvedField}
use Rattle.resolved_code.specs.Contents.{IsFieldOf}
use Rattle.resolved_code.proofs.ListLaws.RelatedItems.{members_alike}
use Rattle.resolved_code.proofs.program.Program.field.Goals as goal

pub returns : goal.returns
returns c =
    let t = c.args.self.now in
    subst (IsFieldOf t c.args.field) (sym c.field_at.ensures)
    (members_alike t (λ (d : Declaration). d.fields) (λ (r : ResolvedClass). r.fields) (IsResolvedField t) (λ (d : Declaration) (r : ResolvedClass) (h : IsResolvedClass t d r). h.fields) c.classes.result.now c.classes.ensures c.args.field.class c.args.field.index)
