use Rattle.std.proofs.Common.{sym, subst}
use Rattle.cil_model.specs.Declarations.{Declaration}
use Rattle.resolved_code.specs.declared.classes.ResolvedClass.{ResolvedClass}
use Rattle.resolved_code.specs.ResolvedPrograms.{IsResolvedClass, IsResolvedMethod}
use Rattle.resolved_code.specs.Contents.{IsMethodOf}
use Rattle.resolved_code.proofs.ListLaws.RelatedItems.{members_alike}
use Rattle.resolved_code.proofs.program.Program.method.Goals as goal

pub returns : goal.returns
returns c =
    let t = c.args.self.now in
    subst (IsMethodOf t c.args.method) (sym c.method_at.ensures)
    (members_alike t (λ (d : Declaration). d.methods) (λ (r : ResolvedClass). r.methods) (IsResolvedMethod t) (λ (d : Declaration) (r : ResolvedClass) (h : IsResolvedClass t d r). h.methods) c.classes.result.now c.classes.ensures c.args.method.class c.args.method.index)
