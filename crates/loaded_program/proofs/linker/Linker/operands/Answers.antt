use Rattle.std.proofs.Common.{ap, ◌∙◌, option_map}
use Rattle.cil_model.specs.declared.types.ClassName.{ClassName}
use Rattle.cil_model.specs.declared.trees.Method.{Method}
use Rattle.name_tables.specs.Numbers.{method_at}
use Rattle.resolved_code.specs.ResolvedPrograms.{IsResolvedMethod}
use Rattle.loaded_program.proofs.OperandLaws.{alike_both, alike_none}
use Rattle.loaded_program.proofs.ResolvedLaws.{arguments_alike}
use Rattle.loaded_program.proofs.linker.Linker.operands.Goals as goal

pub returns-in-Some : goal.returns-in-Some
returns-in-Some c found at =
    let tree = c.args.self.now.program.now in
    let resolved : IsResolvedMethod tree found.1 c.in-Some.method.now =
    alike_both (λ (named : ClassName × Method) method. IsResolvedMethod tree named.1 method) (method_at tree (c.args.member.class, c.args.member.index)) _ found c.in-Some.method.now c.method.ensures at (ap (option_map _) c.in-Some.is) in
    c.argument_count.ensures ∙ arguments_alike tree found.1 c.in-Some.method.now resolved found.0

pub returns-in-None : goal.returns-in-None
returns-in-None c found at =
    let tree = c.args.self.now.program.now in
    absurd (alike_none (λ (named : ClassName × Method) method. IsResolvedMethod tree named.1 method) (method_at tree (c.args.member.class, c.args.member.index)) _ found c.method.ensures at (ap (option_map _) c.in-None.is))
