use Rattle.std.proofs.Common.{ap, ◌∙◌, length, option_map}
use Rattle.cil_model.specs.Bodies.{argument_types}
use Rattle.cil_model.specs.declared.types.ClassName.{ClassName}
use Rattle.cil_model.specs.declared.trees.Method.{Method}
use Rattle.name_tables.specs.Numbers.{method_at}
use Rattle.loaded_program.specs.AllMethods.{flat_number}
use Rattle.loaded_program.specs.declared.instructions.LinkedInstruction.TheVariants.{CallVirtual}
use Rattle.loaded_program.proofs.OperandLaws.{map_some}
use Rattle.loaded_program.proofs.linker.Linker.virtual_call.Goals as goal

pub returns : goal.returns
returns c required e =
    let tree = c.args.self.now.program.now in
    let member = c.args.member.now in
    let known = map_some (λ (found : ClassName × Method). CallVirtual (flat_number tree member.class member.index) (length (argument_types found.1 found.0))) (method_at tree (member.class, member.index)) required e in
    let number = c.number.ensures (flat_number tree member.class member.index) (ap (option_map (λ (found : ClassName × Method). flat_number tree member.class member.index)) known.1) in
    ap (λ n. CallVirtual n c.operands.result) number ∙ ap (λ k. CallVirtual (flat_number tree member.class member.index) k) (c.operands.ensures known.0 known.1) ∙ known.2
