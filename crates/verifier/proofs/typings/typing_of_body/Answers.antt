use Rattle.std.proofs.Common.{◌≡◌, sym, subst}
use Rattle.std.specs.Option.{option_map}
use Rattle.cil_model.specs.declared.trees.Tree.{Tree}
use Rattle.flow_rules.specs.StackTypes.{type_named, types_named}
use Rattle.resolved_code.specs.ResolvedPrograms.{IsBody}
use Rattle.verifier.specs.Answers.{IsTypingAnswer}
use Rattle.verifier.proofs.MethodLaws.{code_verdict}
use Rattle.verifier.proofs.typings.typing_of_body.Goals as goal

pub returns : goal.returns
returns c owner m code named is coded body =
    let same : c.args.types.now ≡ c.args.program.now = c.requires in
    let reported = c.find_typing.ensures code (subst (λ (tree : Tree). IsBody tree code c.args.body.now) (sym same) body) in
    let answer : IsTypingAnswer c.args.program.now (types_named c.args.program.now c.in-Ok.arguments.items) (option_map (type_named c.args.program.now) c.args.method.now.return_type) code c.find_typing.result = rw (same, c.as_slice.ensures.value) at reported in
    code_verdict c.args.program.now owner m c.args.method.now code c.in-Ok.arguments.items c.find_typing.result is coded (c.in-Ok.ensures c.args.program.now owner m named is) answer
