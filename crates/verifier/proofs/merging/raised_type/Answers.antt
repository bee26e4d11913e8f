use Rattle.std.proofs.Common.{◌<◌, ◌^◌, arith}
use Rattle.cil_model.specs.declared.trees.Tree.{Tree}
use Rattle.flow_rules.specs.StackTypes.{type_named}
use Rattle.verifier.proofs.RiseLaws.{type_falls}
use Rattle.verifier.proofs.merging.raised_type.Goals as goal

pub returns-clause-higher : goal.returns-clause-higher
returns-clause-higher c =
    let tree : Tree = c.args.types.now in
    let first : c.args.known.brackets < 2 ^ 32 = omega (arith, c.brackets_of-known_brackets.ensures.same, c.brackets_of-known_brackets.ensures.few) in
    let second : c.args.above.brackets < 2 ^ 32 = omega (arith, c.brackets_of-above_brackets.ensures.same, c.brackets_of-above_brackets.ensures.few) in
    λ _. type_falls tree c.is_same_type.ensures.legal (type_named tree c.args.known) (type_named tree c.args.above) first second c.requires (c.is_same_type.ensures.apart c.if-is_same_type.false)
