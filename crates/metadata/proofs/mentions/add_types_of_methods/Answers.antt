use Rattle.std.proofs.Common.{Bor, arith}
use Rattle.cil_model.specs.declared.trees.Method.{Method}
use Rattle.cil_model.specs.Mentions.{types_of_method}
use Rattle.metadata.proofs.MentionLaws.{more_named_in}
use Rattle.metadata.proofs.mentions.add_types_of_methods.Goals as goal

pub loop-index-preserved : goal.loop-index-preserved
loop-index-preserved c =
    more_named_in (λ (m : Bor Method). m.now) types_of_method c.as_slice-method-items.result.now c.loop-index.index c.method-item.result _ _ _ (omega arith) c.method-item.is
    c.loop-index.invariant c.in_ok-add_types_of_method.ensures
