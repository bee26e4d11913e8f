use Rattle.std.proofs.Common.{◌∙◌}
use Rattle.outputs.proofs.BeginningLaws.{taken_more}
use Rattle.outputs.proofs.StreamLaws.{took_some}
use Rattle.outputs.proofs.Out.write_whole.Goals as goal

pub loop-rest-preserved : goal.loop-rest-preserved
loop-rest-preserved g c =
    let kept = c.in-Some.ensures.kept (took_some c.in-Some.count c.loop-rest.rest.now c.if-count-gt0.true) in
    (taken_more _ _ _ _ _ c.in-Some.count c.loop-rest.invariant.0 c.in-Some.ensures.prefix, kept ∙ c.loop-rest.invariant.1)
