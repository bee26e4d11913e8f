use Rattle.std.proofs.Common.{◌≡◌, ◌+◌, ◌<◌, ◌∙◌, ap, arith}
use Rattle.event_trace.proofs.Names.{FIRST_OF_SOURCE, method_at}
use Rattle.event_trace.proofs.PositionLaws.{built_in_at, source_at}
use Rattle.event_trace.proofs.method_positions.MethodPositions.method.Goals as goal

pub returns-in-None : goal.returns-in-None
returns-in-None c =
    let low : c.number-number.result < FIRST_OF_SOURCE = omega (arith, c.in-None.ensures) in
    c.built_in.ensures ∙ built_in_at c.args.tree.now c.args.self.now c.requires c.number-number.result c.args.id.index low ∙ ap (λ n. method_at c.args.tree.now (n, c.args.id.index)) c.number-number.ensures

pub returns-in-Some : goal.returns-in-Some
returns-in-Some c =
    let is : c.number-number.result ≡ FIRST_OF_SOURCE + c.in-Some.number = omega (arith, c.in-Some.ensures) in
    c.of_source.ensures ∙ source_at c.args.tree.now c.args.self.now c.requires c.number-number.result c.in-Some.number c.args.id.index is ∙ ap (λ n. method_at c.args.tree.now (n, c.args.id.index)) c.number-number.ensures
