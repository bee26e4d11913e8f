use Rattle.std.proofs.Common.{rules, arith, ap, sym, ◌∙◌}
use Rattle.flip_table.proofs.Plays.{finds_stage}
use Rattle.flip_table.proofs.Tokens.{is_copier, knows_copier}
use Rattle.flip_table.proofs.flip_table.FlipTable.find.Goals as goal

pub load-stage-requires : goal.load-stage-requires
load-stage-requires c = (search rules, search rules, finds_stage _ _ _ c.args.seat _ _ _ c.copier.invariant.0 (search rules) (search rules) (search rules))

pub invariant_of-copier : goal.invariant_of-copier
invariant_of-copier c = let reported = c.load-stage.ensures.2 c.args.seat (search rules) in (is_copier _ _ reported.0, c.copier.invariant.1 ∙ sym (ap (λ p. p.stage) (knows_copier _ _ reported.0)))

pub returns-clause-within_one_stage : goal.returns-clause-within_one_stage
returns-clause-within_one_stage c = let reported = c.load-stage.ensures.2 c.args.seat (search rules) in let is = ap (λ v. v.knows.stage) c.copier.view_is in (omega (arith, reported.1.0, is), omega (arith, reported.1.1, is))
