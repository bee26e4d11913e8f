use Rattle.std.proofs.Common.{◌∷◌, []}
use Rattle.std.proofs.lemmas.Result.{on_err_weaker, on_ok_weaker}
use Rattle.outputs.proofs.StreamLaws.{fails_first, fails_second, takes_both}
use Rattle.event_trace.proofs.Names.{on_err}
use Rattle.event_trace.proofs.pieces.write_end.Goals as goal

pub returns-in_err-write_whole-clause-cut : goal.returns-in_err-write_whole-clause-cut
returns-in_err-write_whole-clause-cut g c = on_err c.from_residual.result (fails_first _ _ c.args.pending.now (10 ∷ []) c.in_err-write_whole.ensures.cut)

pub returns-clause-whole : goal.returns-clause-whole
returns-clause-whole g c = on_ok_weaker c.write_whole-2.result (λ more. takes_both _ _ _ c.args.pending.now (10 ∷ []) c.in_ok-write_whole.ensures.whole more) c.write_whole-2.ensures.whole

pub returns-clause-cut : goal.returns-clause-cut
returns-clause-cut g c = on_err_weaker c.write_whole-2.result (λ cut. fails_second _ _ _ c.args.pending.now (10 ∷ []) c.in_ok-write_whole.ensures.whole cut) c.write_whole-2.ensures.cut
