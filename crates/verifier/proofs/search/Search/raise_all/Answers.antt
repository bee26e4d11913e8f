use Rattle.std.proofs.Common.{◌<◌, length, arith, pos}
use Rattle.std.proofs.lemmas.Result.{err_from_is_err_and}
use Rattle.verifier.proofs.SearchLaws.{all_more, all_fails}
use Rattle.verifier.proofs.search.Search.raise_all.Goals as goal

pub returns-in_err-raise : goal.returns-in_err-raise
returns-in_err-raise c =
    let p = err_from_is_err_and c.from_residual.result c.from_residual.ensures.1 in
    let inside : c.loop-index.index < length c.args.ways.now = omega (arith, c.loop-index-test.true) in
    rw (p.1, p.2) (all_fails c.args.types.now (pos c.args.most) c.args.after.now Unit Unit c.in_err-raise.field-0.0 c.args.ways.now c.loop-index.index _ c.args.self.now c.loop-index.self c.raise.new.self c.raise.new.self inside c.loop-index.invariant c.in_err-raise.ensures)

pub loop-index-preserved : goal.loop-index-preserved
loop-index-preserved c =
    let inside : c.loop-index.index < length c.args.ways.now = omega (arith, c.loop-index-test.true) in
    all_more c.args.types.now (pos c.args.most) c.args.after.now c.args.ways.now c.loop-index.index _ c.args.self.now c.loop-index.self c.raise.new.self inside c.loop-index.invariant c.in_ok-raise.ensures
