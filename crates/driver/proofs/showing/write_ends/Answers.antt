use Rattle.std.proofs.Common.{◌+◌, ◌++◌, ◌∙◌, None, add-one, ap, arith, drop, get_or, subst, suc, sym, take}
use Rattle.driver.proofs.Names.{on_err, Fails, Takes, fails_first, fails_second, takes_both, line_of, lines_from}
use Rattle.driver.proofs.ThreadLemmas.{lines_around, lines_more}
use Rattle.driver.proofs.showing.write_ends.Goals as goal

pub loop-thread-preserved : goal.loop-thread-preserved
loop-thread-preserved g c =
    let ends = c.args.ends.now in
    let thread = c.loop-thread.thread in
    let more = lines_more 0 thread thread ends None (omega arith) c.loop-thread-test.true in
    subst (Takes (g.E.Out.taken c.args.err.now) (g.E.Out.taken c.write_end.new.err))
    (sym (ap (λ n. lines_from 0 (take n ends)) (add-one thread) ∙ more))
    (takes_both _ _ _ _ _ c.loop-thread.invariant c.in_ok-write_end.ensures.whole)

pub returns-in_err-write_end-clause-cut : goal.returns-in_err-write_end-clause-cut
returns-in_err-write_end-clause-cut g c =
    let ends = c.args.ends.now in
    let thread = c.loop-thread.thread in
    let all = lines_around 0 thread thread ends None (omega arith) c.loop-thread-test.true in
    let after = lines_from (thread + 1) (drop (suc thread) ends) in
    on_err c.from_residual.result
    (subst (Fails (g.E.Out.taken c.args.err.now) (g.E.Out.taken c.write_end.new.err)) (sym all)
    (fails_second _ _ _ (lines_from 0 (take thread ends)) (line_of thread (get_or ends thread None) ++ after) c.loop-thread.invariant
    (fails_first _ _ (line_of thread (get_or ends thread None)) after c.in_err-write_end.ensures.cut)))
