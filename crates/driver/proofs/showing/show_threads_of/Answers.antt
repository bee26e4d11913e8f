use Rattle.std.proofs.Common.{[], ◌∙◌, ap, subst}
use Rattle.driver.proofs.Names.{on_err, Fails, Takes, fails_first, fails_second, takes_both, lines_from, status_of}
use Rattle.driver.proofs.OutcomeLemmas.{no_thread_text}
use Rattle.driver.proofs.showing.show_threads_of.Goals as goal

pub returns-in_err-write_ends-clause-cut : goal.returns-in_err-write_ends-clause-cut
returns-in_err-write_ends-clause-cut g c =
    let lines = ap (lines_from 0) (c.as_slice.ensures.value ∙ c.ends_of-ends.ensures) in
    let cut = subst (Fails (g.E.Out.taken c.args.err.now) (g.E.Out.taken c.write_ends.new.err)) lines c.in_err-write_ends.ensures.cut in
    on_err c.from_residual.result ([], no_thread_text c.args.explain c.args.machine.now, fails_first _ _ _ [] cut)

pub returns-in_err-write_explanation-clause-cut : goal.returns-in_err-write_explanation-clause-cut
returns-in_err-write_explanation-clause-cut g c =
    let lines = ap (lines_from 0) (c.as_slice.ensures.value ∙ c.ends_of-ends.ensures) in
    let taken = subst (Takes (g.E.Out.taken c.args.err.now) (g.E.Out.taken c.write_ends.new.err)) lines c.in_ok-write_ends.ensures.whole in
    let (text, explains, cut) = c.in_err-write_explanation.ensures.cut in
    on_err c.from_residual-in_err-write_explanation.result (text, explains, fails_second _ _ _ _ text taken cut)

pub returns-clause-whole : goal.returns-clause-whole
returns-clause-whole g c =
    let lines = ap (lines_from 0) (c.as_slice.ensures.value ∙ c.ends_of-ends.ensures) in
    let taken = subst (Takes (g.E.Out.taken c.args.err.now) (g.E.Out.taken c.write_ends.new.err)) lines c.in_ok-write_ends.ensures.whole in
    let (text, explains, more) = c.in_ok-write_explanation.ensures.whole in
    (text, explains, takes_both _ _ _ _ text taken more, c.status_of.ensures ∙ ap status_of (c.as_slice-2.ensures.value ∙ c.ends_of-ends.ensures))
