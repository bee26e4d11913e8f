use Rattle.std.proofs.Common.{◌∙◌, ap, inl, inr, refl, subst}
use Rattle.driver.proofs.Names.{on_err_weaker, on_ok_weaker, on_err, Fails, Takes, lines_from}
use Rattle.driver.proofs.showing.emit.Goals as goal

pub returns-in_err-write_whole-clause-cut : goal.returns-in_err-write_whole-clause-cut
returns-in_err-write_whole-clause-cut g c =
    let cut = subst (Fails (g.W.Out.taken c.args.out.now) (g.W.Out.taken c.write_whole.new.self)) c.console.ensures c.in_err-write_whole.ensures.cut in
    on_err c.from_residual.result (inl (cut, refl))

pub returns-clause-whole : goal.returns-clause-whole
returns-clause-whole g c =
    let taken = subst (Takes (g.W.Out.taken c.args.out.now) (g.W.Out.taken c.write_whole.new.self)) c.console.ensures c.in_ok-write_whole.ensures.whole in
    let lines = ap (lines_from 0) (c.as_slice.ensures.value ∙ c.ends_of.ensures) in
    on_ok_weaker c.write_ends.result (λ shown. (taken, subst (Takes (g.E.Out.taken c.args.err.now) (g.E.Out.taken c.write_ends.new.err)) lines shown)) c.write_ends.ensures.whole

pub returns-clause-cut : goal.returns-clause-cut
returns-clause-cut g c =
    let taken = subst (Takes (g.W.Out.taken c.args.out.now) (g.W.Out.taken c.write_whole.new.self)) c.console.ensures c.in_ok-write_whole.ensures.whole in
    let lines = ap (lines_from 0) (c.as_slice.ensures.value ∙ c.ends_of.ensures) in
    on_err_weaker c.write_ends.result (λ cut. inr (taken, subst (Fails (g.E.Out.taken c.args.err.now) (g.E.Out.taken c.write_ends.new.err)) lines cut)) c.write_ends.ensures.cut
