use Rattle.std.proofs.Common.{[], inl, inr, refl, subst}
use Rattle.driver.proofs.Names.{if_ok, on_err, on_err_of, Fails, Takes}
use Rattle.driver.proofs.OutcomeLemmas.{no_thread_text}
use Rattle.driver.proofs.showing.show.Goals as goal

pub returns-in_err-write_whole-clause-cut : goal.returns-in_err-write_whole-clause-cut
returns-in_err-write_whole-clause-cut g c =
    let cut = subst (Fails (g.W.Out.taken c.args.outputs.now.out) (g.W.Out.taken c.write_whole.new.self)) c.console.ensures c.in_err-write_whole.ensures.cut in
    on_err c.from_residual.result ([], no_thread_text c.args.explain c.args.machine.now, inl (cut, refl))

pub returns-clause-whole : goal.returns-clause-whole
returns-clause-whole g c =
    let taken = subst (Takes (g.W.Out.taken c.args.outputs.now.out) (g.W.Out.taken c.write_whole.new.self)) c.console.ensures c.in_ok-write_whole.ensures.whole in
    if_ok c.show_threads_of.result c.show_threads_of.ensures.whole (λ status shown. (shown.0, shown.1, record { output = taken; errors = shown.2; status_is = shown.3 }))

pub returns-clause-cut : goal.returns-clause-cut
returns-clause-cut g c =
    let taken = subst (Takes (g.W.Out.taken c.args.outputs.now.out) (g.W.Out.taken c.write_whole.new.self)) c.console.ensures c.in_ok-write_whole.ensures.whole in
    on_err_of c.show_threads_of.result c.show_threads_of.ensures.cut (λ shown. (shown.0, shown.1, inr (taken, shown.2)))
