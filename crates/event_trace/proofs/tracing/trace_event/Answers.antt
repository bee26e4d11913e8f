use Rattle.std.proofs.Common.{◌∙◌, inr, subst}
use Rattle.event_trace.proofs.Names.{on_err, AppendsBeginning}
use Rattle.event_trace.proofs.TraceLaws.{event_cut}
use Rattle.event_trace.proofs.tracing.trace_event.Goals as goal

pub returns-in_err-write_piece-in-Ok-clause-stopped : goal.returns-in_err-write_piece-in-Ok-clause-stopped
returns-in_err-write_piece-in-Ok-clause-stopped g c =
    let (report, transition, line) = c.in-Ok.ensures.traced in
    on_err c.from_residual.result
    (inr (report, transition, subst (AppendsBeginning (g.W.Out.taken c.args.out.now).contents (g.W.Out.taken c.write_piece.new.out).contents) line c.in_err-write_piece-in-Ok.ensures.cut.0))

pub returns-in_err-write_whole-in-Err-clause-stopped : goal.returns-in_err-write_whole-in-Err-clause-stopped
returns-in_err-write_whole-in-Err-clause-stopped g c =
    let begun = (g.W.Out.taken c.args.out.now).contents in
    let new = (g.W.Out.taken c.write_whole.new.self).contents in
    on_err c.from_residual-in_err-write_whole-in-Err.result
    (event_cut c.args.number c.args.event c.args.machine.now c.add_event.new.machine c.args.pending.now.items begun new c.in-Err.ensures.stopped
    (subst (AppendsBeginning begun new) (c.as_slice.ensures.value ∙ c.in-Err.ensures.kept) c.in_err-write_whole-in-Err.ensures.cut.0))
