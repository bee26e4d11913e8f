use Rattle.std.proofs.Common.{subst}
use Rattle.event_trace.proofs.Names.{Appends}
use Rattle.event_trace.proofs.TraceLaws.{takes_all, takes_none}
use Rattle.event_trace.proofs.pieces.write_piece.Goals as goal

pub returns-then-len-lt-PIECE-clause-written : goal.returns-then-len-lt-PIECE-clause-written
returns-then-len-lt-PIECE-clause-written g c = takes_none (g.W.Out.taken c.args.out.now).contents c.args.pending.now.items

pub returns-clause-written : goal.returns-clause-written
returns-clause-written g c =
    let begun = (g.W.Out.taken c.args.out.now).contents in
    let new = (g.W.Out.taken c.write_whole.new.self).contents in
    takes_all begun new c.args.pending.now.items c.clear.new.self.items c.clear.ensures.items (subst (Appends begun new) c.as_slice.ensures.value c.in_ok-write_whole.ensures.whole.0)
