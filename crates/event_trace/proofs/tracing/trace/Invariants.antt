use Rattle.std.proofs.Common.{◌≡◌, length, take}
use Rattle.event_trace.proofs.Names.{events_of, so_far, ArePositionsOf}
use Rattle.event_trace.proofs.TraceLaws.{TracedSoFar}
use Rattle.event_trace.proofs.tracing.trace.Given as goal

-- the events of the items so far are done, their lines are written but for what is pending, and the positions are those of the program
abbrev pub invariant-loop-item : goal.invariant-loop-item
invariant-loop-item g l = record {
  traced : TracedSoFar l.fn.machine (events_of (take l.item-index l.items)) l.machine l.pending.items (g.W.Out.taken l.fn.out).contents (g.W.Out.taken l.out).contents;
  number : l.number ≡ length (events_of (take l.item-index l.items));
  positions : ArePositionsOf l.machine.tree l.methods;
  kept : (g.W.Out.taken l.out).failures ≡ (g.W.Out.taken l.fn.out).failures;
}

-- so are the item's own events so far
abbrev pub invariant-loop-time : goal.invariant-loop-time
invariant-loop-time g l = record {
  traced : TracedSoFar l.fn.machine (so_far l.items l.item-index l.item.event l._time) l.machine l.pending.items (g.W.Out.taken l.fn.out).contents (g.W.Out.taken l.out).contents;
  number : l.number ≡ length (so_far l.items l.item-index l.item.event l._time);
  positions : ArePositionsOf l.machine.tree l.methods;
  kept : (g.W.Out.taken l.out).failures ≡ (g.W.Out.taken l.fn.out).failures;
}
