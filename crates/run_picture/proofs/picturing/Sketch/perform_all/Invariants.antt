use Rattle.std.proofs.Common.{◌≡◌, length, take}
use Rattle.schedule_text.specs.Items.{events_of}
use Rattle.schedule_text.proofs.SoFar.{so_far}
use Rattle.event_trace.specs.MethodPositions.{ArePositionsOf}
use Rattle.run_picture.specs.Pictures.{AreSketched}
use Rattle.run_picture.proofs.picturing.Sketch.perform_all.Given as goal

-- the events of the items so far are done and drawn, and the positions are those of the program
abbrev pub invariant-loop-item : goal.invariant-loop-item
invariant-loop-item l = record {
  sketched : AreSketched l.fn.machine (events_of (take l.item-index l.items)) l.machine l.fn.self.window l.self.rows.rows.items;
  number : l.number ≡ length (events_of (take l.item-index l.items));
  positions : ArePositionsOf l.machine.tree l.methods;
  window : l.self.window ≡ l.fn.self.window;
}

-- so are the item's own events so far
abbrev pub invariant-loop-time : goal.invariant-loop-time
invariant-loop-time l = record {
  sketched : AreSketched l.fn.machine (so_far l.items l.item-index l.item.event l._time) l.machine l.fn.self.window l.self.rows.rows.items;
  number : l.number ≡ length (so_far l.items l.item-index l.item.event l._time);
  positions : ArePositionsOf l.machine.tree l.methods;
  window : l.self.window ≡ l.fn.self.window;
}
