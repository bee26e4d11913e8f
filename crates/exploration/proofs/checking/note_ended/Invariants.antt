use Rattle.std.proofs.Common.{map}
use Rattle.exploration.proofs.Names.{AreEntries, events_of}
use Rattle.exploration.proofs.checking.note_ended.Given as goal

-- the entries so far
abbrev pub invariant-loop-thread : goal.invariant-loop-thread
invariant-loop-thread g l = AreEntries g.M.First.first (map events_of l.fn.paths) l.entries.items
