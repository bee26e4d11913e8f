use Rattle.std.proofs.Common.{map}
use Rattle.exploration.proofs.Names.{AreEntries, events_of}
use Rattle.exploration.proofs.checking.check_steps.Given as goal

-- the entries so far
abbrev pub invariant-loop-path_index : goal.invariant-loop-path_index
invariant-loop-path_index g l = AreEntries g.M.First.first (map events_of l.fn.paths) l.entries.items
