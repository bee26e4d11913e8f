use Rattle.std.proofs.Common.{map}
use Rattle.exploration.proofs.Names.{AreFirstChecked, events_of, outcome_found}
use Rattle.exploration.proofs.checking.check_each.Given as goal

-- the lists so far
abbrev pub invariant-loop-path_index : goal.invariant-loop-path_index
invariant-loop-path_index g l = AreFirstChecked g.M.First.first (map events_of l.fn.paths) (map outcome_found l.fn.found) l.path_index
