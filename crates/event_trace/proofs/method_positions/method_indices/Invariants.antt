use Rattle.std.proofs.Common.{◌≡◌, ◌++◌, drop}
use Rattle.event_trace.proofs.Names.{method_indices}
use Rattle.event_trace.proofs.method_positions.method_indices.Given as goal

-- the indices so far, and those among the members left
abbrev pub invariant-loop-index : goal.invariant-loop-index
invariant-loop-index l = l.indices.items ++ method_indices l.index (drop l.index l.members) ≡ method_indices 0 l.members
