use Rattle.std.proofs.Common.{◌≡◌, map, take}
use Rattle.event_trace.proofs.Names.{method_indices}
use Rattle.event_trace.proofs.method_positions.source_indices.Given as goal

-- the rows of the classes so far
abbrev pub invariant-loop-class : goal.invariant-loop-class
invariant-loop-class l = map (λ row. row.items) l.rows.items ≡ map (λ c. method_indices 0 c.members) (take l.class-index l.classes)
