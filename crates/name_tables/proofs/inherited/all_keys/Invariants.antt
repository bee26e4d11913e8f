use Rattle.std.proofs.Common.{◌≡◌, flat_map, take}
use Rattle.name_tables.proofs.inherited.all_keys.Given as goal

abbrev pub invariant-loop-row : goal.invariant-loop-row
invariant-loop-row g l = l.keys.items ≡ flat_map (λ row. row.items) (take l.row-index l.rows)
