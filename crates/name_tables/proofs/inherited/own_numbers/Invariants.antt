use Rattle.std.proofs.Common.{◌≡◌, map, flat_map, take, drop}
use Rattle.name_tables.specs.KeyIds.{number_in}
use Rattle.name_tables.proofs.inherited.own_numbers.Given as goal

abbrev pub invariant-loop-row : goal.invariant-loop-row
invariant-loop-row g l =
    (map (λ r. r.items) l.numbers.items ≡ map (λ row. map (number_in g.K.PartialEq.eq l.keys) row.items) (take l.row-index l.rows)) ×
    (l.rest ≡ map (number_in g.K.PartialEq.eq l.keys) (flat_map (λ row. row.items) (drop l.row-index l.rows)))
