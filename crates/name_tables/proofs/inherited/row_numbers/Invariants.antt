use Rattle.std.proofs.Common.{◌≡◌, map, take}
use Rattle.name_tables.specs.KeyIds.{number_in}
use Rattle.name_tables.proofs.inherited.row_numbers.Given as goal

abbrev pub invariant-loop-index : goal.invariant-loop-index
invariant-loop-index g l = l.numbers.items ≡ map (number_in g.K.PartialEq.eq l.keys) (take l.index l.row)
