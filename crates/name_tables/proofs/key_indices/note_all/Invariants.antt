use Rattle.std.proofs.Common.{◌≡◌, is_some, map, take}
use Rattle.std.specs.HashMap.{get}
use Rattle.cil_model.specs.Legality.{has_repeat}
use Rattle.name_tables.specs.FirstIndices.{AreFirst}
use Rattle.name_tables.specs.KeyIds.{number_in}
use Rattle.name_tables.proofs.key_indices.note_all.Given as goal

abbrev pub invariant-loop-index : goal.invariant-loop-index
invariant-loop-index g l =
    AreFirst g.K.PartialEq.eq (get g.K.PartialEq.eq l.firsts) (take l.index l.keys) ×
    (is_some l.repeated ≡ has_repeat g.K.PartialEq.eq (take l.index l.keys)) ×
    (l.numbers.items ≡ map (number_in g.K.PartialEq.eq l.keys) (take l.index l.keys))
