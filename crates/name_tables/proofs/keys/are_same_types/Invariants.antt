use Rattle.std.proofs.Common.{◌≡◌, length}
use Rattle.cil_model.specs.Same.{same_lists, same_type}
use Rattle.name_tables.proofs.keys.are_same_types.Given as goal

abbrev pub invariant-loop-rest : goal.invariant-loop-rest
invariant-loop-rest l = same_lists same_type l.rest l.others ≡ same_lists same_type l.fn.own l.fn.other

abbrev pub decreases-loop-rest : goal.decreases-loop-rest
decreases-loop-rest l = length l.rest
