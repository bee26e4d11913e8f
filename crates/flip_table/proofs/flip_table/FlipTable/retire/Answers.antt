use Rattle.std.proofs.Common.{rules}
use Rattle.flip_table.proofs.Plays.{retires}
use Rattle.flip_table.proofs.flip_table.FlipTable.retire.Goals as goal

pub store-requires : goal.store-requires
store-requires c = (search rules, search rules, retires _ _ _ _ _ _ c.copier.invariant.0 (search rules) (search rules))
