use Rattle.std.proofs.Common.{rules}
use Rattle.flip_table.proofs.Plays.{takes_up}
use Rattle.flip_table.proofs.flip_table.FlipTable.take_up.Goals as goal

pub store-requires : goal.store-requires
store-requires c = (search rules, search rules, takes_up _ _ _ _ _ _ _ c.writer.invariant.0 (search rules) (search rules) (search rules))
