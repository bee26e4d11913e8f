use Rattle.std.proofs.Common.{rules}
use Rattle.flip_table.proofs.Plays.{stores_first}
use Rattle.flip_table.proofs.flip_table.FlipTable.store_first.Goals as goal

pub store-requires : goal.store-requires
store-requires c = (search rules, search rules, stores_first _ _ _ _ _ _ _ c.writer.invariant.0 (search rules) (search rules) (search rules) (search rules) (search rules))
