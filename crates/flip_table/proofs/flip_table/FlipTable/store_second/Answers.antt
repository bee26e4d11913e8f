use Rattle.std.proofs.Common.{rules}
use Rattle.flip_table.proofs.Plays.{stores_second}
use Rattle.flip_table.proofs.flip_table.FlipTable.store_second.Goals as goal

pub store-requires : goal.store-requires
store-requires c = (search rules, search rules, stores_second _ _ _ c.args.slot c.args.value _ _ _ _ c.writer.invariant.0 (search rules) c.forward.ensures (search rules) (search rules) (search rules) (search rules) (search rules))
