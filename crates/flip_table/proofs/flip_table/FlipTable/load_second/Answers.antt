use Rattle.std.proofs.Common.{rules}
use Rattle.flip_table.proofs.Plays.{loads_second}
use Rattle.flip_table.proofs.flip_table.FlipTable.load_second.Goals as goal

pub load-word-requires : goal.load-word-requires
load-word-requires c = (search rules, search rules, loads_second _ _ _ c.args.slot _ _ _ c.writer.invariant.0 (search rules) (search rules) (search rules) (search rules) (search rules))
