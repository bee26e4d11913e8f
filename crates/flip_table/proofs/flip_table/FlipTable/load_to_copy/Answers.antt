use Rattle.std.proofs.Common.{rules}
use Rattle.flip_table.proofs.Plays.{loads_to_copy}
use Rattle.flip_table.proofs.flip_table.FlipTable.load_to_copy.Goals as goal

pub load-value-requires : goal.load-value-requires
load-value-requires c = (search rules, search rules, loads_to_copy _ _ _ _ _ _ c.copier.invariant.0 (search rules) (search rules) (search rules))
