use Rattle.std.proofs.Common.{rules}
use Rattle.flip_table.proofs.Plays.{loads_to_check}
use Rattle.flip_table.proofs.flip_table.FlipTable.load_to_check.Goals as goal

pub load-value-requires : goal.load-value-requires
load-value-requires c = (search rules, search rules, loads_to_check _ _ _ _ _ _ c.copier.invariant.0 (search rules) (search rules) (search rules) (search rules))
