use Rattle.std.proofs.Common.{rules}
use Rattle.flip_table.proofs.Plays.{polls_stage}
use Rattle.flip_table.proofs.flip_table.FlipTable.poll.Goals as goal

pub load-requires : goal.load-requires
load-requires c = (search rules, search rules, polls_stage _ _ _ _ _ _ c.writer.invariant.0 (search rules))
