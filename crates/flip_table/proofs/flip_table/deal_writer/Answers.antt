use Rattle.std.proofs.Common.{rules}
use Rattle.flip_table.proofs.InitialTables.{deals}
use Rattle.flip_table.proofs.flip_table.deal_writer.Goals as goal

pub split_seat-requires : goal.split_seat-requires
split_seat-requires c = (search rules, search rules, deals _ _ _ _ c.requires.next.0 (search rules) (search rules))
