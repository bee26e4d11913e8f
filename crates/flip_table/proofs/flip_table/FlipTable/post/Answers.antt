use Rattle.std.proofs.Common.{rules}
use Rattle.flip_table.proofs.Plays.{posts_stage}
use Rattle.flip_table.proofs.flip_table.FlipTable.post.Goals as goal

pub store-requires : goal.store-requires
store-requires c = (search rules, search rules, posts_stage _ _ _ _ _ _ _ c.copier.invariant.0 (search rules) (search rules) (search rules) (search rules) (search rules))
