use Rattle.std.proofs.Common.{rules}
use Rattle.epoch_words.proofs.StepsKeep.{stores_posted}
use Rattle.epoch_words.proofs.epochs.Epochs.post_next.Goals as goal

pub store-requires : goal.store-requires
store-requires c = (search rules, search rules, stores_posted _ _ _ _ _ _ _ c.self.invariant.1 (search rules) c.herald.invariant.0 (search rules))
