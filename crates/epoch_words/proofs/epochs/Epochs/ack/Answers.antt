use Rattle.std.proofs.Common.{rules}
use Rattle.epoch_words.proofs.StepsKeep.{stores_seen}
use Rattle.epoch_words.proofs.epochs.Epochs.ack.Goals as goal

pub store-requires : goal.store-requires
store-requires c = (search rules, search rules, stores_seen _ _ _ _ _ _ _ (search rules) (search rules) c.seat.invariant.0)
