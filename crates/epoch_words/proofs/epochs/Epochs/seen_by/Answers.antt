use Rattle.std.proofs.Common.{rules}
use Rattle.epoch_words.proofs.StepsKeep.{loads_seen}
use Rattle.epoch_words.proofs.epochs.Epochs.seen_by.Goals as goal

pub load-seen-requires : goal.load-seen-requires
load-seen-requires c = (search rules, search rules, loads_seen _ _ _ _ _ _ c.herald.invariant.0 (search rules))
