use Rattle.std.proofs.Common.{rules}
use Rattle.epoch_words.proofs.StepsKeep.{loads_posted}
use Rattle.epoch_words.proofs.epochs.Epochs.poll.Goals as goal

pub load-requires : goal.load-requires
load-requires c = (search rules, search rules, loads_posted _ _ _ _ _ _ c.self.invariant.1 c.seat.invariant.0)
