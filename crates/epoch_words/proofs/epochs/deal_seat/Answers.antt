use Rattle.std.proofs.Common.{rules, arith, ℕ}
use Rattle.std.proofs.lemmas.List.{length-replicate}
use Rattle.epoch_words.proofs.StepsKeep.{deals}
use Rattle.epoch_words.proofs.epochs.deal_seat.Goals as goal

pub split_seat-requires : goal.split_seat-requires
split_seat-requires c = (search rules, search rules, deals _ _ _ _ c.requires.next.0 (omega (arith, length-replicate {A = ℕ} c.args.workers 0)))
