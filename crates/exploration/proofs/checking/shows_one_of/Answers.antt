use Rattle.std.proofs.Common.{length, refl, arith}
use Rattle.exploration.proofs.Names.{slice_get_read}
use Rattle.exploration.proofs.Paths.{contains_at}
use Rattle.exploration.proofs.checking.shows_one_of.Goals as goal

pub returns-then-is_shown : goal.returns-then-is_shown
returns-then-is_shown g c = λ _. contains_at c.args.found.now c.loop-index.index c.index-found-index.result _ (slice_get_read c.args.found.now (length c.args.found.now) c.loop-index.index c.index-found-index.result refl (omega arith) c.index-found-index.is)
    (c.in_ok-is_shown.ensures c.if-is_shown.true)
