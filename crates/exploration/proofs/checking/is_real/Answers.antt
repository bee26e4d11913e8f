use Rattle.std.proofs.Common.{List, subst}
use Rattle.exploration.proofs.Names.{Event, one_operation, IsTerminalAt, LeadsTo}
use Rattle.exploration.proofs.Paths.{if_ok, is_real}
use Rattle.exploration.proofs.checking.is_real.Goals as goal

pub returns : goal.returns
returns g c =
    let first = g.M.First.first in
    let value = c.as_slice-events.ensures.value in
    if_ok c.shows.result c.shows.ensures (λ yes shows known. is_real first c.args.found.now c.replay.new.self (subst (λ (es : List Event). LeadsTo first es c.replay.new.self) value c.in_ok-replay.ensures) (one_operation first.tree c.requires)
    (subst (IsTerminalAt first) value (c.in_ok-is_over.ensures.yes c.if-not-is_over.false)) (shows known))
