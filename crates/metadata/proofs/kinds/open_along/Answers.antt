use Rattle.std.proofs.Common.{is_some, sym, ap}
use Rattle.metadata.proofs.kinds.open_along.Goals as goal

pub returns-in-Some : goal.returns-in-Some
returns-in-Some c = sym (c.in_ok-open.ensures (ap is_some c.in-Some.is))
