use Rattle.threads_monitors.proofs.ReplacedReferences.{roots_replaced}
use Rattle.threads_monitors.proofs.laws.replaced_roots_keep_their_order.Goals as goal

pub returns : goal.returns
returns c = roots_replaced
