use Rattle.shared_machine.proofs.Codes.{fixes}
use Rattle.shared_machine.proofs.history.counts_fix_events.Goals as goal

pub returns : goal.returns
returns c = fixes
