use Rattle.object_memory.proofs.MonitorsAt.{monitor_found, monitors_stay, birth_keeps_monitors}
use Rattle.object_memory.proofs.laws.monitors_stay_but_one.Goals as goal

pub returns-clause-own : goal.returns-clause-own
returns-clause-own c o a m some = monitor_found o m a some

pub returns-clause-others : goal.returns-clause-others
returns-clause-others c o a b m ne = monitors_stay o m a b ne

pub returns-clause-birth : goal.returns-clause-birth
returns-clause-birth c o phase k n a m h same = birth_keeps_monitors o h k n phase m a same
