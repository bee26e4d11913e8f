use Rattle.std.proofs.Common.{refl}
use Rattle.schedule_text.specs.Items.{events_of as events_in}
use Rattle.shared_machine.proofs.OneWorker.{all_done, first_done}
use Rattle.shared_machine.proofs.alone.act_while_memory_lasts.Goals as goal

pub returns-in-Ok-clause-done : goal.returns-in-Ok-clause-done
returns-in-Ok-clause-done g c = (events_in c.args.items.now, c.in-Ok.ensures, all_done _ _ _ refl)

pub returns-in-Err-clause-worker : goal.returns-in-Err-clause-worker
returns-in-Err-clause-worker g c = c.in-Err.ensures.counted.worker

pub returns-in-Err-clause-done : goal.returns-in-Err-clause-done
returns-in-Err-clause-done g c = let first = c.in-Err.ensures in (first.done, first.counted, first_done _ _ first.rest first.are)
