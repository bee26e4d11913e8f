use Rattle.schedule_text.specs.Items.{events_of}
use Rattle.cilvm_c.proofs.EventsDone.{run_all, run_stopped}
use Rattle.cilvm_c.proofs.running.run_text.Goals as goal

pub returns-clause-ran : goal.returns-clause-ran
returns-clause-ran c =
    (events_of c.in_ok-items.items.items, c.in_ok-items.ensures, run_stopped c.args.machine.now c.args.most_printed c.as_slice.result.now c.in_ok-items.items.items c.in-Err.stop c.run_items.new.machine c.as_slice.ensures.value c.in-Err.ensures.stopped)

pub returns-in-Ok-clause-ran : goal.returns-in-Ok-clause-ran
returns-in-Ok-clause-ran c =
    (events_of c.in_ok-items.items.items, c.in_ok-items.ensures, run_all c.args.machine.now c.args.most_printed c.as_slice.result.now c.in_ok-items.items.items c.in-Ok.count c.run_items.new.machine c.as_slice.ensures.value c.in-Ok.ensures.all)
