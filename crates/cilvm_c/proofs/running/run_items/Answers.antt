use Rattle.std.proofs.Common.{arith, ap, get_or, length, subst, ◌∙◌, ◌+◌}
use Rattle.schedule_text.specs.Items.{events_of}
use Rattle.schedule_text.proofs.SoFar.{so_far_whole}
use Rattle.cilvm_c.proofs.EventsDone.{HasTurned, all_done, few_with, length_with, no_item, own, stops_with, stopped_few, turned_by, turned_with}
use Rattle.cilvm_c.proofs.running.run_items.Goals as goal

pub overflow_add-done : goal.overflow_add-done
overflow_add-done c =
    let with = few_with c.args.items.now c.loop-item.item-index no_item c.loop-item-test.true in let all = c.requires.few in let so_far = c.loop-item.invariant.counted in
    record { fits = omega (arith, with, all, so_far) }

pub overflow_add-result : goal.overflow_add-result
overflow_add-result c =
    let with = few_with c.args.items.now c.loop-item.item-index no_item c.loop-item-test.true in let all = c.requires.few in let so_far = c.loop-item.invariant.counted in
    let few = stopped_few c.loop-item.machine c.args.most_printed (get_or c.args.items.now c.loop-item.item-index no_item).count (get_or c.args.items.now c.loop-item.item-index no_item).event c.in-Err.stop c.repeat.new.machine c.in-Err.ensures.stopped in
    record { fits = omega (arith, with, all, so_far, few) }

pub returns-in-Err-clause-stopped : goal.returns-in-Err-clause-stopped
returns-in-Err-clause-stopped c =
    stops_with c.args.items.now c.loop-item.item-index no_item c.loop-item-test.true c.args.machine.now c.loop-item.machine c.repeat.new.machine c.args.most_printed c.loop-item.done c.in-Err.stop
    c.loop-item.invariant.counted c.loop-item.invariant.turned c.in-Err.ensures.stopped

pub loop-item-preserved : goal.loop-item-preserved
loop-item-preserved c = record {
  turned = turned_with c.args.items.now c.loop-item.item-index no_item c.loop-item-test.true c.args.machine.now c.loop-item.machine c.repeat.new.machine c.loop-item.invariant.turned
      (turned_by c.loop-item.machine c.repeat.new.machine (own c.args.items.now c.loop-item.item-index no_item c.loop-item-test.true) c.in-Ok.ensures.all);
  counted = ap (λ n. n + (get_or c.args.items.now c.loop-item.item-index no_item).count) c.loop-item.invariant.counted ∙ length_with c.args.items.now c.loop-item.item-index no_item c.loop-item-test.true;
}

pub returns-clause-all : goal.returns-clause-all
returns-clause-all c =
    let whole = so_far_whole c.args.items.now c.loop-item.item-index c.loop-item-test.false in (
      c.loop-item.invariant.counted ∙ ap length whole,
      all_done c.args.machine.now c.loop-item.machine (events_of c.args.items.now) (subst (λ es. HasTurned c.args.machine.now es c.loop-item.machine) whole c.loop-item.invariant.turned),
    )
