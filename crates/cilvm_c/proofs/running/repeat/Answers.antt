use Rattle.std.proofs.Common.{arith, replicate, subst, sym}
use Rattle.cilvm_c.specs.Steps.{IsNotDone}
use Rattle.cilvm_c.proofs.EventsDone.{HasTurned, act_done, act_not_done, all_done, stops_again, turned_again}
use Rattle.cilvm_c.proofs.running.repeat.Goals as goal

pub returns-then-is_not_done-clause-stopped : goal.returns-then-is_not_done-clause-stopped
returns-then-is_not_done-clause-stopped c =
    let is = c.is_not_done.ensures in let test = c.if-is_not_done.true in
    let held = act_not_done c.loop-time.machine c.act_by_number-number.new.machine c.args.most_printed c.args.item.event c.act_by_number-number.result c.act_by_number-number.ensures (grind (arith, is, test)) in
    stops_again c.args.machine.now c.loop-time.machine c.act_by_number-number.new.machine c.args.most_printed c.args.item.event c.loop-time.time c.args.item.count c.reason_not_done.result c.loop-time-test.true c.loop-time.invariant held.0
    (subst (IsNotDone c.loop-time.machine c.args.most_printed c.args.item.event) (sym c.reason_not_done.ensures) held.1)

pub loop-time-preserved : goal.loop-time-preserved
loop-time-preserved c =
    let is = c.is_not_done.ensures in let test = c.if-is_not_done.false in
    let done = act_done c.loop-time.machine c.act_by_number-number.new.machine c.args.most_printed c.args.item.event c.act_by_number-number.result c.act_by_number-number.ensures (grind (arith, is, test)) in
    turned_again c.args.machine.now c.loop-time.machine c.act_by_number-number.new.machine c.args.item.event c.loop-time.time done.0 c.loop-time.invariant done.3

pub returns-clause-all : goal.returns-clause-all
returns-clause-all c =
    let past = c.loop-time-test.false in let end = c.loop-time.auto.time-end in
    all_done c.args.machine.now c.loop-time.machine (replicate c.args.item.count c.args.item.event)
    (subst (λ n. HasTurned c.args.machine.now (replicate n c.args.item.event) c.loop-time.machine) (omega (arith, past, end)) c.loop-time.invariant)
