use Rattle.std.proofs.Common.{arith}
use Rattle.cil_model.specs.declared.events.Event.TheVariants.{Step}
use Rattle.cilvm_c.proofs.EventsDone.{act_done, act_not_done, code_not_done, step_ended, step_ran, steps_all, steps_held}
use Rattle.cilvm_c.proofs.running.make_steps.Goals as goal

pub returns-then-is_not_done : goal.returns-then-is_not_done
returns-then-is_not_done c =
    let is = c.is_not_done.ensures in let test = c.if-is_not_done.true in let acts = c.act_by_number-number.ensures in
    let held = act_not_done c.loop-time.machine c.act_by_number-number.new.machine c.args.most_printed (Step c.args.thread) c.act_by_number-number.result acts (grind (arith, is, test)) in
    let why = code_not_done c.loop-time.machine c.act_by_number-number.new.machine c.args.most_printed (Step c.args.thread) c.act_by_number-number.result acts (grind (arith, is, test)) in (
      acts.0,
      acts.1,
      steps_held c.args.machine.now c.loop-time.machine c.act_by_number-number.new.machine c.args.most_printed c.args.thread c.args.most c.loop-time.time acts.0 c.loop-time-test.true c.loop-time.invariant held.0 why,
    )

pub returns-then-not-is_ran : goal.returns-then-not-is_ran
returns-then-not-is_ran c =
    let is = c.is_not_done.ensures in let test = c.if-is_not_done.false in let ran = c.is_ran.ensures in let not = c.if-not-is_ran.true in let acts = c.act_by_number-number.ensures in
    step_ended c.args.machine.now c.loop-time.machine c.act_by_number-number.new.machine c.args.most_printed c.args.thread c.loop-time.time acts.0 c.act_by_number-number.result acts.1 c.loop-time.invariant c.args.most c.loop-time-test.true
    (act_done c.loop-time.machine c.act_by_number-number.new.machine c.args.most_printed (Step c.args.thread) c.act_by_number-number.result acts (grind (arith, is, test))) (grind (arith, ran, not))

pub loop-time-preserved : goal.loop-time-preserved
loop-time-preserved c =
    let is = c.is_not_done.ensures in let test = c.if-is_not_done.false in let ran = c.is_ran.ensures in let not = c.if-not-is_ran.false in let acts = c.act_by_number-number.ensures in
    step_ran c.args.machine.now c.loop-time.machine c.act_by_number-number.new.machine c.args.most_printed c.args.thread c.loop-time.time acts.0 c.act_by_number-number.result acts.1 c.loop-time.invariant
    (act_done c.loop-time.machine c.act_by_number-number.new.machine c.args.most_printed (Step c.args.thread) c.act_by_number-number.result acts (grind (arith, is, test))) (grind (arith, ran, not))

pub returns : goal.returns
returns c =
    let past = c.loop-time-test.false in let end = c.loop-time.auto.time-end in
    (_, c.number_of.ensures, steps_all c.args.machine.now c.loop-time.machine c.args.most_printed c.args.thread c.args.most c.loop-time.time (omega (arith, past, end)) c.loop-time.invariant)
