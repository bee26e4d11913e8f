use Rattle.shared_machine.proofs.OneWorker.{counted_none, counted_time, counted_times}
use Rattle.shared_machine.proofs.alone.act_item.Goals as goal

pub loop-time-init : goal.loop-time-init
loop-time-init g c = λ before counted. counted_none before c.args.item.now.event c.args.ticket counted

pub loop-time-preserved : goal.loop-time-preserved
loop-time-preserved g c = λ before counted.
    counted_time before c.args.item.now.event c.loop-time._time _ _ _ c.in-Did-default.field-0-0 c.act.ensures.small (c.loop-time.invariant before counted) c.in-Did-default.is-0 c.act.ensures.counted

pub returns : goal.returns
returns g c = λ before counted.
    counted_times before c.args.item.now.event c.loop-time._time c.args.item.now.count c.loop-time.ticket c.loop-time-test.false c.loop-time.auto._time-end (c.loop-time.invariant before counted)
