use Rattle.std.proofs.Common.{sym, ◌∙◌}
use Rattle.threads_monitors.specs.declared.threads.ThreadStatus.TheVariants.{Live}
use Rattle.interleaving_core.specs.Views.{machine_state_of}
use Rattle.interleaving_core.specs.Waits.{status_wait}
use Rattle.interleaving_core.proofs.Threads.AwaitedObjects.{has_object}
use Rattle.interleaving_core.proofs.Threads.HalfSteps.{by_status, live_at}
use Rattle.interleaving_core.proofs.engine.Engine.wait_of.Goals as goal

pub wait_in-requires-clause-object : goal.wait_in-requires-clause-object
wait_in-requires-clause-object c =
    let thread = c.in_ok-frames.field-0.now in
    let live = live_at c.args.self.now.threads.items c.args.thread thread c.in-Live.frames (sym c.in_ok-frames.ensures) c.in-Live.is in
    has_object (machine_state_of c.args.self.now) c.args.thread thread.steps_left c.in-Live.frames (c.requires.ready.ready c.args.thread thread.steps_left c.in-Live.frames live) (c.requires.ready.answerable c.args.thread thread.steps_left c.in-Live.frames live)

pub wait_in-requires-clause-few : goal.wait_in-requires-clause-few
wait_in-requires-clause-few c = c.requires.few

pub returns-in-Live : goal.returns-in-Live
returns-in-Live c =
    c.wait_in.ensures ∙ sym (by_status (status_wait (machine_state_of c.args.self.now) c.args.thread) c.args.self.now.threads.items c.args.thread c.in_ok-frames.field-0.now (Live c.in-Live.frames) (sym c.in_ok-frames.ensures) c.in-Live.is)

pub returns-in-Ended : goal.returns-in-Ended
returns-in-Ended c = sym (by_status (status_wait (machine_state_of c.args.self.now) c.args.thread) c.args.self.now.threads.items c.args.thread c.in_ok-frames.field-0.now _ (sym c.in_ok-frames.ensures) c.in-Ended.is)
