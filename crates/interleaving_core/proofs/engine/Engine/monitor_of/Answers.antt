use Rattle.std.proofs.Common.{sym, ◌∙◌}
use Rattle.threads_monitors.specs.declared.threads.ThreadStatus.TheVariants.{Live}
use Rattle.interleaving_core.specs.Monitors.{status_monitor}
use Rattle.interleaving_core.proofs.Threads.HalfSteps.{by_status, live_at}
use Rattle.interleaving_core.proofs.engine.Engine.monitor_of.Goals as goal

pub monitor_in-requires : goal.monitor_in-requires
monitor_in-requires c =
    let thread = c.in_ok-frames.field-0.now in
    (c.requires.ready.ready c.args.thread thread.steps_left c.in-Live.frames (live_at c.args.self.now.threads.items c.args.thread thread c.in-Live.frames (sym c.in_ok-frames.ensures) c.in-Live.is)).pc

pub returns-in-Live : goal.returns-in-Live
returns-in-Live c =
    c.monitor_in.ensures ∙ sym (by_status (status_monitor c.args.self.now.program) c.args.self.now.threads.items c.args.thread c.in_ok-frames.field-0.now (Live c.in-Live.frames) (sym c.in_ok-frames.ensures) c.in-Live.is)

pub returns-in-Ended : goal.returns-in-Ended
returns-in-Ended c = sym (by_status (status_monitor c.args.self.now.program) c.args.self.now.threads.items c.args.thread c.in_ok-frames.field-0.now _ (sym c.in_ok-frames.ensures) c.in-Ended.is)
