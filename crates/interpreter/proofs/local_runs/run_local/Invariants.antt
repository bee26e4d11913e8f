use Rattle.std.proofs.Common.{◌≡◌}
use Rattle.threads_monitors.specs.Frames.{with_running}
use Rattle.interpreter.specs.Local.{AreLocalSteps}
use Rattle.interpreter.proofs.local_runs.run_local.Given as goal

abbrev pub invariant-loop-count : goal.invariant-loop-count
invariant-loop-count l = record {
  below : l.frames ≡ with_running l.fn.frames l.frames.running;
  method : l.frames.running.method ≡ l.fn.frames.running.method;
  steps : AreLocalSteps l.program l.fn.frames.room l.count l.fn.frames.running l.frames.running;
}
