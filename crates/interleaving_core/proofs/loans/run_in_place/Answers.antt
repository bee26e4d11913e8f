use Rattle.std.proofs.Common.{◌≡◌, ◌-◌, ℕ, arith, ap, sym, subst, ◌∙◌}
use Rattle.threads_monitors.specs.Frames.{Frame, Frames, with_running}
use Rattle.threads_monitors.specs.declared.threads.Thread.{Thread}
use Rattle.simulation.specs.Transitions.{live_thread}
use Rattle.simulation.specs.interpreter.Local.{AreLocalSteps, IsReadySomewhere}
use Rattle.interleaving_core.specs.Loans.{IsLocalRun}
use Rattle.interleaving_core.proofs.Threads.HalfSteps.{same_frames, thread_is}
use Rattle.interleaving_core.proofs.Threads.LocalRuns.{local_run}
use Rattle.interleaving_core.proofs.loans.run_in_place.Goals as goal

pub overflow_sub-spare : goal.overflow_sub-spare
overflow_sub-spare c =
    let ready = c.requires.ready c.args.thread.now.steps_left c.in-Live.frames (thread_is c.args.thread.now c.in-Live.frames c.in-Live.is) in
    omega (arith, ready.1)

pub run_local-count-requires : goal.run_local-count-requires
run_local-count-requires c =
    let ready = c.requires.ready c.args.thread.now.steps_left c.in-Live.frames (thread_is c.args.thread.now c.in-Live.frames c.in-Live.is) in
    record {
      ready = λ k f less steps.
          subst (λ n. IsReadySomewhere c.args.program.now n f) (sym ready.0)
          (ready.2 k f (omega (arith, less, c.min.ensures, ready.1)) (subst (λ n. AreLocalSteps c.args.program.now n k c.in-Live.frames.running f) ready.0 steps));
    }

pub returns : goal.returns
returns c left m same =
    let is = thread_is c.args.thread.now c.in-Live.frames c.in-Live.is in
    let ready = c.requires.ready c.args.thread.now.steps_left c.in-Live.frames is in
    let alike : live_thread c.args.thread.now.steps_left c.in-Live.frames ≡ live_thread left m = sym is ∙ same in
    let left_is : c.args.thread.now.steps_left ≡ left = ap (λ (x : Thread). x.steps_left) alike in
    let frames_is : c.in-Live.frames ≡ m = same_frames c.args.thread.now.steps_left left c.in-Live.frames m alike in
    let ran = c.run_local-count.ensures in
    subst (λ (p : ℕ × Frames). (x : Frame) × IsLocalRun c.args.program.now p.0 p.1.running c.args.most c.run_local-count.result x
    × (live_thread (c.args.thread.now.steps_left - c.run_local-count.result) c.run_local-count.new.frames ≡ live_thread (p.0 - c.run_local-count.result) (with_running p.1 x)))
    (λ i. (left_is i, frames_is i)) (
      c.run_local-count.new.frames.running,
      local_run c.args.program.now c.args.thread.now.steps_left c.args.most c.min.result c.run_local-count.result c.in-Live.frames.room c.in-Live.frames.running c.run_local-count.new.frames.running ready.0 ready.1 c.min.ensures ran.ran ran.most ran.ends,
      ap (live_thread (c.args.thread.now.steps_left - c.run_local-count.result)) ran.below,
    )
