use Rattle.std.proofs.Common.{◌≡◌, true, drop}
use Rattle.std.specs.Prelude.{flat_map}
use Rattle.threads_monitors.specs.Roots.{frame_roots, frames_upward, roots}
use Rattle.simulation.specs.CollectorSteps.{with_roots_marked}
use Rattle.interleaving_core.specs.Acknowledgements.{AreAllThere}
use Rattle.interleaving_core.proofs.acknowledgements.mark_frames.Given as goal

-- marking what is left, after what was marked, results in the marks of all
abbrev pub invariant-loop-frame : goal.invariant-loop-frame
invariant-loop-frame l =
    record {
      is_open : l.heap.spaces.is_open ≡ true;
      there : AreAllThere l.heap (roots l.frames);
      rest : with_roots_marked l.heap (flat_map frame_roots (drop l.frame (frames_upward l.frames))) ≡ with_roots_marked l.fn.heap (roots l.frames);
    }
