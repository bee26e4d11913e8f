use Rattle.std.proofs.Common.{◌≡◌, take}
use Rattle.threads_monitors.proofs.frames.are_same_activations.Given as goal

-- those so far
abbrev pub invariant-loop-index : goal.invariant-loop-index
invariant-loop-index l = take l.index l.activations ≡ take l.index l.others
