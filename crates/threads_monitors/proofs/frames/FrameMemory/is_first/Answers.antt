use Rattle.std.proofs.Common.{arith, ℕ, ◌≡◌, ◌∙◌, ◌==◌, length, ap}
use Rattle.std.specs.Prelude.{vec_len}
use Rattle.threads_monitors.proofs.Memories.{count_below}
use Rattle.threads_monitors.proofs.frames.FrameMemory.is_first.Goals as goal

pub returns : goal.returns
returns c =
    let same : vec_len c.self.inside.below ≡ length c.self.inside.below.items = omega arith in
    rw (← c.self.view_is, count_below c.self.invariant)
    (c.is_empty.ensures ∙ ap (λ (n : ℕ). n == 0) same)
