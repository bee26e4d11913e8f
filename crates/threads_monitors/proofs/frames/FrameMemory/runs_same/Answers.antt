use Rattle.std.proofs.Common.{◌≡◌, ◌∙◌, ap, sym, drop}
use Rattle.threads_monitors.specs.Activations.{frame_of, moved_to}
use Rattle.threads_monitors.specs.Frames.{Frames}
use Rattle.threads_monitors.specs.Roots.{values_of}
use Rattle.threads_monitors.proofs.Memories.{own_frame, own_values}
use Rattle.threads_monitors.proofs.frames.FrameMemory.runs_same.Goals as goal

pub returns-then-is_same_activation : goal.returns-then-is_same_activation
returns-then-is_same_activation c =
    let mine = c.values_from.ensures ∙ ap (drop c.self.inside.running.arguments) c.deref.ensures.value in
    let theirs = c.values_from-then-is_same_activation.ensures ∙ ap (drop c.other.inside.running.arguments) c.deref-then-is_same_activation.ensures.value in
    let first = own_frame c.self.invariant in
    let second = own_frame c.other.invariant in
    let values = own_values c.self.invariant in
    let values' = own_values c.other.invariant in
    let mine_is = ap (λ (m : Frames). m.running) c.self.view_is in
    let theirs_is = ap (λ (m : Frames). m.running) c.other.view_is in
    let alike : moved_to 0 c.self.inside.running ≡ moved_to 0 c.other.inside.running = c.is_same_activation.ensures.0 c.if-is_same_activation.true in (
      λ same. sym mine_is ∙ sym first ∙ ap (λ xs. frame_of xs (moved_to 0 c.self.inside.running)) (sym mine ∙ c.are_same.ensures.0 same ∙ theirs) ∙ ap (frame_of (drop c.other.inside.running.arguments c.other.inside.values.items)) alike ∙ second ∙ theirs_is,
      λ same. c.are_same.ensures.1 (mine ∙ values ∙ ap values_of (mine_is ∙ same ∙ sym theirs_is) ∙ sym values' ∙ sym theirs),
    )
