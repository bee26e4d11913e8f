use Rattle.std.proofs.Common.{arith, ap, ◌∙◌, ◌≡◌, ◌∷◌, [], ◌++◌}
use Rattle.std.specs.Option.{option_to_list}
use Rattle.threads_monitors.specs.Activations.{visible_frames}
use Rattle.threads_monitors.specs.Frames.{return_frames}
use Rattle.threads_monitors.proofs.Memories.{count_below, after_return}
use Rattle.threads_monitors.proofs.frames.FrameMemory.pop_frame.Goals as goal

pub unwrap-self-inside-requires : goal.unwrap-self-inside-requires
unwrap-self-inside-requires c =
    let given = rw (← c.self.view_is) at c.requires in
    c.pop.ensures.variant.1 (omega (arith, given, count_below c.self.invariant))

pub invariant_of-self : goal.invariant_of-self
invariant_of-self c =
    let given = rw (← c.self.view_is) at c.requires in
    let topmost : c.self.inside.below.items ≡ c.pop.new.self.items ++ c.unwrap-self-inside.result ∷ [] = c.pop.ensures.items ∙ ap (λ o. c.pop.new.self.items ++ option_to_list o) c.unwrap-self-inside.ensures in
    rw (c.truncate.ensures.items, c.truncate.ensures.capacity, c.pop.ensures.capacity) (after_return c.self.invariant c.unwrap-self-inside.result c.pop.new.self.items given topmost).sound

pub returns : goal.returns
returns c =
    let given = rw (← c.self.view_is) at c.requires in
    let topmost : c.self.inside.below.items ≡ c.pop.new.self.items ++ c.unwrap-self-inside.result ∷ [] = c.pop.ensures.items ∙ ap (λ o. c.pop.new.self.items ++ option_to_list o) c.unwrap-self-inside.ensures in
    let after = (after_return c.self.invariant c.unwrap-self-inside.result c.pop.new.self.items given topmost).view in
    ap (λ xs. visible_frames xs c.unwrap-self-inside.result c.pop.new.self.items c.self.inside.depth c.self.inside.room) c.truncate.ensures.items ∙ after ∙ ap return_frames c.self.view_is
