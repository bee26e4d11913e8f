use Rattle.std.proofs.Common.{arith, ap, sym, ◌∙◌, ◌++◌, reverse, drop}
use Rattle.std.specs.Option.{option_to_list}
use Rattle.threads_monitors.specs.Frames.{Frames, with_stack}
use Rattle.threads_monitors.proofs.Memories.{Popped, index_below, after_pop}
use Rattle.threads_monitors.proofs.frames.FrameMemory.pop.Goals as goal

pub unwrap-requires : goal.unwrap-requires
unwrap-requires c =
    let given = rw (← c.self.view_is) at c.requires in
    c.pop.ensures.variant.1 (omega (arith, index_below c.self.invariant 1 given))

popped : (c : goal.After-unwrap) → Popped c.self.invariant c.pop.new.self.items c.unwrap.result
popped c =
    let given = rw (← c.self.view_is) at c.requires in
    after_pop c.self.invariant c.pop.new.self.items c.unwrap.result given (c.pop.ensures.items ∙ ap (λ o. c.pop.new.self.items ++ option_to_list o) c.unwrap.ensures)

pub invariant_of-self : goal.invariant_of-self
invariant_of-self c = rw c.pop.ensures.capacity (popped c).sound

pub returns-clause-popped : goal.returns-clause-popped
returns-clause-popped c = sym (ap (λ (k : Frames). k.running.stack) c.self.view_is) ∙ (popped c).stack_is

pub returns-clause-others : goal.returns-clause-others
returns-clause-others c = (popped c).others ∙ ap (λ k. with_stack k (reverse (drop c.self.inside.running.stack c.pop.new.self.items))) c.self.view_is
