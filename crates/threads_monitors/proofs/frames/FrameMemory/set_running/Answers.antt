use Rattle.std.proofs.Common.{◌++◌, ◌∙◌, take, drop, arith, ap, length}
use Rattle.std.specs.Prelude.{vec_capacity}
use Rattle.threads_monitors.specs.Activations.{visible_frames}
use Rattle.threads_monitors.specs.Frames.{Frames, with_running}
use Rattle.threads_monitors.proofs.Memories.{Holds, room_for_other, is_set}
use Rattle.threads_monitors.proofs.frames.FrameMemory.set_running.Goals as goal

pub push_values-requires : goal.push_values-requires
push_values-requires c =
    let fits = rw (← c.self.view_is, ← c.other.view_is) at c.requires in
    let room = room_for_other c.self.invariant
    c.other.invariant fits in
    let kept = ap length c.truncate.ensures.items in
    let taken = ap length (c.values_from.ensures ∙ ap (drop c.other.inside.running.arguments) c.deref.ensures.value) in
    record { room = omega (arith, room, kept, taken, c.truncate.ensures.capacity) }

set : (c : goal.After-self-1) → Holds c.push_values.new.values.items c.move_activation-self-inside.result c.self.inside.below.items c.self.inside.depth c.self.inside.room (vec_capacity c.push_values.new.values) (vec_capacity c.self.inside.below)
    (with_running (visible_frames c.self.inside.values.items c.self.inside.running c.self.inside.below.items c.self.inside.depth c.self.inside.room)
    (visible_frames c.other.inside.values.items c.other.inside.running c.other.inside.below.items c.other.inside.depth c.other.inside.room).running)
set c =
    let fits = rw (← c.self.view_is, ← c.other.view_is) at c.requires in
    let taken = c.values_from.ensures ∙ ap (drop c.other.inside.running.arguments) c.deref.ensures.value in
    is_set c.self.invariant
    c.other.invariant fits
    c.push_values.new.values.items c.move_activation-self-inside.result (vec_capacity c.push_values.new.values)
    (c.push_values.ensures.items ∙ ap (λ xs. xs ++ c.values_from.result.now) c.truncate.ensures.items ∙ ap (λ xs. take c.self.inside.running.arguments c.self.inside.values.items ++ xs) taken)
    c.move_activation-self-inside.ensures
    (c.push_values.ensures.capacity ∙ c.truncate.ensures.capacity)

pub invariant_of-self : goal.invariant_of-self
invariant_of-self c = (set c).sound

pub returns : goal.returns
returns c = (set c).view ∙ ap (λ (m : Frames). with_running m (visible_frames c.other.inside.values.items c.other.inside.running c.other.inside.below.items c.other.inside.depth c.other.inside.room).running) c.self.view_is
    ∙ ap (λ (n : Frames). with_running c.args.self.now n.running) c.other.view_is
