use Rattle.std.proofs.Common.{arith, ◌+◌, ◌≡◌, length, map, ap, length-append}
use Rattle.std.proofs.lemmas.List.{length-map}
use Rattle.threads_monitors.specs.Frames.{zero_value}
use Rattle.threads_monitors.proofs.Memories.{has_room_for_call, has_depth, after_call}
use Rattle.threads_monitors.proofs.frames.FrameMemory.push_frame.Goals as goal

pub push_zeros-requires : goal.push_zeros-requires
push_zeros-requires c = record {
  room = omega (arith, has_room_for_call c.self.invariant c.args.arguments (length c.args.locals.now) (rw (← c.self.view_is) at c.requires.depth) (rw (← c.self.view_is) at c.requires.room));
}

pub push_reserved-requires : goal.push_reserved-requires
push_reserved-requires c = omega (arith, has_depth c.self.invariant (rw (← c.self.view_is) at c.requires.depth))

-- where the value stack ended, and where the new locals end
ends : (c : goal.After-self-1) → (c.len-locals_start.result ≡ length c.self.inside.values.items) × (c.len.result ≡ length c.self.inside.values.items + length c.args.locals.now)
ends c =
    let grown = ap length c.push_zeros.ensures.items in
    let both = length-append c.self.inside.values.items (map zero_value c.args.locals.now) in
    let zeros = length-map c.args.locals.now zero_value in
    (omega (arith, c.len-locals_start.ensures), omega (arith, c.len.ensures, grown, both, zeros))

pub invariant_of-self : goal.invariant_of-self
invariant_of-self c =
    rw ((ends c).0, (ends c).1, c.push_zeros.ensures.items, c.push_zeros.ensures.capacity, c.push_reserved.ensures.items, c.push_reserved.ensures.capacity)
    (after_call c.self.invariant c.args.method c.args.arguments c.args.locals.now c.args.constructed (rw (← c.self.view_is) at c.requires.depth) (rw (← c.self.view_is) at c.requires.arguments) (rw (← c.self.view_is) at c.requires.room)).sound

pub returns : goal.returns
returns c =
    rw (← c.self.view_is, (ends c).0, (ends c).1, c.push_zeros.ensures.items, c.push_reserved.ensures.items)
    (after_call c.self.invariant c.args.method c.args.arguments c.args.locals.now c.args.constructed (rw (← c.self.view_is) at c.requires.depth) (rw (← c.self.view_is) at c.requires.arguments) (rw (← c.self.view_is) at c.requires.room)).view
