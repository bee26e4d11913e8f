use Rattle.std.proofs.Common.{arith, ap, ◌∙◌, ◌≡◌, ◌++◌, map}
use Rattle.std.specs.Prelude.{vec_capacity}
use Rattle.threads_monitors.specs.Frames.{zero_value}
use Rattle.threads_monitors.proofs.Memories.{Begun, begun}
use Rattle.threads_monitors.proofs.frames.FrameMemory.new.Goals as goal

first : (c : goal.After-len) → Begun c.args.arguments.now c.args.locals.now c.args.method c.args.depth c.args.room c.push_zeros.new.values.items c.in_ok-below.below.items c.len.result (vec_capacity c.push_zeros.new.values) (vec_capacity c.in_ok-below.below)
first c =
    let items : c.push_zeros.new.values.items ≡ c.args.arguments.now ++ map zero_value c.args.locals.now =
    c.push_zeros.ensures.items ∙ ap (λ xs. xs ++ map zero_value c.args.locals.now) (c.push_values.ensures.items ∙ ap (λ xs. xs ++ c.args.arguments.now) c.in_ok-values.ensures.items) in
    begun c.args.arguments.now c.args.locals.now c.args.method c.args.depth c.args.room c.push_zeros.new.values.items c.in_ok-below.below.items c.len.result (vec_capacity c.push_zeros.new.values) (vec_capacity c.in_ok-below.below)
    c.requires.some c.requires.fits items c.in_ok-below.ensures.items (omega (arith, c.len.ensures))
    (omega (arith, c.push_zeros.ensures.capacity, c.push_values.ensures.capacity, c.in_ok-values.ensures.capacity))
    (omega (arith, c.in_ok-below.ensures.capacity, c.requires.some))

pub invariant_of-result : goal.invariant_of-result
invariant_of-result c = (first c).sound

pub returns : goal.returns
returns c = (first c).view
