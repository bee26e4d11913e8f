use Rattle.std.proofs.Common.{refl}
use Rattle.inheritance.proofs.TopologicalOrderLaws.{nothing_met, one_more_met, fewer_unmet}
use Rattle.inheritance.proofs.topological_order.walk_up.Goals as goal

pub bounds-met-class : goal.bounds-met-class
bounds-met-class c = (c.in-Some.ensures.found c.in-Some.class refl).1

pub loop-class-init : goal.loop-class-init
loop-class-init c = rw c.requires (nothing_met c.args.bases.now c.args.met.now c.args.first)

pub loop-class-smaller : goal.loop-class-smaller
loop-class-smaller c =
    let found = c.in-Some.ensures.found c.in-Some.class refl in
    fewer_unmet c.loop-class.met c.in-Some.class found.1 found.2

pub loop-class-preserved : goal.loop-class-preserved
loop-class-preserved c =
    let l = c.loop-class in
    let found = c.in-Some.ensures.found c.in-Some.class refl in
    rw (c.in_ok-push.ensures.items, c.entry_at-next.ensures)
    (one_more_met c.args.bases.now c.args.met.now c.args.first l.met l.path.items l.next l.invariant c.in-Some.class found.0 found.1 found.2)
