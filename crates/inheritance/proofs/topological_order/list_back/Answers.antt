use Rattle.std.proofs.Common.{arith, subst}
use Rattle.inheritance.proofs.TopologicalOrderLaws.{IsListing, list_in, list_out}
use Rattle.inheritance.proofs.topological_order.list_back.Goals as goal

pub loop-class-preserved-then-class-listed : goal.loop-class-preserved-then-class-listed
loop-class-preserved-then-class-listed c =
    let l = c.loop-class in
    let path = c.pop.new.self.items in
    let class = c.in-Some.class in
    let taken = subst (λ path. IsListing c.args.listed.now c.args.path.now.items c.args.classes.now.items l.listed path l.classes.items) c.in-Some.ensures.items l.invariant in
    rw c.in_ok-push.ensures.items (list_in c.args.listed.now c.args.path.now.items c.args.classes.now.items l.listed path l.classes.items class taken c.if-class-listed.true)

pub loop-class-preserved : goal.loop-class-preserved
loop-class-preserved c =
    let l = c.loop-class in
    let path = c.pop.new.self.items in
    let class = c.in-Some.class in
    let taken = subst (λ path. IsListing c.args.listed.now c.args.path.now.items c.args.classes.now.items l.listed path l.classes.items) c.in-Some.ensures.items l.invariant in
    rw c.in_ok-push.ensures.items (list_out c.args.listed.now c.args.path.now.items c.args.classes.now.items l.listed path l.classes.items class taken (omega (arith, c.if-class-listed.false)))
