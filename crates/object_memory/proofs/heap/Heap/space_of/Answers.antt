use Rattle.std.proofs.Common.{sym}
use Rattle.object_memory.proofs.TwoSpaces.TwoHeld.{cells_spanned}
use Rattle.object_memory.proofs.heap.Heap.space_of.Goals as goal

pub returns-then-spans : goal.returns-then-spans
returns-then-spans c =
    rw (← c.self.view_is)
    (sym (cells_spanned c.self.inside.from c.self.inside.cycle c.in-Some.cycle c.args.address c.self.invariant c.in-Some.is (c.spans.ensures.range c.if-spans.true)))
