use Rattle.object_memory.specs.Objects.{spaces_of}
use Rattle.object_memory.proofs.TwoSpaces.TwoBlocks.{not_at_null, not_at_literals}
use Rattle.object_memory.proofs.heap.Heap.objects_are_distinct.Goals as goal

pub returns-clause-null : goal.returns-clause-null
returns-clause-null c = rw (← c.self.view_is) (not_at_null (spaces_of c.self.inside.from c.self.inside.cycle) c.self.invariant.spaces)

pub returns-clause-literals : goal.returns-clause-literals
returns-clause-literals c =
    rw (← c.self.view_is) (not_at_literals (spaces_of c.self.inside.from c.self.inside.cycle) c.self.invariant.spaces)
