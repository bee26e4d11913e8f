use Rattle.std.proofs.Common.{◌-◌}
use Rattle.object_memory.specs.Cells.{used_words}
use Rattle.interleaving_core.proofs.CollectorTransitions.AddressWalks.{IsAhead}
use Rattle.interleaving_core.proofs.forwards.is_in_old.Given as goal

abbrev pub invariant-loop-object : goal.invariant-loop-object
invariant-loop-object l = IsAhead l.heap.spaces.old l.address l.offset

abbrev pub decreases-loop-object : goal.decreases-loop-object
decreases-loop-object l = used_words l.heap.spaces.old.cells - l.offset
