use Rattle.std.proofs.Common.{◌-◌}
use Rattle.object_memory.specs.Cells.{used_words}
use Rattle.object_memory.specs.Spaces.{has_other}
use Rattle.collector.proofs.BlockWalks.Walks.{HasPassed}
use Rattle.collector.proofs.walks.next_copied.Given as goal

abbrev pub invariant-loop-object : goal.invariant-loop-object
invariant-loop-object l = HasPassed has_other l.heap.spaces.old l.offset l.at

abbrev pub decreases-loop-object : goal.decreases-loop-object
decreases-loop-object l = used_words l.heap.spaces.old.cells - l.at
