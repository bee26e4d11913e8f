use Rattle.std.proofs.Common.{◌-◌}
use Rattle.object_memory.specs.Cells.{used_words}
use Rattle.object_memory.specs.Spaces.{is_noted}
use Rattle.collector.proofs.BlockWalks.Walks.{HasPassed}
use Rattle.collector.proofs.walks.next_noted.Given as goal

abbrev pub invariant-loop-object : goal.invariant-loop-object
invariant-loop-object l = HasPassed is_noted l.heap.spaces.new l.offset l.at

abbrev pub decreases-loop-object : goal.decreases-loop-object
decreases-loop-object l = used_words l.heap.spaces.new.cells - l.at
