use Rattle.std.proofs.Common.{◌≡◌, take}
use Rattle.object_memory.proofs.heap.are_same.Given as goal

-- the monitors so far
abbrev pub invariant-loop-index : goal.invariant-loop-index
invariant-loop-index l = take l.index l.monitors ≡ take l.index l.others
