use Rattle.std.proofs.Common.{◌≡◌, map, take}
use Rattle.arrayvec.specs.ArrayVec.{array_vec_len}
use Rattle.driver.proofs.Names.{end_of}
use Rattle.driver.proofs.showing.ends_of.Given as goal

-- the ends of the threads so far
abbrev pub invariant-loop-thread : goal.invariant-loop-thread
invariant-loop-thread l = (l.ends.items ≡ take l.thread (map end_of l.machine.threads)) × (array_vec_len l.ends ≡ l.thread)
