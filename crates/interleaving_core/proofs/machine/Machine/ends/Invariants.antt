use Rattle.std.proofs.Common.{◌≡◌, map, take}
use Rattle.threads_monitors.specs.Threads.{end_of}
use Rattle.interleaving_core.proofs.machine.Machine.ends.Given as goal

-- the ends of the threads so far
abbrev pub invariant-loop-thread : goal.invariant-loop-thread
invariant-loop-thread l = l.ends.items ≡ take l.thread (map end_of l.self.threads)
