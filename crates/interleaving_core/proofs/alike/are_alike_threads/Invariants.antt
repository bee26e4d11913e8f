use Rattle.std.proofs.Common.{◌≡◌, map, take}
use Rattle.interleaving_core.specs.Alike.{status_of}
use Rattle.interleaving_core.proofs.alike.are_alike_threads.Given as goal

-- those so far
abbrev pub invariant-loop-index : goal.invariant-loop-index
invariant-loop-index l = map status_of (take l.index l.threads) ≡ map status_of (take l.index l.others)
