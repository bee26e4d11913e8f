use Rattle.std.proofs.Common.{◌≡◌, take}
use Rattle.verifier.proofs.search.are_same.Given as goal

abbrev pub invariant-loop-index : goal.invariant-loop-index
invariant-loop-index l = take l.index l.known ≡ take l.index l.coming
