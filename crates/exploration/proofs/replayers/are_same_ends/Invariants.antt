use Rattle.std.proofs.Common.{◌≡◌, take}
use Rattle.exploration.proofs.replayers.are_same_ends.Given as goal

-- those so far
abbrev pub invariant-loop-index : goal.invariant-loop-index
invariant-loop-index l = take l.index l.ends ≡ take l.index l.others
