use Rattle.std.proofs.Common.{◌≡◌, take}
use Rattle.phase_handshake.proofs.posts.are_same.Given as goal

-- those so far
abbrev pub invariant-loop-index : goal.invariant-loop-index
invariant-loop-index l = take l.index l.seats ≡ take l.index l.others
