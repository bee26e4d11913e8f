use Rattle.std.proofs.Common.{◌≡◌, take}
use Rattle.space_block.proofs.Block.is_like.Given as goal

-- the words so far
abbrev pub invariant-loop-index : goal.invariant-loop-index
invariant-loop-index l = take l.index l.self.words ≡ take l.index l.other.words
