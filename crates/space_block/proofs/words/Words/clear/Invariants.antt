use Rattle.std.proofs.Common.{◌≡◌, ◌≤◌}
use Rattle.space_block.proofs.WordSequences.{cleared}
use Rattle.space_block.proofs.words.Words.clear.Given as goal

abbrev pub invariant-loop-index : goal.invariant-loop-index
invariant-loop-index l = record {
  same_address : l.self.at ≡ l.fn.self.at;
  cleared : l.self.slots ≡ cleared l.fn.self.slots l.from l.index;
  order : l.from ≤ l.index;
}
