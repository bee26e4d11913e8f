use Rattle.std.proofs.Common.{◌≡◌, map, take}
use Rattle.verifier.specs.KeptStacks.{entry_of}
use Rattle.verifier.proofs.kept_stacks.narrow.Given as goal

abbrev pub invariant-loop-index : goal.invariant-loop-index
invariant-loop-index l = map entry_of l.kept.items ≡ take l.index l.entries
