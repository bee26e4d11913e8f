use Rattle.std.proofs.Common.{◌≡◌, ◌++◌, map}
use Rattle.std.specs.Vec.Iter.{into_iter_items}
use Rattle.word_flip.specs.Tokens.{writer_value}
use Rattle.word_flip.proofs.flip.writers_of.Given as goal

abbrev pub invariant-loop-token : goal.invariant-loop-token
invariant-loop-token l = record {
  made : l.writers.items ≡ map writer_value l.yielded;
  rest : l.fn.tokens.items ≡ l.yielded ++ into_iter_items l.token-iterator;
}
