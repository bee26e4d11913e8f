use Rattle.std.proofs.Common.{length}
use Rattle.ilasm_reader.specs.Parsing.{all_brackets_at}
use Rattle.ilasm_reader.proofs.BracketPairs.{Counting}
use Rattle.ilasm_reader.proofs.types.take_all_brackets.Given as goal

abbrev pub invariant-loop-count : goal.invariant-loop-count
invariant-loop-count l = Counting (all_brackets_at l.fn.tokens.now) l.count l.tokens.now

abbrev pub decreases-loop-count : goal.decreases-loop-count
decreases-loop-count l = length l.tokens.now
