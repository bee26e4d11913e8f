use Rattle.std.proofs.Common.{length}
use Rattle.ilasm_reader.specs.Parsing.{starts_comma, after_comma, commas_at}
use Rattle.ilasm_tokens.proofs.Many.{Reading}
use Rattle.ilasm_reader.proofs.lists.commas.Given as goal

abbrev pub invariant-loop-alloc : goal.invariant-loop-alloc
invariant-loop-alloc g l = Reading starts_comma (after_comma g.P.Parse.parsed_at) (commas_at g.P.Parse.parsed_at l.fn.tokens.now) l.items.items l.tokens.now

abbrev pub decreases-loop-alloc : goal.decreases-loop-alloc
decreases-loop-alloc g l = length l.tokens.now
