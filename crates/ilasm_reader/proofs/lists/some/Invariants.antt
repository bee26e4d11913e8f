use Rattle.std.proofs.Common.{length}
use Rattle.ilasm_tokens.specs.Steps.{many}
use Rattle.ilasm_tokens.proofs.Many.{Reading}
use Rattle.ilasm_reader.proofs.lists.some.Given as goal

abbrev pub invariant-loop-alloc : goal.invariant-loop-alloc
invariant-loop-alloc g l = Reading g.P.Starts.starts_at g.P.Parse.parsed_at (many g.P.Starts.starts_at g.P.Parse.parsed_at l.fn.tokens.now) l.items.items l.tokens.now

abbrev pub decreases-loop-alloc : goal.decreases-loop-alloc
decreases-loop-alloc g l = length l.tokens.now
