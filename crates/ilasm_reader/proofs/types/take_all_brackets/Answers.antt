use Rattle.std.proofs.Common.{Some, ap}
use Rattle.ilasm_reader.specs.Parsing.{all_brackets_at}
use Rattle.ilasm_reader.proofs.BracketPairs.{begins, transitions, ends, less}
use Rattle.ilasm_reader.proofs.types.take_all_brackets.Goals as goal

pub loop-count-init : goal.loop-count-init
loop-count-init c = begins c.args.tokens.now.now

pub loop-count-smaller : goal.loop-count-smaller
loop-count-smaller c = less c.loop-count.tokens.now c.take_brackets.new.tokens.now c.loop-count-test.ensures

pub loop-count-preserved : goal.loop-count-preserved
loop-count-preserved c =
    rw c.in-Some.ensures.1 (transitions (all_brackets_at c.args.tokens.now.now) c.loop-count.count c.loop-count.tokens.now c.take_brackets.new.tokens.now c.loop-count.invariant c.loop-count-test.ensures)

pub returns : goal.returns
returns c = rw c.loop-count-test.ensures.1 (ap (λ x. Some x) (ends (all_brackets_at c.args.tokens.now.now) c.loop-count.count c.loop-count.tokens.now c.loop-count.invariant c.loop-count-test.ensures.0))
