use Rattle.std.proofs.Common.{◌≡◌, ◌++◌, length}
use Rattle.verifier.proofs.stacks.entries_of.Given as goal

abbrev pub invariant-loop-top : goal.invariant-loop-top
invariant-loop-top l = l.entries.items ++ l.stack ≡ l.fn.stack

abbrev pub decreases-loop-top : goal.decreases-loop-top
decreases-loop-top l = length l.stack
