use Rattle.std.proofs.Common.{◌≡◌, drop}
use Rattle.verifier.proofs.stacks.stack_of.Given as goal

abbrev pub invariant-loop-pc : goal.invariant-loop-pc
invariant-loop-pc l = l.stack ≡ drop l.pc l.kept
