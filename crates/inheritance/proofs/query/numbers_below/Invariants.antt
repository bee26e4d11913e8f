use Rattle.std.proofs.Common.{◌≡◌}
use Rattle.inheritance.specs.Query.{below}
use Rattle.inheritance.proofs.query.numbers_below.Given as goal

abbrev pub invariant-loop-number : goal.invariant-loop-number
invariant-loop-number l = l.numbers.items ≡ below l.number
