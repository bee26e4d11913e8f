use Rattle.inheritance.specs.ScopedTables.{IsCorrect}
use Rattle.inheritance.proofs.inheritance.search.Given as goal

abbrev pub invariant-loop-time : goal.invariant-loop-time
invariant-loop-time l = IsCorrect l.forest l.time l.scoped_table
