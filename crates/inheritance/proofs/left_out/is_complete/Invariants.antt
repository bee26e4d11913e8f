use Rattle.std.proofs.Common.{ℕ, ◌<◌}
use Rattle.inheritance.specs.ScopedTables.{IsLeftOut, HasBaseLeftOut}
use Rattle.inheritance.proofs.left_out.is_complete.Given as goal

abbrev pub invariant-loop-class : goal.invariant-loop-class
invariant-loop-class l = (n : ℕ) → n < l.class → IsLeftOut l.forest.bases.items l.scoped_table.entries.items n → HasBaseLeftOut l.forest.bases.items l.scoped_table.entries.items n
