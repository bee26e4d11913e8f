use Rattle.std.proofs.Common.{◌≡◌, length, map}
use Rattle.flow_rules.specs.Merging.{AreLines}
use Rattle.flow_rules.proofs.type_tree.TypeTree.rows.Given as goal

abbrev pub invariant-loop-class : goal.invariant-loop-class
invariant-loop-class l = (length l.rows.items ≡ l.class) × AreLines l.self (map (λ row. row.items) l.rows.items)
