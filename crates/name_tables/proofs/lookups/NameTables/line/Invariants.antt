use Rattle.std.proofs.Common.{◌≡◌, ◌++◌, Some}
use Rattle.cil_model.specs.Chains.{longest_chain}
use Rattle.inheritance.specs.Lines.{line_within}
use Rattle.name_tables.specs.Members.{base_numbers}
use Rattle.name_tables.proofs.lookups.NameTables.line.Given as goal

abbrev pub invariant-loop-left : goal.invariant-loop-left
invariant-loop-left l = l.line.items ++ line_within (base_numbers l.self.classes.tree.now) l.left l.next ≡ line_within (base_numbers l.self.classes.tree.now) (longest_chain l.self.classes.tree.now) (Some l.fn.class)

abbrev pub decreases-loop-left : goal.decreases-loop-left
decreases-loop-left l = l.left
