use Rattle.std.proofs.Common.{◌≡◌, Some}
use Rattle.inheritance.specs.Lines.{line_within}
use Rattle.name_tables.specs.Keys.{method_of_key}
use Rattle.name_tables.specs.Members.{base_numbers}
use Rattle.name_tables.specs.Methods.{line_of}
use Rattle.resolved_code.specs.VirtualSlots.{concrete_by_id}
use Rattle.metadata.proofs.kinds.nonvirtual_along.Given as goal

abbrev pub invariant-loop-left : goal.invariant-loop-left
invariant-loop-left l =
    concrete_by_id l.names.classes.tree.now (method_of_key l.key) (line_within (base_numbers l.names.classes.tree.now) l.left l.next) ≡ concrete_by_id l.names.classes.tree.now (method_of_key l.key) (line_of l.names.classes.tree.now (Some l.fn.first))

abbrev pub decreases-loop-left : goal.decreases-loop-left
decreases-loop-left l = l.left
