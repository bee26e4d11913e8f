use Rattle.std.proofs.Common.{◌≡◌, ◌==◌}
use Rattle.std.specs.List.{list_any}
use Rattle.inheritance.specs.Lines.{line_within}
use Rattle.name_tables.specs.Members.{base_numbers}
use Rattle.name_tables.specs.Methods.{line_of}
use Rattle.metadata.proofs.cycles.is_along.Given as goal

abbrev pub invariant-loop-left : goal.invariant-loop-left
invariant-loop-left l = list_any (λ n. n == l.required) (line_within (base_numbers l.names.classes.tree.now) l.left l.next) ≡ list_any (λ n. n == l.required) (line_of l.names.classes.tree.now l.fn.first)

abbrev pub decreases-loop-left : goal.decreases-loop-left
decreases-loop-left l = l.left
