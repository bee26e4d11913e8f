use Rattle.std.proofs.Common.{◌≡◌, map, take, option_and_then}
use Rattle.name_tables.specs.Numbers.{declarations, class_number}
use Rattle.name_tables.proofs.members.base_numbers.Given as goal

abbrev pub invariant-loop-class : goal.invariant-loop-class
invariant-loop-class l = l.bases.items ≡ map (λ e. option_and_then (class_number l.classes.tree.now) e.1.base) (take l.class (declarations l.classes.tree.now))
