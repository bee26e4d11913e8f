use Rattle.std.proofs.Common.{◌≡◌, drop}
use Rattle.std.specs.List.{list_all}
use Rattle.metadata.proofs.UnknownLaws.{is_class}
use Rattle.metadata.proofs.unknown.unknown_in_headings.Given as goal

abbrev pub invariant-loop-class : goal.invariant-loop-class
invariant-loop-class l = list_all (is_class l.names.classes.tree.now) (drop l.class l.declared-items) ≡ list_all (is_class l.names.classes.tree.now) l.declared-items
