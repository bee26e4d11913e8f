use Rattle.std.proofs.Common.{◌≡◌, drop}
use Rattle.std.specs.List.{list_any}
use Rattle.resolved_code.specs.VirtualSlots.{class_has_abstract_slot}
use Rattle.metadata.proofs.kinds.first_left_open.Given as goal

abbrev pub invariant-loop-class : goal.invariant-loop-class
invariant-loop-class l = list_any (class_has_abstract_slot l.names.classes.tree.now l.chain) (drop l.class-index l.classes) ≡ list_any (class_has_abstract_slot l.names.classes.tree.now l.chain) l.classes
