use Rattle.std.proofs.Common.{◌≡◌, map, drop}
use Rattle.std.specs.List.{list_any}
use Rattle.resolved_code.specs.VirtualSlots.{method_slot_is_abstract}
use Rattle.metadata.proofs.kinds.method_left_open.Given as goal

abbrev pub invariant-loop-index : goal.invariant-loop-index
invariant-loop-index l = list_any (method_slot_is_abstract l.names.classes.tree.now l.chain l.introduced) (map (λ m. m.now) (drop l.index l.methods)) ≡ list_any (method_slot_is_abstract l.names.classes.tree.now l.chain l.introduced) (map (λ m. m.now) l.methods)
