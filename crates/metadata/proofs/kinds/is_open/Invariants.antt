use Rattle.std.proofs.Common.{◌≡◌, drop}
use Rattle.name_tables.specs.Keys.{method_of_key}
use Rattle.resolved_code.specs.VirtualSlots.{slot_by_id, abstract_by_id}
use Rattle.metadata.proofs.kinds.is_open.Given as goal

abbrev pub invariant-loop-index : goal.invariant-loop-index
invariant-loop-index l = (l.slot ≡ slot_by_id l.names.classes.tree.now (method_of_key l.key) (drop l.index l.chain)) × (l.is_open ≡ abstract_by_id l.names.classes.tree.now (method_of_key l.key) l.required (drop l.index l.chain))
