use Rattle.std.proofs.Common.{◌≡◌, ◌==◌, ◌&&◌, not, drop}
use Rattle.std.specs.List.{position_from}
use Rattle.class_layout.specs.SlotUses.{is_static_by_id, own_index}
use Rattle.class_layout.proofs.slot_uses.own_index.Given as goal

abbrev pub invariant-loop-index : goal.invariant-loop-index
invariant-loop-index l = position_from (λ r. (l.identity == r.identity) && not (is_static_by_id r.kind)) l.index (drop l.index l.methods) ≡ own_index l.identity l.methods
