use Rattle.std.proofs.Common.{◌≡◌, map, take}
use Rattle.class_layout.specs.SlotUses.{slot_use_in}
use Rattle.class_layout.proofs.slot_uses.uses_by_class.Given as goal

abbrev pub invariant-loop-class : goal.invariant-loop-class
invariant-loop-class l = l.slot_uses.items ≡ map (λ r. slot_use_in l.identity r.methods) (take l.class-index l.classes)
