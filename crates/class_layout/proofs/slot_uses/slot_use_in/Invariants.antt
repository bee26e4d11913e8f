use Rattle.std.proofs.Common.{◌≡◌, drop}
use Rattle.class_layout.specs.SlotUses.{slot_use_in}
use Rattle.class_layout.proofs.slot_uses.slot_use_in.Given as goal

abbrev pub invariant-loop-method : goal.invariant-loop-method
invariant-loop-method l = slot_use_in l.identity (drop l.method-index l.methods) ≡ slot_use_in l.identity l.methods
