use Rattle.std.proofs.Common.{◌≡◌, drop}
use Rattle.class_layout.specs.SlotUses.{slot_along}
use Rattle.class_layout.proofs.method_families.MethodFamilies.slot_along.Given as goal

abbrev pub invariant-loop-index : goal.invariant-loop-index
invariant-loop-index l = l.slot ≡ slot_along l.self.classes.now.all.now l.self.identity (drop l.index l.chain)
