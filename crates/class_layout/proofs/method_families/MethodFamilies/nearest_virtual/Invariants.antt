use Rattle.std.proofs.Common.{◌≡◌, drop}
use Rattle.std.specs.Prelude.{find}
use Rattle.class_layout.specs.SlotUses.{is_virtual_at}
use Rattle.class_layout.proofs.method_families.MethodFamilies.nearest_virtual.Given as goal

abbrev pub invariant-loop-class : goal.invariant-loop-class
invariant-loop-class l = find (is_virtual_at l.self.classes.now.all.now l.self.identity) (drop l.class-index l.chain) ≡ find (is_virtual_at l.self.classes.now.all.now l.self.identity) l.chain
