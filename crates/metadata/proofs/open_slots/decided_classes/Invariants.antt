use Rattle.std.proofs.Common.{◌≡◌, length}
use Rattle.metadata.specs.OpenSlots.{AreDecided}
use Rattle.metadata.proofs.open_slots.decided_classes.Given as goal

abbrev pub invariant-loop-class : goal.invariant-loop-class
invariant-loop-class l = (length l.decided.items ≡ l.class) × AreDecided l.methods.names.now.classes.tree.now l.decided.items
