use Rattle.std.proofs.Common.{take}
use Rattle.class_layout.proofs.Marks.{AreMarks}
use Rattle.class_layout.proofs.ancestry.marks.Given as goal

abbrev pub invariant-loop-class : goal.invariant-loop-class
invariant-loop-class l = AreMarks l.marks.items l.count (take l.class-index l.classes)
