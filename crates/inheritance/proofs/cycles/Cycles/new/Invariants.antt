use Rattle.inheritance.proofs.CyclesFound.{HaveWalked, MetNone}
use Rattle.inheritance.proofs.cycles.Cycles.new.Given as goal

abbrev pub invariant-loop-start : goal.invariant-loop-start
invariant-loop-start l = HaveWalked l.bases l.walks.items l.marks.items l.start × MetNone l.classes.items l.marks.items
