use Rattle.metadata.specs.OpenSlots.{AreClear}
use Rattle.metadata.proofs.open_slots.hiding_classes.Given as goal

abbrev pub invariant-loop-index : goal.invariant-loop-index
invariant-loop-index l = AreClear l.methods.names.now.classes.tree.now l.may_hide.items
