use Rattle.std.proofs.Common.{◌≡◌, map, drop}
use Rattle.std.specs.List.{list_any}
use Rattle.name_tables.specs.Methods.{line_of}
use Rattle.metadata.specs.OpenSlots.{hides_one}
use Rattle.metadata.proofs.open_slots.may_hide_one.Given as goal

abbrev pub invariant-loop-method : goal.invariant-loop-method
invariant-loop-method l =
    list_any (hides_one l.methods.names.now.classes.tree.now (line_of l.methods.names.now.classes.tree.now l.base)) (map (λ m. m.now) (drop l.method-index l.own)) ≡
    list_any (hides_one l.methods.names.now.classes.tree.now (line_of l.methods.names.now.classes.tree.now l.base)) (map (λ m. m.now) l.own)
