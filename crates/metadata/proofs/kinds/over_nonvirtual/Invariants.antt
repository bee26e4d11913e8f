use Rattle.std.proofs.Common.{◌≡◌, map, drop}
use Rattle.std.specs.List.{list_any}
use Rattle.cil_model.specs.Declarations.{source_name}
use Rattle.cil_model.specs.Legality.{overrides_no_virtual}
use Rattle.metadata.proofs.kinds.over_nonvirtual.Given as goal

abbrev pub invariant-loop-method : goal.invariant-loop-method
invariant-loop-method l = list_any (overrides_no_virtual l.tables.names.now.classes.tree.now (source_name l.class)) (map (λ m. m.now) (drop l.method l.methods)) ≡ list_any (overrides_no_virtual l.tables.names.now.classes.tree.now (source_name l.class)) (map (λ m. m.now) l.methods)
