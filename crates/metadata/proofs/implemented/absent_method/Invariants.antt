use Rattle.std.proofs.Common.{◌≡◌, map, drop}
use Rattle.std.specs.List.{list_any, list_all}
use Rattle.name_tables.specs.Methods.{line_of}
use Rattle.name_tables.specs.Sameness.{identity_of}
use Rattle.resolved_code.specs.VirtualSlots.{is_virtual_found}
use Rattle.metadata.proofs.implemented.absent_method.Given as goal

abbrev pub invariant-loop-index : goal.invariant-loop-index
invariant-loop-index l =
    list_all (λ m. list_any (is_virtual_found l.methods.names.now.classes.tree.now (identity_of m)) (line_of l.methods.names.now.classes.tree.now l.class)) (map (λ m. m.now) (drop l.index l.required)) ≡
    list_all (λ m. list_any (is_virtual_found l.methods.names.now.classes.tree.now (identity_of m)) (line_of l.methods.names.now.classes.tree.now l.class)) (map (λ m. m.now) l.required)
