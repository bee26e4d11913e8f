use Rattle.std.proofs.Common.{◌≡◌, drop}
use Rattle.std.specs.List.{list_any, list_all}
use Rattle.cil_model.specs.Chains.{methods_declared}
use Rattle.name_tables.specs.Methods.{line_of}
use Rattle.name_tables.specs.Sameness.{identity_of}
use Rattle.resolved_code.specs.VirtualSlots.{is_virtual_found}
use Rattle.metadata.proofs.implemented.absent_in_list.Given as goal

abbrev pub invariant-loop-interface : goal.invariant-loop-interface
invariant-loop-interface l = list_all (λ i. list_all (λ m. list_any (is_virtual_found l.methods.names.now.classes.tree.now (identity_of m)) (line_of l.methods.names.now.classes.tree.now l.class)) (methods_declared l.methods.names.now.classes.tree.now i)) (drop l.interface l.interfaces) ≡ list_all (λ i. list_all (λ m. list_any (is_virtual_found l.methods.names.now.classes.tree.now (identity_of m)) (line_of l.methods.names.now.classes.tree.now l.class)) (methods_declared l.methods.names.now.classes.tree.now i)) l.interfaces
