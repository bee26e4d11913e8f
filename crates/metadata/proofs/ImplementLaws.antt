-- The methods of listed interfaces, looked for by numbers.
use Rattle.std.proofs.Common.{◌≡◌, List}
use Rattle.std.specs.List.{list_any, list_all}
use Rattle.cil_model.specs.declared.types.ClassName.{ClassName}
use Rattle.cil_model.specs.declared.trees.Tree.{Tree}
use Rattle.cil_model.specs.declared.trees.Method.{Method}
use Rattle.cil_model.specs.Chains.{chain_of, methods_declared}
use Rattle.cil_model.specs.Legality.{implements_method}
use Rattle.name_tables.specs.Sameness.{identity_of}
use Rattle.name_tables.specs.Numbers.{chain_numbers}
use Rattle.resolved_code.specs.VirtualSlots.{is_virtual_found}
use Rattle.resolved_code.proofs.Numbers.Methods.{virtual_nearest}
use Rattle.resolved_code.proofs.ListLaws.Tests.{list_all_congr}

pub implemented : (tree : Tree) (c : ClassName) (is : List ClassName) →
    list_all (λ i. list_all (λ (m : Method). list_any (is_virtual_found tree (identity_of m)) (chain_numbers tree c)) (methods_declared tree i)) is ≡ list_all (λ i. list_all (implements_method tree c) (methods_declared tree i)) is
implemented tree c is =
    list_all_congr _ _ (λ i. list_all_congr (λ (m : Method). list_any (is_virtual_found tree (identity_of m)) (chain_numbers tree c)) (implements_method tree c) (λ m. virtual_nearest tree (identity_of m) (chain_of tree c)) (methods_declared tree i)) is
