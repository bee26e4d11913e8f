use Rattle.std.proofs.Common.{Option, Some, ap, ◌∙◌, Bool, List, ℕ}
use Rattle.std.specs.List.{list_any, list_all}
use Rattle.cil_model.specs.declared.types.ClassName.{ClassName}
use Rattle.cil_model.specs.declared.trees.Method.{Method}
use Rattle.cil_model.specs.Chains.{methods_declared, longest_chain}
use Rattle.cil_model.specs.Declarations.{source_name, interfaces_named}
use Rattle.name_tables.specs.Methods.{line_of}
use Rattle.name_tables.specs.Numbers.{class_number, chain_numbers}
use Rattle.name_tables.specs.Sameness.{identity_of}
use Rattle.name_tables.proofs.MemberLaws.{line_is_chain}
use Rattle.resolved_code.specs.VirtualSlots.{is_virtual_found}
use Rattle.metadata.proofs.ImplementLaws.{implemented}
use Rattle.metadata.proofs.implemented.absent_in_class.Goals as goal

pub returns : goal.returns
returns c =
    let t = c.args.methods.now.names.now.classes.tree.now in
    let k = c.args.class.now in
    let all : List ℕ → List ClassName → Bool = λ ns is. list_all (λ i. list_all (λ (m : Method). list_any (is_virtual_found t (identity_of m)) ns) (methods_declared t i)) is in
    c.absent_in_list.ensures ∙ ap (λ (o : Option ℕ). all (line_of t o) c.interfaces_named.result.now) (c.id-own.ensures ∙ ap (class_number t) c.of_source.ensures) ∙
    ap (λ ns. all ns c.interfaces_named.result.now) (line_is_chain t (longest_chain t) (Some (source_name k))) ∙ ap (all (chain_numbers t (source_name k))) c.interfaces_named.ensures ∙ implemented t (source_name k) (interfaces_named k.kind)
