use Rattle.std.proofs.Common.{ℕ, ◌==◌, length, arith, ◌≡◌, ℕ, Bool, Some, Option, is_some, length, map, nat_lt, not, ap, ◌∙◌}
use Rattle.std.specs.List.{list_all}
use Rattle.cil_model.specs.declared.trees.Method.{Method}
use Rattle.inheritance.specs.Lines.{Ends}
use Rattle.inheritance.specs.ScopedTables.{nearest_from}
use Rattle.name_tables.specs.KeyIds.{number_in}
use Rattle.name_tables.specs.Methods.{identity_number, virtual_number, virtual_index, line_of, methods_at}
use Rattle.name_tables.specs.Numbers.{nearest_number}
use Rattle.name_tables.specs.Sameness.{identity_of}
use Rattle.name_tables.proofs.MemberLaws.{of_tree}
use Rattle.name_tables.proofs.KeyNumbers.{number_within}
use Rattle.name_tables.proofs.VirtualNumbers.{all_of_map, are_keys, found_by_numbers, some_none}
use Rattle.inheritance.proofs.Results.{if_ok}
use Rattle.name_tables.proofs.methods.MethodTables.lacks_some.Goals as goal

pub finds_nothing-requires : goal.finds_nothing-requires
finds_nothing-requires c =
    let tables = c.args.self.now.overridable in
    let again : ℕ → ℕ = number_in (λ (a b : ℕ). a == b) tables.keys in
    let keys = tables.inheritance.forest.keys in
    ap (list_all (λ n. nat_lt n keys)) (c.as_slice.ensures.value ∙ c.in_ok-numbers.ensures) ∙ are_keys again keys (λ n. let low = number_within (λ (a b : ℕ). a == b) tables.keys n in omega (arith, low, tables.within)) c.key_numbers.result.now

pub returns-clause-width : goal.returns-clause-width
returns-clause-width c = if_ok c.finds_nothing.result c.finds_nothing.ensures.width (λ lacking width. width ∙ ap length c.args.self.now.overridable_are.bases)

pub returns-clause-ended : goal.returns-clause-ended
returns-clause-ended c = if_ok c.finds_nothing.result c.finds_nothing.ensures.ended (λ lacking ended class e.
    let t = c.args.self.now.names.now.classes.tree.now in
    let tables = c.args.self.now.overridable in
    of_tree t tables.inheritance.forest (virtual_number c.args.self.now.names.now.methods.keys tables.keys) (virtual_index t) c.args.self.now.overridable_are (λ bases most. Ends bases most class) (ended class e))

pub returns-clause-reported : goal.returns-clause-reported
returns-clause-reported c = if_ok c.finds_nothing.result c.finds_nothing.ensures.reported (λ lacking reported class b e.
    let s = c.args.self.now in
    let t = s.names.now.classes.tree.now in
    let tables = s.overridable in
    let forest = tables.inheritance.forest in
    let again : ℕ → ℕ = number_in (λ (a b : ℕ). a == b) tables.keys in
    let found : ℕ → Option (ℕ × ℕ) = λ n. nearest_from forest n forest.most (Some class) in
    let all : Bool = list_all (λ (m : Method). is_some (nearest_number (virtual_index t (identity_of m)) (line_of t (Some class)))) (methods_at t c.args.interface) in
    let has_id : c.as_slice.result.now ≡ map again c.key_numbers.result.now = c.as_slice.ensures.value ∙ c.in_ok-numbers.ensures in
    let of_numbers : list_all (λ n. is_some (found n)) c.as_slice.result.now ≡ all =
    ap (list_all (λ n. is_some (found n))) has_id ∙ all_of_map again (λ n. is_some (found n)) c.key_numbers.result.now ∙ ap (list_all (λ n. is_some (found (again n)))) c.key_numbers.ensures ∙
    found_by_numbers t (identity_number s.names.now.methods.keys) (map (λ r. r.items) s.names.now.methods.inheritance.forest.declared.items) s.names.now.methods_are.numbers again forest s.overridable_are c.args.interface class in
    let of_forest : Ends forest.bases.items forest.most class → b ≡ not all = λ ends.
    reported class b e ends ∙ some_none found c.as_slice.result.now ∙ ap not of_numbers in
    of_tree t forest (virtual_number c.args.self.now.names.now.methods.keys tables.keys) (virtual_index t) s.overridable_are (λ bases most. Ends bases most class → b ≡ not all) of_forest)
