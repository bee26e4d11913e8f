use Rattle.std.proofs.Common.{ℕ, ◌==◌, ◌≡◌, false, Some, is_some, map, ap, ◌∙◌}
use Rattle.std.specs.List.{list_all}
use Rattle.cil_model.specs.declared.trees.Method.{Method}
use Rattle.inheritance.specs.Lines.{Ends}
use Rattle.inheritance.specs.ScopedTables.{nearest_from}
use Rattle.name_tables.specs.KeyIds.{number_in}
use Rattle.name_tables.specs.Methods.{identity_number, virtual_number, virtual_index, methods_at}
use Rattle.name_tables.proofs.MemberLaws.{of_tree, some_where_some}
use Rattle.name_tables.proofs.VirtualNumbers.{said_of_numbers, found_by_numbers}
use Rattle.name_tables.proofs.methods.MethodTables.first_absent.Goals as goal

pub returns-in-Ok-clause-found : goal.returns-in-Ok-clause-found
returns-in-Ok-clause-found c =
    let s = c.args.self.now in
    let names = s.names.now in
    let tables = s.overridable in
    let again : ℕ → ℕ = number_in (λ (a b : ℕ). a == b) tables.keys in
    let forest = tables.inheritance.forest in
    c.in-Ok.ensures.found ∙ ap (list_all (λ n. is_some (nearest_from forest (again n) forest.most (Some c.args.class)))) c.key_numbers-numbers.ensures ∙
    found_by_numbers names.classes.tree.now (identity_number names.methods.keys) (map (λ r. r.items) names.methods.inheritance.forest.declared.items) names.methods_are.numbers again forest s.overridable_are c.args.interface c.args.class

pub returns-in-Ok-clause-ended : goal.returns-in-Ok-clause-ended
returns-in-Ok-clause-ended c = λ some.
    let names = c.args.self.now.names.now in
    let t = c.args.self.now.names.now.classes.tree.now in
    let tables = c.args.self.now.overridable in
    let numbers = c.key_numbers-numbers.result.now in
    let same : list_all (λ n. false) numbers ≡ list_all (λ (m : Method). false) (methods_at t c.args.interface) =
    ap (list_all (λ n. false)) c.key_numbers-numbers.ensures ∙ said_of_numbers t (identity_number names.methods.keys) (map (λ r. r.items) names.methods.inheritance.forest.declared.items) names.methods_are.numbers (λ n. false) c.args.interface in
    of_tree t tables.inheritance.forest (virtual_number c.args.self.now.names.now.methods.keys tables.keys) (virtual_index t) c.args.self.now.overridable_are (λ bases most. Ends bases most c.args.class)
    (c.in-Ok.ensures.ended (some_where_some numbers (methods_at t c.args.interface) same some))

pub returns-in-Err-clause-cyclic : goal.returns-in-Err-clause-cyclic
returns-in-Err-clause-cyclic c =
    let t = c.args.self.now.names.now.classes.tree.now in
    let tables = c.args.self.now.overridable in
    of_tree t tables.inheritance.forest (virtual_number c.args.self.now.names.now.methods.keys tables.keys) (virtual_index t) c.args.self.now.overridable_are (λ bases most. ¬ Ends bases most c.args.class) c.in-Err.ensures.cyclic
