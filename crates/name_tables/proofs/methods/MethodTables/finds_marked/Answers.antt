use Rattle.std.proofs.Common.{◌≡◌, ◌<◌, ◌+◌, true, Some, slice_get, sym, ap, ◌∙◌, arith, length, map}
use Rattle.std.proofs.lemmas.List.{length-map}
use Rattle.inheritance.specs.Lines.{Ends}
use Rattle.inheritance.specs.ScopedTables.{nearest_from}
use Rattle.inheritance.specs.MarkedDeclarations.{is_marked}
use Rattle.name_tables.specs.declared.keys.MethodKey.{MethodKey}
use Rattle.name_tables.specs.KeyIds.{number_in}
use Rattle.name_tables.specs.Keys.{method_of_key}
use Rattle.name_tables.specs.Methods.{identity_number, method_index, line_of}
use Rattle.name_tables.specs.Numbers.{nearest_number}
use Rattle.name_tables.specs.Sameness.{MethodIdentity, same_identity}
use Rattle.name_tables.proofs.KeyNumbers.{number_within, number_of_view}
use Rattle.name_tables.proofs.MemberLaws.{nearest_on_line, of_tree, marked_index, mapped_from}
use Rattle.inheritance.proofs.Results.{if_ok}
use Rattle.name_tables.proofs.methods.MethodTables.finds_marked.Goals as goal

pub returns-clause-unmarked : goal.returns-clause-unmarked
returns-clause-unmarked c = if_ok c.finds_marked.result c.finds_marked.ensures.unmarked (λ found unmarked class k e.
    let t = c.args.self.now.names.now.classes.tree.now in
    let all = c.args.self.now.names.now.methods in
    let marks = map (λ v. v.items) c.args.marks.now in
    let low : identity_number all.keys k < length (map method_of_key all.keys) + 1 = number_within same_identity (map method_of_key all.keys) k in
    let none = unmarked class (identity_number all.keys k) e (omega (arith, low, all.within, length-map all.keys method_of_key)) in
    sym (ap (is_marked marks) (nearest_on_line t all.inheritance.forest (identity_number all.keys) (method_index t) c.args.self.now.names.now.methods_are.table k class)) ∙ none)

pub returns-clause-width : goal.returns-clause-width
returns-clause-width c = if_ok c.finds_marked.result c.finds_marked.ensures.width (λ found width. width ∙ ap length c.args.self.now.names.now.methods_are.table.bases)

pub returns-clause-ended : goal.returns-clause-ended
returns-clause-ended c = if_ok c.finds_marked.result c.finds_marked.ensures.ended (λ found ended class e.
    let t = c.args.self.now.names.now.classes.tree.now in
    let all = c.args.self.now.names.now.methods in
    of_tree t all.inheritance.forest (identity_number all.keys) (method_index t) c.args.self.now.names.now.methods_are.table (λ bases most. Ends bases most class) (ended class e))

pub returns-clause-marked : goal.returns-clause-marked
returns-clause-marked c = if_ok c.finds_marked.result c.finds_marked.ensures.marked (λ marking finds class e.
    let t = c.args.self.now.names.now.classes.tree.now in
    let all = c.args.self.now.names.now.methods in
    let forest = all.inheritance.forest in
    let marks = map (λ v. v.items) c.args.marks.now in
    let marked : Type 0 = (k : MethodIdentity) × (is_marked marks (nearest_number (method_index t k) (line_of t (Some class))) ≡ true) in
    let of_forest : Ends forest.bases.items forest.most class → marked = λ ends.
    let found = finds class e ends in
    let index = marked_index marks forest found.0 class found.2 in
    let from = mapped_from (number_in (λ (a b : MethodKey). same_identity (method_of_key a) (method_of_key b)) all.keys) (slice_get all.keys found.0) found.0 (all.has_id found.0 index.0.0 index.0.1 index.1) in
    let k = method_of_key from.0 in
    let at : identity_number all.keys k ≡ found.0 = sym (number_of_view method_of_key same_identity all.keys from.0) ∙ from.1 in
    let same = nearest_on_line t forest (identity_number all.keys) (method_index t) c.args.self.now.names.now.methods_are.table k class in
    (k, sym (ap (is_marked marks) (sym (ap (λ n. nearest_from forest n forest.most (Some class)) at) ∙ same)) ∙ found.2) in
    of_tree t forest (identity_number all.keys) (method_index t) c.args.self.now.names.now.methods_are.table (λ bases most. Ends bases most class → marked) of_forest)
