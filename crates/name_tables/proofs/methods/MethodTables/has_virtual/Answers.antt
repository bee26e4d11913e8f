use Rattle.std.proofs.Common.{◌≡◌, ◌==◌, ℕ, Option, Some, None, is_some, option_map, refl, sym, ap, ◌∙◌}
use Rattle.inheritance.specs.Lines.{Ends}
use Rattle.inheritance.specs.ScopedTables.{nearest_from}
use Rattle.name_tables.specs.KeyIds.{number_in}
use Rattle.name_tables.specs.Keys.{method_of_key}
use Rattle.name_tables.specs.Methods.{virtual_number, virtual_index}
use Rattle.name_tables.specs.Sameness.{same_identity}
use Rattle.name_tables.proofs.KeyNumbers.{number_of_view}
use Rattle.name_tables.proofs.MemberLaws.{nearest_on_line, of_tree}
use Rattle.name_tables.proofs.methods.MethodTables.has_virtual.Goals as goal

is_some-map : {X Y : Type 0} (f : X → Y) (o : Option X) → is_some (option_map f o) ≡ is_some o
is_some-map f None = refl
is_some-map f (Some x) = refl

pub returns-in-Ok-clause-found : goal.returns-in-Ok-clause-found
returns-in-Ok-clause-found c =
    let t = c.args.self.now.names.now.classes.tree.now in
    let all = c.args.self.now.overridable in
    let forest = all.inheritance.forest in
    let methods = c.args.self.now.names.now.methods in
    let found = c.method_id.ensures ∙ c.in-Ok.ensures.found ∙ ap (λ n. nearest_from forest (number_in (λ (a b : ℕ). a == b) all.keys n) forest.most (Some c.args.class)) (c.number_of.ensures ∙ number_of_view method_of_key same_identity methods.keys c.args.key) ∙
    nearest_on_line t forest (virtual_number methods.keys all.keys) (virtual_index t) c.args.self.now.overridable_are (method_of_key c.args.key) c.args.class in
    c.is_some.ensures ∙ sym (is_some-map (λ m. (m.class, m.index)) c.method_id.result) ∙ ap is_some found

pub returns-in-Ok-clause-ended : goal.returns-in-Ok-clause-ended
returns-in-Ok-clause-ended c =
    let t = c.args.self.now.names.now.classes.tree.now in
    let tables = c.args.self.now.overridable in
    of_tree t tables.inheritance.forest (virtual_number c.args.self.now.names.now.methods.keys tables.keys) (virtual_index t) c.args.self.now.overridable_are (λ bases most. Ends bases most c.args.class) c.in-Ok.ensures.ended

pub returns-in-Err-clause-cyclic : goal.returns-in-Err-clause-cyclic
returns-in-Err-clause-cyclic c =
    let t = c.args.self.now.names.now.classes.tree.now in
    let tables = c.args.self.now.overridable in
    of_tree t tables.inheritance.forest (virtual_number c.args.self.now.names.now.methods.keys tables.keys) (virtual_index t) c.args.self.now.overridable_are (λ bases most. ¬ Ends bases most c.args.class) c.in-Err.ensures.cyclic
