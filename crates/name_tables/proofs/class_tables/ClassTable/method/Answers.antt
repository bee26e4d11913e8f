use Rattle.std.proofs.Common.{◌≡◌, sym, ap, ◌∙◌, Some, None, slice_get, option_map}
use Rattle.std.specs.List.{position_from}
use Rattle.std.proofs.lemmas.Option.{slice_get-map}
use Rattle.cil_model.specs.declared.trees.Method.{Method}
use Rattle.name_tables.specs.Entries.{declaration_in}
use Rattle.name_tables.specs.Keys.{method_of_key}
use Rattle.name_tables.specs.Sameness.{same_identity, identity_of}
use Rattle.name_tables.proofs.NumberLaws.{position_from-map, found_none, found_some}
use Rattle.name_tables.proofs.class_tables.ClassTable.method.Goals as goal

pub returns-in-None : goal.returns-in-None
returns-in-None c =
    let k = method_of_key c.args.key in
    let ms = (declaration_in c.args.self.now.class).methods in
    let e : position_from (λ (m : Method). same_identity k (identity_of m)) 0 ms ≡ None =
    sym (position_from-map identity_of (same_identity k) 0 ms) ∙ sym (ap (position_from (same_identity k) 0) c.args.self.now.methods_are) ∙ position_from-map method_of_key (same_identity k) 0 c.args.self.now.methods ∙ sym c.in-None.ensures in
    sym (found_none (λ (m : Method). same_identity k (identity_of m)) ms e)

pub returns-in-Some : goal.returns-in-Some
returns-in-Some c =
    let k = method_of_key c.args.key in
    let ms = (declaration_in c.args.self.now.class).methods in
    let e : position_from (λ (m : Method). same_identity k (identity_of m)) 0 ms ≡ Some c.in-Some.index =
    sym (position_from-map identity_of (same_identity k) 0 ms) ∙ sym (ap (position_from (same_identity k) 0) c.args.self.now.methods_are) ∙ position_from-map method_of_key (same_identity k) 0 c.args.self.now.methods ∙ sym c.in-Some.ensures in
    ap (option_map (λ m. m.now)) (c.method_at.ensures ∙ ap (λ xs. slice_get xs c.in-Some.index) c.as_slice.ensures.value) ∙ sym (slice_get-map (λ m. m.now) c.args.self.now.class.methods.items c.in-Some.index) ∙
    found_some (λ (m : Method). same_identity k (identity_of m)) ms c.in-Some.index e
