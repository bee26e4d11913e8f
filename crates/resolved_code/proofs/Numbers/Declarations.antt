-- Each class, field and method that a tree declares has a number.
use Rattle.std.proofs.Common.{◌≡◌, ℕ, List, Option, Some, None, option_map, option_and_then, slice_get, refl, sym, ap, ◌∙◌}
use Rattle.cil_model.specs.declared.types.ClassName.{ClassName}
use Rattle.cil_model.specs.declared.trees.Tree.{Tree}
use Rattle.cil_model.specs.declared.trees.Field.{Field}
use Rattle.cil_model.specs.declared.trees.Method.{Method}
use Rattle.cil_model.specs.Chains.{listed_by, fields_declared, methods_declared}
use Rattle.cil_model.specs.Declarations.{Declaration, declaration_of}
use Rattle.name_tables.specs.Numbers.{class_number, member_at, field_at, method_at}
use Rattle.name_tables.proofs.NumberLaws.{HasId, has_id, none_is_some}
use Rattle.resolved_code.specs.ById.{class_name}

module _ (tree : Tree) (c : ClassName) where
  pub class_has_number : (d : Declaration) → declaration_of tree c ≡ Some d → (n : ℕ) × (class_number tree c ≡ Some n) × (class_name tree n ≡ Some c)
  class_has_number d declared = by_number (class_number tree c) refl (has_id tree c)
    where
      by_number : (o : Option ℕ) → class_number tree c ≡ o → HasId tree c o → (n : ℕ) × (class_number tree c ≡ Some n) × (class_name tree n ≡ Some c)
      by_number None is none = absurd (none_is_some d (sym none ∙ declared))
      by_number (Some n) is found = (n, is, ap (option_map (λ (e : ClassName × Declaration). e.0)) found.2)

  -- a member of one kind is at the class's number and its own index
  member_has_number : {X : Type 0} (part : Declaration → List X) (p : ℕ) (x : X) → slice_get (listed_by part (declaration_of tree c)) p ≡ Some x →
      (n : ℕ) × (class_number tree c ≡ Some n) × (member_at part tree (n, p) ≡ Some (c, x))
  member_has_number {X} part p x listed = by_number (class_number tree c) refl (has_id tree c)
    where
      by_number : (o : Option ℕ) → class_number tree c ≡ o → HasId tree c o → (n : ℕ) × (class_number tree c ≡ Some n) × (member_at part tree (n, p) ≡ Some (c, x))
      by_number None is none = absurd (none_is_some x (sym (ap (λ o. slice_get (listed_by part o) p) none) ∙ listed))
      by_number (Some n) is found =
          let index : slice_get (part found.0) p ≡ Some x = sym (ap (λ o. slice_get (listed_by part o) p) found.1) ∙ listed in
          (n, is, ap (option_and_then (λ (e : ClassName × Declaration). option_map (λ y. (e.0, y)) (slice_get (part e.1) p))) found.2 ∙ ap (option_map (λ y. (c, y))) index)

  pub field_has_number : (p : ℕ) (f : Field) → slice_get (fields_declared tree c) p ≡ Some f → (n : ℕ) × (class_number tree c ≡ Some n) × (field_at tree (n, p) ≡ Some (c, f))
  field_has_number = member_has_number (λ d. d.fields)

  pub method_has_number : (p : ℕ) (m : Method) → slice_get (methods_declared tree c) p ≡ Some m → (n : ℕ) × (class_number tree c ≡ Some n) × (method_at tree (n, p) ≡ Some (c, m))
  method_has_number = member_has_number (λ d. d.methods)
