-- The methods of classes by their numbers are those by their names.
use Rattle.std.proofs.Common.{◌≡◌, ℕ, true, false, cond, ◌||◌, List, [], ◌∷◌, Option, Some, None, is_some, option_and_then, slice_get, refl, sym, ap, subst, ◌∙◌}
use Rattle.std.specs.Prelude.{find, filter_map}
use Rattle.std.specs.List.{list_any, cons_option}
use Rattle.std.specs.Option.{option_map_or}
use Rattle.cil_model.specs.declared.types.ClassName.{ClassName}
use Rattle.cil_model.specs.declared.trees.Tree.{Tree}
use Rattle.cil_model.specs.declared.trees.Method.{Method}
use Rattle.cil_model.specs.Declarations.{Declaration, declaration_of}
use Rattle.cil_model.specs.Chains.{listed_by, method_declared, nearest, is_virtual}
use Rattle.cil_model.specs.Slots.{virtual_in}
use Rattle.name_tables.specs.Sameness.{MethodIdentity, same_identity, identity_of}
use Rattle.name_tables.specs.SamenessLaws.{identity_equivalence}
use Rattle.name_tables.specs.Numbers.{declarations, class_number, method_found}
use Rattle.name_tables.proofs.NumberLaws.{HasId, has_id, find_congr, declared_at_none}
use Rattle.resolved_code.specs.VirtualSlots.{is_virtual_found}

module _ (tree : Tree) where
  -- what a class's number finds
  pub found_by_number : (k : MethodIdentity) (c : ClassName) (n : ℕ) → class_number tree c ≡ Some n → method_found tree k n ≡ method_declared tree k.name k.signature c
  found_by_number k c n e =
      let found : (d : Declaration) × (declaration_of tree c ≡ Some d) × (slice_get (declarations tree) n ≡ Some (c, d)) = subst (HasId tree c) e (has_id tree c) in
      ap (option_and_then (λ (y : ClassName × Declaration). find (λ (m : Method). same_identity k (identity_of m)) y.1.methods)) found.2 ∙
      find_congr (λ (m : Method). same_identity k (identity_of m)) (λ (m : Method). same_identity (identity_of m) k) (λ m. identity_equivalence.symm k (identity_of m)) found.0.methods ∙
      sym (ap (λ z. find (λ (m : Method). same_identity (identity_of m) k) (listed_by (λ d. d.methods) z)) found.1)

  -- a name that refers to nothing has no methods
  pub nothing_found : (k : MethodIdentity) (c : ClassName) → class_number tree c ≡ None → method_declared tree k.name k.signature c ≡ None
  nothing_found k c e = ap (λ z. find (λ (m : Method). same_identity (identity_of m) k) (listed_by (λ d. d.methods) z)) (declared_at_none tree c e)

  -- ---- virtual methods

  is_some-virtual : (o : Option Method) → is_some (option_and_then (λ (m : Method). cond (is_virtual m.kind) (Some m) None) o) ≡ option_map_or (λ (m : Method). is_virtual m.kind) o false
  is_some-virtual None = refl
  is_some-virtual (Some m) = elim (is_virtual m.kind) as (λ b. is_some (cond b (Some m) None) ≡ b) [ true ↦ refl | false ↦ refl ]

  is_some-nearest : {X : Type 0} (c : ClassName) (o : Option X) (rest : Option (ClassName × X)) → is_some (option_map_or (λ x. Some (c, x)) o rest) ≡ is_some o || is_some rest
  is_some-nearest c None rest = refl
  is_some-nearest c (Some x) rest = refl

  pub virtual_nearest : (k : MethodIdentity) (cs : List ClassName) → list_any (is_virtual_found tree k) (filter_map (class_number tree) cs) ≡ is_some (nearest (virtual_in tree k.name k.signature) cs)
  virtual_nearest k [] = refl
  virtual_nearest k (c ∷ cs) = by_number (class_number tree c) refl (virtual_nearest k cs) ∙ sym (is_some-nearest c (virtual_in tree k.name k.signature c) (nearest (virtual_in tree k.name k.signature) cs))
    where
      by_number : (o : Option ℕ) → class_number tree c ≡ o → list_any (is_virtual_found tree k) (filter_map (class_number tree) cs) ≡ is_some (nearest (virtual_in tree k.name k.signature) cs) →
          list_any (is_virtual_found tree k) (cons_option o (filter_map (class_number tree) cs)) ≡ is_some (virtual_in tree k.name k.signature c) || is_some (nearest (virtual_in tree k.name k.signature) cs)
      by_number None e further =
          further ∙ sym (ap (λ o. is_some (option_and_then (λ (m : Method). cond (is_virtual m.kind) (Some m) None) o) || is_some (nearest (virtual_in tree k.name k.signature) cs)) (nothing_found k c e))
      by_number (Some n) e further =
          ap (λ b. is_virtual_found tree k n || b) further ∙
          ap (λ o. option_map_or (λ (m : Method). is_virtual m.kind) o false || is_some (nearest (virtual_in tree k.name k.signature) cs)) (found_by_number k c n e) ∙
          ap (λ b. b || is_some (nearest (virtual_in tree k.name k.signature) cs)) (sym (is_some-virtual (method_declared tree k.name k.signature c)))
