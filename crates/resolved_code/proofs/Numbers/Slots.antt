-- Slots by the numbers of classes are those by their names.
use Rattle.std.proofs.Common.{◌≡◌, ◌==◌, ℕ, Bool, true, false, cond, not, ◌&&◌, ◌||◌, List, [], ◌∷◌, Option, Some, None, option_and_then, slice_get, refl, sym, ap, subst, ◌∙◌}
use Rattle.std.specs.Prelude.{filter_map, unwrap_or}
use Rattle.std.specs.List.{list_any, cons_option}
use Rattle.std.specs.Option.{option_map_or}
use Rattle.cil_model.specs.declared.types.ClassName.{ClassName}
use Rattle.cil_model.specs.declared.trees.Tree.{Tree}
use Rattle.cil_model.specs.declared.trees.Method.{Method}
use Rattle.cil_model.specs.Same.{same_class, same_options}
use Rattle.cil_model.specs.Declarations.{Declaration, declaration_of}
use Rattle.cil_model.specs.Chains.{listed_by, chain_of, methods_declared, method_declared, nearest, is_virtual, is_new_slot_method, is_abstract_method}
use Rattle.cil_model.specs.Slots.{slot_filled, slot_along, implementation_along, class_target}
use Rattle.cil_model.specs.Legality.{is_filled_abstract, is_found_not_virtual, has_abstract_slot}
use Rattle.cil_model.proofs.Lists.{list_any_congr}
use Rattle.cil_model.proofs.SameLaws.{class_equivalence}
use Rattle.name_tables.specs.Sameness.{MethodIdentity, identity_of}
use Rattle.name_tables.specs.Numbers.{declarations, class_number, chain_numbers, method_found}
use Rattle.name_tables.proofs.NumberLaws.{HasId, has_id, declared_at_none}
use Rattle.resolved_code.proofs.Numbers.Classes.{number_equal}
use Rattle.resolved_code.specs.VirtualSlots.{slot_filled_at, slot_from_base, slot_by_id, abstract_from_base, abstract_by_id, is_slot_abstract, class_has_abstract_slot, concrete_by_id}
use Rattle.resolved_code.proofs.Numbers.Methods.{found_by_number, nothing_found}

module _ (tree : Tree) where
  -- two declared names are the same where their numbers are equal
  pub same_by_number : (a b : ClassName) (n m : ℕ) → class_number tree a ≡ Some n → class_number tree b ≡ Some m → same_class a b ≡ (n == m)
  same_by_number a b n m e f = sym (number_equal tree b a m n f e ∙ class_equivalence.symm b a)

  -- a class and its number, or neither
  abbrev pub IsTied : Option ClassName → Option ℕ → Type 0
  IsTied None None = Unit {0}
  IsTied (Some c) (Some n) = class_number tree c ≡ Some n
  IsTied None (Some n) = ⊥
  IsTied (Some c) None = ⊥

  module _ (k : MethodIdentity) where
    abbrev along : List ClassName → Option ClassName
    along = slot_along tree k.name k.signature

    abbrev numbers : List ClassName → List ℕ
    numbers = filter_map (class_number tree)

    tied_filled : (c : ClassName) (n : ℕ) (m : Method) (o : Option ClassName) (p : Option ℕ) → class_number tree c ≡ Some n → IsTied o p → IsTied (slot_filled c o m) (slot_filled_at n p m)
    tied_filled c n m o p e h = by_kind (is_virtual m.kind) (is_new_slot_method m.kind) o p h
      where
        by_kind : (v s : Bool) (o : Option ClassName) (p : Option ℕ) → IsTied o p → IsTied (cond v (Some (cond s c (unwrap_or o c))) None) (cond v (Some (cond s n (unwrap_or p n))) None)
        by_kind false s o p h = tt
        by_kind true false (Some d) (Some i) h = h
        by_kind true false None (Some i) h = absurd h
        by_kind true false (Some d) None h = absurd h
        by_kind _ _ _ _ _ = e

    tied_over : (c : ClassName) (n : ℕ) (f : Option Method) (o : Option ClassName) (p : Option ℕ) → class_number tree c ≡ Some n → IsTied o p → IsTied (option_map_or (slot_filled c o) f o) (option_map_or (slot_filled_at n p) f p)
    tied_over c n None o p e h = h
    tied_over c n (Some m) o p e h = tied_filled c n m o p e h

    pub tied : (cs : List ClassName) → IsTied (along cs) (slot_by_id tree k (numbers cs))
    tied [] = tt
    tied (c ∷ cs) = by_number (class_number tree c) refl (tied cs)
      where
        by_number : (i : Option ℕ) → class_number tree c ≡ i → IsTied (along cs) (slot_by_id tree k (numbers cs)) → IsTied (along (c ∷ cs)) (slot_by_id tree k (cons_option i (numbers cs)))
        by_number None e h =
            let P : Option Method → Type 0 = λ f. IsTied (option_map_or (slot_filled c (along cs)) f (along cs)) (slot_by_id tree k (numbers cs)) in subst P (sym (nothing_found tree k c e)) h
        by_number (Some n) e h =
            let P : Option Method → Type 0 = λ f. IsTied (option_map_or (slot_filled c (along cs)) f (along cs)) (slot_from_base tree k n (slot_by_id tree k (numbers cs))) in
            subst P (found_by_number tree k c n e) (tied_over c n (method_found tree k n) (along cs) (slot_by_id tree k (numbers cs)) e h)

    -- the test of one slot
    pub same_slot : (s : ClassName) (i : ℕ) → class_number tree s ≡ Some i → (o : Option ClassName) (p : Option ℕ) → IsTied o p → same_options same_class o (Some s) ≡ option_map_or (λ x. x == i) p false
    same_slot s i e None None h = refl
    same_slot s i e (Some c) (Some n) h = same_by_number c s n i h e
    same_slot _ _ _ _ _ h = absurd h

    abbrev is_abstract_in : Option Method → Bool → Bool
    is_abstract_in f rest = option_map_or (λ (m : Method). is_abstract_method m.kind) f rest

    filled_by : (c : ClassName) (f : Option Method) (fills : Bool) (rest : Option (ClassName × Method)) →
        is_filled_abstract (option_map_or (λ m. cond fills (Some (c, m)) rest) f rest) ≡ cond fills (is_abstract_in f (is_filled_abstract rest)) (is_filled_abstract rest)
    filled_by c None true rest = refl
    filled_by c (Some m) true rest = refl
    filled_by _ _ _ _ = refl

    pub filled : (s : ClassName) (i : ℕ) → class_number tree s ≡ Some i → (cs : List ClassName) → is_filled_abstract (implementation_along tree k.name k.signature s cs) ≡ abstract_by_id tree k i (numbers cs)
    filled s i e [] = refl
    filled s i e (c ∷ cs) = by_number (class_number tree c) refl (filled s i e cs) (tied (c ∷ cs))
      where
        rest : Option (ClassName × Method)
        rest = implementation_along tree k.name k.signature s cs

        by_number : (o : Option ℕ) → class_number tree c ≡ o → is_filled_abstract (implementation_along tree k.name k.signature s cs) ≡ abstract_by_id tree k i (numbers cs) →
            IsTied (along (c ∷ cs)) (slot_by_id tree k (cons_option (class_number tree c) (numbers cs))) →
            is_filled_abstract (implementation_along tree k.name k.signature s (c ∷ cs)) ≡ abstract_by_id tree k i (cons_option o (numbers cs))
        by_number None g further h =
            let nothing : is_filled_abstract (implementation_along tree k.name k.signature s (c ∷ cs)) ≡ is_filled_abstract (implementation_along tree k.name k.signature s cs) =
            ap (λ f. is_filled_abstract (option_map_or (λ m. cond (same_options same_class (along (c ∷ cs)) (Some s)) (Some (c, m)) (implementation_along tree k.name k.signature s cs)) f (implementation_along tree k.name k.signature s cs))) (nothing_found tree k c g) in
            nothing ∙ further
        by_number (Some n) g further h =
            let P : Option ℕ → Type 0 = λ o. IsTied (along (c ∷ cs)) (slot_by_id tree k (cons_option o (numbers cs))) in
            let one : same_options same_class (along (c ∷ cs)) (Some s) ≡ option_map_or (λ x. x == i) (slot_by_id tree k (n ∷ numbers cs)) false = same_slot s i e _ _ (subst P g h) in
            filled_by c (method_declared tree k.name k.signature c) (same_options same_class (along (c ∷ cs)) (Some s)) (implementation_along tree k.name k.signature s cs) ∙
            ap (λ b. cond b (is_abstract_in (method_declared tree k.name k.signature c) (is_filled_abstract (implementation_along tree k.name k.signature s cs))) (is_filled_abstract (implementation_along tree k.name k.signature s cs))) one ∙
            ap (λ f. cond (option_map_or (λ x. x == i) (slot_by_id tree k (n ∷ numbers cs)) false) (is_abstract_in f (is_filled_abstract (implementation_along tree k.name k.signature s cs))) (is_filled_abstract (implementation_along tree k.name k.signature s cs))) (sym (found_by_number tree k c n g)) ∙
            ap (λ b. abstract_from_base tree k n (option_map_or (λ x. x == i) (slot_by_id tree k (n ∷ numbers cs)) false) b) further

    -- the target of a class's method as seen from another
    pub target_open : (d c : ClassName) → is_filled_abstract (class_target tree k.name k.signature d c) ≡ is_slot_abstract tree k (chain_numbers tree d) (chain_numbers tree c)
    target_open d c = by_slot (along (chain_of tree c)) (slot_by_id tree k (chain_numbers tree c)) (tied (chain_of tree c))
      where
        by_slot : (o : Option ClassName) (p : Option ℕ) → IsTied o p → is_filled_abstract (option_and_then (λ slot. implementation_along tree k.name k.signature slot (chain_of tree d)) o) ≡ option_map_or (λ slot. abstract_by_id tree k slot (chain_numbers tree d)) p false
        by_slot None None h = refl
        by_slot (Some s) (Some i) h = filled s i h (chain_of tree d)
        by_slot _ _ h = absurd h

    -- the nearest inherited method
    pub nearest_plain : (cs : List ClassName) → is_found_not_virtual (nearest (method_declared tree k.name k.signature) cs) ≡ concrete_by_id tree k (numbers cs)
    nearest_plain [] = refl
    nearest_plain (c ∷ cs) = by_number (class_number tree c) refl (nearest_plain cs)
      where
        by_found : (f : Option Method) → is_found_not_virtual (nearest (method_declared tree k.name k.signature) cs) ≡ concrete_by_id tree k (numbers cs) →
            is_found_not_virtual (option_map_or (λ m. Some (c, m)) f (nearest (method_declared tree k.name k.signature) cs)) ≡ option_map_or (λ (m : Method). not (is_virtual m.kind)) f (concrete_by_id tree k (numbers cs))
        by_found None further = further
        by_found (Some m) further = refl

        by_number : (o : Option ℕ) → class_number tree c ≡ o → is_found_not_virtual (nearest (method_declared tree k.name k.signature) cs) ≡ concrete_by_id tree k (numbers cs) →
            is_found_not_virtual (nearest (method_declared tree k.name k.signature) (c ∷ cs)) ≡ concrete_by_id tree k (cons_option o (numbers cs))
        by_number None e further =
            ap (λ f. is_found_not_virtual (option_map_or (λ m. Some (c, m)) f (nearest (method_declared tree k.name k.signature) cs))) (nothing_found tree k c e) ∙ further
        by_number (Some n) e further =
            by_found (method_declared tree k.name k.signature c) further ∙ ap (λ f. option_map_or (λ (m : Method). not (is_virtual m.kind)) f (concrete_by_id tree k (numbers cs))) (sym (found_by_number tree k c n e))

  -- ---- whole chains

  abbrev leaves : ClassName → ClassName → Method → Bool
  leaves d c m = is_virtual m.kind && is_filled_abstract (class_target tree m.name m.signature d c)

  same_leaves : (d c : ClassName) (ms : List Method) → list_any (leaves d c) ms ≡ list_any (λ (m : Method). is_virtual m.kind && is_slot_abstract tree (identity_of m) (chain_numbers tree d) (chain_numbers tree c)) ms
  same_leaves d c ms = list_any_congr (leaves d c) (λ (m : Method). is_virtual m.kind && is_slot_abstract tree (identity_of m) (chain_numbers tree d) (chain_numbers tree c)) (λ m. ap (λ b. is_virtual m.kind && b) (target_open (identity_of m) d c)) ms

  open_along : (d : ClassName) (cs : List ClassName) → list_any (λ c. list_any (leaves d c) (methods_declared tree c)) cs ≡ list_any (class_has_abstract_slot tree (chain_numbers tree d)) (filter_map (class_number tree) cs)
  open_along d [] = refl
  open_along d (c ∷ cs) = by_number (class_number tree c) refl (open_along d cs)
    where
      by_number : (o : Option ℕ) → class_number tree c ≡ o → list_any (λ x. list_any (leaves d x) (methods_declared tree x)) cs ≡ list_any (class_has_abstract_slot tree (chain_numbers tree d)) (filter_map (class_number tree) cs) →
          list_any (λ x. list_any (leaves d x) (methods_declared tree x)) (c ∷ cs) ≡ list_any (class_has_abstract_slot tree (chain_numbers tree d)) (cons_option o (filter_map (class_number tree) cs))
      by_number None e further =
          ap (λ z. list_any (leaves d c) (listed_by (λ x. x.methods) z) || list_any (λ x. list_any (leaves d x) (methods_declared tree x)) cs) (declared_at_none tree c e) ∙ further
      by_number (Some n) e further =
          let found : (x : Declaration) × (declaration_of tree c ≡ Some x) × (slice_get (declarations tree) n ≡ Some (c, x)) = subst (HasId tree c) e (has_id tree c) in
          let here : list_any (leaves d c) (methods_declared tree c) ≡ class_has_abstract_slot tree (chain_numbers tree d) n =
          same_leaves d c (methods_declared tree c) ∙ ap (λ z. list_any (λ (m : Method). is_virtual m.kind && is_slot_abstract tree (identity_of m) (chain_numbers tree d) (chain_numbers tree c)) (listed_by (λ x. x.methods) z)) found.1 ∙
          sym (ap (λ z. option_map_or (λ (y : ClassName × Declaration). list_any (λ (m : Method). is_virtual m.kind && is_slot_abstract tree (identity_of m) (chain_numbers tree d) (chain_numbers tree y.0)) y.1.methods) z false) found.2) in
          ap (λ b. b || list_any (λ x. list_any (leaves d x) (methods_declared tree x)) cs) here ∙ ap (λ b. class_has_abstract_slot tree (chain_numbers tree d) n || b) further

  pub abstract_slot : (d : ClassName) → list_any (class_has_abstract_slot tree (chain_numbers tree d)) (chain_numbers tree d) ≡ has_abstract_slot tree d
  abstract_slot d = sym (open_along d (chain_of tree d))
