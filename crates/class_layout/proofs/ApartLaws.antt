-- In a legal tree each instance field of an object lies at its own slot.
use Rattle.std.proofs.Common.{◌≡◌, ◌≢◌, ◌≤◌, ◌+◌, ◌⊎◌, ℕ, zero, suc, Bool, true, false, ◌||◌, cond, List, [], ◌∷◌, ◌++◌, length, map, drop, reverse, slice_get, Option, Some, None, option_map, if◌then◌else◌, refl, inl, inr, sym, ap, subst, ◌∙◌, arith}
use Rattle.std.specs.Prelude.{filter, flat_map}
use Rattle.std.specs.List.{list_any, position_from}
use Rattle.std.specs.Option.{option_map_or}
use Rattle.std.proofs.lemmas.Bool.{or_parts, or_from}
use Rattle.std.proofs.lemmas.List.{append-nil}
use Rattle.std.proofs.lemmas.Option.{slice_get-map}
use Rattle.cil_model.specs.declared.types.ClassName.{ClassName}
use Rattle.cil_model.specs.declared.types.DeclaredType.{DeclaredType}
use Rattle.cil_model.specs.declared.trees.Tree.{Tree}
use Rattle.cil_model.specs.declared.trees.Field.{Field}
use Rattle.cil_model.specs.Same.{same_text, same_class, same_flag}
use Rattle.cil_model.specs.Assignable.{is_reference}
use Rattle.cil_model.specs.Declarations.{object_name, thread_name}
use Rattle.cil_model.specs.Chains.{base_of, chain_of, chain_within, longest_chain, is_thread_class, fields_declared}
use Rattle.cil_model.specs.Fields.{FieldKey, keyed_fields, instance_fields, hidden_slots, slot_types, instance_slot, is_reference_slot}
use Rattle.cil_model.specs.Legality.{IsLegal, has_repeat}
use Rattle.cil_model.proofs.SameLaws.{same_text_itself, same_class_equal}
use Rattle.cil_model.proofs.Legal.{no_cycle}
use Rattle.cil_model.proofs.ChainLaws.{chain_ends}
use Rattle.name_tables.proofs.NumberLaws.{none_is_some}
use Rattle.cil_model.proofs.Lists.{get_after, once_kept, passes_not}
use Rattle.class_layout.proofs.SlotLaws.{position_past, same_name, of_flag, key_in, keyed, own_alike, none_along, above, inherited, own_last, once_declared, none_above}

-- ---- lists

-- what is kept was there
kept_from : {X : Type 0} (kept : X → Bool) (xs : List X) (p : ℕ) (x : X) → slice_get (filter kept xs) p ≡ Some x → (q : ℕ) × (slice_get xs q ≡ Some x)
kept_from kept [] p x h = absurd (none_is_some x h)
kept_from {X} kept (y ∷ ys) p x h = by_test (kept y) p h (λ i. kept_from kept ys i x)
  where
    later : (q : ℕ) × (slice_get ys q ≡ Some x) → (q : ℕ) × (slice_get (y ∷ ys) q ≡ Some x)
    later (q, there) = (suc q, there)

    by_test : (b : Bool) (i : ℕ) → slice_get (cond b (y ∷ filter kept ys) (filter kept ys)) i ≡ Some x → ((j : ℕ) → slice_get (filter kept ys) j ≡ Some x → (q : ℕ) × (slice_get ys q ≡ Some x)) → (q : ℕ) × (slice_get (y ∷ ys) q ≡ Some x)
    by_test false i k further = later (further i k)
    by_test true zero k further = (0, k)
    by_test true (suc i) k further = later (further i k)

-- an item of two lists one after the other is of the first, or of the second
of_either : {X : Type 0} (xs ys : List X) (i : ℕ) (x : X) → slice_get (xs ++ ys) i ≡ Some x → (slice_get xs i ≡ Some x) ⊎ ((p : ℕ) × (i ≡ length xs + p) × (slice_get ys p ≡ Some x))
of_either [] ys i x h = inr (i, omega arith, h)
of_either (z ∷ zs) ys zero x h = inl h
of_either (z ∷ zs) ys (suc i) x h = by_rest (of_either zs ys i x h)
  where
    by_rest : (slice_get zs i ≡ Some x) ⊎ ((p : ℕ) × (i ≡ length zs + p) × (slice_get ys p ≡ Some x)) → (slice_get zs i ≡ Some x) ⊎ ((p : ℕ) × (suc i ≡ suc (length zs) + p) × (slice_get ys p ≡ Some x))
    by_rest (inl there) = inl there
    by_rest (inr (p, e, there)) = inr (p, omega (arith, e), there)

-- ---- fields that one class declares

-- where no name occurs twice, a field is found at its own index
found_own : (c : ClassName) (f : Field) (fs : List Field) (further : List (FieldKey × DeclaredType)) (i p : ℕ) → has_repeat same_name fs ≡ false → slice_get fs p ≡ Some f → position_from (keyed c f) i (map (key_in c) fs ++ further) ≡ Some (i + p)
found_own c f [] further i p once at = absurd (none_is_some f at)
found_own c f (g ∷ gs) further i zero once at =
    let same : g ≡ f = cc in
    let named : keyed c f (key_in c g) ≡ true = own_alike c f g ∙ ap (λ (x : Field). same_text x.name f.name) same ∙ same_text_itself f.name in
    let index : i ≡ i + 0 = omega arith in
    ap (λ b. cond b (Some i) (position_from (keyed c f) (i + 1) (map (key_in c) gs ++ further))) named ∙ ap Some index
found_own c f (g ∷ gs) further i (suc p) once at =
    let other : keyed c f (key_in c g) ≡ false = own_alike c f g ∙ passes_not (same_name g) gs p f (or_parts _ _ once).0 at in
    let index : i + 1 + p ≡ i + suc p = omega arith in
    ap (λ b. cond b (Some i) (position_from (keyed c f) (i + 1) (map (key_in c) gs ++ further))) other ∙ found_own c f gs further (i + 1) p (or_parts _ _ once).1 at ∙ ap Some index

module _ (tree : Tree) (legal : IsLegal tree) where
  abbrev HasSlotAt : ClassName → ℕ → FieldKey × DeclaredType → Type 0
  HasSlotAt c i e = instance_slot tree e.0 ≡ Some (length (hidden_slots tree c) + i)

  -- a field that the class itself declares lies after those that it inherits
  own_slot : (c : ClassName) (p : ℕ) (e : FieldKey × DeclaredType) → slice_get (keyed_fields tree false c) p ≡ Some e → HasSlotAt c (length (inherited tree c) + p) e
  own_slot c p e at = by_field (slice_get own p) refl (sym (slice_get-map (key_in c) own p) ∙ at)
    where
      own : List Field
      own = of_flag false (fields_declared tree c)

      hidden : ℕ
      hidden = length (hidden_slots tree c)

      of_field : (f : Field) → slice_get own p ≡ Some f → HasSlotAt c (length (inherited tree c) + p) (key_in c f)
      of_field f there =
          let declared : (q : ℕ) × (slice_get (fields_declared tree c) q ≡ Some f) = kept_from (λ (g : Field). same_flag g.is_static false) (fields_declared tree c) p f there in
          let sum : hidden + length (inherited tree c) + p ≡ hidden + (length (inherited tree c) + p) = omega arith in
          ap (position_from (keyed c f) hidden) (own_last tree c) ∙
          position_past (keyed c f) hidden (inherited tree c) (keyed_fields tree false c ++ []) (none_along tree c f false (above tree c) (none_above tree legal c declared.0 f declared.1)) ∙
          found_own c f own [] (hidden + length (inherited tree c)) p (once_kept same_name (λ (g : Field). same_flag g.is_static false) (fields_declared tree c) (once_declared tree legal c declared.0 f declared.1)) there ∙ ap Some sum

      by_field : (o : Option Field) → slice_get own p ≡ o → option_map (key_in c) o ≡ Some e → HasSlotAt c (length (inherited tree c) + p) e
      by_field None there k = absurd (none_is_some e k)
      by_field (Some f) there k = let same : key_in c f ≡ e = cc in subst (HasSlotAt c (length (inherited tree c) + p)) same (of_field f there)

  -- ---- inherited fields

  -- what is above a class is its base's chain
  chain_above : (c b : ClassName) → base_of tree c ≡ Some b → above tree c ≡ chain_of tree b
  chain_above c b is =
      ap (drop 1) (sym (chain_ends tree (no_cycle tree legal) c (suc (longest_chain tree)) (omega arith))) ∙ ap (chain_within tree (longest_chain tree)) is

  inherited_fields : (c b : ClassName) → base_of tree c ≡ Some b → inherited tree c ≡ instance_fields tree b
  inherited_fields c b is = ap (λ cs. flat_map (keyed_fields tree false) (reverse cs)) (chain_above c b is)

  none_inherited : (c : ClassName) → base_of tree c ≡ None → inherited tree c ≡ []
  none_inherited c is = ap (λ o. flat_map (keyed_fields tree false) (reverse (chain_within tree (suc (suc (length tree.classes))) o))) is

  -- a base with instance fields is a thread's class exactly where the class is
  same_thread : (c b : ClassName) (i : ℕ) (e : FieldKey × DeclaredType) → base_of tree c ≡ Some b → slice_get (instance_fields tree b) i ≡ Some e → is_thread_class tree c ≡ is_thread_class tree b
  same_thread c b i e is at = by_name (same_class thread_name c) refl ∙ ap (list_any (same_class thread_name)) (chain_above c b is)
    where
      by_name : (v : Bool) → same_class thread_name c ≡ v → (v || list_any (same_class thread_name) (above tree c)) ≡ list_any (same_class thread_name) (above tree c)
      by_name false named = refl
      by_name true named =
          let both : Some object_name ≡ Some b = ap (base_of tree) (same_class_equal thread_name c named) ∙ is in
          let object : object_name ≡ b = cc in
          absurd (none_is_some e (subst (λ x. slice_get (instance_fields tree x) i ≡ Some e) (sym object) at))

  -- ---- all of them

  slot_within : (n : ℕ) (c : ClassName) → length (chain_of tree c) ≤ n → (i : ℕ) (e : FieldKey × DeclaredType) → slice_get (instance_fields tree c) i ≡ Some e → HasSlotAt c i e
  slot_within zero c h i e at = absurd (omega (arith, h))
  slot_within (suc n) c h i e at =
      by_part (of_either (inherited tree c) (keyed_fields tree false c ++ []) i e (sym (ap (λ es. slice_get es i) (own_last tree c)) ∙ at)) (λ b short. slot_within n b short i e)
    where
      by_base : (o : Option ClassName) → base_of tree c ≡ o → slice_get (inherited tree c) i ≡ Some e →
          ((b : ClassName) → length (chain_of tree b) ≤ n → slice_get (instance_fields tree b) i ≡ Some e → HasSlotAt b i e) → HasSlotAt c i e
      by_base None is there further = absurd (none_is_some e (sym (ap (λ es. slice_get es i) (none_inherited c is)) ∙ there))
      by_base (Some b) is there further =
          let at_base : slice_get (instance_fields tree b) i ≡ Some e = sym (ap (λ es. slice_get es i) (inherited_fields c b is)) ∙ there in
          let count : length (above tree c) ≡ length (chain_of tree b) = ap length (chain_above c b is) in
          further b (omega (arith, h, count)) at_base ∙ ap (λ (v : Bool). Some (length {A = Option DeclaredType} (if v then None ∷ [] else []) + i)) (sym (same_thread c b i e is at_base))

      by_part : (slice_get (inherited tree c) i ≡ Some e) ⊎ ((p : ℕ) × (i ≡ length (inherited tree c) + p) × (slice_get (keyed_fields tree false c ++ []) p ≡ Some e)) →
          ((b : ClassName) → length (chain_of tree b) ≤ n → slice_get (instance_fields tree b) i ≡ Some e → HasSlotAt b i e) → HasSlotAt c i e
      by_part (inl there) further = by_base (base_of tree c) refl there further
      by_part (inr (p, index, there)) further =
          own_slot c p e (sym (ap (λ es. slice_get es p) (append-nil (keyed_fields tree false c))) ∙ there) ∙ ap (λ k. Some (length (hidden_slots tree c) + k)) (sym index)

  -- the slot of a field is its index after the hidden slot
  pub field_has_slot : (c : ClassName) (i : ℕ) (e : FieldKey × DeclaredType) → slice_get (instance_fields tree c) i ≡ Some e → HasSlotAt c i e
  field_has_slot c = slot_within (length (chain_of tree c)) c (omega arith)

  -- so two fields have two slots
  pub slots_apart : (c : ClassName) (i j : ℕ) (e d : FieldKey × DeclaredType) → slice_get (instance_fields tree c) i ≡ Some e → slice_get (instance_fields tree c) j ≡ Some d → i ≢ j → instance_slot tree e.0 ≢ instance_slot tree d.0
  slots_apart c i j e d at there other same =
      let both : Some (length (hidden_slots tree c) + i) ≡ Some (length (hidden_slots tree c) + j) = sym (field_has_slot c i e at) ∙ same ∙ field_has_slot c j d there in
      let sums : length (hidden_slots tree c) + i ≡ length (hidden_slots tree c) + j = cc in
      other (omega (arith, sums))

  -- and the slot holds what the field holds
  pub type_at_slot : (c : ClassName) (i : ℕ) (e : FieldKey × DeclaredType) → slice_get (instance_fields tree c) i ≡ Some e → (n : ℕ) → instance_slot tree e.0 ≡ Some n → slice_get (slot_types tree c) n ≡ Some (Some e.1)
  type_at_slot c i e at n is =
      let both : Some n ≡ Some (length (hidden_slots tree c) + i) = sym is ∙ field_has_slot c i e at in
      let index : n ≡ length (hidden_slots tree c) + i = cc in
      let types : List (Option DeclaredType) = map (λ (f : FieldKey × DeclaredType). Some f.1) (instance_fields tree c) in
      get_after (hidden_slots tree c) types n i index ∙ slice_get-map (λ (f : FieldKey × DeclaredType). Some f.1) (instance_fields tree c) i ∙
      ap (option_map (λ (f : FieldKey × DeclaredType). Some f.1)) at

  -- a reference exactly where the field does
  pub reference_at_slot : (c : ClassName) (i : ℕ) (e : FieldKey × DeclaredType) → slice_get (instance_fields tree c) i ≡ Some e → (n : ℕ) → instance_slot tree e.0 ≡ Some n → is_reference_slot tree c n ≡ is_reference e.1
  reference_at_slot c i e at n is = ap (λ o. option_map_or (λ slot. option_map_or is_reference slot false) o false) (type_at_slot c i e at n is)
