-- What objects hold, by the numbers of a chain.
use Rattle.std.proofs.Common.{◌≡◌, ℕ, Bool, true, false, List, [], ◌∷◌, ◌++◌, length, map, reverse, slice_get, unwrap_or, Option, Some, None, option_map, if◌then◌else◌, cond, refl, sym, ap, ◌∙◌}
use Rattle.std.specs.Prelude.{filter, filter_map, flat_map}
use Rattle.std.specs.List.{cons_option}
use Rattle.std.specs.Option.{option_map_or}
use Rattle.std.proofs.lemmas.List.{map-append, append-nil, reverse-append, length-map}
use Rattle.std.proofs.lemmas.Option.{slice_get-map}
use Rattle.std.proofs.lemmas.Grind.{flat_map-append}
use Rattle.cil_model.specs.declared.types.ClassName.{ClassName}
use Rattle.cil_model.specs.declared.types.DeclaredType.{DeclaredType}
use Rattle.cil_model.specs.declared.trees.Tree.{Tree}
use Rattle.cil_model.specs.declared.trees.Field.{Field}
use Rattle.cil_model.specs.Same.{same_flag}
use Rattle.cil_model.specs.Declarations.{Declaration, thread_name}
use Rattle.cil_model.specs.Chains.{chain_of, is_thread_class, fields_declared, listed_by}
use Rattle.cil_model.specs.Assignable.{is_reference}
use Rattle.cil_model.specs.Fields.{FieldKey, keyed_fields, instance_fields, hidden_slots, slot_types, is_reference_slot}
use Rattle.name_tables.specs.Numbers.{class_number, chain_numbers}
use Rattle.name_tables.proofs.Lists.{map_of_map}
use Rattle.class_layout.specs.declared.kinds.SlotKind.{SlotKind}
use Rattle.class_layout.specs.declared.kinds.SlotKind.TheVariants.{Hidden}
use Rattle.class_layout.specs.ByClass.{by_class}
use Rattle.class_layout.specs.Kinds.{kind_of, instance_kind, own_kinds, slot_kinds, chain_kinds, holds_reference}
use Rattle.resolved_code.specs.ById.{class_name}
use Rattle.resolved_code.proofs.Numbers.Classes.{not_declared, among_numbers}
use Rattle.class_layout.proofs.AncestorLaws.{answer_at, row_by_id}

-- the kinds of keyed fields
abbrev kinds_of_keyed : List (FieldKey × DeclaredType) → List SlotKind
kinds_of_keyed fields = map kind_of (map (λ (f : FieldKey × DeclaredType). Some f.1) fields)

keyed_append : (xs ys : List (FieldKey × DeclaredType)) → kinds_of_keyed (xs ++ ys) ≡ kinds_of_keyed xs ++ kinds_of_keyed ys
keyed_append xs ys = ap (map kind_of) (map-append (λ (f : FieldKey × DeclaredType). Some f.1) xs ys) ∙ map-append kind_of (map (λ (f : FieldKey × DeclaredType). Some f.1) xs) (map (λ (f : FieldKey × DeclaredType). Some f.1) ys)

-- fields of objects, filtered by their flag
pub filtered : (fs : List Field) → filter_map instance_kind fs ≡ map (λ (f : Field). kind_of (Some f.field_type)) (filter (λ (f : Field). same_flag f.is_static false) fs)
filtered [] = refl
filtered (f ∷ fs) = by_flag f.is_static (filtered fs)
  where
    by_flag : (b : Bool) → filter_map instance_kind fs ≡ map (λ (g : Field). kind_of (Some g.field_type)) (filter (λ (g : Field). same_flag g.is_static false) fs) →
        cons_option (if b then None else Some (kind_of (Some f.field_type))) (filter_map instance_kind fs) ≡
        map (λ (g : Field). kind_of (Some g.field_type)) (cond (same_flag b false) (f ∷ filter (λ (g : Field). same_flag g.is_static false) fs) (filter (λ (g : Field). same_flag g.is_static false) fs))
    by_flag true e = e
    by_flag false e = ap (λ z. kind_of (Some f.field_type) ∷ z) e

module _ (tree : Tree) where
  -- ---- the slots of a class's objects

  hidden_alike : (b : Bool) → (if b then Hidden ∷ [] else []) ≡ map kind_of (if b then None ∷ [] else [])
  hidden_alike true = refl
  hidden_alike false = refl

  abbrev own_table : List (List SlotKind)
  own_table = by_class tree (own_kinds tree)

  abbrev of_chain : List ClassName → List SlotKind
  of_chain ks = kinds_of_keyed (flat_map (keyed_fields tree false) ks)

  of_chain_append : (xs ys : List ClassName) → of_chain (xs ++ ys) ≡ of_chain xs ++ of_chain ys
  of_chain_append xs ys = ap kinds_of_keyed (flat_map-append (keyed_fields tree false) xs ys) ∙ keyed_append (flat_map (keyed_fields tree false) xs) (flat_map (keyed_fields tree false) ys)

  of_one : (k : ClassName) → of_chain (k ∷ []) ≡ own_kinds tree k
  of_one k =
      let fields = filter (λ (f : Field). same_flag f.is_static false) (fields_declared tree k) in
      let key : Field → FieldKey × DeclaredType = λ f. (record { declared_in = k; name = f.name }, f.field_type) in
      ap kinds_of_keyed (append-nil (keyed_fields tree false k)) ∙ ap (map kind_of) (map_of_map key (λ (f : FieldKey × DeclaredType). Some f.1) fields) ∙ map_of_map (λ (f : Field). Some f.field_type) kind_of fields ∙ sym (filtered (fields_declared tree k))

  along : (cs : List ClassName) → flat_map (λ n. unwrap_or (slice_get own_table n) []) (reverse (filter_map (class_number tree) cs)) ≡ of_chain (reverse cs)
  along [] = refl
  along (k ∷ cs) = by_number (class_number tree k) refl (along cs)
    where
      split : of_chain (reverse (k ∷ cs)) ≡ of_chain (reverse cs) ++ own_kinds tree k
      split = ap of_chain (reverse-append (k ∷ []) cs) ∙ of_chain_append (reverse cs) (k ∷ []) ∙ ap (λ z. of_chain (reverse cs) ++ z) (of_one k)

      by_number : (o : Option ℕ) → class_number tree k ≡ o → flat_map (λ n. unwrap_or (slice_get own_table n) []) (reverse (filter_map (class_number tree) cs)) ≡ of_chain (reverse cs) →
          flat_map (λ n. unwrap_or (slice_get own_table n) []) (reverse (cons_option o (filter_map (class_number tree) cs))) ≡ of_chain (reverse (k ∷ cs))
      by_number None p further =
          let none : own_kinds tree k ≡ [] = ap (λ d. filter_map instance_kind (listed_by (λ (x : Declaration). x.fields) d)) (not_declared tree k p) in
          further ∙ sym (split ∙ ap (λ z. of_chain (reverse cs) ++ z) none ∙ append-nil (of_chain (reverse cs)))
      by_number (Some n) p further =
          let row : unwrap_or (slice_get own_table n) [] ≡ own_kinds tree k = ap (λ o. unwrap_or o []) (answer_at tree (own_kinds tree) k n p) in
          let ns = filter_map (class_number tree) cs in
          ap (flat_map (λ m. unwrap_or (slice_get own_table m) [])) (reverse-append (n ∷ []) ns) ∙ flat_map-append (λ m. unwrap_or (slice_get own_table m) []) (reverse ns) (n ∷ []) ∙
          ap (λ z. z ++ (unwrap_or (slice_get own_table n) [] ++ [])) further ∙ ap (λ z. of_chain (reverse cs) ++ z) (append-nil (unwrap_or (slice_get own_table n) []) ∙ row) ∙ sym split

  pub kinds_along : (c : ClassName) → chain_kinds own_table (chain_numbers tree c) ≡ slot_kinds tree c
  kinds_along c =
      ap (λ b. (if b then Hidden ∷ [] else []) ++ flat_map (λ n. unwrap_or (slice_get own_table n) []) (reverse (chain_numbers tree c))) (among_numbers tree thread_name 4 refl (chain_of tree c)) ∙
      ap (λ z. z ++ flat_map (λ n. unwrap_or (slice_get own_table n) []) (reverse (chain_numbers tree c))) (hidden_alike (is_thread_class tree c)) ∙
      ap (λ z. map kind_of (hidden_slots tree c) ++ z) (along (chain_of tree c)) ∙
      sym (map-append kind_of (hidden_slots tree c) (map (λ (f : FieldKey × DeclaredType). Some f.1) (instance_fields tree c)))

  -- ---- look-ups in them

  pub slots_counted : (c : ClassName) → length (slot_kinds tree c) ≡ length (slot_types tree c)
  slots_counted c = length-map (slot_types tree c) kind_of

  pub kind_found : (c : ClassName) (slot : ℕ) → slice_get (slot_kinds tree c) slot ≡ option_map kind_of (slice_get (slot_types tree c) slot)
  kind_found c slot = slice_get-map kind_of (slot_types tree c) slot

  pub reference_found : (c : ClassName) (slot : ℕ) → option_map_or holds_reference (slice_get (slot_kinds tree c) slot) false ≡ is_reference_slot tree c slot
  reference_found c slot = ap (λ o. option_map_or holds_reference o false) (kind_found c slot) ∙ by_slot (slice_get (slot_types tree c) slot)
    where
      by_slot : (o : Option (Option DeclaredType)) → option_map_or holds_reference (option_map kind_of o) false ≡ option_map_or (λ s. option_map_or is_reference s false) o false
      by_slot (Some None) = refl
      by_slot _ = refl

  -- whether a row has the kind of references at a slot; an absent row has no slots
  abbrev is_reference_in : ℕ → Option (List SlotKind) → Bool
  is_reference_in slot row = option_map_or holds_reference (slice_get (unwrap_or row []) slot) false

  -- by the number of the class; no slot holds a reference where no class has it
  pub reference_by_id : (rows : List (List SlotKind)) (n slot : ℕ) → rows ≡ by_class tree (slot_kinds tree)
      → option_map_or holds_reference (slice_get (unwrap_or (slice_get rows n) []) slot) false ≡ option_map_or (λ c. is_reference_slot tree c slot) (class_name tree n) false
  reference_by_id rows n slot is =
      ap (λ (xs : List (List SlotKind)). is_reference_in slot (slice_get xs n)) is ∙ ap (is_reference_in slot) (row_by_id tree (slot_kinds tree) n) ∙ by_name (class_name tree n)
    where
      by_name : (o : Option ClassName) → is_reference_in slot (option_map (slot_kinds tree) o) ≡ option_map_or (λ c. is_reference_slot tree c slot) o false
      by_name None = refl
      by_name (Some c) = reference_found c slot
