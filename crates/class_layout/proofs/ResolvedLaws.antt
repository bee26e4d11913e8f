-- What classes by numbers determine of the classes that they represent.
use Rattle.std.proofs.Common.{◌≡◌, ◌<◌, ◌≤◌, ◌+◌, ◌-◌, ◌⊎◌, inl, inr, ℕ, suc, false, List, [], ◌∷◌, ◌++◌, length, map, take, get_or, Option, Some, None, option_map, option_and_then, unwrap_or, slice_get, if◌then◌else◌, refl, sym, ap, subst, ◌∙◌, arith}
use Rattle.std.specs.Prelude.{filter_map}
use Rattle.std.specs.List.{cons_option}
use Rattle.std.specs.Option.{option_map_or}
use Rattle.std.proofs.Math.Seq.{take-length}
use Rattle.std.proofs.lemmas.Option.{none-some, slice_get-map, slice_get_cases}
use Rattle.cil_model.specs.declared.types.ClassName.{ClassName}
use Rattle.cil_model.specs.declared.trees.Tree.{Tree}
use Rattle.cil_model.specs.declared.trees.Field.{Field}
use Rattle.cil_model.specs.Declarations.{Declaration, declaration_of}
use Rattle.cil_model.specs.Chains.{base_of, listed_by, is_interface}
use Rattle.cil_model.specs.Legality.{IsLegal}
use Rattle.name_tables.specs.Numbers.{class_number, declarations}
use Rattle.name_tables.proofs.NumberLaws.{numbers_within, numbers_of_unknown}
use Rattle.resolved_code.specs.ById.{class_name, type_named}
use Rattle.resolved_code.specs.ResolvedPrograms.{AllAlike, AreResolved, IsResolvedField, IsResolvedClass}
use Rattle.resolved_code.proofs.ListLaws.RelatedLists.{AlikeTo, alike_to}
use Rattle.resolved_code.specs.declared.classes.ResolvedClass.{ResolvedClass}
use Rattle.resolved_code.specs.declared.classes.ResolvedField.{ResolvedField}
use Rattle.class_layout.specs.ByClass.{by_class, base_number, interface_numbers, base_at, chain_by}
use Rattle.class_layout.specs.FieldSlots.{number_after, fields_by_id, statics_after, static_by_id, statics_by_flag, following_slot, first_slot}
use Rattle.class_layout.specs.declared.kinds.SlotKind.{SlotKind}
use Rattle.class_layout.specs.Kinds.{kind_of, instance_kind, own_kinds, slot_kinds, resolved_kind}
use Rattle.class_layout.proofs.AncestorLaws.{answer_at}
use Rattle.resolved_code.proofs.Numbers.Classes.{FoundAt, found_at, number_of_index}
use Rattle.resolved_code.proofs.Numbers.Types.{type_is_named}
use Rattle.class_layout.proofs.Indices.{push_takes}

-- ---- resolved fields, by whether each is static

pub by_id_alike : (s i : ℕ) (fs : List Field) → static_by_id s i (map (λ (f : Field). f.is_static) fs) ≡ fields_by_id s i fs
by_id_alike s i [] = refl
by_id_alike s i (f ∷ fs) =
    ap (λ ns. (if f.is_static then s else i) ∷ ns) (by_id_alike (number_after f.is_static s) (if f.is_static then i else i + 1) fs)

pub statics_alike : (s : ℕ) (fs : List Field) → statics_by_flag s (map (λ (f : Field). f.is_static) fs) ≡ statics_after s fs
statics_alike s [] = refl
statics_alike s (f ∷ fs) = statics_alike (number_after f.is_static s) fs

module _ (tree : Tree) where
  abbrev pub IsClass : ClassName × Declaration → ResolvedClass → Type 0
  IsClass e r = IsResolvedClass tree e.1 r

  -- ---- loops over the classes

  -- the result for the class of a number
  pub answer_there : {X : Type 0} (answer : ClassName → X) (n : ℕ) (otherwise : X) → unwrap_or (slice_get (by_class tree answer) n) otherwise ≡ option_map_or (λ (e : ClassName × Declaration). answer e.0) (slice_get (declarations tree) n) otherwise
  answer_there answer n otherwise = ap (λ o. unwrap_or o otherwise) (slice_get-map (λ (e : ClassName × Declaration). answer e.0) (declarations tree) n) ∙ by_entry (slice_get (declarations tree) n)
    where
      by_entry : (o : Option (ClassName × Declaration)) → unwrap_or (option_map (λ (e : ClassName × Declaration). answer e.0) o) otherwise ≡ option_map_or (λ (e : ClassName × Declaration). answer e.0) o otherwise
      by_entry None = refl
      by_entry (Some e) = refl

  pub answer_given : {X : Type 0} (answer : ClassName → X) (n : ℕ) (otherwise : X) (e : ClassName × Declaration) → slice_get (declarations tree) n ≡ Some e → unwrap_or (slice_get (by_class tree answer) n) otherwise ≡ answer e.0
  answer_given answer n otherwise e there = answer_there answer n otherwise ∙ ap (λ o. option_map_or (λ (x : ClassName × Declaration). answer x.0) o otherwise) there

  -- the slot of the first instance field that a class declares
  pub slot_alike : (kinds own : List (List SlotKind)) (n : ℕ) (e : ClassName × Declaration) → kinds ≡ by_class tree (slot_kinds tree) → own ≡ by_class tree (own_kinds tree) → slice_get (declarations tree) n ≡ Some e → following_slot kinds own n ≡ first_slot tree e.0
  slot_alike kinds own n e all some there =
      ap (λ rows. following_slot rows own n) all ∙ ap (λ rows. following_slot (by_class tree (slot_kinds tree)) rows n) some ∙
      ap (λ (row : List SlotKind). length row - length (unwrap_or (slice_get (by_class tree (own_kinds tree)) n) [])) (answer_given (slot_kinds tree) n [] e there) ∙
      ap (λ (row : List SlotKind). length (slot_kinds tree e.0) - length row) (answer_given (own_kinds tree) n [] e there)

  -- the class of a number, and the one that it represents
  pub class_alike : (rs : List ResolvedClass) → AreResolved tree rs → (n : ℕ) (e : ClassName × Declaration) (r : ResolvedClass) → slice_get (declarations tree) n ≡ Some e → slice_get rs n ≡ Some r → IsClass e r
  class_alike rs are n e r there read =
      let found : AlikeTo IsClass (declarations tree) n r = alike_to IsClass (declarations tree) rs n r are read in
      let both : Some found.item ≡ Some e = sym found.there ∙ there in
      let same : found.item ≡ e = cc in
      subst (λ x. IsClass x r) same found.alike

  -- an item more for the class of a number
  pub class_pushed : {X : Type 0} (answer : ClassName → X) (i : ℕ) (ys zs : List X) (y : X) → i < length (declarations tree) → ys ≡ map (λ (e : ClassName × Declaration). answer e.0) (take i (declarations tree)) →
      ((e : ClassName × Declaration) → slice_get (declarations tree) i ≡ Some e → y ≡ answer e.0) → zs ≡ ys ++ y ∷ [] → zs ≡ map (λ (e : ClassName × Declaration). answer e.0) (take (i + 1) (declarations tree))
  class_pushed answer i ys zs y within before each after = by_index (slice_get_cases (declarations tree) i).1
    where
      by_index : ((x : ClassName × Declaration) × (i < length (declarations tree)) × (slice_get (declarations tree) i ≡ Some x) × (get_or (declarations tree) i x ≡ x)) ⊎ ((length (declarations tree) ≤ i) × (slice_get (declarations tree) i ≡ None)) →
          zs ≡ map (λ (e : ClassName × Declaration). answer e.0) (take (i + 1) (declarations tree))
      by_index (inl (x, l, e, g)) = push_takes (λ (z : ClassName × Declaration). answer z.0) (declarations tree) i x ys zs y within (sym g) before (each x e) after
      by_index (inr (l, e)) = absurd (omega (arith, l, within))

  -- all of them
  pub classes_pushed : {X : Type 0} (answer : ClassName → X) (i : ℕ) (ys : List X) → i ≡ length (declarations tree) → ys ≡ map (λ (e : ClassName × Declaration). answer e.0) (take i (declarations tree)) → ys ≡ by_class tree answer
  classes_pushed answer i ys seen are = are ∙ ap (λ n. map (λ (e : ClassName × Declaration). answer e.0) (take n (declarations tree))) seen ∙ ap (map (λ (e : ClassName × Declaration). answer e.0)) (take-length (declarations tree))

  -- ---- chains

  pub chain_alike : (bases : List (Option ℕ)) → bases ≡ by_class tree (base_number tree) → (k : ℕ) (o : Option ClassName) → chain_by bases k (option_and_then (class_number tree) o) ≡ numbers_within tree k o
  chain_alike bases are (suc k) (Some c) = by_number (chain_alike bases are k (base_of tree c)) (class_number tree c) refl
    where
      by_number : chain_by bases k (base_number tree c) ≡ numbers_within tree k (base_of tree c) → (n : Option ℕ) → class_number tree c ≡ n → chain_by bases (suc k) n ≡ numbers_within tree (suc k) (Some c)
      by_number further None p = sym (numbers_of_unknown tree (suc k) c p)
      by_number further (Some n) p =
          let base : base_at bases n ≡ base_number tree c = ap (λ bs. base_at bs n) are ∙ ap (λ o. unwrap_or o None) (answer_at tree (base_number tree) c n p) in
          ap (λ b. n ∷ chain_by bases k b) base ∙ ap (λ ns. n ∷ ns) further ∙ ap (λ o. cons_option o (numbers_within tree k (base_of tree c))) (sym p)
  chain_alike _ _ _ _ = refl

  -- ---- fields

  field_kind : (f : Field) (r : ResolvedField) → IsResolvedField tree f r → resolved_kind tree r ≡ instance_kind f
  field_kind f r h =
      ap (λ b. if b then None else Some (kind_of (Some (type_named tree r.field_type)))) h.is_static ∙
      ap (λ t. if f.is_static then None else Some (kind_of (Some t))) (type_is_named tree r.field_type f.field_type h.field_type)

  field_kinds : (fs : List Field) (rs : List ResolvedField) → AllAlike (IsResolvedField tree) fs rs → filter_map (resolved_kind tree) rs ≡ filter_map instance_kind fs
  field_kinds [] [] h = refl
  field_kinds (f ∷ fs) (r ∷ rs) h = ap (λ k. cons_option k (filter_map (resolved_kind tree) rs)) (field_kind f r h.0) ∙ ap (cons_option (instance_kind f)) (field_kinds fs rs h.1)
  field_kinds _ _ h = absurd h

  pub flags_alike : (fs : List Field) (rs : List ResolvedField) → AllAlike (IsResolvedField tree) fs rs → map (λ (r : ResolvedField). r.is_static) rs ≡ map (λ (f : Field). f.is_static) fs
  flags_alike [] [] h = refl
  flags_alike (f ∷ fs) (r ∷ rs) h = ap (λ b. b ∷ map (λ (x : ResolvedField). x.is_static) rs) h.0.is_static ∙ ap (λ bs. f.is_static ∷ bs) (flags_alike fs rs h.1)
  flags_alike _ _ h = absurd h

  module _ (legal : IsLegal tree) where
    -- ---- names and numbers

    -- what the class of a number declares
    pub declared_at : (n : ℕ) (e : ClassName × Declaration) → slice_get (declarations tree) n ≡ Some e → declaration_of tree e.0 ≡ Some e.1
    declared_at n e h =
        let found : FoundAt tree e.0 n = found_at tree e.0 n (number_of_index tree legal n e h) in
        let both : Some (e.0, found.0) ≡ Some e = sym found.2 ∙ h in
        let pairs : (e.0, found.0) ≡ e = cc in
        found.1 ∙ ap (λ (y : ClassName × Declaration). Some y.1) pairs

    named_number : (n : ℕ) (c : ClassName) → class_name tree n ≡ Some c → class_number tree c ≡ Some n
    named_number n c h = by_entry (slice_get (declarations tree) n) refl h
      where
        by_entry : (o : Option (ClassName × Declaration)) → slice_get (declarations tree) n ≡ o → option_map (λ (e : ClassName × Declaration). e.0) o ≡ Some c → class_number tree c ≡ Some n
        by_entry None p k = absurd (none-some c k)
        by_entry (Some e) p k =
            let same : e.0 ≡ c = cc in
            subst (λ x. class_number tree x ≡ Some n) same (number_of_index tree legal n e p)

    base_named : (o : Option ℕ) (p : Option ClassName) → option_map (class_name tree) o ≡ option_map Some p → o ≡ option_and_then (class_number tree) p
    base_named None None h = refl
    base_named (Some n) (Some c) h =
        let named : class_name tree n ≡ Some c = cc in
        sym (named_number n c named)
    base_named _ _ h = cc

    numbers_named : (ns : List ℕ) (cs : List ClassName) → map (class_name tree) ns ≡ map Some cs → ns ≡ filter_map (class_number tree) cs
    numbers_named [] [] h = refl
    numbers_named (n ∷ ns) (c ∷ cs) h =
        let named : class_name tree n ≡ Some c = cc in
        let others : map (class_name tree) ns ≡ map Some cs = cc in
        ap (λ ms. n ∷ ms) (numbers_named ns cs others) ∙ ap (λ o. cons_option o (filter_map (class_number tree) cs)) (sym (named_number n c named))
    numbers_named _ _ h = cc

    -- ---- all classes

    alike_by : {X : Type 0} (answer : ClassName → X) (of : ResolvedClass → X) → ((e : ClassName × Declaration) (r : ResolvedClass) → declaration_of tree e.0 ≡ Some e.1 → IsClass e r → of r ≡ answer e.0) →
        (es : List (ClassName × Declaration)) (rs : List ResolvedClass) → ((n : ℕ) (e : ClassName × Declaration) → slice_get es n ≡ Some e → declaration_of tree e.0 ≡ Some e.1) → AllAlike IsClass es rs →
        map of rs ≡ map (λ (e : ClassName × Declaration). answer e.0) es
    alike_by answer of each [] [] known h = refl
    alike_by answer of each (e ∷ es) (r ∷ rs) known h =
        ap (λ x. x ∷ map of rs) (each e r (known 0 e refl) h.0) ∙ ap (λ xs. answer e.0 ∷ xs) (alike_by answer of each es rs (λ n. known (suc n)) h.1)
    alike_by _ _ _ _ _ _ h = absurd h

    module _ (rs : List ResolvedClass) (are : AreResolved tree rs) where
      pub bases_alike : map (λ (r : ResolvedClass). r.base) rs ≡ by_class tree (base_number tree)
      bases_alike = alike_by (base_number tree) (λ r. r.base) each (declarations tree) rs declared_at are
        where
          each : (e : ClassName × Declaration) (r : ResolvedClass) → declaration_of tree e.0 ≡ Some e.1 → IsClass e r → r.base ≡ base_number tree e.0
          each e r known h = base_named r.base e.1.base h.base ∙ ap (λ o. option_and_then (class_number tree) (option_and_then (λ (d : Declaration). d.base) o)) (sym known)

      pub interfaces_alike : map (λ (r : ResolvedClass). r.is_interface) rs ≡ by_class tree (is_interface tree)
      interfaces_alike = alike_by (is_interface tree) (λ r. r.is_interface) each (declarations tree) rs declared_at are
        where
          each : (e : ClassName × Declaration) (r : ResolvedClass) → declaration_of tree e.0 ≡ Some e.1 → IsClass e r → r.is_interface ≡ is_interface tree e.0
          each e r known h = h.is_interface ∙ ap (λ o. option_map_or (λ (d : Declaration). d.is_interface) o false) (sym known)

      pub listed_alike : map (λ (r : ResolvedClass). r.interfaces) rs ≡ by_class tree (interface_numbers tree)
      listed_alike = alike_by (interface_numbers tree) (λ r. r.interfaces) each (declarations tree) rs declared_at are
        where
          each : (e : ClassName × Declaration) (r : ResolvedClass) → declaration_of tree e.0 ≡ Some e.1 → IsClass e r → r.interfaces ≡ interface_numbers tree e.0
          each e r known h = numbers_named r.interfaces e.1.interfaces h.interfaces ∙ ap (λ o. filter_map (class_number tree) (listed_by (λ (d : Declaration). d.interfaces) o)) (sym known)

      pub own_alike : map (λ (r : ResolvedClass). filter_map (resolved_kind tree) r.fields) rs ≡ by_class tree (own_kinds tree)
      own_alike = alike_by (own_kinds tree) (λ r. filter_map (resolved_kind tree) r.fields) each (declarations tree) rs declared_at are
        where
          each : (e : ClassName × Declaration) (r : ResolvedClass) → declaration_of tree e.0 ≡ Some e.1 → IsClass e r → filter_map (resolved_kind tree) r.fields ≡ own_kinds tree e.0
          each e r known h = field_kinds e.1.fields r.fields h.fields ∙ ap (λ o. filter_map instance_kind (listed_by (λ (d : Declaration). d.fields) o)) (sym known)
