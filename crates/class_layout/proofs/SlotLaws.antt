-- Numbered fields have the slots of their keys.
use Rattle.std.proofs.Common.{◌≡◌, ◌+◌, ℕ, zero, suc, Bool, true, false, ◌&&◌, cond, List, [], ◌∷◌, ◌++◌, length, map, reverse, slice_get, unwrap_or, Option, Some, None, option_map, option_and_then, if◌then◌else◌, refl, sym, ap, subst, ◌∙◌, arith}
use Rattle.std.specs.Prelude.{filter, flat_map}
use Rattle.std.specs.List.{list_any, position_from}
use Rattle.std.specs.Option.{option_map_or}
use Rattle.std.proofs.lemmas.Bool.{or_parts, or_from}
use Rattle.std.proofs.lemmas.List.{append-nil, reverse-append, length-map, length-append}
use Rattle.std.proofs.lemmas.List.Folds.{list_any-append}
use Rattle.std.proofs.lemmas.Option.{slice_get-map}
use Rattle.std.proofs.lemmas.Grind.{flat_map-append}
use Rattle.cil_model.specs.declared.types.ClassName.{ClassName}
use Rattle.cil_model.specs.declared.types.DeclaredType.{DeclaredType}
use Rattle.cil_model.specs.declared.trees.Tree.{Tree}
use Rattle.cil_model.specs.declared.trees.Class.{Class}
use Rattle.cil_model.specs.declared.trees.ClassKind.{ClassKind}
use Rattle.cil_model.specs.declared.trees.ClassKind.TheVariants.{Interface, Class as PlainClass}
use Rattle.cil_model.specs.declared.trees.Field.{Field}
use Rattle.cil_model.specs.Same.{same_text, same_flag, same_class}
use Rattle.cil_model.specs.Declarations.{Declaration, source_name, field_members, fields_unless_interface}
use Rattle.cil_model.specs.Chains.{base_of, chain_within, fields_declared, listed_by}
use Rattle.cil_model.specs.Fields.{FieldKey, same_key, keyed_fields, instance_fields, static_fields, hidden_slots, slot_types, instance_slot, static_slot}
use Rattle.cil_model.specs.Legality.{IsLegal, has_repeat, doubles_name, class_doubles, is_own_base}
use Rattle.cil_model.proofs.Legal.{no_cycle}
use Rattle.cil_model.proofs.SameLaws.{same_text_itself, same_class_itself, class_equivalence}
use Rattle.resolved_code.proofs.ListLaws.Repeats.{has_repeat-map}
use Rattle.name_tables.specs.Numbers.{class_number, declarations, field_at, source_entry}
use Rattle.name_tables.proofs.NumberLaws.{none_is_some}
use Rattle.class_layout.specs.Kinds.{own_kinds, slot_kinds, kind_of}
use Rattle.class_layout.specs.FieldSlots.{number_after, fields_by_id, statics_after, first_slot, field_rows, class_names}
use Rattle.cil_model.proofs.Legal.{unbroken}
use Rattle.cil_model.proofs.Lists.{passes_not}
use Rattle.resolved_code.proofs.Numbers.Classes.{FoundAt, found_at, not_declared, number_of_index, entries_occur_once}
use Rattle.class_layout.proofs.KindLaws.{filtered, slots_counted}

-- ---- indices in lists

-- a look-up goes past items that do not pass
pub position_past : {X : Type 0} (test : X → Bool) (i : ℕ) (xs ys : List X) → list_any test xs ≡ false → position_from test i (xs ++ ys) ≡ position_from test (i + length xs) ys
position_past test i [] ys h = let e : i ≡ i + 0 = omega arith in ap (λ n. position_from test n ys) e
position_past test i (x ∷ xs) ys h =
    let e : i + 1 + length xs ≡ i + suc (length xs) = omega arith in
    ap (λ b. cond b (Some i) (position_from test (i + 1) (xs ++ ys))) (or_parts _ _ h).0 ∙ position_past test (i + 1) xs ys (or_parts _ _ h).1 ∙ ap (λ n. position_from test n ys) e

-- ---- the fields of one class

abbrev pub same_name : Field → Field → Bool
same_name a b = same_text a.name b.name

abbrev pub of_flag : Bool → List Field → List Field
of_flag flag fs = filter (λ (f : Field). same_flag f.is_static flag) fs

-- the number of a field is where its key is found among those of its flag
module _ {Y : Type 0} (flag : Bool) (key : Field → Y) (test : Y → Bool) (further : List Y) (f : Field) (alike : (g : Field) → test (key g) ≡ same_text g.name f.name) (flagged : f.is_static ≡ flag) where
  field_number_is : (fs : List Field) (s i p : ℕ) → has_repeat same_name fs ≡ false → slice_get fs p ≡ Some f →
      slice_get (fields_by_id s i fs) p ≡ position_from test (if flag then s else i) (map key (of_flag flag fs) ++ further)
  field_number_is [] s i p h e = absurd (none_is_some f e)
  field_number_is (g ∷ gs) s i zero h e =
      let q : g ≡ f = cc in
      let own : g.is_static ≡ flag = ap (λ (x : Field). x.is_static) q ∙ flagged in
      let named : test (key g) ≡ true = alike g ∙ ap (λ (x : Field). same_text x.name f.name) q ∙ same_text_itself f.name in
      by_flag flag g.is_static own named
    where
      by_flag : (v b : Bool) → b ≡ v → test (key g) ≡ true → Some (if b then s else i) ≡ position_from test (if v then s else i) (map key (cond (same_flag b v) (g ∷ of_flag v gs) (of_flag v gs)) ++ further)
      by_flag true true k named = sym (ap (λ t. cond t (Some s) (position_from test (s + 1) (map key (of_flag true gs) ++ further))) named)
      by_flag false false k named = sym (ap (λ t. cond t (Some i) (position_from test (i + 1) (map key (of_flag false gs) ++ further))) named)
      by_flag _ _ k named = absurd (cc k)
  field_number_is (g ∷ gs) s i (suc p) h e = by_flag flag g.is_static (λ t j. field_number_is gs t j p (or_parts _ _ h).1 e)
    where
      other : test (key g) ≡ false
      other = alike g ∙ passes_not (same_name g) gs p f (or_parts _ _ h).0 e

      by_flag : (v b : Bool) → ((t j : ℕ) → slice_get (fields_by_id t j gs) p ≡ position_from test (if v then t else j) (map key (of_flag v gs) ++ further)) →
          slice_get (fields_by_id (number_after b s) (if b then i else i + 1) gs) p ≡
          position_from test (if v then s else i) (map key (cond (same_flag b v) (g ∷ of_flag v gs) (of_flag v gs)) ++ further)
      by_flag true true rest = rest (s + 1) i ∙ sym (ap (λ t. cond t (Some s) (position_from test (s + 1) (map key (of_flag true gs) ++ further))) other)
      by_flag false true rest = rest (s + 1) i
      by_flag true false rest = rest s (i + 1)
      by_flag false false rest = rest s (i + 1) ∙ sym (ap (λ t. cond t (Some i) (position_from test (i + 1) (map key (of_flag false gs) ++ further))) other)

-- the count of static fields is their number
pub statics_counted : (s : ℕ) (fs : List Field) → statics_after s fs ≡ s + length (of_flag true fs)
statics_counted s [] = omega arith
statics_counted s (f ∷ fs) = by_flag f.is_static (λ t. statics_counted t fs)
  where
    by_flag : (b : Bool) → ((t : ℕ) → statics_after t fs ≡ t + length (of_flag true fs)) → statics_after (number_after b s) fs ≡ s + length (cond (same_flag b true) (f ∷ of_flag true fs) (of_flag true fs))
    by_flag true rest = let k : s + 1 + length (of_flag true fs) ≡ s + suc (length (of_flag true fs)) = omega arith in rest (s + 1) ∙ k
    by_flag false rest = rest s

-- ---- keys

abbrev pub key_in : ClassName → Field → FieldKey × DeclaredType
key_in c f = (record { declared_in = c; name = f.name }, f.field_type)

abbrev pub keyed : ClassName → Field → FieldKey × DeclaredType → Bool
keyed c f y = same_key y.0 (record { declared_in = c; name = f.name })

pub own_alike : (c : ClassName) (f g : Field) → keyed c f (key_in c g) ≡ same_text g.name f.name
own_alike c f g = ap (λ b. b && same_text g.name f.name) (same_class_itself c)

module _ (tree : Tree) (c : ClassName) (f : Field) where
  none_of_other : (x : ClassName) → same_class x c ≡ false → (fs : List Field) → list_any (keyed c f) (map (key_in x) fs) ≡ false
  none_of_other x h [] = refl
  none_of_other x h (g ∷ gs) = or_from _ _ (ap (λ b. b && same_text g.name f.name) h) (none_of_other x h gs)

  pub none_along : (flag : Bool) (cs : List ClassName) → list_any (same_class c) cs ≡ false → list_any (keyed c f) (flat_map (keyed_fields tree flag) (reverse cs)) ≡ false
  none_along flag [] h = refl
  none_along flag (x ∷ xs) h =
      let apart : same_class x c ≡ false = class_equivalence.symm x c ∙ (or_parts _ _ h).0 in
      ap (λ z. list_any (keyed c f) (flat_map (keyed_fields tree flag) z)) (reverse-append (x ∷ []) xs) ∙ ap (list_any (keyed c f)) (flat_map-append (keyed_fields tree flag) (reverse xs) (x ∷ [])) ∙
      list_any-append (keyed c f) (flat_map (keyed_fields tree flag) (reverse xs)) (keyed_fields tree flag x ++ []) ∙
      or_from _ _ (none_along flag xs (or_parts _ _ h).1) (ap (list_any (keyed c f)) (append-nil (keyed_fields tree flag x)) ∙ none_of_other x apart (of_flag flag (fields_declared tree x)))

-- ---- instance fields

module _ (tree : Tree) where
  abbrev pub above : ClassName → List ClassName
  above c = chain_within tree (suc (suc (length tree.classes))) (base_of tree c)

  abbrev pub inherited : ClassName → List (FieldKey × DeclaredType)
  inherited c = flat_map (keyed_fields tree false) (reverse (above c))

  pub own_last : (c : ClassName) → instance_fields tree c ≡ inherited c ++ (keyed_fields tree false c ++ [])
  own_last c = ap (flat_map (keyed_fields tree false)) (reverse-append (c ∷ []) (above c)) ∙ flat_map-append (keyed_fields tree false) (reverse (above c)) (c ∷ [])

  pub own_counted : (c : ClassName) → length (own_kinds tree c) ≡ length (keyed_fields tree false c)
  own_counted c =
      ap length (filtered (fields_declared tree c)) ∙ length-map (of_flag false (fields_declared tree c)) (λ (g : Field). kind_of (Some g.field_type)) ∙
      sym (length-map (of_flag false (fields_declared tree c)) (key_in c))

  pub first_counted : (c : ClassName) → first_slot tree c ≡ length (hidden_slots tree c) + length (inherited c)
  first_counted c =
      let all : length (slot_kinds tree c) ≡ length (slot_types tree c) = slots_counted tree c in
      let split : length (slot_types tree c) ≡ length (hidden_slots tree c) + length (map (λ (y : FieldKey × DeclaredType). Some y.1) (instance_fields tree c)) =
      length-append (hidden_slots tree c) (map (λ (y : FieldKey × DeclaredType). Some y.1) (instance_fields tree c)) in
      let mapped : length (map (λ (y : FieldKey × DeclaredType). Some y.1) (instance_fields tree c)) ≡ length (instance_fields tree c) = length-map (instance_fields tree c) (λ (y : FieldKey × DeclaredType). Some y.1) in
      let whole : length (instance_fields tree c) ≡ length (inherited c) + length (keyed_fields tree false c) =
      ap length (own_last c) ∙ ap (λ z. length (inherited c ++ z)) (append-nil (keyed_fields tree false c)) ∙ length-append (inherited c) (keyed_fields tree false c) in
      let own : length (own_kinds tree c) ≡ length (keyed_fields tree false c) = own_counted c in
      omega (arith, all, split, mapped, whole, own)

  instance_slot_is : (c : ClassName) (f : Field) (s p : ℕ) → list_any (same_class c) (above c) ≡ false → has_repeat same_name (fields_declared tree c) ≡ false → slice_get (fields_declared tree c) p ≡ Some f → f.is_static ≡ false →
      slice_get (fields_by_id s (first_slot tree c) (fields_declared tree c)) p ≡ instance_slot tree (record { declared_in = c; name = f.name })
  instance_slot_is c f s p lone once at flagged =
      field_number_is false (key_in c) (keyed c f) [] f (own_alike c f) flagged (fields_declared tree c) s (first_slot tree c) p once at ∙
      ap (λ n. position_from (keyed c f) n (keyed_fields tree false c ++ [])) (first_counted c) ∙
      sym (position_past (keyed c f) (length (hidden_slots tree c)) (inherited c) (keyed_fields tree false c ++ []) (none_along tree c f false (above c) lone)) ∙
      ap (position_from (keyed c f) (length (hidden_slots tree c))) (sym (own_last c))

  -- ---- static fields

  abbrev static_start : ℕ → List ClassName → ℕ → ℕ
  static_start s [] n = s
  static_start s (c ∷ cs) zero = s
  static_start s (c ∷ cs) (suc n) = static_start (statics_after s (fields_declared tree c)) cs n

  row_found : (cs : List ClassName) (s n : ℕ) (c : ClassName) → slice_get cs n ≡ Some c → slice_get (field_rows tree s cs) n ≡ Some (fields_by_id (static_start s cs n) (first_slot tree c) (fields_declared tree c))
  row_found [] s n c e = absurd (none_is_some c e)
  row_found (x ∷ xs) s zero c e = let q : x ≡ c = cc in ap (λ y. Some (fields_by_id s (first_slot tree y) (fields_declared tree y))) q
  row_found (x ∷ xs) s (suc n) c e = row_found xs (statics_after s (fields_declared tree x)) n c e

  static_slot_is : (c : ClassName) (f : Field) (i p : ℕ) → has_repeat same_name (fields_declared tree c) ≡ false → slice_get (fields_declared tree c) p ≡ Some f → f.is_static ≡ true →
      (cs : List ClassName) (s n : ℕ) → has_repeat same_class cs ≡ false → slice_get cs n ≡ Some c →
      slice_get (fields_by_id (static_start s cs n) i (fields_declared tree c)) p ≡ position_from (keyed c f) s (flat_map (keyed_fields tree true) cs)
  static_slot_is c f i p once at flagged [] s n h e = absurd (none_is_some c e)
  static_slot_is c f i p once at flagged (x ∷ xs) s zero h e =
      let q : x ≡ c = cc in
      field_number_is true (key_in c) (keyed c f) (flat_map (keyed_fields tree true) xs) f (own_alike c f) flagged (fields_declared tree c) s i p once at ∙
      ap (λ y. position_from (keyed c f) s (keyed_fields tree true y ++ flat_map (keyed_fields tree true) xs)) (sym q)
  static_slot_is c f i p once at flagged (x ∷ xs) s (suc n) h e =
      let apart : same_class x c ≡ false = passes_not (same_class x) xs n c (or_parts _ _ h).0 e in
      let count : statics_after s (fields_declared tree x) ≡ s + length (keyed_fields tree true x) = statics_counted s (fields_declared tree x) ∙ ap (λ m. s + m) (sym (length-map (of_flag true (fields_declared tree x)) (key_in x))) in
      static_slot_is c f i p once at flagged xs (statics_after s (fields_declared tree x)) n (or_parts _ _ h).1 e ∙
      ap (λ m. position_from (keyed c f) m (flat_map (keyed_fields tree true) xs)) count ∙
      sym (position_past (keyed c f) s (keyed_fields tree true x) (flat_map (keyed_fields tree true) xs) (none_of_other tree c f x apart (of_flag true (fields_declared tree x))))

  -- ---- the rules of a legal tree

  of_source : (cs : List Class) → flat_map (keyed_fields tree true) (map (λ (e : ClassName × Declaration). e.0) (map source_entry cs)) ≡ flat_map (λ (k : Class). keyed_fields tree true (source_name k)) cs
  of_source [] = refl
  of_source (k ∷ ks) = ap (λ z. keyed_fields tree true (source_name k) ++ z) (of_source ks)

  pub all_statics : flat_map (keyed_fields tree true) (class_names tree) ≡ static_fields tree
  all_statics = of_source tree.classes

  no_double : IsLegal tree → list_any class_doubles tree.classes ≡ false
  no_double legal = let h : doubles_name tree ≡ false = (unbroken (doubles_name tree) 201 _ legal).0 in (or_parts _ _ h).1

  shorter : (test : ClassName → Bool) (n : ℕ) (o : Option ClassName) → list_any test (chain_within tree (suc n) o) ≡ false → list_any test (chain_within tree n o) ≡ false
  shorter test (suc n) (Some c) h = or_from _ _ (or_parts _ _ h).0 (shorter test n (base_of tree c) (or_parts _ _ h).1)
  shorter _ _ _ _ = refl

  -- a class with fields is of the source
  abbrev IsOfSource : ClassName → Declaration → Type 0
  IsOfSource c d = (k : Class) × (m : ℕ) × (slice_get tree.classes m ≡ Some k) × ((c, d) ≡ source_entry k)

  of_the_source : (n p : ℕ) (c : ClassName) (d : Declaration) (f : Field) → slice_get (declarations tree) n ≡ Some (c, d) → slice_get d.fields p ≡ Some f → IsOfSource c d
  of_the_source n p c d f h at = by_number n h
    where
      without_fields : (o : Option (ClassName × Declaration)) → o ≡ Some (c, d) → option_map_or (λ (y : ClassName × Declaration). y.1.fields) o [] ≡ [] → IsOfSource c d
      without_fields o same none =
          let empty : d.fields ≡ [] = sym (ap (λ z. option_map_or (λ (y : ClassName × Declaration). y.1.fields) z []) same) ∙ none in
          absurd (none_is_some f (sym (ap (λ xs. slice_get xs p) empty) ∙ at))

      by_class : (m : ℕ) (o : Option Class) → slice_get tree.classes m ≡ o → option_map source_entry o ≡ Some (c, d) → IsOfSource c d
      by_class m None e k = absurd (none_is_some (c, d) k)
      by_class m (Some s) e k = let q : (c, d) ≡ source_entry s = cc in (s, m, e, q)

      by_number : (m : ℕ) → slice_get (declarations tree) m ≡ Some (c, d) → IsOfSource c d
      by_number zero k = without_fields (slice_get (declarations tree) 0) k refl
      by_number (suc zero) k = without_fields (slice_get (declarations tree) 1) k refl
      by_number (suc (suc zero)) k = without_fields (slice_get (declarations tree) 2) k refl
      by_number (suc (suc (suc zero))) k = without_fields (slice_get (declarations tree) 3) k refl
      by_number (suc (suc (suc (suc zero)))) k = without_fields (slice_get (declarations tree) 4) k refl
      by_number (suc (suc (suc (suc (suc m))))) k = by_class m (slice_get tree.classes m) refl (sym (slice_get-map source_entry tree.classes m) ∙ k)

  once_in : IsLegal tree → (k : Class) (m : ℕ) → slice_get tree.classes m ≡ Some k → has_repeat same_name (fields_unless_interface k.kind (field_members k)) ≡ false
  once_in legal k m e = by_kind k.kind
    where
      among : has_repeat same_name (field_members k) ≡ false
      among = (or_parts _ _ (or_parts _ _ (or_parts _ _ (passes_not class_doubles tree.classes m k (no_double legal) e)).0).0).0

      by_kind : (kind : ClassKind) → has_repeat same_name (fields_unless_interface kind (field_members k)) ≡ false
      by_kind Interface = refl
      by_kind (PlainClass is_abstract base interfaces) = among

  -- so is a class that declares a field
  declared_in_source : (c : ClassName) (p : ℕ) (f : Field) → slice_get (fields_declared tree c) p ≡ Some f → (d : Declaration) × (fields_declared tree c ≡ d.fields) × IsOfSource c d
  declared_in_source c p f at = by_number (class_number tree c) refl
    where
      by_number : (o : Option ℕ) → class_number tree c ≡ o → (d : Declaration) × (fields_declared tree c ≡ d.fields) × IsOfSource c d
      by_number None is = absurd (none_is_some f (sym (ap (λ o. slice_get (listed_by (λ (x : Declaration). x.fields) o) p) (not_declared tree c is)) ∙ at))
      by_number (Some n) is =
          let found : FoundAt tree c n = found_at tree c n is in
          let declared : fields_declared tree c ≡ found.0.fields = ap (listed_by (λ (x : Declaration). x.fields)) found.1 in
          (found.0, declared, of_the_source n p c found.0 f found.2 (sym (ap (λ xs. slice_get xs p) declared) ∙ at))

  -- it declares no two fields of one name
  pub once_declared : IsLegal tree → (c : ClassName) (p : ℕ) (f : Field) → slice_get (fields_declared tree c) p ≡ Some f → has_repeat same_name (fields_declared tree c) ≡ false
  once_declared legal c p f at =
      let found = declared_in_source c p f at in
      ap (has_repeat same_name) (found.1 ∙ ap (λ (y : ClassName × Declaration). y.1.fields) found.2.3) ∙ once_in legal found.2.0 found.2.1 found.2.2

  -- and is not above itself
  pub none_above : IsLegal tree → (c : ClassName) (p : ℕ) (f : Field) → slice_get (fields_declared tree c) p ≡ Some f → list_any (same_class c) (above c) ≡ false
  none_above legal c p f at =
      let found = declared_in_source c p f at in
      let source = found.2 in
      let P : ClassName → Type 0 = λ x. is_own_base tree x ≡ false in
      let apart : is_own_base tree c ≡ false = subst P (sym (ap (λ (y : ClassName × Declaration). y.0) source.3)) (passes_not (λ (k : Class). is_own_base tree (source_name k)) tree.classes source.1 source.0 (no_cycle tree legal) source.2) in
      shorter (same_class c) (suc (suc (length tree.classes))) (base_of tree c) apart

  names_occur_once_too : IsLegal tree → has_repeat same_class (class_names tree) ≡ false
  names_occur_once_too legal = has_repeat-map (λ (e : ClassName × Declaration). e.0) same_class (declarations tree) ∙ entries_occur_once tree legal

  -- ---- what the table holds

  abbrev slot_of : Bool → FieldKey → Option ℕ
  slot_of is_static k = if is_static then static_slot tree k else instance_slot tree k

  in_row : IsLegal tree → (n p : ℕ) (c : ClassName) (d : Declaration) (f : Field) → slice_get (declarations tree) n ≡ Some (c, d) → slice_get d.fields p ≡ Some f →
      slice_get (unwrap_or (slice_get (field_rows tree 0 (class_names tree)) n) []) p ≡ slot_of f.is_static (record { declared_in = c; name = f.name })
  in_row legal n p c d f h at = row ∙ by_flag f.is_static refl
    where
      declared : fields_declared tree c ≡ d.fields
      declared =
          let found : FoundAt tree c n = found_at tree c n (number_of_index tree legal n (c, d) h) in
          let both : Some (c, found.0) ≡ Some (c, d) = sym found.2 ∙ h in
          let pairs : (c, found.0) ≡ (c, d) = cc in
          let same : found.0 ≡ d = ap (λ (y : ClassName × Declaration). y.1) pairs in
          ap (listed_by (λ (x : Declaration). x.fields)) found.1 ∙ ap (λ (x : Declaration). x.fields) same

      at_index : slice_get (fields_declared tree c) p ≡ Some f
      at_index = ap (λ xs. slice_get xs p) declared ∙ at

      named : slice_get (class_names tree) n ≡ Some c
      named = slice_get-map (λ (e : ClassName × Declaration). e.0) (declarations tree) n ∙ ap (option_map (λ (e : ClassName × Declaration). e.0)) h

      row : slice_get (unwrap_or (slice_get (field_rows tree 0 (class_names tree)) n) []) p ≡ slice_get (fields_by_id (static_start 0 (class_names tree) n) (first_slot tree c) (fields_declared tree c)) p
      row = ap (λ o. slice_get (unwrap_or o []) p) (row_found (class_names tree) 0 n c named)

      by_flag : (b : Bool) → f.is_static ≡ b → slice_get (fields_by_id (static_start 0 (class_names tree) n) (first_slot tree c) (fields_declared tree c)) p ≡ slot_of b (record { declared_in = c; name = f.name })
      by_flag false e = instance_slot_is c f (static_start 0 (class_names tree) n) p (none_above legal c p f at_index) (once_declared legal c p f at_index) at_index e
      by_flag true e = static_slot_is c f (first_slot tree c) p (once_declared legal c p f at_index) at_index e (class_names tree) 0 n (names_occur_once_too legal) named ∙ ap (position_from (keyed c f) 0) all_statics

  -- the number or slot of the field that a class and an index find
  pub slot_found : IsLegal tree → (n p : ℕ) (c : ClassName) (f : Field) → field_at tree (n, p) ≡ Some (c, f) →
      slice_get (unwrap_or (slice_get (field_rows tree 0 (class_names tree)) n) []) p ≡ slot_of f.is_static (record { declared_in = c; name = f.name })
  slot_found legal n p c f h = by_entry (slice_get (declarations tree) n) refl h
    where
      by_entry : (o : Option (ClassName × Declaration)) → slice_get (declarations tree) n ≡ o → option_and_then {U = ClassName × Field} (λ (e : ClassName × Declaration). option_map (λ x. (e.0, x)) (slice_get e.1.fields p)) o ≡ Some (c, f) →
          slice_get (unwrap_or (slice_get (field_rows tree 0 (class_names tree)) n) []) p ≡ slot_of f.is_static (record { declared_in = c; name = f.name })
      by_entry None e k = absurd (none_is_some (c, f) k)
      by_entry (Some (a, d)) e k = by_field (slice_get d.fields p) refl k
        where
          by_field : (o : Option Field) → slice_get d.fields p ≡ o → option_map {U = ClassName × Field} (λ x. (a, x)) o ≡ Some (c, f) →
              slice_get (unwrap_or (slice_get (field_rows tree 0 (class_names tree)) n) []) p ≡ slot_of f.is_static (record { declared_in = c; name = f.name })
          by_field None q z = absurd (none_is_some (c, f) z)
          by_field (Some g) q z =
              let pairs : (a, g) ≡ (c, f) = cc in
              let P : ClassName × Field → Type 0 = λ y. slice_get (unwrap_or (slice_get (field_rows tree 0 (class_names tree)) n) []) p ≡ slot_of y.1.is_static (record { declared_in = y.0; name = y.1.name }) in
              subst P pairs (in_row legal n p a d g e q)
