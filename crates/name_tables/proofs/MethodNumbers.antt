-- Methods by the numbers of their names and signatures.
use Rattle.std.proofs.Common.{Global, Vec, length, ◌≡◌, ℕ, zero, suc, ◌+◌, Bool, true, false, ◌&&◌, ◌==◌, cond, List, [], ◌∷◌, ◌++◌, map, flat_map, Option, Some, None, option_and_then, slice_get, slice_index_or, refl, sym, ap, ◌∙◌}
use Rattle.std.specs.Prelude.{filter}
use Rattle.std.specs.List.{list_all, position_from}
use Rattle.std.proofs.lemmas.Bool.{and_from}
use Rattle.std.proofs.lemmas.List.{map-append, length-map}
use Rattle.std.proofs.lemmas.List.Folds.{flat_map-map}
use Rattle.cil_model.proofs.SameLaws.{both_first, both_second}
use Rattle.cil_model.specs.Same.{same_flag}
use Rattle.cil_model.specs.declared.types.ClassName.{ClassName}
use Rattle.cil_model.specs.declared.trees.Tree.{Tree}
use Rattle.cil_model.specs.declared.trees.Method.{Method}
use Rattle.cil_model.specs.Declarations.{Declaration}
use Rattle.inheritance.specs.Lines as lines
use Rattle.name_tables.specs.declared.class_tables.ClassTable.{ClassTable}
use Rattle.name_tables.specs.declared.keys.MethodKey.{MethodKey}
use Rattle.name_tables.specs.declared.keys.CallNumber.{CallNumber}
use Rattle.name_tables.specs.Entries.{declaration_in, entry_of}
use Rattle.name_tables.specs.KeyIds.{number_in}
use Rattle.name_tables.specs.Keys.{method_of_key}
use Rattle.name_tables.specs.Methods.{identity_number, method_index, has_virtual, virtuals_of, virtual_index, call_of, call_index, AreNumbers}
use Rattle.name_tables.specs.Numbers.{declarations}
use Rattle.name_tables.specs.Sameness.{MethodIdentity, same_identity, identity_of, same_call_identity, call_identity_of, same_call}
use Rattle.name_tables.specs.SamenessLaws.{identity_equivalence}
use Rattle.name_tables.proofs.KeyNumbers.{is_known, known_in_rows, number_decides, index_by_number, row_at, number_of_view}
use Rattle.name_tables.proofs.Lists.{map_of_map}
use Rattle.name_tables.proofs.MemberLaws.{index_at}
use Rattle.name_tables.proofs.NumberLaws.{position_from-map}

-- lists of lists that are the same part by part
pub flat_parts : {K X Y : Type 0} (view : K → X) (rows : List (List K)) (part : Y → List X) (ys : List Y) → map (map view) rows ≡ map part ys → map view (flat_map (λ row. row) rows) ≡ flat_map part ys
flat_parts view rows part ys e = parts rows ∙ ap (flat_map (λ row. row)) e ∙ flat_map-map (λ row. row) part ys
  where
    parts : (rs : List (List _)) → map view (flat_map (λ row. row) rs) ≡ flat_map (λ row. row) (map (map view) rs)
    parts [] = refl
    parts (r ∷ rs) = map-append view r (flat_map (λ row. row) rs) ∙ ap (λ xs. map view r ++ xs) (parts rs)

number_rows : {K X : Type 0} (view : K → X) (same : X → X → Bool) (keys : List K) (rows : List (List K)) → map (map (number_in (λ a b. same (view a) (view b)) keys)) rows ≡ map (map (number_in same (map view keys))) (map (map view) rows)
number_rows {K} view same keys [] = refl
number_rows {K} view same keys (r ∷ rs) = ap (λ ns. ns ∷ map (map (number_in (λ a b. same (view a) (view b)) keys)) rs) (row r) ∙ ap (λ rows. map (number_in same (map view keys)) (map view r) ∷ rows) (number_rows view same keys rs)
  where
    row : (ks : List K) → map (number_in (λ a b. same (view a) (view b)) keys) ks ≡ map (number_in same (map view keys)) (map view ks)
    row [] = refl
    row (k ∷ ks) = ap (λ n. n ∷ map (number_in (λ a b. same (view a) (view b)) keys) ks) (number_of_view view same keys k) ∙ ap (λ ns. number_in same (map view keys) (view k) ∷ ns) (row ks)

all_filtered : {X : Type 0} (p q : X → Bool) (xs : List X) → list_all p xs ≡ true → list_all p (filter q xs) ≡ true
all_filtered p q [] h = refl
all_filtered p q (x ∷ xs) h = by_test (all_filtered p q xs (both_second _ _ h)) (q x)
  where
    by_test : list_all p (filter q xs) ≡ true → (b : Bool) → list_all p (cond b (x ∷ filter q xs) (filter q xs)) ≡ true
    by_test further true = and_from _ _ (both_first _ _ h) further
    by_test further false = further

abbrev pub identities : ClassName × Declaration → List MethodIdentity
identities e = map identity_of e.1.methods

split_numbers : (number : MethodIdentity → ℕ) (es : List (ClassName × Declaration)) → map (λ (e : ClassName × Declaration). map (λ (m : Method). number (identity_of m)) e.1.methods) es ≡ map (λ e. map number (identities e)) es
split_numbers number [] = refl
split_numbers number (e ∷ es) =
    ap (λ r. r ∷ map (λ (d : ClassName × Declaration). map (λ (m : Method). number (identity_of m)) d.1.methods) es) (sym (map_of_map identity_of number e.1.methods)) ∙ ap (λ rs. map number (identities e) ∷ rs) (split_numbers number es)

-- the numbers of all declared methods
pub declared_numbers : (tree : Tree) (keys : List MethodKey) (rows : List (List MethodKey)) → map (map method_of_key) rows ≡ map identities (declarations tree) →
    AreNumbers tree (identity_number keys) (map (map (number_in (λ (a b : MethodKey). same_identity (method_of_key a) (method_of_key b)) keys)) rows)
declared_numbers tree keys rows parts =
    number_rows method_of_key same_identity keys rows ∙ ap (map (map (identity_number keys))) parts ∙ map_of_map identities (map (identity_number keys)) (declarations tree) ∙ sym (split_numbers (identity_number keys) (declarations tree))

module _ (tree : Tree) (keys : List MethodKey) (known : map method_of_key keys ≡ flat_map identities (declarations tree)) where
  abbrev all : List MethodIdentity
  all = map method_of_key keys

  abbrev number : MethodIdentity → ℕ
  number = identity_number keys

  abbrev known_to_all : MethodIdentity → Bool
  known_to_all = is_known same_identity identity_equivalence all

  known_methods : (class : ℕ) → list_all known_to_all (slice_index_or (map identities (declarations tree)) class []) ≡ true
  known_methods class = ap (λ ks. list_all (is_known same_identity identity_equivalence ks) (slice_index_or (map identities (declarations tree)) class [])) known ∙ known_in_rows same_identity identity_equivalence identities (declarations tree) class

  known_virtuals : (class : ℕ) → list_all known_to_all (slice_index_or (map (λ (e : ClassName × Declaration). virtuals_of e.1) (declarations tree)) class []) ≡ true
  known_virtuals class = of (declarations tree) class (known_methods class)
    where
      of : (es : List (ClassName × Declaration)) (n : ℕ) → list_all known_to_all (slice_index_or (map identities es) n []) ≡ true → list_all known_to_all (slice_index_or (map (λ (e : ClassName × Declaration). virtuals_of e.1) es) n []) ≡ true
      of [] n h = refl
      of (e ∷ es) zero h = all_filtered known_to_all (has_virtual e.1) (identities e) h
      of (e ∷ es) (suc n) h = of es n h

  -- where a part of each class is known, the index by numbers is that by names and signatures
  indices_by_numbers : (part : ClassName × Declaration → List MethodIdentity) → ((class : ℕ) → list_all known_to_all (slice_index_or (map part (declarations tree)) class []) ≡ true) →
      (rows : List (List ℕ)) → rows ≡ map (λ e. map number (part e)) (declarations tree) → (k : MethodIdentity) (class : ℕ) →
      lines.index_in rows (number k) class ≡ option_and_then (λ e. position_from (same_identity k) 0 (part e)) (slice_get (declarations tree) class)
  indices_by_numbers part inside rows are k class =
      ap (λ rs. position_from (λ n. number k == n) 0 (slice_index_or rs class [])) are ∙
      ap (position_from (λ n. number k == n) 0) (row_at same_identity identity_equivalence part number (declarations tree) class) ∙
      index_by_number same_identity identity_equivalence all k (slice_index_or (map part (declarations tree)) class []) 0 (inside class) ∙
      index_at part (same_identity k) (declarations tree) class

  pub methods_by_numbers : (rows : List (List ℕ)) → AreNumbers tree number rows → (k : MethodIdentity) (class : ℕ) → lines.index_in rows (number k) class ≡ method_index tree k class
  methods_by_numbers rows are k class =
      indices_by_numbers identities known_methods rows (are ∙ split_numbers number (declarations tree)) k class ∙ of (slice_get (declarations tree) class)
    where
      of : (o : Option (ClassName × Declaration)) → option_and_then (λ e. position_from (same_identity k) 0 (identities e)) o ≡ option_and_then (λ (e : ClassName × Declaration). position_from (λ m. same_identity k (identity_of m)) 0 e.1.methods) o
      of None = refl
      of (Some e) = position_from-map identity_of (same_identity k) 0 e.1.methods

  pub virtuals_by_numbers : (rows : List (List ℕ)) → rows ≡ map (λ (e : ClassName × Declaration). map number (virtuals_of e.1)) (declarations tree) → (k : MethodIdentity) (class : ℕ) → lines.index_in rows (number k) class ≡ virtual_index tree k class
  virtuals_by_numbers rows are k class = indices_by_numbers (λ (e : ClassName × Declaration). virtuals_of e.1) known_virtuals rows are k class

  call_decides : (k : MethodIdentity × Bool) (m : Method) → known_to_all (identity_of m) ≡ true → same_call (call_of number k) (call_of number (call_identity_of m)) ≡ same_call_identity k (call_identity_of m)
  call_decides k m h = ap (λ b. b && same_flag k.1 (call_identity_of m).1) (number_decides same_identity identity_equivalence all k.0 (identity_of m) h)

  call_indices : (k : MethodIdentity × Bool) (ms : List Method) (i : ℕ) → list_all known_to_all (map identity_of ms) ≡ true →
      position_from (same_call (call_of number k)) i (map (λ (m : Method). call_of number (call_identity_of m)) ms) ≡ position_from (λ m. same_call_identity k (call_identity_of m)) i ms
  call_indices k [] i h = refl
  call_indices k (m ∷ ms) i h =
      ap (λ b. cond b (Some i) (position_from (same_call (call_of number k)) (i + 1) (map (λ (x : Method). call_of number (call_identity_of x)) ms))) (call_decides k m (both_first _ _ h)) ∙
      ap (λ o. cond (same_call_identity k (call_identity_of m)) (Some i) o) (call_indices k ms (i + 1) (both_second _ _ h))

  pub calls_by_numbers : (rows : List (List CallNumber)) → rows ≡ map (λ (e : ClassName × Declaration). map (λ (m : Method). call_of number (call_identity_of m)) e.1.methods) (declarations tree) → (k : MethodIdentity × Bool) (class : ℕ) →
      position_from (same_call (call_of number k)) 0 (slice_index_or rows class []) ≡ call_index tree k class
  calls_by_numbers rows are k class = ap (λ rs. position_from (same_call (call_of number k)) 0 (slice_index_or rs class [])) are ∙ of (declarations tree) class (known_methods class)
    where
      of : (es : List (ClassName × Declaration)) (n : ℕ) → list_all known_to_all (slice_index_or (map identities es) n []) ≡ true →
          position_from (same_call (call_of number k)) 0 (slice_index_or (map (λ (e : ClassName × Declaration). map (λ (m : Method). call_of number (call_identity_of m)) e.1.methods) es) n []) ≡
          option_and_then (λ (e : ClassName × Declaration). position_from (λ m. same_call_identity k (call_identity_of m)) 0 e.1.methods) (slice_get es n)
      of [] n h = refl
      of (e ∷ es) zero h = call_indices k e.1.methods 0 h
      of (e ∷ es) (suc n) h = of es n h

-- what is said of all classes is said of their tables
pub of_tables : {X : Type 0} (tables : List ClassTable) (tree : Tree) (part : ClassName × Declaration → X) → map (λ (t : ClassTable). entry_of t.class) tables ≡ declarations tree → map part (declarations tree) ≡ map (λ (t : ClassTable). part (entry_of t.class)) tables
of_tables tables tree part e = ap (map part) (sym e) ∙ map_of_map (λ (t : ClassTable). entry_of t.class) part tables

-- the number of method numbers is that of the methods
pub same_count : (tables : List ClassTable) (numbers : List (Vec ℕ Global)) (number : MethodIdentity → ℕ) → map (λ (r : Vec ℕ Global). r.items) numbers ≡ map (λ (t : ClassTable). map (λ (m : Method). number (identity_of m)) (declaration_in t.class).methods) tables →
    map (λ (r : Vec ℕ Global). length r.items) numbers ≡ map (λ (t : ClassTable). length (declaration_in t.class).methods) tables
same_count tables numbers number e =
    sym (map_of_map (λ (r : Vec ℕ Global). r.items) length numbers) ∙ ap (map length) e ∙ map_of_map (λ (t : ClassTable). map (λ (m : Method). number (identity_of m)) (declaration_in t.class).methods) length tables ∙ lengths tables
  where
    lengths : (ts : List ClassTable) → map (λ (t : ClassTable). length (map (λ (m : Method). number (identity_of m)) (declaration_in t.class).methods)) ts ≡ map (λ (t : ClassTable). length (declaration_in t.class).methods) ts
    lengths [] = refl
    lengths (t ∷ ts) =
        ap (λ n. n ∷ map (λ (x : ClassTable). length (map (λ (m : Method). number (identity_of m)) (declaration_in x.class).methods)) ts) (length-map (declaration_in t.class).methods (λ (m : Method). number (identity_of m))) ∙
        ap (λ ns. length (declaration_in t.class).methods ∷ ns) (lengths ts)
