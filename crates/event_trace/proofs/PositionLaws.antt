-- The methods of a program are where their positions say.
use Rattle.std.proofs.Common.{Global, Vec, ◌≡◌, ◌+◌, ◌<◌, ℕ, zero, suc, List, [], ◌∷◌, ◌++◌, length, get_or, drop, map, filter_map, Option, Some, None, refl, sym, ap, ◌∙◌, arith, append_assoc}
use Rattle.std.specs.Prelude.{option_and_then, option_map, slice_get}
use Rattle.std.proofs.lemmas.List.{at_drop_more}
use Rattle.cil_model.specs.declared.trees.Member.{Member}
use Rattle.cil_model.specs.declared.trees.Member.TheVariants.{Field as FieldMember, Method as MethodMember}
use Rattle.cil_model.proofs.Lists.{get_after}
use Rattle.event_trace.proofs.Names.{slice_get-map, length-append, ClassName, Tree, Class, Method, Declaration, built_ins, built_in_entry, as_method, source_name, source_entry, method_at, built_in_method, method_indices, source_method, MethodPositions, ArePositionsOf, FIRST_OF_SOURCE}

-- an index in the first of two lists
in_first : {X : Type 0} (xs ys : List X) (n : ℕ) → n < length xs → slice_get (xs ++ ys) n ≡ slice_get xs n
in_first [] ys n below = absurd (omega (arith, below))
in_first (x ∷ xs) ys zero below = refl
in_first (x ∷ xs) ys (suc n) below = in_first xs ys n (omega (arith, below))

-- ---- the methods among members

-- the member at an index that is listed is the method, where other members come before
is_listed : (before members : List Member) (n : ℕ) → n ≡ length before → (p : ℕ) →
    option_and_then (λ i. option_and_then as_method (slice_get (before ++ members) i)) (slice_get (method_indices n members) p) ≡ slice_get (filter_map as_method members) p
is_listed before [] n e p = refl
is_listed before (FieldMember f ∷ members) n e p =
    let one : length (before ++ FieldMember f ∷ []) ≡ length before + 1 = length-append before (FieldMember f ∷ []) in
    let next : n + 1 ≡ length (before ++ FieldMember f ∷ []) = omega (arith, e, one) in
    ap (λ all. option_and_then (λ i. option_and_then as_method (slice_get all i)) (slice_get (method_indices (n + 1) members) p)) (sym (append_assoc before (FieldMember f ∷ []) members))
    ∙ is_listed (before ++ FieldMember f ∷ []) members (n + 1) next p
is_listed before (MethodMember m ∷ members) n e zero =
    let here : n ≡ length before + 0 = omega (arith, e) in
    ap (option_and_then as_method) (get_after before (MethodMember m ∷ members) n 0 here)
is_listed before (MethodMember m ∷ members) n e (suc p) =
    let one : length (before ++ MethodMember m ∷ []) ≡ length before + 1 = length-append before (MethodMember m ∷ []) in
    let next : n + 1 ≡ length (before ++ MethodMember m ∷ []) = omega (arith, e, one) in
    ap (λ all. option_and_then (λ i. option_and_then as_method (slice_get all i)) (slice_get (method_indices (n + 1) members) p)) (sym (append_assoc before (MethodMember m ∷ []) members))
    ∙ is_listed (before ++ MethodMember m ∷ []) members (n + 1) next p

-- the indices among the members from an index on, where a method is at it, and where it is not
pub next_method : (i : ℕ) (members : List Member) (x : Member) (m : Method) → i < length members → x ≡ get_or members i x → x ≡ MethodMember m → method_indices i (drop i members) ≡ i ∷ method_indices (i + 1) (drop (i + 1) members)
next_method i members x m below at is = at_drop_more (method_indices i) members i x below ∙ ap (λ y. method_indices i (y ∷ drop (i + 1) members)) (sym at ∙ is)

pub next_other : (i : ℕ) (members : List Member) (x : Member) → i < length members → x ≡ get_or members i x → ((m : Method) → x ≡ MethodMember m → ⊥) → method_indices i (drop i members) ≡ method_indices (i + 1) (drop (i + 1) members)
next_other i members x below at absent = at_drop_more (method_indices i) members i x below ∙ ap (λ y. method_indices i (y ∷ drop (i + 1) members)) (sym at) ∙ other x absent
  where
    other : (y : Member) → ((m : Method) → y ≡ MethodMember m → ⊥) → method_indices i (y ∷ drop (i + 1) members) ≡ method_indices (i + 1) (drop (i + 1) members)
    other (FieldMember f) absent = refl
    other (MethodMember m) absent = absurd (absent m refl)

-- ---- methods by their ids

module _ (tree : Tree) (p : MethodPositions) (is : ArePositionsOf tree p) where
  abbrev of : ℕ → ClassName × Declaration → Option (ClassName × Method)
  of index e = option_map (λ m. (e.0, m)) (slice_get e.1.methods index)

  -- a method of a built-in class
  pub built_in_at : (class index : ℕ) → class < FIRST_OF_SOURCE → option_and_then (built_in_method index) (slice_get (map built_in_entry p.built_ins) class) ≡ method_at tree (class, index)
  built_in_at class index below =
      ap (λ es. option_and_then (built_in_method index) (slice_get es class)) is.built_ins
      ∙ sym (ap (option_and_then (of index)) (in_first built_ins (map source_entry tree.classes) class below))

  abbrev indices : Class → List ℕ
  indices c = method_indices 0 c.members

  abbrev by_index : ℕ → Option Class → Option (List ℕ) → Option (ClassName × Method)
  by_index index class row = option_and_then (λ i. option_and_then (source_method i) class) (option_and_then (λ items. slice_get items index) row)

  own : (c : Class) (o : Option ℕ) → option_and_then (λ i. source_method i c) o ≡ option_map (λ m. (source_name c, m)) (option_and_then (λ i. option_and_then as_method (slice_get c.members i)) o)
  own c None = refl
  own c (Some i) = refl

  of_class : (index : ℕ) (o : Option Class) → by_index index o (option_map indices o) ≡ option_and_then (of index) (option_map source_entry o)
  of_class index None = refl
  of_class index (Some c) = own c (slice_get (indices c) index) ∙ ap (option_map (λ m. (source_name c, m))) (is_listed [] c.members 0 refl index)

  row_of : (rows : List (Vec ℕ Global)) (k index : ℕ) → option_and_then (λ (row : Vec ℕ Global). slice_get row.items index) (slice_get rows k) ≡ option_and_then (λ items. slice_get items index) (slice_get (map (λ (row : Vec ℕ Global). row.items) rows) k)
  row_of rows k index = by_row (slice_get rows k) ∙ ap (option_and_then (λ items. slice_get items index)) (sym (slice_get-map (λ (row : Vec ℕ Global). row.items) rows k))
    where
      by_row : (o : Option (Vec ℕ Global)) → option_and_then (λ (row : Vec ℕ Global). slice_get row.items index) o ≡ option_and_then (λ items. slice_get items index) (option_map (λ (row : Vec ℕ Global). row.items) o)
      by_row None = refl
      by_row (Some row) = refl

  -- a method of a class of the source
  pub source_at : (class k index : ℕ) → class ≡ FIRST_OF_SOURCE + k →
      option_and_then (λ i. option_and_then (source_method i) (slice_get tree.classes k)) (option_and_then (λ (row : Vec ℕ Global). slice_get row.items index) (slice_get p.source.items k)) ≡ method_at tree (class, index)
  source_at class k index e =
      ap (option_and_then (λ i. option_and_then (source_method i) (slice_get tree.classes k))) (row_of p.source.items k index)
      ∙ ap (λ rows. by_index index (slice_get tree.classes k) (slice_get rows k)) is.source
      ∙ ap (by_index index (slice_get tree.classes k)) (slice_get-map indices tree.classes k)
      ∙ of_class index (slice_get tree.classes k)
      ∙ sym (ap (option_and_then (of index)) (get_after built_ins (map source_entry tree.classes) class k e ∙ slice_get-map source_entry tree.classes k))
