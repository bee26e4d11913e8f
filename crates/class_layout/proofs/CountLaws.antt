-- The numbers and slots of a legal tree's fields are few enough to be counted.
use Rattle.std.proofs.Common.{◌≡◌, ◌≤◌, ◌<◌, ◌+◌, ◌^◌, ℕ, zero, suc, Bool, true, false, List, [], ◌∷◌, ◌++◌, length, map, drop, get_or, cond, Some, option_map, slice_get, unwrap_or, sym, ap, ◌∙◌, arith, length-append, append_assoc}
use Rattle.std.specs.Prelude.{flat_map, if◌then◌else◌}
use Rattle.std.proofs.Math.Seq.{drop-cons}
use Rattle.std.proofs.lemmas.List.{length-map}
use Rattle.std.proofs.lemmas.Option.{none-some, slice_get-map}
use Rattle.cil_model.specs.declared.types.ClassName.{ClassName}
use Rattle.cil_model.specs.declared.trees.Tree.{Tree}
use Rattle.cil_model.specs.declared.trees.Field.{Field}
use Rattle.cil_model.specs.Same.{same_flag}
use Rattle.cil_model.specs.Declarations.{Declaration}
use Rattle.cil_model.specs.Chains.{fields_declared, listed_by}
use Rattle.cil_model.specs.Fields.{keyed_fields, static_fields}
use Rattle.cil_model.specs.Legality.{IsLegal}
use Rattle.name_tables.specs.Numbers.{declarations}
use Rattle.resolved_code.specs.ResolvedPrograms.{AreResolved}
use Rattle.resolved_code.specs.declared.classes.ResolvedClass.{ResolvedClass}
use Rattle.resolved_code.specs.declared.classes.ResolvedField.{ResolvedField}
use Rattle.resolved_code.proofs.ListLaws.RelatedLists.{AlikeTo, alike_to}
use Rattle.resolved_code.proofs.LegalPrograms.Limits.{static_fields_few}
use Rattle.class_layout.specs.declared.kinds.SlotKind.{SlotKind}
use Rattle.class_layout.specs.ByClass.{by_class}
use Rattle.class_layout.specs.Kinds.{own_kinds}
use Rattle.class_layout.specs.FieldSlots.{number_after, slot_after, statics_after, static_by_id, statics_by_flag, slots_by_flag, class_names}
use Rattle.class_layout.proofs.SlotLaws.{of_flag, key_in, own_counted, statics_counted, all_statics}
use Rattle.class_layout.proofs.ResolvedLaws.{IsClass, answer_given, declared_at, flags_alike, statics_alike}

-- the rest of a list from an index on begins with the item there
pub drop_at : {X : Type 0} (xs : List X) (i : ℕ) (x : X) → slice_get xs i ≡ Some x → drop i xs ≡ x ∷ drop (i + 1) xs
drop_at [] i x h = absurd (none-some x h)
drop_at (y ∷ ys) zero x h =
    let same : y ≡ x = cc in
    ap (λ z. z ∷ ys) same
drop_at (y ∷ ys) (suc i) x h =
    let next : suc i + 1 ≡ suc (i + 1) = omega arith in
    drop_at ys i x h ∙ ap (λ n. x ∷ drop n (y ∷ ys)) (sym next)

-- ---- one more field of a class

module _ {X : Type 0} (flag : X → Bool) (xs : List X) (i : ℕ) (d : X) (l : i < length xs) where
  left : map flag (drop i xs) ≡ flag (get_or xs i d) ∷ map flag (drop (i + 1) xs)
  left =
      let next : suc i ≡ i + 1 = omega arith in
      ap (map flag) (drop-cons xs i d l) ∙ ap (λ n. flag (get_or xs i d) ∷ map flag (drop n xs)) next

  pub one_by_id : (s k t m own : ℕ) (before after all : List ℕ) → own ≡ (if flag (get_or xs i d) then s else k) → t ≡ number_after (flag (get_or xs i d)) s → m ≡ slot_after (flag (get_or xs i d)) k → after ≡ before ++ own ∷ [] →
      before ++ static_by_id s k (map flag (drop i xs)) ≡ all → after ++ static_by_id t m (map flag (drop (i + 1) xs)) ≡ all
  one_by_id s k t m own before after all o es ek a h =
      let b = flag (get_or xs i d) in
      let rest = map flag (drop (i + 1) xs) in
      ap (λ ns. ns ++ static_by_id t m rest) a ∙ append_assoc before (own ∷ []) (static_by_id t m rest) ∙ ap (λ n. before ++ n ∷ static_by_id t m rest) o ∙
      ap (λ n. before ++ (if b then s else k) ∷ static_by_id n m rest) es ∙ ap (λ n. before ++ (if b then s else k) ∷ static_by_id (number_after b s) n rest) ek ∙ ap (λ bs. before ++ static_by_id s k bs) (sym left) ∙ h

  pub one_static : (s t all : ℕ) → t ≡ number_after (flag (get_or xs i d)) s → statics_by_flag s (map flag (drop i xs)) ≡ all → statics_by_flag t (map flag (drop (i + 1) xs)) ≡ all
  one_static s t all e h = ap (λ n. statics_by_flag n (map flag (drop (i + 1) xs))) e ∙ ap (statics_by_flag s) (sym left) ∙ h

  pub one_slot : (k m all : ℕ) → m ≡ slot_after (flag (get_or xs i d)) k → slots_by_flag k (map flag (drop i xs)) ≡ all → slots_by_flag m (map flag (drop (i + 1) xs)) ≡ all
  one_slot k m all e h = ap (λ n. slots_by_flag n (map flag (drop (i + 1) xs))) e ∙ ap (slots_by_flag k) (sym left) ∙ h

-- ---- counts never fall

pub number_grows : (b : Bool) (n : ℕ) → n ≤ number_after b n
number_grows true n = omega arith
number_grows false n = omega arith

pub slot_grows : (b : Bool) (n : ℕ) → n ≤ slot_after b n
slot_grows true n = omega arith
slot_grows false n = omega arith

pub statics_grow : (n : ℕ) (bs : List Bool) → n ≤ statics_by_flag n bs
statics_grow n [] = omega arith
statics_grow n (b ∷ bs) = omega (arith, number_grows b n, statics_grow (number_after b n) bs)

pub slots_grow : (n : ℕ) (bs : List Bool) → n ≤ slots_by_flag n bs
slots_grow n [] = omega arith
slots_grow n (b ∷ bs) = omega (arith, slot_grows b n, slots_grow (slot_after b n) bs)

-- what is counted up to an index, and there, is within the whole count
module _ {X : Type 0} (flag : X → Bool) (xs : List X) (i : ℕ) (d : X) (within : i < length xs) where
  one_more : map flag (drop i xs) ≡ flag (get_or xs i d) ∷ map flag (drop (suc i) xs)
  one_more = ap (map flag) (drop-cons xs i d within)

  pub static_fits : (n total : ℕ) → statics_by_flag n (map flag (drop i xs)) ≡ total → total < 2 ^ 64 → number_after (flag (get_or xs i d)) n < 2 ^ 64
  static_fits n total e small =
      let split : statics_by_flag n (map flag (drop i xs)) ≡ statics_by_flag (number_after (flag (get_or xs i d)) n) (map flag (drop (suc i) xs)) = ap (statics_by_flag n) one_more in
      let grow : number_after (flag (get_or xs i d)) n ≤ statics_by_flag (number_after (flag (get_or xs i d)) n) (map flag (drop (suc i) xs)) = statics_grow (number_after (flag (get_or xs i d)) n) (map flag (drop (suc i) xs)) in
      omega (arith, e, split, grow, small)

  pub slot_fits : (n total : ℕ) → slots_by_flag n (map flag (drop i xs)) ≡ total → total < 2 ^ 64 → slot_after (flag (get_or xs i d)) n < 2 ^ 64
  slot_fits n total e small =
      let split : slots_by_flag n (map flag (drop i xs)) ≡ slots_by_flag (slot_after (flag (get_or xs i d)) n) (map flag (drop (suc i) xs)) = ap (slots_by_flag n) one_more in
      let grow : slot_after (flag (get_or xs i d)) n ≤ slots_by_flag (slot_after (flag (get_or xs i d)) n) (map flag (drop (suc i) xs)) = slots_grow (slot_after (flag (get_or xs i d)) n) (map flag (drop (suc i) xs)) in
      omega (arith, e, split, grow, small)

-- the count of slots is the number of instance fields
pub slots_counted : (n : ℕ) (fs : List Field) → slots_by_flag n (map (λ (f : Field). f.is_static) fs) ≡ n + length (of_flag false fs)
slots_counted n [] = omega arith
slots_counted n (f ∷ fs) = by_flag f.is_static (λ m. slots_counted m fs)
  where
    by_flag : (b : Bool) → ((m : ℕ) → slots_by_flag m (map (λ (g : Field). g.is_static) fs) ≡ m + length (of_flag false fs)) →
        slots_by_flag (slot_after b n) (map (λ (g : Field). g.is_static) fs) ≡ n + length (cond (same_flag b false) (f ∷ of_flag false fs) (of_flag false fs))
    by_flag true rest = rest n
    by_flag false rest = let k : n + 1 + length (of_flag false fs) ≡ n + suc (length (of_flag false fs)) = omega arith in rest (n + 1) ∙ k

-- ---- the static fields of all classes

module _ (tree : Tree) where
  -- the first free number after the static fields of some classes
  abbrev pub statics_of : ℕ → List ClassName → ℕ
  statics_of next [] = next
  statics_of next (c ∷ cs) = statics_of (statics_after next (fields_declared tree c)) cs

  all_counted : (n : ℕ) (cs : List ClassName) → statics_of n cs ≡ n + length (flat_map (keyed_fields tree true) cs)
  all_counted n [] = omega arith
  all_counted n (c ∷ cs) =
      let own : statics_after n (fields_declared tree c) ≡ n + length (of_flag true (fields_declared tree c)) = statics_counted n (fields_declared tree c) in
      let keyed : length (keyed_fields tree true c) ≡ length (of_flag true (fields_declared tree c)) = length-map (of_flag true (fields_declared tree c)) (key_in c) in
      let both : length (flat_map (keyed_fields tree true) (c ∷ cs)) ≡ length (keyed_fields tree true c) + length (flat_map (keyed_fields tree true) cs) = length-append (keyed_fields tree true c) (flat_map (keyed_fields tree true) cs) in
      let rest : statics_of (statics_after n (fields_declared tree c)) cs ≡ statics_after n (fields_declared tree c) + length (flat_map (keyed_fields tree true) cs) = all_counted (statics_after n (fields_declared tree c)) cs in
      omega (arith, own, keyed, both, rest)

  -- those of the classes that are left are counted on top
  pub statics_of_grow : (n : ℕ) (cs : List ClassName) → n ≤ statics_of n cs
  statics_of_grow n cs = omega (arith, all_counted n cs)

  -- those of the class of a number, and of all after it, are counted on
  pub counted_on : (next i : ℕ) (c : ClassName) → slice_get (class_names tree) i ≡ Some c → statics_of next (drop i (class_names tree)) ≡ statics_of (statics_after next (fields_declared tree c)) (drop (i + 1) (class_names tree))
  counted_on next i c named = ap (statics_of next) (drop_at (class_names tree) i c named)

  module _ (legal : IsLegal tree) where
    -- they are few
    statics_few : statics_of 0 (class_names tree) < 2 ^ 64
    statics_few =
        let all : length (flat_map (keyed_fields tree true) (class_names tree)) ≡ length (static_fields tree) = ap length (all_statics tree) in
        omega (arith, all_counted 0 (class_names tree), all, static_fields_few tree legal)

    -- so each count on the way is small
    pub statics_fit : (next i : ℕ) (c : ClassName) → slice_get (class_names tree) i ≡ Some c → statics_of next (drop i (class_names tree)) ≡ statics_of 0 (class_names tree) → statics_after next (fields_declared tree c) < 2 ^ 64
    statics_fit next i c named counted =
        omega (arith, counted, counted_on next i c named, statics_of_grow (statics_after next (fields_declared tree c)) (drop (i + 1) (class_names tree)), statics_few)

  -- ---- the class of a number

  -- some fields by number represent those of the class with this number
  pub record AreFieldsOf (i : ℕ) (fields : List ResolvedField) : Type 0 where
    pub entry : ClassName × Declaration
    pub there : slice_get (declarations tree) i ≡ Some entry
    pub named : slice_get (class_names tree) i ≡ Some entry.0
    pub flags : map (λ (f : ResolvedField). f.is_static) fields ≡ map (λ (f : Field). f.is_static) (fields_declared tree entry.0)

  pub fields_of : IsLegal tree → (rs : List ResolvedClass) → AreResolved tree rs → (i : ℕ) (r : ResolvedClass) (fields : List ResolvedField) → slice_get rs i ≡ Some r → fields ≡ r.fields → AreFieldsOf i fields
  fields_of legal rs are i r fields read same =
      let found : AlikeTo (IsClass tree) (declarations tree) i r = alike_to (IsClass tree) (declarations tree) rs i r are read in
      let e : ClassName × Declaration = found.item in
      let own : fields_declared tree e.0 ≡ e.1.fields = ap (listed_by (λ (d : Declaration). d.fields)) (declared_at tree legal i e found.there) in
      record {
        entry = e;
        there = found.there;
        named = slice_get-map (λ (x : ClassName × Declaration). x.0) (declarations tree) i ∙ ap (option_map (λ (x : ClassName × Declaration). x.0)) found.there;
        flags = ap (map (λ (f : ResolvedField). f.is_static)) same ∙ flags_alike tree e.1.fields r.fields found.alike.fields ∙ ap (map (λ (f : Field). f.is_static)) (sym own);
      }

  module _ (i : ℕ) (fields : List ResolvedField) (are : AreFieldsOf i fields) where
    pub statics_alike_at : (next : ℕ) → statics_by_flag next (map (λ (f : ResolvedField). f.is_static) fields) ≡ statics_after next (fields_declared tree are.entry.0)
    statics_alike_at next = ap (statics_by_flag next) are.flags ∙ statics_alike next (fields_declared tree are.entry.0)

    -- its slots fit where its row of own fields fits after the first of them
    pub slots_fit : (own : List (List SlotKind)) (first : ℕ) → own ≡ by_class tree (own_kinds tree) → first + length (unwrap_or (slice_get own i) []) < 2 ^ 64 → slots_by_flag first (map (λ (f : ResolvedField). f.is_static) fields) < 2 ^ 64
    slots_fit own first rows small =
        let row : unwrap_or (slice_get own i) [] ≡ own_kinds tree are.entry.0 = ap (λ xs. unwrap_or (slice_get xs i) []) rows ∙ answer_given tree (own_kinds tree) i [] are.entry are.there in
        let fs : List Field = of_flag false (fields_declared tree are.entry.0) in
        let count : length (own_kinds tree are.entry.0) ≡ length fs = own_counted tree are.entry.0 ∙ length-map fs (key_in are.entry.0) in
        let long : length (unwrap_or (slice_get own i) []) ≡ length (own_kinds tree are.entry.0) = ap length row in
        let slots : slots_by_flag first (map (λ (f : ResolvedField). f.is_static) fields) ≡ first + length fs = ap (slots_by_flag first) are.flags ∙ slots_counted first (fields_declared tree are.entry.0) in
        omega (arith, small, count, long, slots)
