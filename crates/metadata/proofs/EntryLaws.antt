-- One entry point, by counting.
use Rattle.std.proofs.Common.{◌≡◌, ◌<◌, ◌+◌, ◌==◌, ℕ, suc, Bool, true, false, ◌&&◌, ◌||◌, cond, List, [], ◌∷◌, ◌++◌, length, map, drop, slice_get, Some, None, refl, sym, ap, subst, ◌∙◌, arith}
use Rattle.std.specs.Prelude.{filter, flat_map, count_by}
use Rattle.std.specs.List.{list_any, position_from}
use Rattle.std.proofs.lemmas.List.{map-append}
use Rattle.std.proofs.lemmas.List.Sums.{length-filter, sum_by-cons}
use Rattle.std.proofs.lemmas.Bool.{eqb-true}
use Rattle.std.proofs.lemmas.Option.{same_Some, none-some}
use Rattle.cil_model.specs.declared.types.ClassName.{ClassName}
use Rattle.cil_model.specs.declared.trees.Tree.{Tree}
use Rattle.cil_model.specs.declared.trees.Class.{Class}
use Rattle.cil_model.specs.declared.trees.Method.{Method}
use Rattle.cil_model.specs.Declarations.{source_name, method_members}
use Rattle.cil_model.specs.Bodies.{is_entry_point, entry_points, source_methods}
use Rattle.cil_model.specs.Mentions.{methods_of_tree}
use Rattle.cil_model.specs.Legality.{is_one_entry, is_entry_method}
use Rattle.name_tables.proofs.Lists.{map_of_map}

abbrev second : ClassName × Method → Method
second e = e.1

more_than_one : (n : ℕ) → (suc (suc n) == 1) ≡ false
more_than_one n = by_test (suc (suc n) == 1) refl
  where
    by_test : (b : Bool) → (suc (suc n) == 1) ≡ b → b ≡ false
    by_test false e = refl
    by_test true e = let h : suc (suc n) ≡ 1 = eqb-true _ _ e in absurd (omega (arith, h))

-- a list of one
one_of : (es : List (ClassName × Method)) → is_one_entry es ≡ (length es == 1) && list_any is_entry_method (map second es)
one_of [] = refl
one_of (e ∷ []) = by_value (is_entry_method e.1)
  where
    by_value : (b : Bool) → b ≡ true && (b || false)
    by_value true = refl
    by_value false = refl
one_of (e ∷ e' ∷ es) = sym (ap (λ b. b && list_any is_entry_method (map second (e ∷ e' ∷ es))) (more_than_one (length es)))

length-filter-map : (es : List (ClassName × Method)) → length (filter (λ (e : ClassName × Method). is_entry_point e.1) es) ≡ length (filter is_entry_point (map second es))
length-filter-map [] = refl
length-filter-map (e ∷ es) =
    elim (is_entry_point e.1) as (λ b. length (cond b (e ∷ filter (λ (x : ClassName × Method). is_entry_point x.1) es) (filter (λ (x : ClassName × Method). is_entry_point x.1) es)) ≡ length (cond b (e.1 ∷ filter is_entry_point (map second es)) (filter is_entry_point (map second es)))) [ true ↦ ap suc (length-filter-map es) | false ↦ length-filter-map es ]

counted : (es : List (ClassName × Method)) → length (filter (λ (e : ClassName × Method). is_entry_point e.1) es) ≡ count_by is_entry_point (map second es)
counted es = length-filter-map es ∙ length-filter is_entry_point (map second es)

among : (es : List (ClassName × Method)) → list_any is_entry_method (map second (filter (λ (e : ClassName × Method). is_entry_point e.1) es)) ≡ list_any (λ m. is_entry_point m && is_entry_method m) (map second es)
among [] = refl
among (e ∷ es) = elim (is_entry_point e.1) as (λ b. list_any is_entry_method (map second (cond b (e ∷ filter (λ (x : ClassName × Method). is_entry_point x.1) es) (filter (λ (x : ClassName × Method). is_entry_point x.1) es))) ≡ b && is_entry_method e.1 || list_any (λ m. is_entry_point m && is_entry_method m) (map second es)) [ true ↦ ap (λ b. is_entry_method e.1 || b) (among es) | false ↦ among es ]

flat_map_seconds : (cs : List Class) → map second (flat_map (λ (c : Class). map (λ (m : Method). (source_name c, m)) (method_members c)) cs) ≡ flat_map method_members cs
flat_map_seconds [] = refl
flat_map_seconds (c ∷ cs) =
    map-append second (map (λ (m : Method). (source_name c, m)) (method_members c)) (flat_map (λ (k : Class). map (λ (m : Method). (source_name k, m)) (method_members k)) cs) ∙
    ap (λ xs. xs ++ map second (flat_map (λ (k : Class). map (λ (m : Method). (source_name k, m)) (method_members k)) cs)) (map_of_map (λ (m : Method). (source_name c, m)) second (method_members c) ∙ same (method_members c)) ∙
    ap (λ xs. method_members c ++ xs) (flat_map_seconds cs)
  where
    same : (ms : List Method) → map (λ (m : Method). m) ms ≡ ms
    same [] = refl
    same (m ∷ ms) = ap (λ xs. m ∷ xs) (same ms)

pub one_entry : (tree : Tree) → is_one_entry (entry_points tree) ≡ (count_by is_entry_point (methods_of_tree tree) == 1) && list_any (λ m. is_entry_point m && is_entry_method m) (methods_of_tree tree)
one_entry tree =
    one_of (entry_points tree) ∙ ap (λ n. (n == 1) && list_any is_entry_method (map second (entry_points tree))) (counted (source_methods tree)) ∙
    ap (λ b. (count_by is_entry_point (map second (source_methods tree)) == 1) && b) (among (source_methods tree)) ∙
    ap (λ ms. (count_by is_entry_point ms == 1) && list_any (λ m. is_entry_point m && is_entry_method m) ms) (flat_map_seconds tree.classes)

-- ---- the first that passes, and those after it

-- a count and a test of a list by the first item that passes
record IsFirst {X : Type 0} (p q : X → Bool) (xs : List X) (index : ℕ) : Type 0 where
  within : index < length xs
  count : count_by p xs ≡ 1 + count_by p (drop (suc index) xs)
  any : (x : X) → slice_get xs index ≡ Some x → list_any (λ y. p y && q y) xs ≡ q x || list_any (λ y. p y && q y) (drop (suc index) xs)

module _ {X : Type 0} (p q : X → Bool) where
  abbrev both : X → Bool
  both x = p x && q x

  count_step : (x : X) (xs : List X) (b : Bool) → p x ≡ b → count_by p (x ∷ xs) ≡ cond b 1 0 + count_by p xs
  count_step x xs b h = sum_by-cons (λ y. cond (p y) 1 0) x xs ∙ ap (λ z. cond z 1 0 + count_by p xs) h

  none_passes : (xs : List X) (k : ℕ) → position_from p k xs ≡ None → (count_by p xs ≡ 0) × (list_any both xs ≡ false)
  none_passes [] k e = (refl, refl)
  none_passes (x ∷ xs) k e = by_test (none_passes xs (k + 1)) (p x) refl
    where
      by_test : (position_from p (k + 1) xs ≡ None → (count_by p xs ≡ 0) × (list_any both xs ≡ false)) → (b : Bool) → p x ≡ b → (count_by p (x ∷ xs) ≡ 0) × (list_any both (x ∷ xs) ≡ false)
      by_test rest true h = absurd (none-some k (sym e ∙ ap (λ b. cond b (Some k) (position_from p (k + 1) xs)) h))
      by_test rest false h =
          let further : (count_by p xs ≡ 0) × (list_any both xs ≡ false) = rest (sym (ap (λ b. cond b (Some k) (position_from p (k + 1) xs)) h) ∙ e) in
          let step : count_by p (x ∷ xs) ≡ 0 + count_by p xs = count_step x xs false h in
          let none : count_by p xs ≡ 0 = further.0 in
          (omega (arith, step, none), ap (λ b. b && q x || list_any both xs) h ∙ further.1)

  first_passes : (xs : List X) (k n : ℕ) → position_from p k xs ≡ Some n → (i : ℕ) × (n ≡ k + i) × IsFirst p q xs i
  first_passes [] k n e = absurd (none-some n e)
  first_passes (x ∷ xs) k n e = by_test (first_passes xs (k + 1) n) (p x) refl
    where
      by_test : (position_from p (k + 1) xs ≡ Some n → (i : ℕ) × (n ≡ k + 1 + i) × IsFirst p q xs i) → (b : Bool) → p x ≡ b → (i : ℕ) × (n ≡ k + i) × IsFirst p q (x ∷ xs) i
      by_test rest true h =
          let same : k ≡ n = same_Some k n (sym (ap (λ b. cond b (Some k) (position_from p (k + 1) xs)) h) ∙ e) in (
            0,
            omega (arith, same),
            record {
              within = omega arith;
              count = count_step x xs true h;
              any = λ y s. ap (λ b. b && q x || list_any both xs) h ∙ ap (λ z. q z || list_any both xs) (same_Some x y s);
            },
          )
      by_test rest false h =
          let further : (i : ℕ) × (n ≡ k + 1 + i) × IsFirst p q xs i = rest (sym (ap (λ b. cond b (Some k) (position_from p (k + 1) xs)) h) ∙ e) in
          let first : IsFirst p q xs further.0 = further.2 in
          let number : n ≡ k + 1 + further.0 = further.1 in
          let here : further.0 < length xs = first.within in
          let step : count_by p (x ∷ xs) ≡ 0 + count_by p xs = count_step x xs false h in
          let count : count_by p xs ≡ 1 + count_by p (drop (suc further.0) xs) = first.count in (
            suc further.0,
            omega (arith, number),
            record {
              within = omega (arith, here);
              count = omega (arith, step, count);
              any = λ y s. ap (λ b. b && q x || list_any both xs) h ∙ first.any y s;
            },
          )

  first_index : (xs : List X) (n : ℕ) → position_from p 0 xs ≡ Some n → IsFirst p q xs n
  first_index xs n e =
      let f : (i : ℕ) × (n ≡ 0 + i) × IsFirst p q xs i = first_passes xs 0 n e in
      let number : n ≡ 0 + f.0 = f.1 in
      let same : f.0 ≡ n = omega (arith, number) in
      subst (IsFirst p q xs) same f.2

  pub is_within : (xs : List X) (n : ℕ) → position_from p 0 xs ≡ Some n → n < length xs
  is_within xs n e = (first_index xs n e).within

  pub none_fits : (xs : List X) → position_from p 0 xs ≡ None → (count_by p xs == 1) && list_any both xs ≡ false
  none_fits xs e = ap (λ n. (n == 1) && list_any both xs) (none_passes xs 0 e).0

  pub one_fits : (xs : List X) (n : ℕ) (x : X) → position_from p 0 xs ≡ Some n → slice_get xs n ≡ Some x → position_from p 0 (drop (n + 1) xs) ≡ None → (count_by p xs == 1) && list_any both xs ≡ q x
  one_fits xs n x e g f =
      let k : suc n ≡ n + 1 = omega arith in
      let first : IsFirst p q xs n = first_index xs n e in
      let others : (count_by p (drop (suc n) xs) ≡ 0) × (list_any both (drop (suc n) xs) ≡ false) = none_passes (drop (suc n) xs) 0 (ap (λ i. position_from p 0 (drop i xs)) k ∙ f) in
      ap (λ m. (m == 1) && list_any both xs) (first.count ∙ ap (λ m. 1 + m) others.0) ∙ first.any x g ∙ ap (λ b. q x || b) others.1 ∙ or_nothing (q x)
    where
      or_nothing : (b : Bool) → b || false ≡ b
      or_nothing true = refl
      or_nothing false = refl

  pub two_pass : (xs : List X) (n m : ℕ) → position_from p 0 xs ≡ Some n → position_from p 0 (drop (n + 1) xs) ≡ Some m → (count_by p xs == 1) && list_any both xs ≡ false
  two_pass xs n m e f =
      let k : suc n ≡ n + 1 = omega arith in
      let rest = drop (suc n) xs in
      let one : count_by p xs ≡ 1 + count_by p rest = (first_index xs n e).count in
      let other : count_by p rest ≡ 1 + count_by p (drop (suc m) rest) = (first_index rest m (ap (λ i. position_from p 0 (drop i xs)) k ∙ f)).count in
      let more : count_by p xs ≡ suc (suc (count_by p (drop (suc m) rest))) = omega (arith, one, other) in
      ap (λ i. (i == 1) && list_any both xs) more ∙ ap (λ b. b && list_any both xs) (more_than_one (count_by p (drop (suc m) rest)))
