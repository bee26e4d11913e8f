-- Marks at the indices that a list of numbers gives.
use Rattle.std.proofs.Common.{◌≡◌, ◌≢◌, ◌<◌, ◌≤◌, ◌+◌, ◌==◌, ℕ, Bool, true, false, ◌||◌, List, [], ◌∷◌, length, get_or, set, take, replicate, slice_get, Some, refl, sym, ap, subst, ◌∙◌, arith}
use Rattle.std.proofs.Math.Seq.{take-length}
use Rattle.std.specs.List.{list_any}
use Rattle.std.proofs.lemmas.Bool.{eqb-true, eqb-false, ne_eqb}
use Rattle.std.proofs.lemmas.List.{take_more, length-set, get_or-set_same, get_or-set_other, length-replicate, get_or-replicate}
use Rattle.std.proofs.lemmas.List.Folds.{list_any-append}
use Rattle.std.proofs.lemmas.Option.{slice_get-get_or, get_or_from_slice_get}

abbrev pub among : ℕ → List ℕ → Bool
among j ns = list_any (λ m. m == j) ns

-- each index below the count is marked exactly where it is among these numbers
abbrev pub AreMarks : List Bool → ℕ → List ℕ → Type 0
AreMarks bits count ns = (length bits ≡ count) × ((j : ℕ) → j < count → slice_get bits j ≡ Some (among j ns))

or_false : (b : Bool) → b || false ≡ b
or_false true = refl
or_false false = refl

or_true : (b : Bool) → b || true ≡ true
or_true true = refl
or_true false = refl

one_more : (j : ℕ) (ns : List ℕ) (i n : ℕ) → i < length ns → n ≡ get_or ns i 0 → among j (take (i + 1) ns) ≡ among j (take i ns) || ((n == j) || false)
one_more j ns i n l e = ap (among j) (take_more ns i 0 l) ∙ list_any-append (λ m. m == j) (take i ns) (get_or ns i 0 ∷ []) ∙ ap (λ m. among j (take i ns) || ((m == j) || false)) (sym e)

-- nothing is marked at first
pub fresh_marks : (bits : List Bool) (count : ℕ) → bits ≡ replicate count false → AreMarks bits count []
fresh_marks bits count e = (ap length e ∙ length-replicate count false, λ j h. ap (λ bs. slice_get bs j) e ∙ slice_get-get_or (replicate count false) j false (inside j h) ∙ ap Some (get_or-replicate count j false false h))
  where
    inside : (j : ℕ) → j < count → j < length (replicate count false)
    inside j h = let k : length (replicate count false) ≡ count = length-replicate count false in omega (arith, h, k)

-- a further number that is an index of the marks
pub marked_more : (bits : List Bool) (count : ℕ) (ns : List ℕ) (i n : ℕ) → i < length ns → n ≡ get_or ns i 0 → n < count → AreMarks bits count (take i ns) → (after : List Bool) → after ≡ set bits n true → AreMarks after count (take (i + 1) ns)
marked_more bits count ns i n l e within (long, at) after changed =
    let P : List Bool → Type 0 = λ v. AreMarks v count (take (i + 1) ns) in
    subst P (sym changed) (length-set bits n true ∙ long, λ j h. by_index j h (n == j) refl)
  where
    inside : (j : ℕ) → j < count → j < length (set bits n true)
    inside j h = let k : length (set bits n true) ≡ count = length-set bits n true ∙ long in omega (arith, h, k)

    by_index : (j : ℕ) → j < count → (b : Bool) → (n == j) ≡ b → slice_get (set bits n true) j ≡ Some (among j (take (i + 1) ns))
    by_index j h true p =
        let same : n ≡ j = eqb-true n j p in
        let l' : n < length bits = omega (arith, within, long) in
        slice_get-get_or (set bits n true) j false (inside j h) ∙ ap (λ k. Some (get_or (set bits n true) k false)) (sym same) ∙ ap Some (get_or-set_same bits n true false l') ∙
        ap Some (sym (one_more j ns i n l e ∙ ap (λ b. among j (take i ns) || (b || false)) p ∙ or_true (among j (take i ns))))
    by_index j h false p =
        let other : j ≢ n = λ q. eqb-false n j p (sym q) in
        slice_get-get_or (set bits n true) j false (inside j h) ∙ ap Some (get_or-set_other bits n j true false other) ∙ ap Some (get_or_from_slice_get bits j (among j (take i ns)) false (at j h)) ∙
        ap Some (sym (one_more j ns i n l e ∙ ap (λ b. among j (take i ns) || (b || false)) p ∙ or_false (among j (take i ns))))

-- a further number that is no index of the marks
pub marked_past : (bits : List Bool) (count : ℕ) (ns : List ℕ) (i n : ℕ) → i < length ns → n ≡ get_or ns i 0 → count ≤ n → AreMarks bits count (take i ns) → AreMarks bits count (take (i + 1) ns)
marked_past bits count ns i n l e past (long, at) = (long, λ j h. at j h ∙ ap Some (sym (one_more j ns i n l e ∙ ap (λ b. among j (take i ns) || (b || false)) (apart j h) ∙ or_false (among j (take i ns)))))
  where
    apart : (j : ℕ) → j < count → (n == j) ≡ false
    apart j h = ne_eqb n j (λ q. omega (arith, q, h, past))

-- a vector's marks after the loop's last iteration
pub all_marked : (bits : List Bool) (count : ℕ) (ns : List ℕ) (i : ℕ) → length ns ≤ i → i ≤ length ns → AreMarks bits count (take i ns) → AreMarks bits count ns
all_marked bits count ns i below above h =
    let e : i ≡ length ns = omega (arith, below, above) in
    let P : List ℕ → Type 0 = AreMarks bits count in
    subst P (ap (λ k. take k ns) e ∙ take-length ns) h
