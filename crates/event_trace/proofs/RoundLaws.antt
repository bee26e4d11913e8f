-- What a round leaves of a set.
use Rattle.std.proofs.Common.{◌≡◌, ◌≤◌, ◌<◌, ◌+◌, ◌⊎◌, ◌&&◌, ℕ, zero, suc, Bool, true, false, List, [], ◌∷◌, ◌++◌, length, take, Option, Some, None, option_map, slice_get, unwrap_or, refl, inl, inr, sym, ap, ◌∙◌, arith}
use Rattle.event_trace.proofs.Names.{not_both, is_in, restrict}

-- how many truths there are
abbrev pub count : List Bool → ℕ
count [] = 0
count (true ∷ xs) = suc (count xs)
count (false ∷ xs) = count xs

module _ (test : ℕ → Bool) where
  -- the same number of entries
  pub restrict_length : (n : ℕ) (xs : List Bool) → length (restrict test n xs) ≡ length xs
  restrict_length n [] = refl
  restrict_length n (x ∷ xs) = ap suc (restrict_length (n + 1) xs)

  next_number : (n k : ℕ) → n + 1 + k ≡ n + suc k
  next_number n k = omega arith

  no_more : (n : ℕ) → n + 0 ≡ n
  no_more n = omega arith

  -- the item at an index
  pub restrict_at : (n t : ℕ) (xs : List Bool) → slice_get (restrict test n xs) t ≡ option_map (λ x. x && test (n + t)) (slice_get xs t)
  restrict_at n t [] = refl
  restrict_at n zero (x ∷ xs) = ap (λ k. Some (x && test k)) (sym (no_more n))
  restrict_at n (suc t) (x ∷ xs) = restrict_at (n + 1) t xs ∙ ap (λ k. option_map (λ y. y && test k) (slice_get xs t)) (next_number n t)

  -- one entry more
  pub restrict_more : (n t : ℕ) (xs : List Bool) → t < length xs → restrict test n (take t xs) ++ (is_in xs t && test (n + t)) ∷ [] ≡ restrict test n (take (suc t) xs)
  restrict_more n t [] below = absurd (omega (arith, below))
  restrict_more n zero (x ∷ xs) below = ap (λ k. (x && test k) ∷ []) (no_more n)
  restrict_more n (suc t) (x ∷ xs) below =
      ap (λ l. (x && test n) ∷ l)
      (ap (λ k. restrict test (n + 1) (take t xs) ++ (is_in xs t && test k) ∷ []) (sym (next_number n t)) ∙ restrict_more (n + 1) t xs (omega (arith, below)))

  -- nothing is taken out, or there is one less
  pub same_or_less : (n : ℕ) (xs : List Bool) → (restrict test n xs ≡ xs) ⊎ (count (restrict test n xs) + 1 ≤ count xs)
  same_or_less n [] = inl refl
  same_or_less n (false ∷ xs) = by_rest (same_or_less (n + 1) xs)
    where
      by_rest : (restrict test (n + 1) xs ≡ xs) ⊎ (count (restrict test (n + 1) xs) + 1 ≤ count xs) → ((false ∷ restrict test (n + 1) xs) ≡ false ∷ xs) ⊎ (count (restrict test (n + 1) xs) + 1 ≤ count xs)
      by_rest (inl same) = inl (ap (λ l. false ∷ l) same)
      by_rest (inr less) = inr less
  same_or_less n (true ∷ xs) = by_test (test n) (same_or_less (n + 1) xs)
    where
      by_test : (b : Bool) → (restrict test (n + 1) xs ≡ xs) ⊎ (count (restrict test (n + 1) xs) + 1 ≤ count xs) → ((b ∷ restrict test (n + 1) xs) ≡ true ∷ xs) ⊎ (count (b ∷ restrict test (n + 1) xs) + 1 ≤ count (true ∷ xs))
      by_test true (inl same) = inl (ap (λ l. true ∷ l) same)
      by_test true (inr less) =
          let more : count (true ∷ restrict test (n + 1) xs) ≡ suc (count (restrict test (n + 1) xs)) = refl in
          let all : count (true ∷ xs) ≡ suc (count xs) = refl in
          inr (omega (arith, less, more, all))
      by_test false (inl same) =
          let none : count (false ∷ restrict test (n + 1) xs) ≡ count xs = ap count same in
          let all : count (true ∷ xs) ≡ suc (count xs) = refl in
          inr (omega (arith, none, all))
      by_test false (inr less) =
          let none : count (false ∷ restrict test (n + 1) xs) ≡ count (restrict test (n + 1) xs) = refl in
          let all : count (true ∷ xs) ≡ suc (count xs) = refl in
          inr (omega (arith, less, none, all))

-- no more truths than entries
pub count_within : (xs : List Bool) → count xs ≤ length xs
count_within [] = omega arith
count_within (false ∷ xs) =
    let h = count_within xs in
    let none : count (false ∷ xs) ≡ count xs = refl in
    omega (arith, h, none)
count_within (true ∷ xs) =
    let h = count_within xs in
    let all : count (true ∷ xs) ≡ suc (count xs) = refl in
    omega (arith, h, all)

-- ---- truths at indices

pub in_is : (set : List Bool) (t : ℕ) → slice_get set t ≡ Some true → is_in set t ≡ true
in_is set t h = ap (λ o. unwrap_or o false) h

pub is_in_truly : (set : List Bool) (t : ℕ) → is_in set t ≡ true → slice_get set t ≡ Some true
is_in_truly set t h = by_entry (slice_get set t) refl h
  where
    by_entry : (o : Option Bool) → slice_get set t ≡ o → unwrap_or o false ≡ true → slice_get set t ≡ Some true
    by_entry None e k = not_both false refl k
    by_entry (Some b) e k = e ∙ ap Some k
