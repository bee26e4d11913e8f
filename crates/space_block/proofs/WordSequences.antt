-- Slots whose first ones hold words are a sequence of words, after a store and after more words come into use.
use Rattle.std.proofs.Common.{◌≡◌, ℕ, zero, suc, ◌+◌, ◌-◌, ◌<◌, ◌≤◌, List, [], ◌∷◌, ◌++◌, length, take, drop, set, get_or, replicate, refl, sym, ap, ap₂, ◌∙◌, arith, length-append, append_assoc}
use Rattle.std.specs.Prelude.{Option, Some, None, map}
use Rattle.std.proofs.Math.ListN.{length-set}
use Rattle.std.proofs.Math.Seq.{take-set-lt, take-append_seam}
use Rattle.std.proofs.lemmas.List.{length-map, map-set, get_or-map, get_or_append_left, get_or-take, map-append, set-append_left, set-append_right, length-take-le, length-drop, length-replicate, replicate_more, replicate-append-replicate}
use lib.Seq.{drop-cons}
use Rattle.space_block.specs.Rows.{blank}
use Rattle.space_block.specs.WrittenWords.{AreWritten, row_of, written_words}

pub written_some : (xs : List ℕ) → written_words (map Some xs) ≡ xs
written_some [] = refl
written_some (x ∷ xs) = ap (λ ys. x ∷ ys) (written_some xs)

abbrev zero_words : ℕ → List ℕ
zero_words n = replicate n 0

abbrev zero_slots : ℕ → List (Option ℕ)
zero_slots n = replicate n (Some 0)

map-zeros : (n : ℕ) → map Some (zero_words n) ≡ zero_slots n
map-zeros zero = refl
map-zeros (suc n) = ap (λ ys. Some 0 ∷ ys) (map-zeros n)

-- the slots with 0 in those from `from` on and below `to`
abbrev pub cleared : List (Option ℕ) → ℕ → ℕ → List (Option ℕ)
cleared cs from to = take from cs ++ zero_slots (to - from) ++ drop to cs

-- one slot more
pub cleared_more : (cs : List (Option ℕ)) (from i : ℕ) → from ≤ i → i < length cs → set (cleared cs from i) i (Some 0) ≡ cleared cs from (i + 1)
cleared_more cs from i le lt =
    let front = take from cs in let zeros : List (Option ℕ) = zero_slots (i - from) in
    let long : length (front ++ zeros) ≡ i =
    omega (arith, le, lt, length-append front zeros, length-take-le from cs (omega (arith, le, lt)), length-replicate {A = Option ℕ} (i - from) (Some 0)) in
    let first : i - i ≡ 0 = omega arith in
    let next : (i - from) + 1 ≡ (i + 1) - from = omega (arith, le) in
    let following : suc i ≡ i + 1 = omega arith in
    set-append_right (front ++ zeros) (drop i cs) i i (Some 0) long (omega arith)
    ∙ ap (λ k. front ++ zeros ++ set (drop i cs) k (Some 0)) first
    ∙ ap (λ ds. front ++ zeros ++ set ds 0 (Some 0)) (drop-cons cs i None lt)
    ∙ ap (λ k. front ++ zeros ++ Some 0 ∷ drop k cs) following
    ∙ sym (append_assoc (front ++ zeros) (Some 0 ∷ []) (drop (i + 1) cs))
    ∙ ap (λ ds. ds ++ drop (i + 1) cs) (append_assoc front zeros (Some 0 ∷ []))
    ∙ ap (λ ds. front ++ ds ++ drop (i + 1) cs) (replicate_more (i - from) (Some 0))
    ∙ ap (λ k. front ++ zero_slots k ++ drop (i + 1) cs) next

pub length-cleared : (cs : List (Option ℕ)) (from to : ℕ) → from ≤ to → to ≤ length cs → length (cleared cs from to) ≡ length cs
length-cleared cs from to le inside =
    let front = take from cs in let zeros : List (Option ℕ) = zero_slots (to - from) in
    omega (
      arith,
      le,
      inside,
      length-append (front ++ zeros) (drop to cs),
      length-append front zeros,
      length-take-le from cs (omega (arith, le, inside)),
      length-replicate {A = Option ℕ} (to - from) (Some 0),
      length-drop to cs,
    )

-- slots of which the first are these words
pub record Holds (cs : List (Option ℕ)) (used : ℕ) (xs : List ℕ) : Type 0 where
  pub view : written_words (take used cs) ≡ xs
  pub full : AreWritten cs used

pub holds : (cs : List (Option ℕ)) (used : ℕ) (xs : List ℕ) → take used cs ≡ map Some xs → Holds cs used xs
holds cs used xs e =
    let view : written_words (take used cs) ≡ xs = ap written_words e ∙ written_some xs in
    record { view = view; full = e ∙ ap (map Some) (sym view) }

module _ (cs : List (Option ℕ)) (used : ℕ) (full : AreWritten cs used) (inside : used ≤ length cs) where
  pub length-front : length (written_words (take used cs)) ≡ used
  length-front = sym (length-map (written_words (take used cs)) Some) ∙ sym (ap length full) ∙ length-take-le used cs inside

  pub length-row : length (row_of cs used).words ≡ length cs
  length-row =
      omega (arith, inside, length-append (written_words (take used cs)) (replicate (length cs - used) 0), length-front, length-replicate {A = ℕ} (length cs - used) 0)

  pub read_at : (i : ℕ) → i < used → get_or cs i None ≡ Some (get_or (row_of cs used).words i 0)
  read_at i lt =
      sym (get_or-take used cs i None lt)
      ∙ ap (λ ds. get_or ds i None) full
      ∙ get_or-map Some (written_words (take used cs)) i 0 None (omega (arith, lt, length-front))
      ∙ ap Some (sym (get_or_append_left (written_words (take used cs)) (replicate (length cs - used) 0) 0 i (omega (arith, lt, length-front))))

  pub stored_at : (i w : ℕ) → i < used → Holds (set cs i (Some w)) used (set (written_words (take used cs)) i w)
  stored_at i w lt =
      holds (set cs i (Some w)) used (set (written_words (take used cs)) i w)
      (take-set-lt used cs i (Some w) lt ∙ ap (λ ds. set ds i (Some w)) full ∙ sym (map-set Some (written_words (take used cs)) i w))

  pub stored_row : (i w : ℕ) → i < used → row_of (set cs i (Some w)) used ≡ record { words = set (row_of cs used).words i w; used = used }
  stored_row i w lt =
      ap₂ (λ (xs : List ℕ) (k : ℕ). record { words = xs ++ replicate (k - used) 0; used = used }) (stored_at i w lt).view (length-set cs i (Some w))
      ∙ ap (λ (xs : List ℕ). record { words = xs; used = used })
      (sym (set-append_left (written_words (take used cs)) (replicate (length cs - used) 0) i w (omega (arith, lt, length-front))))

  -- the next slots come into use
  module _ (m : ℕ) (more : used ≤ m) (within : m ≤ length cs) where
    long : length (take used cs ++ zero_slots (m - used)) ≡ m
    long =
        omega (
          arith,
          more,
          within,
          length-append (take used cs) (zero_slots (m - used)),
          length-take-le used cs inside,
          length-replicate {A = Option ℕ} (m - used) (Some 0),
        )

    pub extended : Holds (cleared cs used m) m (written_words (take used cs) ++ zero_words (m - used))
    extended =
        holds (cleared cs used m) m (written_words (take used cs) ++ zero_words (m - used))
        (ap (λ k. take k (cleared cs used m)) (sym long)
        ∙ take-append_seam (take used cs ++ zero_slots (m - used)) (drop m cs)
        ∙ ap (λ ds. ds ++ zero_slots (m - used)) full
        ∙ ap (λ ds. map Some (written_words (take used cs)) ++ ds) (sym (map-zeros (m - used)))
        ∙ sym (map-append Some (written_words (take used cs)) (zero_words (m - used))))

    pub extended_row : row_of (cleared cs used m) m ≡ record { words = (row_of cs used).words; used = m }
    extended_row =
        let rest : (m - used) + (length cs - m) ≡ length cs - used = omega (arith, more, within) in
        ap₂ (λ (xs : List ℕ) (k : ℕ). record { words = xs ++ zero_words (k - m); used = m }) extended.view (length-cleared cs used m more within)
        ∙ ap (λ (xs : List ℕ). record { words = xs; used = m })
        (append_assoc (written_words (take used cs)) (zero_words (m - used)) (zero_words (length cs - m))
        ∙ ap (λ xs. written_words (take used cs) ++ xs) (replicate-append-replicate (m - used) (length cs - m) 0)
        ∙ ap (λ k. written_words (take used cs) ++ zero_words k) rest)

-- no slot is in use
pub blank_row : (cs : List (Option ℕ)) → row_of cs 0 ≡ blank (length cs)
blank_row cs = let none : length cs - 0 ≡ length cs = omega arith in ap blank none
