-- The numbers of a set of threads, and how many there are.
use Rattle.std.proofs.Common.{◌≡◌, ◌≢◌, ◌==◌, ◌≤◌, ◌+◌, ◌∷◌, ◌++◌, ℕ, zero, suc, Bool, true, false, if◌then◌else◌, List, [], length, append_assoc, add-one, arith, codes, sym, ap, ◌∙◌}
use Rattle.std.specs.Prelude.{decimal}
use Rattle.interleaving_core.specs.simulation.threads_monitors.Threads.{is_live}
use Rattle.event_trace.proofs.Names.{eq-eqb, ne_eqb, append-nil, count_by, MachineState, is_in, count_below, deadlock_line, deadlock_word, numbers_below, separator}

-- no more of them are below a number than there are numbers
pub count_small : (set : List Bool) (n : ℕ) → count_below set n ≤ n
count_small set zero = omega arith
count_small set (suc n) = by_truth (is_in set n) (count_small set n)
  where
    by_truth : (b : Bool) → count_below set n ≤ n → count_below set n + (if b then 1 else 0) ≤ suc n
    by_truth true h = omega (arith, h)
    by_truth false h = omega (arith, h)

module _ (set : List Bool) (n count : ℕ) (old text text' : List ℕ) (counted : count ≡ count_below set n) (before : text ≡ old ++ numbers_below set n) where
  abbrev with_truth : Bool → List ℕ
  with_truth b = numbers_below set n ++ (if b then separator (count_below set n) ++ decimal n else [])

  -- the number of a thread of the set is added
  pub numbers_with : is_in set n ≡ true → text' ≡ text ++ (separator count ++ decimal n) → text' ≡ old ++ numbers_below set (n + 1)
  numbers_with is adds =
      adds
      ∙ ap (λ k. text ++ (separator k ++ decimal n)) counted
      ∙ ap (λ t. t ++ (separator (count_below set n) ++ decimal n)) before
      ∙ append_assoc old (numbers_below set n) (separator (count_below set n) ++ decimal n)
      ∙ ap (λ b. old ++ with_truth b) (sym is)
      ∙ ap (λ k. old ++ numbers_below set k) (sym (add-one n))

  pub count_with : is_in set n ≡ true → count + 1 ≡ count_below set (n + 1)
  count_with is = ap (λ k. k + 1) counted ∙ ap (λ b. count_below set n + (if b then 1 else 0)) (sym is) ∙ ap (count_below set) (sym (add-one n))

  -- of another thread none is
  pub numbers_without : is_in set n ≡ false → text ≡ old ++ numbers_below set (n + 1)
  numbers_without is =
      before
      ∙ ap (λ l. old ++ l) (sym (append-nil (numbers_below set n)))
      ∙ ap (λ b. old ++ with_truth b) (sym is)
      ∙ ap (λ k. old ++ numbers_below set k) (sym (add-one n))

  pub count_without : is_in set n ≡ false → count ≡ count_below set (n + 1)
  count_without is = counted ∙ sym (no_more (count_below set n)) ∙ ap (λ b. count_below set n + (if b then 1 else 0)) (sym is) ∙ ap (count_below set) (sym (add-one n))
    where
      no_more : (k : ℕ) → k + 0 ≡ k
      no_more k = omega arith

-- ---- the line of the deadlocked threads

module _ (c : MachineState) (set : List Bool) (count : ℕ) (counted : count ≡ count_below set (length set)) where
  abbrev pub word : List ℕ
  word = deadlock_word (count == count_by is_live c.threads)

  full_line : List ℕ
  full_line = deadlock_word (count_below set (length set) == count_by is_live c.threads) ++ numbers_below set (length set) ++ 10 ∷ []

  pub word_of_all : count ≡ count_by is_live c.threads → codes "deadlock: threads " ≡ word
  word_of_all all = ap deadlock_word (sym (eq-eqb count (count_by is_live c.threads) all))

  pub word_of_some : count ≢ count_by is_live c.threads → codes "partial deadlock: threads " ≡ word
  word_of_some some = ap deadlock_word (sym (ne_eqb count (count_by is_live c.threads) some))

  -- the word, the numbers and an end of line are that line
  pub line_is_added : (old first numbers second third : List ℕ) → count ≢ 0 → first ≡ old ++ word → numbers ≡ numbers_below set (length set) → second ≡ first ++ numbers → third ≡ second ++ 10 ∷ [] → third ≡ old ++ deadlock_line c set
  unfolding full_line
  line_is_added old first numbers second third some is these more ends =
      ends
      ∙ ap (λ l. l ++ 10 ∷ []) (more ∙ ap (λ l. l ++ numbers) is ∙ ap (λ l. old ++ word ++ l) these ∙ append_assoc old word (numbers_below set (length set)))
      ∙ append_assoc old (word ++ numbers_below set (length set)) (10 ∷ [])
      ∙ ap (λ k. old ++ (deadlock_word (k == count_by is_live c.threads) ++ numbers_below set (length set) ++ 10 ∷ [])) counted
      ∙ ap (λ b. old ++ (if b then [] else full_line)) (sym (sym (ap (λ k. k == 0) counted) ∙ ne_eqb count 0 some))
