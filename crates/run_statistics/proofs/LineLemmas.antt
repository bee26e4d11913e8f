-- The lines of threads, one after another.
use Rattle.std.proofs.Common.{◌≡◌, ◌∷◌, codes, ℕ, zero, suc, ◌+◌, ◌<◌, List, [], ◌++◌, sym, ap, ◌∙◌, append_assoc, append-nil, arith, inl, inr, ◌⊎◌, add-one}
use Rattle.std.proofs.Math.Nat.{eq-or-lt_of_le}
use Rattle.std.specs.Prelude.{OnErr, Result, Ok, Err}
use Rattle.cil_model.specs.declared.events.Event.{Event}
use Rattle.cil_model.specs.declared.reports.Report.{Report}
use Rattle.run_statistics.specs.Lines.{steps_text, thread_text}

-- what holds whatever the error, holds of an error
pub on_err : {T E : Type 0} {P : Type 0} (r : Result T E) → P → OnErr r P
on_err (Ok x) p = tt
on_err (Err e) p = p

-- one thread more
pub steps_more : (events : List Event) (reports : List Report) (thread : ℕ)
    → steps_text events reports thread ++ thread_text events reports thread ≡ steps_text events reports (thread + 1)
steps_more events reports thread = sym (ap (steps_text events reports) (add-one thread))

-- the lines before a thread, its own and those after it
pub steps_around : (events : List Event) (reports : List Report) (thread threads : ℕ) → thread < threads
    → (rest : List ℕ) × (steps_text events reports threads ≡ steps_text events reports thread ++ (thread_text events reports thread ++ rest))
steps_around events reports thread zero below = absurd (omega arith)
steps_around events reports thread (suc last) below = either (eq-or-lt_of_le (omega arith)) (λ before. steps_around events reports thread last before)
  where
    either : (thread ≡ last) ⊎ (thread < last)
        → (thread < last → (rest : List ℕ) × (steps_text events reports last ≡ steps_text events reports thread ++ (thread_text events reports thread ++ rest)))
        → (rest : List ℕ) × (steps_text events reports (suc last) ≡ steps_text events reports thread ++ (thread_text events reports thread ++ rest))
    either (inl same) earlier = (
      [],
      ap (λ n. steps_text events reports n ++ thread_text events reports n) (sym same) ∙ ap (λ text. steps_text events reports thread ++ text) (sym (append-nil (thread_text events reports thread))),
    )
    either (inr before) earlier =
        let (rest, is) = earlier before in (
          rest ++ thread_text events reports last,
          ap (λ text. text ++ thread_text events reports last) is
              ∙ append_assoc (steps_text events reports thread) (thread_text events reports thread ++ rest) (thread_text events reports last)
              ∙ ap (λ text. steps_text events reports thread ++ text) (append_assoc (thread_text events reports thread) rest (thread_text events reports last)),
        )

-- nine pieces that are two lines
two_lines : (a n b s e d k : List ℕ) → a ++ (n ++ (b ++ (s ++ ((e ++ d) ++ (n ++ (b ++ (k ++ e))))))) ≡ (a ++ n ++ b ++ s ++ e) ++ (d ++ n ++ b ++ k ++ e)
two_lines a n b s e d k = simp append_assoc

-- and fifteen that are five, and between the fourth and the fifth one a line that may be empty
five_lines : (a b d h f k l e c w s m n o r : List ℕ)
    → (a ++ k) ++ (e ++ ((l ++ (b ++ k)) ++ (c ++ ((l ++ (d ++ k)) ++ (w ++ ((l ++ (h ++ k)) ++ (s ++ (l ++ (m ++ (n ++ (o ++ ((f ++ k) ++ (r ++ l)))))))))))))
    ≡ (a ++ k ++ e ++ l) ++ (b ++ k ++ c ++ l) ++ (d ++ k ++ w ++ l) ++ (h ++ k ++ s ++ l) ++ (m ++ (n ++ o)) ++ (f ++ k ++ r ++ l)
five_lines a b d h f k l e c w s m n o r = simp append_assoc

-- the pieces of the lines of a thread
pub thread_pieces : {t m b thread made blocked : List ℕ} → t ≡ thread → m ≡ made → b ≡ blocked
    → codes "steps of thread " ++ (t ++ (codes ": " ++ (m ++ (10 ∷ codes "blocked steps of thread " ++ (t ++ (codes ": " ++ (b ++ 10 ∷ [])))))))
    ≡ (codes "steps of thread " ++ thread ++ codes ": " ++ made ++ 10 ∷ []) ++ (codes "blocked steps of thread " ++ thread ++ codes ": " ++ blocked ++ 10 ∷ [])
thread_pieces {thread = n} {made = m} {blocked = b} e f h = rw (e, f, h) (two_lines (codes "steps of thread ") n (codes ": ") m (10 ∷ []) (codes "blocked steps of thread ") b)

-- the pieces of the other lines
pub total_pieces : {e c w s r events cycles words heap most refused : List ℕ} (m n o : List ℕ) → e ≡ events → c ≡ cycles → w ≡ words → s ≡ heap → m ++ (n ++ o) ≡ most → r ≡ refused
    → codes "events: " ++ (e ++ (10 ∷ codes "collector cycles: " ++ (c ++ (10 ∷ codes "words in use: " ++ (w ++ (10 ∷ codes "heap words: " ++ (s ++ (10 ∷ [] ++ (m ++ (n ++ (o ++ (codes "refused allocations: " ++ (r ++ 10 ∷ [])))))))))))))
    ≡ (codes "events" ++ codes ": " ++ events ++ 10 ∷ []) ++ (codes "collector cycles" ++ codes ": " ++ cycles ++ 10 ∷ []) ++ (codes "words in use" ++ codes ": " ++ words ++ 10 ∷ [])
    ++ (codes "heap words" ++ codes ": " ++ heap ++ 10 ∷ []) ++ most ++ (codes "refused allocations" ++ codes ": " ++ refused ++ 10 ∷ [])
total_pieces {events = e} {cycles = c} {words = w} {heap = s} {refused = r} m n o same same' same'' same''' most same'''' =
    rw (same, same', same'', same''', sym most, same'''')
    (five_lines (codes "events") (codes "collector cycles") (codes "words in use") (codes "heap words") (codes "refused allocations") (codes ": ") (10 ∷ []) e c w s m n o r)
