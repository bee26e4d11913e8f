-- The sentence of deadlocked threads.
use Rattle.std.proofs.Common.{◌≡◌, ◌≢◌, ◌==◌, ◌++◌, ℕ, Bool, if◌then◌else◌, List, [], codes, length, sym, ap, ◌∙◌}
use Rattle.std.proofs.lemmas.Bool.{eq-eqb, ne_eqb}
use Rattle.event_trace.specs.Texts.{count_below, numbers_below}
use Rattle.run_picture.specs.Sentences.{deadlock_sentence}

module _ (set : List Bool) (count : ℕ) (counted : count ≡ count_below set (length set)) where
  sentence : List ℕ
  sentence = codes "threads deadlocked after the last event: " ++ numbers_below set (length set)

  pub no_sentence : (text : List ℕ) → count ≡ 0 → text ≡ [] → text ≡ deadlock_sentence set
  unfolding sentence
  no_sentence text none empty = empty ∙ ap (λ b. if b then [] else sentence) (sym (ap (λ n. n == 0) (sym counted) ∙ eq-eqb count 0 none))

  pub some_sentence : (numbers first second : List ℕ) → count ≢ 0 → numbers ≡ numbers_below set (length set) → first ≡ codes "threads deadlocked after the last event: " → second ≡ first ++ numbers → second ≡ deadlock_sentence set
  unfolding sentence
  some_sentence numbers first second some these is more =
      more ∙ ap (λ l. l ++ numbers) is ∙ ap (λ l. codes "threads deadlocked after the last event: " ++ l) these
      ∙ ap (λ b. if b then [] else sentence) (sym (ap (λ n. n == 0) (sym counted) ∙ ne_eqb count 0 some))
