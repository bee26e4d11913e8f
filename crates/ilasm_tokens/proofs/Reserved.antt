-- The buckets hold the reserved words, each in its own.
use Rattle.std.proofs.Common.{◌≡◌, ◌==◌, ◌∙◌, ◌&&◌, ◌||◌, ◌/◌, ◌%◌, ℕ, zero, suc, Bool, true, false, not, List, [], ◌∷◌, ◌++◌, Option, Some, None, cond, refl, ap, sym}
use Rattle.std.specs.Prelude.{is_some, bytes_eq, get_or}
use Rattle.std.specs.List.{list_all, list_any}
use Rattle.std.proofs.lemmas.Bool.{eqb-true, and_parts}
use Rattle.std.proofs.lemmas.Slice.Eq.{bytes_eq-Decides}
use Rattle.cil_model.specs.Same.{same_lists, same_text}
use Rattle.cil_model.specs.Words.{grammar_words, instruction_words, short_words, is_reserved, begins_segment, is_digit}
use Rattle.ilasm_tokens.specs.declared.words.WordUse.{WordUse}
use Rattle.ilasm_tokens.specs.Vocabulary.{Entry, groups, bucket_from, look_up, use_of}

same_text_equal : (a b : List ℕ) → same_text a b ≡ true → a ≡ b
same_text_equal [] [] e = refl
same_text_equal (x ∷ xs) (y ∷ ys) e =
    let parts = and_parts (x == y) (same_lists ◌==◌ xs ys) e in
    ap (λ (z : ℕ). z ∷ xs) (eqb-true x y parts.0) ∙ ap (λ (zs : List ℕ). y ∷ zs) (same_text_equal xs ys parts.1)
same_text_equal [] (y ∷ ys) e = absurd cc
same_text_equal (x ∷ xs) [] e = absurd cc

-- what holds of each word of a list holds of a word that is among them
pub of_each : (test : List ℕ → Bool) (w : List ℕ) (vs : List (List ℕ)) → list_all test vs ≡ true → list_any (same_text w) vs ≡ true → test w ≡ true
of_each test w [] all any = absurd cc
of_each test w (v ∷ vs) all any =
    let parts = and_parts (test v) (list_all test vs) all in
    elim (same_text w v) as (λ b. same_text w v ≡ b → (b || list_any (same_text w) vs) ≡ true → test w ≡ true) [
      | true ↦ λ same _. let here : w ≡ v = same_text_equal w v same in rw here parts.0
      | false ↦ λ _ further. of_each test w vs parts.1 further
    ] refl any

at : {A : Type 0} (passes : A → Bool) (absent : A) (xs : List A) (n : ℕ) → passes absent ≡ true → list_all passes xs ≡ true → passes (get_or xs n absent) ≡ true
at passes absent [] n other all = other
at passes absent (x ∷ xs) zero other all = (and_parts (passes x) (list_all passes xs) all).0
at passes absent (x ∷ xs) (suc n) other all = at passes absent xs n other (and_parts (passes x) (list_all passes xs) all).1

module _ (test : List ℕ → WordUse → Bool) where
  abbrev passes : Entry → Bool
  passes e = test e.0 e.1

  in_bucket : (es : List Entry) (w : List ℕ) (u : WordUse) → list_all passes es ≡ true → look_up es w ≡ Some u → test w u ≡ true
  in_bucket [] w u all e = absurd cc
  in_bucket (x ∷ es) w u all e =
      let parts = and_parts (test x.0 x.1) (list_all passes es) all in
      elim (bytes_eq x.0 w) as (λ b. (b ≡ true → x.0 ≡ w) → cond b (Some x.1) (look_up es w) ≡ Some u → test w u ≡ true) [
        | true ↦ λ same found.
            let word : x.0 ≡ w = same refl in
            let its_use : x.1 ≡ u = cc in rw (← word, ← its_use) parts.0
        | false ↦ λ _ further. in_bucket es w u parts.1 further
      ] (bytes_eq-Decides x.0 w).0 e

  -- what holds of each entry holds of what is found
  pub of_entries : (w : List ℕ) (u : WordUse) → list_all (list_all (list_all passes)) groups ≡ true → use_of w ≡ Some u → test w u ≡ true
  unfolding use_of
  of_entries w u all e =
      let group : List (List Entry) = get_or groups (bucket_from 0 w / 8) [] in
      in_bucket (get_or group (bucket_from 0 w % 8) []) w u (at (list_all passes) [] group (bucket_from 0 w % 8) refl (at (list_all (list_all passes)) [] groups (bucket_from 0 w / 8) refl all)) e

-- ---- the reserved words are those of the definition

reserved_entry : List ℕ → WordUse → Bool
reserved_entry w u = is_reserved w

used_is_reserved : (w : List ℕ) (u : WordUse) → use_of w ≡ Some u → is_reserved w ≡ true
unfolding reserved_entry
used_is_reserved w u e = of_entries reserved_entry w u refl e

has_use : List ℕ → Bool
has_use w = is_some (use_of w)

reserved_is_used : (w : List ℕ) → is_reserved w ≡ true → is_some (use_of w) ≡ true
unfolding has_use use_of
reserved_is_used w e = of_each has_use w (grammar_words ++ instruction_words ++ short_words) refl e

same_tests : (a b : Bool) → (a ≡ true → b ≡ true) → (b ≡ true → a ≡ true) → a ≡ b
same_tests true true f g = refl
same_tests false false f g = refl
same_tests true false f g = sym (f refl)
same_tests false true f g = g refl

some_passes : {A : Type 0} (o : Option A) (P : Type 0) → ((x : A) → o ≡ Some x → P) → is_some o ≡ true → P
some_passes (Some x) P f e = f x refl
some_passes None P f e = absurd cc

pub has_use_is_reserved : (w : List ℕ) → is_some (use_of w) ≡ is_reserved w
has_use_is_reserved w = same_tests (is_some (use_of w)) (is_reserved w) (some_passes (use_of w) (is_reserved w ≡ true) (used_is_reserved w)) (reserved_is_used w)

-- a reserved word begins with a letter or a point
abbrev pub begins_word : List ℕ → Bool
begins_word [] = false
begins_word (c ∷ cs) = not (is_digit c) && (begins_segment c || (c == 46))

pub reserved_begins : (w : List ℕ) → is_reserved w ≡ true → begins_word w ≡ true
reserved_begins w e = of_each begins_word w (grammar_words ++ instruction_words ++ short_words) refl e
