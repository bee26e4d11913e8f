-- Reading one item after the other, as a loop does.
use Rattle.std.proofs.Common.{◌≡◌, ℕ, zero, suc, ◌<◌, List, [], ◌∷◌, ◌++◌, length, Option, Some, None, Bool, true, false, refl, sym, ap, ◌∙◌, append_assoc, arith, subst}
use Rattle.std.proofs.lemmas.List.{append-nil}
use Rattle.cil_model.specs.Spans.{SpanOf, each}
use Rattle.ilasm_tokens.specs.declared.failure.Failure.{Failure}
use Rattle.ilasm_tokens.specs.declared.failure.Failure.TheVariants.{Refused, OutOfMemory}
use Rattle.ilasm_tokens.specs.Steps.{ParserOf, Fails, bind, with_front, many_up_to, many, Consumes, Sound, bind_at}

-- the value of a step that did not fail
pub bind_some : {A B : Type 0} (r : Option A) (f : A → Option B) (y : B) → bind r f ≡ Some y → (x : A) × (r ≡ Some x) × (f x ≡ Some y)
unfolding bind
bind_some (Some x) f y e = (x, refl, e)
bind_some None f y e = absurd cc

module _ {S A : Type 0} (starts : List S → Bool) (parses : ParserOf S A) where
  -- the loop's invariant: with enough fuel, what was read and what is left make the whole
  pub record Reading (total : Option (List A × List S)) (front : List A) (rest : List S) : Type 0 where
    pub fuel : ℕ
    pub enough : length rest < fuel
    pub whole : with_front front (many_up_to starts parses fuel rest) ≡ total

  pub begins : (ts : List S) → Reading (many starts parses ts) [] ts
  unfolding with_front many
  begins ts = record { fuel = suc (length ts); enough = omega arith; whole = elim (many starts parses ts) as (λ v. with_front [] v ≡ v) [ Some x ↦ refl | None ↦ refl ] }

  regroup : (front : List A) (x : A) (r : Option (List A × List S)) → with_front front (bind r (λ others. Some (x ∷ others.0, others.1))) ≡ with_front (front ++ x ∷ []) r
  unfolding with_front bind
  regroup front x (Some y) = ap (λ (xs : List A). Some (xs, y.1)) (simp append_assoc)
  regroup front x None = refl

  continues : (n : ℕ) (ts : List S) (x : A) (rest : List S) → starts ts ≡ true → parses ts ≡ Some (x, rest) → many_up_to starts parses (suc n) ts ≡ bind (many_up_to starts parses n rest) (λ others. Some (x ∷ others.0, others.1))
  unfolding many_up_to bind
  continues n ts x rest s e = rw (s, e) refl

  pub transitions : (total : Option (List A × List S)) (front : List A) (ts : List S) (x : A) (rest : List S) → Consumes parses → Reading total front ts → starts ts ≡ true → parses ts ≡ Some (x, rest) → Reading total (front ++ x ∷ []) rest
  transitions total front ts x rest consumes reading s e =
      let less = consumes ts x rest e in
      let go : (n : ℕ) → length ts < n → with_front front (many_up_to starts parses n ts) ≡ total → Reading total (front ++ x ∷ []) rest =
      elim [
        | zero ↦ λ enough whole. absurd (omega arith)
        | suc n ↦ λ enough whole. record { fuel = n; enough = omega (arith, less); whole = sym (regroup front x (many_up_to starts parses n rest)) ∙ sym (ap (with_front front) (continues n ts x rest s e)) ∙ whole }
      ] in
      go reading.fuel reading.enough reading.whole

  stops : (n : ℕ) (ts : List S) → starts ts ≡ false → many_up_to starts parses n ts ≡ Some ([], ts)
  unfolding many_up_to
  stops zero ts s = refl
  stops (suc n) ts s = rw s refl

  pub ends_loop : (total : Option (List A × List S)) (front : List A) (ts : List S) → Reading total front ts → starts ts ≡ false → total ≡ Some (front, ts)
  unfolding with_front
  ends_loop total front ts reading s = sym reading.whole ∙ ap (with_front front) (stops reading.fuel ts s) ∙ ap (λ (xs : List A). Some (xs, ts)) (append-nil front)

  fails_there : (n : ℕ) (ts : List S) → starts ts ≡ true → parses ts ≡ None → many_up_to starts parses (suc n) ts ≡ None
  unfolding many_up_to bind
  fails_there n ts s e = rw (s, e) refl

  pub fails : (failure : Failure) (total : Option (List A × List S)) (front : List A) (ts : List S) → Reading total front ts → starts ts ≡ true → Fails failure (parses ts) → Fails failure total
  unfolding with_front
  fails OutOfMemory total front ts reading s e = tt
  fails (Refused left expected) total front ts reading s e =
      let go : (n : ℕ) → length ts < n → with_front front (many_up_to starts parses n ts) ≡ total → total ≡ None =
      elim [
        | zero ↦ λ enough whole. absurd (omega arith)
        | suc n ↦ λ enough whole. sym whole ∙ ap (with_front front) (fails_there n ts s e)
      ] in
      go reading.fuel reading.enough reading.whole

-- a parser that gives what the grammar has, before what may follow it
abbrev pub CompleteBefore : {S A : Type 0} → (List S → Type 0) → ParserOf S A → (A → SpanOf S) → Type 0
CompleteBefore {S} {A} Ends parses R = (x : A) (ts rest : List S) → Ends rest → R x ts rest → parses ts ≡ Some (x, rest)

abbrev pub Complete : {S A : Type 0} → ParserOf S A → (A → SpanOf S) → Type 0
Complete {S} {A} parses R = (x : A) (ts rest : List S) → R x ts rest → parses ts ≡ Some (x, rest)

module _ {S A : Type 0} (starts : List S → Bool) (parses : ParserOf S A) (R : A → SpanOf S) (Ends : List S → Type 0) (sound : Sound parses R) (complete : CompleteBefore Ends parses R) (first : (x : A) (ts rest : List S) → R x ts rest → (starts ts ≡ true) × Ends ts) where
  pub ends : (xs : List A) (ts rest : List S) → Ends rest → each R xs ts rest → Ends ts
  ends [] ts rest e p = subst Ends (sym p) e
  ends (x ∷ xs) ts rest e (mid, p, q) = (first x ts mid p).1

  many_up_to_complete : (n : ℕ) (xs : List A) (ts rest : List S) → length ts < n → Ends rest → starts rest ≡ false → each R xs ts rest → many_up_to starts parses n ts ≡ Some (xs, rest)
  unfolding many_up_to
  many_up_to_complete zero xs ts rest lt e s p = absurd (omega arith)
  many_up_to_complete (suc n) [] ts rest lt e s p = rw (p, s) refl
  many_up_to_complete (suc n) (x ∷ xs) ts rest lt e s (mid, p, q) =
      let here : parses ts ≡ Some (x, mid) = complete x ts mid (ends xs mid rest e q) p in
      let less = ((sound ts).out (x, mid) here).1 in
      let there : many_up_to starts parses n mid ≡ Some (xs, rest) = many_up_to_complete n xs mid rest (omega (arith, less)) e s q in
      rw (first x ts mid p).0 (bind_at _ here (bind_at _ there refl))

  pub many_complete : (xs : List A) (ts rest : List S) → Ends rest → starts rest ≡ false → each R xs ts rest → many starts parses ts ≡ Some (xs, rest)
  unfolding many
  many_complete xs ts rest e s p = many_up_to_complete (suc (length ts)) xs ts rest (omega arith) e s p
