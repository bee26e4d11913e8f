-- Taking reserved words, one after the other.
use Rattle.std.proofs.Common.{◌≡◌, ◌∙◌, ◌<◌, ◌≤◌, ◌+◌, ℕ, suc, List, [], ◌∷◌, length, get_or, drop, map, Option, Some, None, Bor, refl, ap, arith}
use Rattle.std.proofs.Math.Seq.{drop-cons}
use Rattle.std.proofs.lemmas.List.{drop_all}
use Rattle.cil_model.specs.declared.tokens.Token.{Token}
use Rattle.ilasm_tokens.specs.declared.failure.Failure.{Failure}
use Rattle.ilasm_tokens.specs.declared.failure.Failure.TheVariants.{Refused, OutOfMemory}
use Rattle.ilasm_tokens.specs.Steps.{bind, Fails}
use Rattle.ilasm_reader.specs.Parsing.{word_at, words_at}

last : (r : Option (List Token)) → r ≡ bind r (words_at [])
unfolding words_at bind
last (Some x) = refl
last None = refl

-- the first word, and then the others
step : (w : List ℕ) (ws : List (List ℕ)) (ts : List Token) → words_at (w ∷ ws) ts ≡ bind (word_at w ts) (words_at ws)
unfolding words_at
step w [] ts = last (word_at w ts)
step w (v ∷ ws) ts = refl

abbrev pub words_from : List (Bor (List ℕ)) → ℕ → List (List ℕ)
words_from words n = map (λ word. word.now) (drop n words)

pub step_at : (words : List (Bor (List ℕ))) (n : ℕ) (d : Bor (List ℕ)) (ts : List Token) → n < length words
    → words_at (words_from words n) ts ≡ bind (word_at (get_or words n d).now ts) (words_at (words_from words (n + 1)))
step_at words n d ts h =
    let next : suc n ≡ n + 1 = omega arith in
    ap (λ (l : List (Bor (List ℕ))). words_at (map (λ word. word.now) l) ts) (drop-cons words n d h) ∙ step (get_or words n d).now (words_from words (suc n)) ts
    ∙ ap (λ k. bind (word_at (get_or words n d).now ts) (words_at (words_from words k))) next

pub taken : (words : List (Bor (List ℕ))) (n : ℕ) (d : Bor (List ℕ)) (ts rest : List Token) → n < length words
    → word_at (get_or words n d).now ts ≡ Some rest → words_at (words_from words n) ts ≡ words_at (words_from words (n + 1)) rest
unfolding bind
taken words n d ts rest h e = step_at words n d ts h ∙ rw e refl

absent : (words : List (Bor (List ℕ))) (n : ℕ) (d : Bor (List ℕ)) (ts : List Token) → n < length words
    → word_at (get_or words n d).now ts ≡ None → words_at (words_from words n) ts ≡ None
unfolding bind
absent words n d ts h e = step_at words n d ts h ∙ rw e refl

pub fails : (failure : Failure) (words : List (Bor (List ℕ))) (n : ℕ) (d : Bor (List ℕ)) (ts : List Token) (all : Option (List Token)) → n < length words
    → all ≡ words_at (words_from words n) ts → Fails failure (word_at (get_or words n d).now ts) → Fails failure all
fails OutOfMemory words n d ts all h e f = tt
fails (Refused left expected) words n d ts all h e f = e ∙ absent words n d ts h f

pub all_taken : (words : List (Bor (List ℕ))) (n : ℕ) (ts : List Token) → length words ≤ n → words_at (words_from words n) ts ≡ Some ts
unfolding words_at
all_taken words n ts h = rw (drop_all n words h) refl
