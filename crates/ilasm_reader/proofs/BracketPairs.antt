-- Counting pairs of brackets, as a loop does.
use Rattle.std.proofs.Common.{◌≡◌, ◌<◌, ◌+◌, ◌∙◌, ℕ, suc, List, ◌∷◌, length, Some, None, refl, ap, arith}
use Rattle.cil_model.specs.declared.tokens.Symbol.TheVariants.{OpenBracket, CloseBracket}
use Rattle.cil_model.specs.declared.tokens.Token.{Token}
use Rattle.cil_model.specs.declared.tokens.Token.TheVariants.{Symbol}
use Rattle.ilasm_tokens.specs.Steps.{bind, choice}
use Rattle.ilasm_reader.specs.Parsing.{sign_at, brackets_at, all_brackets_at}
use Rattle.ilasm_reader.specs.Sound.{brackets_sound}

-- where the list does not begin with a pair, the count is 0
pub no_more : (ts : List Token) → brackets_at ts ≡ None → all_brackets_at ts ≡ (0, ts)
unfolding all_brackets_at brackets_at sign_at bind choice
no_more (Symbol OpenBracket ∷ Symbol CloseBracket ∷ rest) e = absurd cc
no_more ts e = refl

-- where it begins with a pair, the count is one more than that of the rest
one_more : (ts rest : List Token) → brackets_at ts ≡ Some rest → all_brackets_at ts ≡ (suc (all_brackets_at rest).0, (all_brackets_at rest).1)
unfolding all_brackets_at
one_more ts rest e = let p = ((brackets_sound ts).out rest e).0 in rw (p.1, p.2) refl

-- the invariant of the loop: the pairs counted so far, and those of the tokens that are left, are all pairs
abbrev pub Counting : ℕ × List Token → ℕ → List Token → Type 0
Counting whole count ts = whole ≡ (count + (all_brackets_at ts).0, (all_brackets_at ts).1)

pub begins : (ts : List Token) → Counting (all_brackets_at ts) 0 ts
begins ts = let sums : (all_brackets_at ts).0 ≡ 0 + (all_brackets_at ts).0 = omega arith in ap (λ (n : ℕ). (n, (all_brackets_at ts).1)) sums

pub transitions : (whole : ℕ × List Token) (count : ℕ) (ts rest : List Token) → Counting whole count ts → brackets_at ts ≡ Some rest → Counting whole (count + 1) rest
transitions whole count ts rest e h =
    let sums : count + suc (all_brackets_at rest).0 ≡ count + 1 + (all_brackets_at rest).0 = omega arith in
    e ∙ ap (λ (x : ℕ × List Token). (count + x.0, x.1)) (one_more ts rest h) ∙ ap (λ (n : ℕ). (n, (all_brackets_at rest).1)) sums

pub ends : (whole : ℕ × List Token) (count : ℕ) (ts : List Token) → Counting whole count ts → brackets_at ts ≡ None → whole ≡ (count, ts)
ends whole count ts e h =
    let sums : count + 0 ≡ count = omega arith in
    e ∙ ap (λ (x : ℕ × List Token). (count + x.0, x.1)) (no_more ts h) ∙ ap (λ (n : ℕ). (n, ts)) sums

pub less : (ts rest : List Token) → brackets_at ts ≡ Some rest → length rest < length ts
less ts rest e = ((brackets_sound ts).out rest e).1
