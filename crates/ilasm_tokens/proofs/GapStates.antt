-- Going from token to token.
use Rattle.std.proofs.Common.{◌≡◌, ◌∙◌, ◌<◌, ◌≤◌, ◌-◌, ◌+◌, ℕ, suc, List, length, Some, None, refl, sym, arith}
use Rattle.cil_model.specs.declared.tokens.Token.{Token}
use Rattle.cil_model.specs.Lexemes.{skip_gap, between}
use Rattle.ilasm_tokens.specs.declared.failure.Failure.{Failure}
use Rattle.ilasm_tokens.specs.declared.failure.Failure.TheVariants.{Refused, OutOfMemory}
use Rattle.ilasm_tokens.specs.Steps.{Fails, bind, bind_at}
use Rattle.ilasm_tokens.specs.Lexing.{spaced_lexeme_at, after_tokens, offset_of}

step_of : (m n : ℕ) → n < m → m - n ≡ suc (m - (n + 1))
step_of m n less = omega (arith, less)

pub one_more : (m n : ℕ) (bs rest : List ℕ) (t : Token) → n < m → spaced_lexeme_at bs ≡ Some (t, rest) → after_tokens (m - n) bs ≡ after_tokens (m - (n + 1)) rest
unfolding after_tokens bind
one_more m n bs rest t less e = rw (step_of m n less, e) refl

no_more : (m n : ℕ) (bs : List ℕ) → n < m → spaced_lexeme_at bs ≡ None → after_tokens (m - n) bs ≡ None
unfolding after_tokens bind
no_more m n bs less e = rw (step_of m n less, e) refl

pub gap_fails : (failure : Failure) (m : ℕ) (source : List ℕ) → Fails failure (skip_gap between source) → Fails failure (offset_of m source)
unfolding offset_of bind
gap_fails (Refused left expected) m source e = rw e refl
gap_fails OutOfMemory m source e = tt

pub token_fails : (failure : Failure) (source start rest : List ℕ) (m k : ℕ) → skip_gap between source ≡ Some start → k < m → after_tokens (m - k) rest ≡ after_tokens m start → Fails failure (spaced_lexeme_at rest) → Fails failure (offset_of m source)
unfolding offset_of bind
token_fails (Refused left expected) source start rest m k e less so_far none =
    rw (e, sym so_far ∙ no_more m k rest less none) refl
token_fails OutOfMemory source start rest m k e less so_far none = tt

pub at_gap : (source start rest : List ℕ) (m k : ℕ) → skip_gap between source ≡ Some start → m ≤ k → after_tokens (m - k) rest ≡ after_tokens m start → offset_of m source ≡ Some (length source - length rest)
unfolding offset_of after_tokens
at_gap source start rest m k e past so_far =
    let none : m - k ≡ 0 = omega (arith, past) in
    let there : after_tokens m start ≡ Some rest = sym so_far ∙ rw none refl in
    bind_at _ e (bind_at _ there refl)
