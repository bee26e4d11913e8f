-- The results for a source's tokens.
use Rattle.std.specs.Prelude.{ℕ, List, Result, Ok, Err}
use Rattle.cil_model.specs.declared.tokens.Token.{Token}
use Rattle.cil_model.specs.Lexemes.{AreTokens}
use Rattle.ilasm_tokens.specs.declared.failure.Failure.{Failure}
use Rattle.ilasm_tokens.specs.declared.failure.Failure.TheVariants.{Refused, OutOfMemory}

-- these are its tokens; or no list is; or memory ran out
abbrev pub IsTokenAnswer : List ℕ → Result (List Token) Failure → Type 0
IsTokenAnswer source (Ok ts) = AreTokens source ts
IsTokenAnswer source (Err (Refused left expected)) = (ts : List Token) → AreTokens source ts → ⊥
IsTokenAnswer source (Err OutOfMemory) = Unit {0}
