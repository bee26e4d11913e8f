-- The tokens of a source, as they are read.
use Rattle.std.proofs.Common.{◌≡◌, ℕ, List, [], Option, Some, None, refl}
use Rattle.std.specs.Prelude.{unwrap_or}
use Rattle.cil_model.specs.Lexemes.{AreTokens}
use Rattle.cil_model.specs.declared.tokens.Token.{Token}
use Rattle.ilasm_tokens.specs.Lexing.{tokens_at}
use Rattle.ilasm_tokens.proofs.Reading.{none_are_tokens, read_are_tokens, same_tokens}
use Rattle.source_lines.specs.Lines.{tokens_of}

are_read : (source : List ℕ) (ts : List Token) → AreTokens source ts → (read : Option (List Token)) → tokens_at source ≡ read → ts ≡ unwrap_or read []
are_read source ts are None none = absurd (none_are_tokens source none ts are)
are_read source ts are (Some us) some = same_tokens source ts us are (read_are_tokens source us some)

-- the tokens of a source are those that are read
pub same_as_read : (source : List ℕ) (ts : List Token) → AreTokens source ts → ts ≡ tokens_of source
same_as_read source ts are = are_read source ts are (tokens_at source) refl

none_read : (source : List ℕ) → ((ts : List Token) → AreTokens source ts → ⊥) → (read : Option (List Token)) → tokens_at source ≡ read → [] ≡ unwrap_or read []
none_read source without None none = refl
none_read source without (Some us) some = absurd (without us (read_are_tokens source us some))

-- where a source has no tokens, none are read
pub none_are_read : (source : List ℕ) → ((ts : List Token) → AreTokens source ts → ⊥) → [] ≡ tokens_of source
none_are_read source without = none_read source without (tokens_at source) refl
