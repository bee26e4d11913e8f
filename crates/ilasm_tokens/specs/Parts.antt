-- What a token is of, and how a source holds it.
use Rattle.std.specs.Prelude.{◌<◌, ℕ, ℤ, List, [], Option, Some, None, All, false}
use Rattle.cil_model.specs.declared.tokens.Symbol as symbols
use Rattle.cil_model.specs.declared.tokens.Token.{Token}
use Rattle.cil_model.specs.declared.tokens.Token.TheVariants.{Reserved, Name, Integer, Quoted, Symbol}
use Rattle.ilasm_tokens.specs.declared.source_tokens.Part.{Part}
use Rattle.ilasm_tokens.specs.declared.source_tokens.Part.TheVariants as parts
use Rattle.ilasm_tokens.specs.Steps.{choice}
use Rattle.ilasm_tokens.specs.Lexing.{quoted_from}

-- the reserved word, if the token is one
abbrev pub reserved_in : Token → Option (List ℕ)
reserved_in (Reserved w) = Some w
reserved_in _ = None

-- the name
abbrev pub name_in : Token → Option (List ℕ)
name_in (Name n) = Some n
name_in _ = None

-- the value of the integer
abbrev pub integer_in : Token → Option ℤ
integer_in (Integer z) = Some z
integer_in _ = None

-- the characters of the string literal
abbrev pub quoted_in : Token → Option (List ℕ)
quoted_in (Quoted t) = Some t
quoted_in _ = None

-- the mark
abbrev pub symbol_in : Token → Option symbols.Symbol
symbol_in (Symbol s) = Some s
symbol_in _ = None

-- the characters up to the quote, if there is one
unfoldable pub characters_of : List ℕ → List ℕ
characters_of bs = choice (quoted_from false bs) (λ x. x.0) []

-- the token that a part of the source is
abbrev pub token_of : Part → Token
token_of (parts.Reserved w) = Reserved w.now
token_of (parts.Name n) = Name n.now
token_of (parts.Integer z) = Integer z
token_of (parts.Quoted bs) = Quoted (characters_of bs.now)
token_of (parts.Symbol s) = Symbol s

-- a name has bytes below 128
abbrev pub HasAsciiName : Part → Type 0
HasAsciiName (parts.Name n) = All (λ b. b < 128) n.now
HasAsciiName _ = Unit {0}
