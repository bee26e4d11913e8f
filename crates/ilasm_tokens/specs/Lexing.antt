-- Reading tokens from left to right.
use Rattle.std.specs.Prelude.{◌==◌, ◌^◌, ◌-◌, ℕ, zero, suc, ℤ, List, [], ◌∷◌, length, take, drop, Option, Some, None, Bool, true, false, is_some, nat_le, ◌||◌, if◌then◌else◌}
use Rattle.std.specs.List.{prefix_len, list_all}
use Rattle.cil_model.specs.declared.tokens.Symbol.TheVariants.{OpenBrace, CloseBrace, OpenParenthesis, CloseParenthesis, OpenBracket, CloseBracket, Comma, Colon as OneColon, DoubleColon}
use Rattle.cil_model.specs.declared.tokens.Token.{Token}
use Rattle.cil_model.specs.declared.tokens.Token.TheVariants.{Reserved, Name, Integer, Quoted, Symbol}
use Rattle.cil_model.specs.Words.{begins_segment, is_digit, is_word_byte, are_segments}
use Rattle.cil_model.specs.Lexemes.{skip_gap, between, value_from, with_sign, is_plain, escape}
use Rattle.ilasm_tokens.specs.declared.bytes.Kind.{Kind}
use Rattle.ilasm_tokens.specs.declared.bytes.Kind.TheVariants.{Word, Digit, Minus, Quote, Colon, Single, Nothing}
use Rattle.ilasm_tokens.specs.Steps.{◌>>=◌, ParserOf, with_front, many}
use Rattle.ilasm_tokens.specs.Vocabulary.{use_of}

abbrev pub Lexer : Type 0 → Type 0
Lexer A = ParserOf ℕ A

-- what a byte may begin
unfoldable pub kind_of : ℕ → Kind
kind_of c =
    if is_digit c then Digit
    else if begins_segment c || (c == 46) then Word
    else if c == 45 then Minus
    else if c == 34 then Quote
    else if c == 58 then Colon
    else if c == 123 then Single OpenBrace
    else if c == 125 then Single CloseBrace
    else if c == 40 then Single OpenParenthesis
    else if c == 41 then Single CloseParenthesis
    else if c == 91 then Single OpenBracket
    else if c == 93 then Single CloseBracket
    else if c == 44 then Single Comma
    else Nothing

unfoldable pub run_at : Lexer (List ℕ)
run_at bs = Some (take (prefix_len is_word_byte bs) bs, drop (prefix_len is_word_byte bs) bs)

-- a word and what is after it, as a token
unfoldable pub word_token : Lexer Token
word_token bs = do
  w ← run_at bs
  if is_some (use_of w.0) then Some (Reserved w.0, w.1) else (if are_segments true w.0 then Some (Name w.0, w.1) else None)

abbrev pub limit : Bool → ℕ
limit true = 2 ^ 63
limit false = 2 ^ 63 - 1

abbrev pub is_empty : {A : Type 0} → List A → Bool
is_empty [] = true
is_empty (x ∷ xs) = false

-- the integer of digits, if there are some and it has 64 bits
unfoldable pub integer_of : Bool → List ℕ → Option ℤ
integer_of is_negative digits =
    if is_empty digits then None
    else (if list_all is_digit digits then (if nat_le (value_from 0 digits) (limit is_negative) then Some (with_sign is_negative (value_from 0 digits)) else None) else None)

unfoldable pub integer_token : Bool → Lexer Token
integer_token is_negative bs = do
  digits ← run_at bs
  value ← integer_of is_negative digits.0
  Some (Integer value, digits.1)

-- the characters up to the quote, and what is after that; from after a backslash, or not
unfoldable pub quoted_from : Bool → Lexer (List ℕ)
quoted_from is_escaped [] = None
quoted_from true (c ∷ cs) = do
  character ← escape c
  with_front (character ∷ []) (quoted_from false cs)
quoted_from false (c ∷ cs) =
    if c == 34 then Some ([], cs)
    else (if c == 92 then quoted_from true cs
    else (if is_plain c then with_front (c ∷ []) (quoted_from false cs) else None))

unfoldable pub quoted_token : Lexer Token
quoted_token bs = do
  characters ← quoted_from false bs
  Some (Quoted characters.0, characters.1)

unfoldable pub escaped_at : List ℕ → Option (Option ℕ × List ℕ)
escaped_at [] = None
escaped_at (c ∷ cs) = do
  character ← escape c
  Some (Some character, cs)

-- a character of a literal, or no character for the quote that ends it, and what is after it
unfoldable pub character_at : List ℕ → Option (Option ℕ × List ℕ)
character_at [] = None
character_at (c ∷ cs) = if c == 34 then Some (None, cs) else (if c == 92 then escaped_at cs else (if is_plain c then Some (Some c, cs) else None))

-- what is after the quote
unfoldable pub past_quote : Option (List ℕ × List ℕ) → Option (List ℕ)
past_quote None = None
past_quote (Some characters) = Some characters.1

unfoldable pub colon_token : List ℕ → Option (Token × List ℕ)
colon_token [] = Some (Symbol OneColon, [])
colon_token (c ∷ cs) = if c == 58 then Some (Symbol DoubleColon, cs) else Some (Symbol OneColon, c ∷ cs)

-- the token that a byte of this kind begins
unfoldable pub token_of_kind : Kind → ℕ → Lexer Token
token_of_kind Word c cs = word_token (c ∷ cs)
token_of_kind Digit c cs = integer_token false (c ∷ cs)
token_of_kind Minus c cs = integer_token true cs
token_of_kind Quote c cs = quoted_token cs
token_of_kind Colon c cs = colon_token cs
token_of_kind (Single s) c cs = Some (Symbol s, cs)
token_of_kind Nothing c cs = None

unfoldable pub lexeme_at : Lexer Token
lexeme_at [] = None
lexeme_at (c ∷ cs) = token_of_kind (kind_of c) c cs

unfoldable pub spaced_lexeme_at : Lexer Token
spaced_lexeme_at bs = do
  token ← lexeme_at bs
  rest ← skip_gap between token.1
  Some (token.0, rest)

-- what is left after n tokens
unfoldable pub after_tokens : ℕ → List ℕ → Option (List ℕ)
after_tokens zero bs = Some bs
after_tokens (suc n) bs = do
  token ← spaced_lexeme_at bs
  after_tokens n token.1

-- where a token begins, counted in bytes, if it has tokens before it
unfoldable pub offset_of : ℕ → List ℕ → Option ℕ
offset_of number source = do
  start ← skip_gap between source
  rest ← after_tokens number start
  Some (length source - length rest)

unfoldable pub not_empty : {A : Type 0} → List A → Bool
not_empty [] = false
not_empty (x ∷ xs) = true

-- the tokens of a source
unfoldable pub tokens_at : List ℕ → Option (List Token)
tokens_at source = do
  start ← skip_gap between source
  tokens ← many not_empty spaced_lexeme_at start
  if not_empty tokens.1 then None else Some tokens.0
