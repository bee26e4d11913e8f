-- Single tokens, tested: integers at their ends, words, string literals and symbols. What no token is, is none with any rest or with the rest that
-- its text would leave.
use Rattle.std.proofs.Common.{◌≡◌, ℕ, ℤ, pos, negsuc, true, false, IsTrue, List, [], ◌∷◌, ◌++◌, ◌==◌, refl, inl, inr, sym, ap, ◌∙◌, subst, codes, arith, FitsSigned}
use Rattle.std.specs.Prelude.{neg_ℤ, drop}
use Rattle.std.specs.List.{list_all}
use Rattle.std.specs.Int.{w64}
use Rattle.std.proofs.Math.Facts.{sfits_lit}
use Rattle.std.proofs.lemmas.Bool.{both_ways, eqb-false}
use Rattle.std.proofs.lemmas.List.{append-nil}
use Rattle.cil_model.specs.declared.tokens.Symbol.{Symbol}
use Rattle.cil_model.specs.declared.tokens.Symbol.TheVariants.{OpenBrace, CloseBrace, OpenParenthesis, CloseParenthesis, OpenBracket, CloseBracket, Comma, Colon, DoubleColon}
use Rattle.cil_model.specs.declared.tokens.Token.{Token}
use Rattle.cil_model.specs.declared.tokens.Token.TheVariants.{Reserved, Name, Integer, Quoted, Symbol as SymbolToken}
use Rattle.cil_model.specs.Words.{is_digit, is_word_byte, is_reserved, is_name}
use Rattle.cil_model.specs.Lexemes.{stops, value_from, is_plain, bytes_of, goes_before, lexeme, AreTokens}
use Rattle.cil_model.proofs.SameLaws.{never, both_first, both_second, is_not}
use Rattle.cil_model.proofs.Lists.{no_item}

not_empty : (c : ℕ) (cs : List ℕ) → c ∷ cs ≡ [] → ⊥
not_empty c cs e = no_item c cs e

-- ---- integers at their ends

-- the greatest is 2 ^ 63 - 1
greatest : lexeme (Integer (pos 9223372036854775807)) (codes "9223372036854775807") []
greatest = (false, codes "9223372036854775807", not_empty _ _, refl, refl, sfits_lit tt, (_, refl, (refl, refl, refl)))

-- the least is - 2 ^ 63
least : lexeme (Integer (negsuc 9223372036854775807)) (codes "-9223372036854775808") []
least = (true, codes "9223372036854775808", not_empty _ _, refl, refl, sfits_lit tt, (_, refl, (refl, refl, refl)))

leading_zeros : lexeme (Integer (pos 7)) (codes "007 ret") (codes " ret")
leading_zeros = (false, codes "007", not_empty _ _, refl, refl, sfits_lit tt, (_, refl, (refl, refl, refl)))

zeros_alone : lexeme (Integer (pos 0)) (codes "00") []
zeros_alone = (false, codes "00", not_empty _ _, refl, refl, sfits_lit tt, (_, refl, (refl, refl, refl)))

-- there is one zero
minus_zero : lexeme (Integer (pos 0)) (codes "-0") []
minus_zero = (true, codes "0", not_empty _ _, refl, refl, sfits_lit tt, (_, refl, (refl, refl, refl)))

-- many zeros count for nothing, however long the text is
long_text : lexeme (Integer (pos 1)) (codes "000000000000000000000000000001") []
long_text = (false, codes "000000000000000000000000000001", not_empty _ _, refl, refl, sfits_lit tt, (_, refl, (refl, refl, refl)))

-- an integer ends before a mark
before_mark : lexeme (Integer (negsuc 11)) (codes "-12)") (codes ")")
before_mark = (true, codes "12", not_empty _ _, refl, refl, sfits_lit tt, (_, refl, (refl, refl, refl)))

-- the digits of a whole text
whole_text : (digits bs : List ℕ) → bs ≡ digits ++ [] → digits ≡ bs
whole_text digits bs e = sym (e ∙ append-nil digits)

past_greatest : (z : ℤ) → FitsSigned w64 z → z ≡ pos 9223372036854775808 → ⊥
past_greatest z fits is = let P : ℤ → Type 0 = λ x. FitsSigned w64 x in let h : FitsSigned w64 (pos 9223372036854775808) = subst P is fits in omega (arith, h.sfits)

past_least : (z : ℤ) → FitsSigned w64 z → z ≡ negsuc 9223372036854775808 → ⊥
past_least z fits is = let P : ℤ → Type 0 = λ x. FitsSigned w64 x in let h : FitsSigned w64 (negsuc 9223372036854775808) = subst P is fits in omega (arith, h.sfits)

-- a digit is no `-`
digit_first : (a : ℕ) (as' bs : List ℕ) → IsTrue (is_digit a) → a ∷ as' ≡ 45 ∷ bs → ⊥
digit_first a as' bs digit e = let same : a ≡ 45 = cc in let P : ℕ → Type 0 = λ c. IsTrue (is_digit c) in never (subst P same digit)

beyond_greatest : (z : ℤ) → lexeme (Integer z) (codes "9223372036854775808") [] → ⊥
beyond_greatest z (true, digits, some, all, is, fits, (mid, minus, r)) = digit_first 57 (codes "223372036854775808") mid refl minus
beyond_greatest z (false, digits, some, all, is, fits, (mid, start, r)) =
    past_greatest z fits (is ∙ ap (λ ds. pos (value_from 0 ds)) (whole_text digits (codes "9223372036854775808") (start ∙ r.0)))

beyond_least : (z : ℤ) → lexeme (Integer z) (codes "-9223372036854775809") [] → ⊥
beyond_least z (true, digits, some, all, is, fits, (mid, minus, r)) =
    past_least z fits (is ∙ ap (λ ds. neg_ℤ (pos (value_from 0 ds))) (whole_text digits (codes "9223372036854775809") (ap (drop 1) minus ∙ r.0)))
beyond_least z (false, digits, some, all, is, fits, (mid, start, r)) =
    let P : List ℕ → Type 0 = λ ds. IsTrue (list_all is_digit ds) in never (subst P (whole_text digits (codes "-9223372036854775809") (start ∙ r.0)) all)

-- the first bytes of two equal texts
head_same : (a b : ℕ) (as' bs : List ℕ) → a ∷ as' ≡ b ∷ bs → a ≡ b
head_same a b as' bs e = cc

head_apart : (a b : ℕ) (as' bs : List ℕ) → (a == b) ≡ false → a ∷ as' ≡ b ∷ bs → ⊥
head_apart a b as' bs apart e = eqb-false a b apart (head_same a b as' bs e)

-- ---- what is no integer

no_digits : (z : ℤ) (rest : List ℕ) → lexeme (Integer z) [] rest → ⊥
no_digits z rest (true, digits, some, all, is, fits, (mid, minus, r)) = not_empty 45 mid (sym minus)
no_digits z rest (false, [], some, all, is, fits, (mid, start, r)) = some refl
no_digits z rest (false, d ∷ ds, some, all, is, fits, (mid, start, r)) = not_empty d (ds ++ rest) (sym (start ∙ r.0))

minus_alone : (z : ℤ) (rest : List ℕ) → lexeme (Integer z) (codes "-") rest → ⊥
minus_alone z rest (true, [], some, all, is, fits, (mid, minus, r)) = some refl
minus_alone z rest (true, d ∷ ds, some, all, is, fits, (mid, minus, r)) = not_empty d (ds ++ rest) (sym (ap (drop 1) minus ∙ r.0))
minus_alone z rest (false, [], some, all, is, fits, (mid, start, r)) = some refl
minus_alone z rest (false, d ∷ ds, some, all, is, fits, (mid, start, r)) = let e : codes "-" ≡ d ∷ (ds ++ rest) = start ∙ r.0 in digit_first d (ds ++ rest) [] (both_first _ _ all) (sym e)

-- a letter after the digits belongs to them, since words and integers take all characters that are written together
letter_after : (z : ℤ) (rest : List ℕ) → lexeme (Integer z) (codes "1a") rest → ⊥
letter_after z rest (true, digits, some, all, is, fits, (mid, minus, r)) = digit_first 49 (codes "a") mid refl minus
letter_after z rest (false, [], some, all, is, fits, (mid, start, r)) = some refl
letter_after z rest (false, d ∷ [], some, all, is, fits, (mid, start, r)) =
    let P : List ℕ → Type 0 = λ bs. IsTrue (stops is_word_byte bs) in never (subst P (sym (ap (drop 1) (start ∙ r.0))) r.2)
letter_after z rest (false, d ∷ e ∷ ds, some, all, is, fits, (mid, start, r)) =
    let same : 97 ≡ e = head_same 97 e [] (ds ++ rest) (ap (drop 1) (start ∙ r.0)) in
    let P : ℕ → Type 0 = λ c. IsTrue (is_digit c) in
    never (subst P (sym same) (both_first _ _ (both_second _ _ all)))

-- ---- words

reserved : lexeme (Reserved (codes "ldc.i4")) (codes "ldc.i4 2") (codes " 2")
reserved = ((refl, refl, refl), refl)

-- a word continues over a dot and digits, so another one does not begin it
reserved_continues : (rest : List ℕ) → lexeme (Reserved (codes "ldc.i4")) (codes "ldc.i4.m1") rest → ⊥
reserved_continues rest ((e, all, ends), is) = let P : List ℕ → Type 0 = λ bs. IsTrue (stops is_word_byte bs) in never (subst P (sym (ap (drop 6) e)) ends)

-- a word that the grammar has is no name
reserved_is_no_name : (rest : List ℕ) → lexeme (Name (codes "add")) (codes "add") rest → ⊥
reserved_is_no_name rest (r, is) = never is

name : lexeme (Name (codes "add_1")) (codes "add_1:") (codes ":")
name = ((refl, refl, refl), refl)

name_with_dots : lexeme (Name (codes "System.Object")) (codes "System.Object{") (codes "{")
name_with_dots = ((refl, refl, refl), refl)

-- half of a name is none
half_of_a_name : (rest : List ℕ) → lexeme (Name (codes "System")) (codes "System.Object") rest → ⊥
half_of_a_name rest ((e, all, ends), is) = let P : List ℕ → Type 0 = λ bs. IsTrue (stops is_word_byte bs) in never (subst P (sym (ap (drop 6) e)) ends)

-- a name does not end with a dot
dot_after : (rest : List ℕ) → lexeme (Name (codes "A.")) (codes "A. ") rest → ⊥
dot_after rest (r, is) = never is

-- the word that begins a text is one
only_word : (w v rest more : List ℕ) → w ++ rest ≡ v ++ more → IsTrue (list_all is_word_byte w) → IsTrue (list_all is_word_byte v) → IsTrue (stops is_word_byte rest) → IsTrue (stops is_word_byte more) → w ≡ v
only_word [] [] rest more e h k ends ends' = refl
only_word [] (d ∷ v) rest more e h k ends ends' = absurd (both_ways (is_word_byte d) (is_not (is_word_byte d) (subst (λ bs. IsTrue (stops is_word_byte bs)) e ends)) (both_first _ _ k))
only_word (c ∷ w) [] rest more e h k ends ends' = absurd (both_ways (is_word_byte c) (is_not (is_word_byte c) (subst (λ bs. IsTrue (stops is_word_byte bs)) (sym e) ends')) (both_first _ _ h))
only_word (c ∷ w) (d ∷ v) rest more e h k ends ends' =
    let first : c ≡ d = head_same c d (w ++ rest) (v ++ more) e in
    ap (λ x. x ∷ w) first ∙ ap (λ x. d ∷ x) (only_word w v rest more (ap (drop 1) e) (both_second _ _ h) (both_second _ _ k) ends ends')

-- two directives written together are one word, which is neither reserved nor a name
abbrev together : List ℕ
together = codes ".entrypoint.maxstack"

its_word : (w rest : List ℕ) → codes ".entrypoint.maxstack 1" ≡ w ++ rest → IsTrue (list_all is_word_byte w) → IsTrue (stops is_word_byte rest) → w ≡ together
its_word w rest e all ends = sym (only_word together w (codes " 1") rest e refl all refl ends)

directives_together : (t : Token) (rest : List ℕ) → lexeme t (codes ".entrypoint.maxstack 1") rest → ⊥
directives_together (Reserved w) rest ((e, all, ends), is) = never (subst (λ x. IsTrue (is_reserved x)) (its_word w rest e all ends) is)
directives_together (Name w) rest ((e, all, ends), is) = never (subst (λ x. IsTrue (is_name x)) (its_word w rest e all ends) is)
directives_together (Integer z) rest (true, digits, some, all, is, fits, (mid, minus, r)) = head_apart 46 45 (codes "entrypoint.maxstack 1") mid refl minus
directives_together (Integer z) rest (false, [], some, all, is, fits, (mid, start, r)) = some refl
directives_together (Integer z) rest (false, d ∷ ds, some, all, is, fits, (mid, start, r)) =
    let same : 46 ≡ d = head_same 46 d (codes "entrypoint.maxstack 1") (ds ++ rest) (start ∙ r.0) in
    never (subst (λ c. IsTrue (is_digit c)) (sym same) (both_first _ _ all))
directives_together (Quoted characters) rest (mid, initial_state, more) = head_apart 46 34 (codes "entrypoint.maxstack 1") mid refl initial_state
directives_together (SymbolToken s) rest (e, goes) = by_symbol s e
  where
    differs : (b : ℕ) (bs : List ℕ) → (46 == b) ≡ false → codes ".entrypoint.maxstack 1" ≡ b ∷ bs → ⊥
    differs b bs apart e' = head_apart 46 b (codes "entrypoint.maxstack 1") bs apart e'

    by_symbol : (s : Symbol) → codes ".entrypoint.maxstack 1" ≡ bytes_of s ++ rest → ⊥
    by_symbol OpenBrace e' = differs 123 rest refl e'
    by_symbol CloseBrace e' = differs 125 rest refl e'
    by_symbol OpenParenthesis e' = differs 40 rest refl e'
    by_symbol CloseParenthesis e' = differs 41 rest refl e'
    by_symbol OpenBracket e' = differs 91 rest refl e'
    by_symbol CloseBracket e' = differs 93 rest refl e'
    by_symbol Comma e' = differs 44 rest refl e'
    by_symbol Colon e' = differs 58 rest refl e'
    by_symbol DoubleColon e' = differs 58 (58 ∷ rest) refl e'

-- ---- string literals, by their bytes: 34 is the quotation mark, 92 the backslash

empty_literal : lexeme (Quoted []) (34 ∷ 34 ∷ []) []
empty_literal = (_, refl, (_, refl, refl))

-- a comment's mark in a literal begins none
comment_in_literal : lexeme (Quoted (codes "/*")) (34 ∷ 47 ∷ 42 ∷ 34 ∷ 32 ∷ []) (32 ∷ [])
comment_in_literal = (_, refl, (_, (_, inl (refl, refl), (_, inl (refl, refl), refl)), refl))

-- backslash and n are a line feed, and two backslashes are one
escapes : lexeme (Quoted (10 ∷ 92 ∷ [])) (34 ∷ 92 ∷ 110 ∷ 92 ∷ 92 ∷ 34 ∷ []) []
escapes = (_, refl, (_, (_, inr (_, refl, refl), (_, inr (_, refl, refl), refl)), refl))

-- a backslash takes the mark after it
mark_in_literal : lexeme (Quoted (34 ∷ [])) (34 ∷ 92 ∷ 34 ∷ 34 ∷ []) []
mark_in_literal = (_, refl, (_, (_, inr (_, refl, refl), refl), refl))

-- a literal does not go over a line feed
line_feed_in_literal : (characters rest : List ℕ) → lexeme (Quoted characters) (34 ∷ 10 ∷ 34 ∷ []) rest → ⊥
line_feed_in_literal [] rest (mid, initial_state, (end, e, close)) = head_apart 10 34 (34 ∷ []) rest refl (ap (drop 1) initial_state ∙ e ∙ close)
line_feed_in_literal (c ∷ cs) rest (mid, initial_state, (end, (following, inl (plain, e), more), close)) =
    let same : 10 ≡ c = head_same 10 c (34 ∷ []) following (ap (drop 1) initial_state ∙ e) in
    let P : ℕ → Type 0 = λ x. IsTrue (is_plain x) in
    never (subst P (sym same) plain)
line_feed_in_literal (c ∷ cs) rest (mid, initial_state, (end, (following, inr (x, is, e), more), close)) = head_apart 10 92 (34 ∷ []) (x ∷ following) refl (ap (drop 1) initial_state ∙ e)

-- ---- symbols

two_colons : lexeme (SymbolToken DoubleColon) (codes "::x") (codes "x")
two_colons = (refl, refl)

one_colon : lexeme (SymbolToken Colon) (codes ": x") (codes " x")
one_colon = (refl, refl)

-- of two colons the first is no colon of its own
first_of_two : (rest : List ℕ) → lexeme (SymbolToken Colon) (codes "::x") rest → ⊥
first_of_two rest (e, alone) = let P : List ℕ → Type 0 = λ bs. IsTrue (goes_before Colon bs) in never (subst P (sym (ap (drop 1) e)) alone)

-- three colons are two and one
three_colons : AreTokens (codes ":::") (SymbolToken DoubleColon ∷ SymbolToken Colon ∷ [])
three_colons = (_, refl, (_, (_, (refl, refl), refl), (_, (_, (refl, refl), refl), refl)))

-- ---- a whole source

-- a `-` ends the integer before it
two_integers : AreTokens (codes "1-2") (Integer (pos 1) ∷ Integer (negsuc 1) ∷ [])
two_integers = (
  _,
  refl,
  (
    _,
    (_, (false, codes "1", not_empty _ _, refl, refl, sfits_lit tt, (_, refl, (refl, refl, refl))), refl),
    (_, (_, (true, codes "2", not_empty _ _, refl, refl, sfits_lit tt, (_, refl, (refl, refl, refl))), refl), refl),
  ),
)

nothing_but_a_comment : AreTokens (codes " // ret") []
nothing_but_a_comment = (_, refl, refl)
