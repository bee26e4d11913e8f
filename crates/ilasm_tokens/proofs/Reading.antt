-- What is read are the tokens of the source, and no others are.
use Rattle.std.proofs.Common.{◌≡◌, ◌≢◌, ◌==◌, ◌∙◌, ◌<◌, ◌≤◌, ◌+◌, ℕ, zero, suc, List, [], ◌∷◌, ◌++◌, length, take, drop, Option, Some, None, Ok, Err, Bool, true, false, not, ◌&&◌, ◌||◌, cond, refl, ap, sym, subst, inl, inr, arith, ℤ, FitsSigned, length-append, take-append-drop}
use Rattle.std.specs.Prelude.{is_some, nat_le}
use Rattle.std.specs.List.{prefix_len, list_all}
use Rattle.std.specs.Int.{w64}
use Rattle.std.proofs.Math.Numerals.{one-add}
use Rattle.std.proofs.lemmas.List.{take_at, drop_at}
use Rattle.std.proofs.lemmas.Bool.{eqb-true, leb-true, le-leb, and_from, and_parts, not-true, or_left}
use Rattle.cil_model.specs.declared.tokens.Symbol as symbols
use Rattle.cil_model.specs.declared.tokens.Symbol.TheVariants.{OpenBrace, CloseBrace, OpenParenthesis, CloseParenthesis, OpenBracket, CloseBracket, Comma, Colon as OneColon, DoubleColon}
use Rattle.cil_model.specs.declared.tokens.Token.{Token}
use Rattle.cil_model.specs.declared.tokens.Token.TheVariants.{Reserved, Name, Integer, Quoted, Symbol}
use Rattle.cil_model.specs.Words.{begins_segment, is_digit, is_word_byte, is_reserved, are_segments, is_name}
use Rattle.cil_model.specs.Spans.{◌▸◌, item, each}
use Rattle.cil_model.specs.Lexemes.{is_white, GapState, between, slash, in_line, in_block, star, skip_gap, gap, stops, run, value_from, with_sign, is_plain, escape, character, lexeme, AreTokens}
use Rattle.ilasm_tokens.specs.declared.bytes.Kind.{Kind}
use Rattle.ilasm_tokens.specs.declared.bytes.Kind.TheVariants.{Word, Digit, Minus, Quote, Colon, Single, Nothing}
use Rattle.ilasm_tokens.specs.declared.failure.Failure.{Failure}
use Rattle.ilasm_tokens.specs.declared.failure.Failure.TheVariants.{Refused, OutOfMemory}
use Rattle.ilasm_tokens.specs.Steps.{Fails, bind, with_front, many, Yields, yields_some, yields_none, yields_bind, yields_if, bind_at, Sound, many_sound, Consumes}
use Rattle.ilasm_tokens.specs.Answers.{IsTokenAnswer}
use Rattle.ilasm_tokens.specs.Vocabulary.{use_of}
use Rattle.ilasm_tokens.specs.Lexing.{kind_of, run_at, word_token, limit, is_empty, integer_of, integer_token, quoted_from, quoted_token, colon_token, token_of_kind, lexeme_at, spaced_lexeme_at, not_empty, tokens_at}
use Rattle.ilasm_tokens.proofs.Many.{Complete, many_complete}
use Rattle.ilasm_tokens.proofs.Reserved.{has_use_is_reserved, begins_word, reserved_begins}

-- ---- tests

not_from : (a : Bool) → a ≡ false → not a ≡ true
not_from true e = sym e
not_from false e = refl

yields_else : {B : Type 0} {Q : B → Type 0} (b : Bool) {m d : Option B} → (b ≡ true → Yields m Q) → (b ≡ false → Yields d Q) → Yields (cond b m d) Q
yields_else true p q = p refl
yields_else false p q = q refl

yields_unless : {B : Type 0} {Q : B → Type 0} (b : Bool) {m : Option B} → (b ≡ false → Yields m Q) → Yields (cond b None m) Q
yields_unless true p = yields_none
yields_unless false p = p refl

-- ---- runs of word bytes

all_taken : (bs : List ℕ) → list_all is_word_byte (take (prefix_len is_word_byte bs) bs) ≡ true
all_taken [] = refl
all_taken (b ∷ bs) =
    elim (is_word_byte b) as (λ v. is_word_byte b ≡ v → list_all is_word_byte (take (cond v (1 + prefix_len is_word_byte bs) 0) (b ∷ bs)) ≡ true) [
      | true ↦ λ e. rw one-add (and_from (is_word_byte b) _ e (all_taken bs))
      | false ↦ λ e. refl
    ] refl

stops_there : (bs : List ℕ) → stops is_word_byte (drop (prefix_len is_word_byte bs) bs) ≡ true
stops_there [] = refl
stops_there (b ∷ bs) =
    elim (is_word_byte b) as (λ v. is_word_byte b ≡ v → stops is_word_byte (drop (cond v (1 + prefix_len is_word_byte bs) 0) (b ∷ bs)) ≡ true) [
      | true ↦ λ e. rw one-add (stops_there bs)
      | false ↦ λ e. not_from (is_word_byte b) e
    ] refl

run_sound : (bs : List ℕ) → Yields (run_at bs) (λ y. run y.0 bs y.1)
unfolding run_at
run_sound bs = yields_some (sym (take-append-drop (prefix_len is_word_byte bs) bs), all_taken bs, stops_there bs)

run_length : (w rest : List ℕ) → list_all is_word_byte w ≡ true → stops is_word_byte rest ≡ true → prefix_len is_word_byte (w ++ rest) ≡ length w
run_length [] [] a e = refl
run_length [] (b ∷ bs) a e = rw (not-true (is_word_byte b) e) refl
run_length (b ∷ w) rest a e =
    let parts = and_parts (is_word_byte b) (list_all is_word_byte w) a in
    let here : is_word_byte b ≡ true = parts.0 in
    rw (here, run_length w rest parts.1 e) (one-add (length w))

run_complete : (w : List ℕ) {bs rest : List ℕ} → run w bs rest → run_at bs ≡ Some (w, rest)
unfolding run_at
run_complete w {bs} {rest} p = rw (p.0, run_length w rest p.1 p.2, take_at w rest (length w) refl, drop_at w rest (length w) refl) refl

shorter : (w bs rest : List ℕ) → 0 < length w → run w bs rest → length rest < length bs
shorter w bs rest some p = omega (arith, ap length p.0, length-append w rest)

-- ---- words

reserved_some : (w : List ℕ) → is_reserved w ≡ true → 0 < length w
reserved_some [] e = absurd cc
reserved_some (c ∷ w) e = omega arith

segments_some : (w : List ℕ) → are_segments true w ≡ true → 0 < length w
segments_some [] e = absurd cc
segments_some (c ∷ w) e = omega arith

name_from : (w : List ℕ) → is_some (use_of w) ≡ false → are_segments true w ≡ true → is_name w ≡ true
name_from w n s =
    let none : is_reserved w ≡ false = sym (has_use_is_reserved w) ∙ n in
    and_from (are_segments true w) (not (is_reserved w)) s (not_from (is_reserved w) none)

-- ---- integers

fits : (m : Bool) (n : ℕ) → n ≤ limit m → FitsSigned w64 (with_sign m n)
fits false n le = record { sfits = omega arith }
fits true zero le = record { sfits = omega arith }
fits true (suc n) le = record { sfits = omega arith }

within : (m : Bool) (n : ℕ) → FitsSigned w64 (with_sign m n) → n ≤ limit m
within false n f = omega (arith, f.sfits)
within true zero f = omega arith
within true (suc n) f = omega (arith, f.sfits)

some_digits : (ds : List ℕ) → is_empty ds ≡ false → ds ≢ []
some_digits [] e = absurd cc
some_digits (d ∷ ds) e = λ same. cc

positive : (ds : List ℕ) → ds ≢ [] → 0 < length ds
positive [] n = absurd (n refl)
positive (d ∷ ds) n = omega arith

no_digits : (ds : List ℕ) → ds ≢ [] → is_empty ds ≡ false
no_digits [] n = absurd (n refl)
no_digits (d ∷ ds) n = refl

record HasValue (m : Bool) (ds : List ℕ) (z : ℤ) : Type 0 where
  some : ds ≢ []
  digits : list_all is_digit ds ≡ true
  fitting : FitsSigned w64 z
  is : z ≡ with_sign m (value_from 0 ds)

value_sound : (m : Bool) (ds : List ℕ) → Yields (integer_of m ds) (HasValue m ds)
unfolding integer_of
value_sound m ds =
    yields_unless (is_empty ds) (λ e. yields_if (list_all is_digit ds) (λ d. yields_if (nat_le (value_from 0 ds) (limit m)) (λ v.
    yields_some (record { some = some_digits ds e; digits = d; fitting = fits m (value_from 0 ds) (leb-true _ _ v); is = refl }))))

value_complete : (m : Bool) (ds : List ℕ) (z : ℤ) → ds ≢ [] → list_all is_digit ds ≡ true → z ≡ with_sign m (value_from 0 ds) → FitsSigned w64 z → integer_of m ds ≡ Some z
unfolding integer_of
value_complete m ds z s d e f =
    let le = within m (value_from 0 ds) (subst (FitsSigned w64) e f) in
    rw (no_digits ds s, d, le-leb _ _ le, e) refl

-- ---- literals

plain_is : (b : ℕ) → is_plain b ≡ true → ((b == 34) ≡ false) × ((b == 92) ≡ false)
plain_is b e =
    let whole = and_parts (nat_le 32 b && nat_le b 126 && not (b == 34)) (not (b == 92)) e in
    let front = and_parts (nat_le 32 b && nat_le b 126) (not (b == 34)) whole.0 in
    (not-true _ front.1, not-true _ whole.1)

yields_push : {Q : List ℕ × List ℕ → Type 0} {P : List ℕ × List ℕ → Type 0} (b : ℕ) {m : Option (List ℕ × List ℕ)} → Yields m P → ((y : List ℕ × List ℕ) → P y → Q (b ∷ y.0, y.1)) → Yields (with_front (b ∷ []) m) Q
unfolding with_front
yields_push b {m = Some y} p next = yields_some (next y (p.out y refl))
yields_push b {m = None} p next = yields_none

abbrev QuotedBefore : List ℕ → List ℕ × List ℕ → Type 0
QuotedBefore bs y = (each character y.0 ▸ item 34) bs y.1 × (length y.1 < length bs)

at_quote : (b : ℕ) (bs : List ℕ) → (b == 34) ≡ true → QuotedBefore (b ∷ bs) ([], bs)
at_quote b bs e = ((b ∷ bs, refl, ap (λ (x : ℕ). x ∷ bs) (eqb-true b 34 e)), omega arith)

at_plain : (b : ℕ) (bs : List ℕ) → is_plain b ≡ true → (y : List ℕ × List ℕ) → QuotedBefore bs y → QuotedBefore (b ∷ bs) (b ∷ y.0, y.1)
at_plain b bs e y ((mid, q, r), less) = ((mid, (bs, inl (e, refl), q), r), omega (arith, less))

at_escape : (b e c : ℕ) (bs : List ℕ) → (b == 92) ≡ true → escape e ≡ Some c → (y : List ℕ × List ℕ) → QuotedBefore bs y → QuotedBefore (b ∷ e ∷ bs) (c ∷ y.0, y.1)
at_escape b e c bs s esc y ((mid, q, r), less) = ((mid, (bs, inr (e, esc, ap (λ (x : ℕ). x ∷ e ∷ bs) (eqb-true b 92 s)), q), r), omega (arith, less))

found : {A : Type 0} (r : Option A) → Yields r (λ x. r ≡ Some x)
found r = record { out = λ y e. e }

quoted_sound : (bs : List ℕ) → Yields (quoted_from false bs) (QuotedBefore bs)
unfolding quoted_from with_front
quoted_sound [] = yields_none
quoted_sound (b ∷ []) =
    yields_else (b == 34) (λ e. yields_some (at_quote b [] e)) (λ n. yields_else (b == 92) (λ e. yields_none) (λ m. yields_if (is_plain b) (λ e. yields_none)))
quoted_sound (b ∷ c ∷ bs) =
    yields_else (b == 34) (λ e. yields_some (at_quote b (c ∷ bs) e)) (λ n.
    yields_else (b == 92)
    (λ s. yields_bind (found (escape c)) (λ x esc. yields_push x (quoted_sound bs) (at_escape b c x bs s esc)))
    (λ m. yields_if (is_plain b) (λ e. yields_push b (quoted_sound (c ∷ bs)) (at_plain b (c ∷ bs) e))))

-- two tests fail, and the third passes
third : {A : Type 0} (a b c : Bool) (x y z n : A) → a ≡ false → b ≡ false → c ≡ true → cond a x (cond b y (cond c z n)) ≡ z
third false false true x y z n e f g = refl
third true b c x y z n e f g = absurd cc
third false true c x y z n e f g = absurd cc
third false false false x y z n e f g = absurd cc

quoted_complete : (t : List ℕ) (bs mid rest : List ℕ) → each character t bs mid → item 34 mid rest → quoted_from false bs ≡ Some (t, rest)
unfolding quoted_from with_front
quoted_complete [] bs mid rest p q = rw (p, q) refl
quoted_complete (c ∷ t) bs mid rest (after, inl (e, p), q) r =
    let plain = plain_is c e in
    rw p (third (c == 34) (c == 92) (is_plain c) _ _ _ _ plain.0 plain.1 e ∙ rw (quoted_complete t after mid rest q r) refl)
quoted_complete (c ∷ t) bs mid rest (after, inr (e, esc, p), q) r = rw p (bind_at _ esc (rw (quoted_complete t after mid rest q r) refl))

-- ---- kinds

-- what a byte's kind says of it
abbrev Means : Kind → ℕ → Type 0
Means Word c = Unit {0}
Means Digit c = Unit {0}
Means Minus c = c ≡ 45
Means Quote c = c ≡ 34
Means Colon c = c ≡ 58
Means (Single s) c = (rest : List ℕ) → lexeme (Symbol s) (c ∷ rest) rest
Means Nothing c = Unit {0}

chosen : (c : ℕ) (t : Bool) (k d : Kind) → (t ≡ true → Means k c) → Means d c → Means (cond t k d) c
chosen c true k d p q = p refl
chosen c false k d p q = q

alone : (s : symbols.Symbol) (b c : ℕ) → ((rest : List ℕ) → lexeme (Symbol s) (b ∷ rest) rest) → (c == b) ≡ true → Means (Single s) c
alone s b c p e = rw (eqb-true c b e) p

kind_means : (c : ℕ) → Means (kind_of c) c
unfolding kind_of
kind_means c =
    chosen c (is_digit c) _ _ (λ e. tt) (chosen c (begins_segment c || (c == 46)) _ _ (λ e. tt)
    (chosen c (c == 45) _ _ (λ e. eqb-true c 45 e) (chosen c (c == 34) _ _ (λ e. eqb-true c 34 e) (chosen c (c == 58) _ _ (λ e. eqb-true c 58 e)
    (chosen c (c == 123) _ _ (alone OpenBrace 123 c (λ rest. (refl, refl))) (chosen c (c == 125) _ _ (alone CloseBrace 125 c (λ rest. (refl, refl)))
    (chosen c (c == 40) _ _ (alone OpenParenthesis 40 c (λ rest. (refl, refl))) (chosen c (c == 41) _ _ (alone CloseParenthesis 41 c (λ rest. (refl, refl)))
    (chosen c (c == 91) _ _ (alone OpenBracket 91 c (λ rest. (refl, refl))) (chosen c (c == 93) _ _ (alone CloseBracket 93 c (λ rest. (refl, refl)))
    (chosen c (c == 44) _ _ (alone Comma 44 c (λ rest. (refl, refl))) tt)))))))))))

-- ---- tokens

length_head : (b : ℕ) (bs : List ℕ) → length bs < length (b ∷ bs)
length_head b bs = omega arith

by_kind : (k : Kind) (b : ℕ) (bs : List ℕ) → Means k b → Yields (token_of_kind k b bs) (λ y. lexeme y.0 (b ∷ bs) y.1 × (length y.1 < length (b ∷ bs)))
unfolding token_of_kind word_token integer_token quoted_token colon_token
by_kind Word b bs k =
    yields_bind (run_sound (b ∷ bs)) (λ w p.
    yields_else (is_some (use_of w.0))
    (λ e. let is : is_reserved w.0 ≡ true = sym (has_use_is_reserved w.0) ∙ e in yields_some ((p, is), shorter w.0 (b ∷ bs) w.1 (reserved_some w.0 is) p))
    (λ n. yields_if (are_segments true w.0) (λ e. yields_some ((p, name_from w.0 n e), shorter w.0 (b ∷ bs) w.1 (segments_some w.0 e) p))))
by_kind Digit b bs k =
    yields_bind (run_sound (b ∷ bs)) (λ w p. yields_bind (value_sound false w.0) (λ z v.
    yields_some ((false, w.0, v.some, v.digits, v.is, v.fitting, (b ∷ bs, refl, p)), shorter w.0 (b ∷ bs) w.1 (positive w.0 v.some) p)))
by_kind Minus b bs k =
    yields_bind (run_sound bs) (λ w p. yields_bind (value_sound true w.0) (λ z v.
    yields_some ((true, w.0, v.some, v.digits, v.is, v.fitting, (bs, ap (λ (x : ℕ). x ∷ bs) k, p)), omega (arith, shorter w.0 bs w.1 (positive w.0 v.some) p))))
by_kind Quote b bs k = yields_bind (quoted_sound bs) (λ t p. yields_some ((bs, ap (λ (x : ℕ). x ∷ bs) k, p.0), omega (arith, p.1)))
by_kind Colon b [] k = yields_some ((ap (λ (x : ℕ). x ∷ []) k, refl), length_head b [])
by_kind Colon b (c ∷ bs) k =
    yields_else (c == 58)
    (λ e. yields_some ((ap (λ (x : ℕ). x ∷ c ∷ bs) k ∙ ap (λ (x : ℕ). 58 ∷ x ∷ bs) (eqb-true c 58 e), refl), omega arith))
    (λ n. yields_some ((ap (λ (x : ℕ). x ∷ c ∷ bs) k, not_from (c == 58) n), length_head b (c ∷ bs)))
by_kind (Single s) b bs k = yields_some (k bs, length_head b bs)
by_kind Nothing b bs k = yields_none

lexeme_sound : Sound lexeme_at lexeme
unfolding lexeme_at
lexeme_sound [] = yields_none
lexeme_sound (b ∷ bs) = by_kind (kind_of b) b bs (kind_means b)

-- ---- what is a token is read

token_from : (k : Kind) (b : ℕ) {bs after : List ℕ} (y : Option (Token × List ℕ)) → kind_of b ≡ k → bs ≡ b ∷ after → token_of_kind k b after ≡ y → lexeme_at bs ≡ y
unfolding lexeme_at
token_from k b y e p g = rw (p, e) g

word_kind : (c : ℕ) → is_digit c ≡ false → (begins_segment c || (c == 46)) ≡ true → kind_of c ≡ Word
unfolding kind_of
word_kind c n e = rw (n, e) refl

digit_kind : (c : ℕ) → is_digit c ≡ true → kind_of c ≡ Digit
unfolding kind_of
digit_kind c e = rw e refl

letter_no_digit : (c : ℕ) → begins_segment c ≡ true → is_digit c ≡ false
letter_no_digit c e = grind arith

segments_begin : (w : List ℕ) → are_segments true w ≡ true → begins_word w ≡ true
segments_begin [] e = absurd cc
segments_begin (c ∷ w) e =
    let parts = and_parts (begins_segment c) (are_segments false w) e in
    and_from (not (is_digit c)) (begins_segment c || (c == 46)) (not_from (is_digit c) (letter_no_digit c parts.0)) (or_left (begins_segment c) (c == 46) parts.0)

word_complete : (w : List ℕ) (bs rest : List ℕ) (y : Option (Token × List ℕ)) → run w bs rest → begins_word w ≡ true → word_token bs ≡ y → lexeme_at bs ≡ y
unfolding token_of_kind
word_complete [] bs rest y p begins g = absurd cc
word_complete (b ∷ w) bs rest y p begins g =
    let parts = and_parts (not (is_digit b)) (begins_segment b || (b == 46)) begins in
    token_from Word b y (word_kind b (not-true (is_digit b) parts.0) parts.1) p.0 (rw (← p.0) g)

digits_complete : (ds : List ℕ) (bs rest : List ℕ) (y : Option (Token × List ℕ)) → run ds bs rest → ds ≢ [] → list_all is_digit ds ≡ true → integer_token false bs ≡ y → lexeme_at bs ≡ y
unfolding token_of_kind
digits_complete [] bs rest y p some digits g = absurd (some refl)
digits_complete (b ∷ ds) bs rest y p some digits g =
    token_from Digit b y (digit_kind b (and_parts (is_digit b) (list_all is_digit ds) digits).0) p.0 (rw (← p.0) g)

integer_complete : (m : Bool) (z : ℤ) (ds bs rest : List ℕ) → ds ≢ [] → list_all is_digit ds ≡ true → z ≡ with_sign m (value_from 0 ds) → FitsSigned w64 z → run ds bs rest → integer_token m bs ≡ Some (Integer z, rest)
unfolding integer_token
integer_complete m z ds bs rest s d e f p = bind_at _ (run_complete ds p) (bind_at _ (value_complete m ds z s d e f) refl)

symbol_complete : (s : symbols.Symbol) (bs rest : List ℕ) → lexeme (Symbol s) bs rest → lexeme_at bs ≡ Some (Symbol s, rest)
unfolding lexeme_at kind_of token_of_kind colon_token
symbol_complete OpenBrace bs rest p = rw p.0 refl
symbol_complete CloseBrace bs rest p = rw p.0 refl
symbol_complete OpenParenthesis bs rest p = rw p.0 refl
symbol_complete CloseParenthesis bs rest p = rw p.0 refl
symbol_complete OpenBracket bs rest p = rw p.0 refl
symbol_complete CloseBracket bs rest p = rw p.0 refl
symbol_complete Comma bs rest p = rw p.0 refl
symbol_complete OneColon bs [] p = rw p.0 refl
symbol_complete OneColon bs (c ∷ rest) p = let no : (c == 58) ≡ false = not-true (c == 58) p.1 in rw (p.0, no) refl
symbol_complete DoubleColon bs rest p = rw p.0 refl

lexeme_complete : Complete lexeme_at lexeme
unfolding token_of_kind word_token quoted_token kind_of
lexeme_complete (Reserved w) bs rest (p, e) =
    let has : is_some (use_of w) ≡ true = has_use_is_reserved w ∙ e in
    word_complete w bs rest _ p (reserved_begins w e) (bind_at _ (run_complete w p) (rw has refl))
lexeme_complete (Name w) bs rest (p, e) =
    let parts = and_parts (are_segments true w) (not (is_reserved w)) e in
    let has_none : is_some (use_of w) ≡ false = has_use_is_reserved w ∙ not-true (is_reserved w) parts.1 in
    let segments : are_segments true w ≡ true = parts.0 in
    word_complete w bs rest _ p (segments_begin w parts.0) (bind_at _ (run_complete w p) (rw (has_none, segments) refl))
lexeme_complete (Integer z) bs rest (false, ds, s, d, e, f, (mid, q, p)) = rw q (digits_complete ds mid rest _ p s d (integer_complete false z ds mid rest s d e f p))
lexeme_complete (Integer z) bs rest (true, ds, s, d, e, f, (mid, q, p)) = token_from Minus 45 _ refl q (integer_complete true z ds mid rest s d e f p)
lexeme_complete (Quoted t) bs rest (mid, q, (after, p, r)) = token_from Quote 34 _ refl q (bind_at _ (quoted_complete t mid after rest p r) refl)
lexeme_complete (Symbol s) bs rest p = symbol_complete s bs rest p

-- ---- sources

-- what is after a slash may be given back with it
unfoldable held : GapState → ℕ
held slash = 1
held _ = 0

weaker : {m : Option (List ℕ)} {n k : ℕ} → n ≤ k → Yields m (λ rest. length rest ≤ n) → Yields m (λ rest. length rest ≤ k)
weaker {m} {n} {k} le p = record { out = λ y e. omega (arith, p.out y e) }

after_shorter : (at : GapState) (bs : List ℕ) → Yields (skip_gap at bs) (λ rest. length rest ≤ length bs + held at)
unfolding held
after_shorter between [] = yields_some (omega arith)
after_shorter between (b ∷ bs) =
    yields_else (is_white b) (λ _. weaker (omega arith) (after_shorter between bs)) (λ _. yields_else (b == 47) (λ _. weaker (omega arith) (after_shorter slash bs)) (λ _. yields_some (omega arith)))
after_shorter slash [] = yields_some (omega arith)
after_shorter slash (b ∷ bs) =
    yields_else (b == 47) (λ _. weaker (omega arith) (after_shorter in_line bs)) (λ _. yields_else (b == 42) (λ _. weaker (omega arith) (after_shorter in_block bs)) (λ _. yields_some (omega arith)))
after_shorter in_line [] = yields_some (omega arith)
after_shorter in_line (b ∷ bs) = yields_else (b == 10) (λ _. weaker (omega arith) (after_shorter between bs)) (λ _. weaker (omega arith) (after_shorter in_line bs))
after_shorter in_block [] = yields_none
after_shorter in_block (b ∷ bs) = yields_else (b == 42) (λ _. weaker (omega arith) (after_shorter star bs)) (λ _. weaker (omega arith) (after_shorter in_block bs))
after_shorter star [] = yields_none
after_shorter star (b ∷ bs) =
    yields_else (b == 47) (λ _. weaker (omega arith) (after_shorter between bs)) (λ _. yields_else (b == 42) (λ _. weaker (omega arith) (after_shorter star bs)) (λ _. weaker (omega arith) (after_shorter in_block bs)))

pub gap_shorter : (bs rest : List ℕ) → skip_gap between bs ≡ Some rest → length rest ≤ length bs
unfolding held
gap_shorter bs rest e = omega (arith, (after_shorter between bs).out rest e)

spaced_sound : Sound spaced_lexeme_at (λ t. lexeme t ▸ gap)
unfolding spaced_lexeme_at
spaced_sound bs =
    yields_bind (lexeme_sound bs) (λ t p. yields_bind (found (skip_gap between t.1)) (λ rest e. yields_some ((t.1, p.0, e), omega (arith, p.1, gap_shorter t.1 rest e))))

spaced_complete : Complete spaced_lexeme_at (λ t. lexeme t ▸ gap)
unfolding spaced_lexeme_at
spaced_complete t bs rest (mid, p, q) = bind_at _ (lexeme_complete t bs mid p) (bind_at _ q refl)

pub spaced_consumes : Consumes spaced_lexeme_at
spaced_consumes bs x rest e = ((spaced_sound bs).out (x, rest) e).1

nothing_left : (bs : List ℕ) → not_empty bs ≡ false → bs ≡ []
unfolding not_empty
nothing_left [] e = refl
nothing_left (b ∷ bs) e = absurd cc

tokens_sound : (bs : List ℕ) → Yields (tokens_at bs) (AreTokens bs)
unfolding tokens_at
tokens_sound bs =
    yields_bind (found (skip_gap between bs)) (λ start g. yields_bind (many_sound not_empty spaced_lexeme_at (λ t. lexeme t ▸ gap) spaced_sound start) (λ ts p.
    yields_unless (not_empty ts.1) (λ e. yields_some (start, g, subst (λ (rest : List ℕ). each (λ t. lexeme t ▸ gap) ts.0 start rest) (nothing_left ts.1 e) p.0))))

no_lexeme : (y : Token × List ℕ) → lexeme_at [] ≡ Some y → ⊥
unfolding lexeme_at
no_lexeme y e = cc

at_end : not_empty {A = ℕ} [] ≡ false
unfolding not_empty
at_end = refl

lexeme_first : (t : Token) (bs rest : List ℕ) → (lexeme t ▸ gap) bs rest → (not_empty bs ≡ true) × Unit {0}
unfolding not_empty
lexeme_first t [] rest p = let none : lexeme_at [] ≡ Some (t, p.0) = lexeme_complete t [] p.0 p.1 in absurd (no_lexeme _ none)
lexeme_first t (b ∷ bs) rest p = (refl, tt)

tokens_complete : (bs : List ℕ) (ts : List Token) → AreTokens bs ts → tokens_at bs ≡ Some ts
unfolding tokens_at
tokens_complete bs ts (start, g, p) =
    bind_at _ g (bind_at _ (many_complete not_empty spaced_lexeme_at (λ t. lexeme t ▸ gap) (λ _. Unit {0}) spaced_sound (λ t us vs _ q. spaced_complete t us vs q) lexeme_first ts start [] tt at_end p) (rw at_end refl))

-- ---- what reading says of a source

some_is : {A : Type 0} (x y : A) (r : Option A) → r ≡ Some x → r ≡ Some y → x ≡ y
some_is x y r p q = cc

none_is : {A : Type 0} (x : A) (r : Option A) → r ≡ None → r ≡ Some x → ⊥
none_is x r p q = cc

pub read_are_tokens : (source : List ℕ) (ts : List Token) → tokens_at source ≡ Some ts → AreTokens source ts
read_are_tokens source ts e = (tokens_sound source).out ts e

pub none_are_tokens : (source : List ℕ) → tokens_at source ≡ None → (ts : List Token) → AreTokens source ts → ⊥
none_are_tokens source e ts p = none_is ts (tokens_at source) e (tokens_complete source ts p)

pub same_tokens : (source : List ℕ) (ts us : List Token) → AreTokens source ts → AreTokens source us → ts ≡ us
same_tokens source ts us p q = some_is ts us (tokens_at source) (tokens_complete source ts p) (tokens_complete source us q)

-- ---- the loop over a source

pub is_left : (bs : List ℕ) → (length bs == 0) ≡ false → not_empty bs ≡ true
unfolding not_empty
is_left [] e = absurd cc
is_left (b ∷ bs) e = refl

pub none_left : (bs : List ℕ) → (length bs == 0) ≡ true → not_empty bs ≡ false
unfolding not_empty
none_left [] e = refl
none_left (b ∷ bs) e = let zero_length : length (b ∷ bs) ≡ 0 = eqb-true _ _ e in absurd (omega arith)

pub tokens_end : (bs start rest : List ℕ) (ts : List Token) → skip_gap between bs ≡ Some start → many not_empty spaced_lexeme_at start ≡ Some (ts, rest) → not_empty rest ≡ false → IsTokenAnswer bs (Ok ts)
unfolding tokens_at
tokens_end bs start rest ts g e left = read_are_tokens bs ts (bind_at _ g (bind_at _ e (rw left refl)))

pub tokens_fail : (failure : Failure) (bs start : List ℕ) → skip_gap between bs ≡ Some start → Fails failure (many not_empty spaced_lexeme_at start) → IsTokenAnswer bs (Err failure)
unfolding tokens_at bind
tokens_fail OutOfMemory bs start g e = tt
tokens_fail (Refused left expected) bs start g e = none_are_tokens bs (rw (g, e) refl)
