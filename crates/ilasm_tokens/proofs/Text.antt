-- Steps of the loops over bytes.
use Rattle.std.proofs.Common.{◌≡◌, ◌==◌, ◌≤◌, ◌<◌, ◌^◌, length, ◌+◌, ◌*◌, ◌-◌, ◌∙◌, sym, append-nil, ℕ, List, [], ◌∷◌, ◌++◌, Option, Some, None, Bool, true, false, cond, take, refl, ap, append_assoc, arith}
use Rattle.std.specs.Prelude.{All}
use Rattle.std.specs.List.{prefix_len}
use Rattle.std.proofs.Math.Numerals.{one-add}
use Rattle.std.specs.Str.{IsUtf8}
use Rattle.std.proofs.lemmas.List.Elements.{All-nil, All-cons}
use Rattle.std.proofs.lemmas.Str.{IsUtf8-from_ascii}
use Rattle.std.proofs.lemmas.Str.Ascii.{IsAscii-from_all}
use Rattle.cil_model.specs.Words.{is_word_byte}
use Rattle.cil_model.specs.Lexemes.{GapState, in_block, star, value_from, is_plain, escape}
use Rattle.ilasm_tokens.specs.Steps.{with_front, choice, bind}
use Rattle.ilasm_tokens.specs.Lexing.{quoted_from, escaped_at, character_at, quoted_token, past_quote}
use Rattle.ilasm_tokens.specs.Parts.{characters_of}
use Rattle.cil_model.specs.declared.tokens.Token.{Token}
use Rattle.cil_model.specs.declared.tokens.Token.TheVariants.{Quoted}

abbrev pub gap_state_of : Bool → GapState
gap_state_of true = star
gap_state_of false = in_block

pub join_front : {S A : Type 0} (xs ys : List A) (r : Option (List A × List S)) → with_front xs (with_front ys r) ≡ with_front (xs ++ ys) r
unfolding with_front
join_front {S} {A} xs ys (Some x) = ap (λ (zs : List A). Some (zs, x.1)) (simp append_assoc)
join_front xs ys None = refl

pub value_from-le : (n : ℕ) (ds : List ℕ) → n ≤ value_from n ds
value_from-le n [] = omega arith
value_from-le n (d ∷ ds) = omega (arith, value_from-le (10 * n + (d - 48)) ds)

pub value_beyond : (n : ℕ) (ds : List ℕ) → 0 < length ds → 922337203685477580 < n → 2 ^ 63 < value_from n ds
value_beyond n [] h more = absurd (omega arith)
value_beyond n (d ∷ ds) h more = omega (arith, value_from-le (10 * n + (d - 48)) ds)

word_byte_is_ascii : (b : ℕ) → is_word_byte b ≡ true → b < 128
word_byte_is_ascii b e = grind arith

pub word_is_ascii : (bs : List ℕ) → All (λ b. b < 128) (take (prefix_len is_word_byte bs) bs)
word_is_ascii [] = All-nil (λ b. b < 128)
word_is_ascii (b ∷ bs) =
    elim (is_word_byte b) as (λ v. is_word_byte b ≡ v → All (λ b. b < 128) (take (cond v (1 + prefix_len is_word_byte bs) 0) (b ∷ bs))) [
      | true ↦ λ e. rw one-add (All-cons (λ b. b < 128) b _ (word_byte_is_ascii b e) (word_is_ascii bs))
      | false ↦ λ e. All-nil (λ b. b < 128)
    ] refl

pub ascii_is_utf8 : (bs : List ℕ) → All (λ b. b < 128) bs → IsUtf8 bs
ascii_is_utf8 bs all = IsUtf8-from_ascii bs (IsAscii-from_all bs all)

-- what is after a literal is what is after the last of its characters
pub after_front : (xs : List ℕ) (r : Option (List ℕ × List ℕ)) → past_quote (with_front xs r) ≡ past_quote r
unfolding with_front past_quote
after_front xs (Some x) = refl
after_front xs None = refl

-- a literal, by its first character
abbrev follow : Option (Option ℕ × List ℕ) → Option (List ℕ × List ℕ)
follow None = None
follow (Some (None, rest)) = Some ([], rest)
follow (Some (Some c, rest)) = with_front (c ∷ []) (quoted_from false rest)

follow_escaped : (r : Option ℕ) (cs : List ℕ) → bind r (λ c. with_front (c ∷ []) (quoted_from false cs)) ≡ follow (bind r (λ c. Some (Some c, cs)))
unfolding bind
follow_escaped (Some c) cs = refl
follow_escaped None cs = refl

escaped_follows : (bs : List ℕ) → quoted_from true bs ≡ follow (escaped_at bs)
unfolding quoted_from escaped_at
escaped_follows [] = refl
escaped_follows (c ∷ cs) = follow_escaped (escape c) cs

follow_branches : (is_quote is_backslash plain : Bool) (c : ℕ) (cs : List ℕ) →
    cond is_quote (Some ([], cs)) (cond is_backslash (quoted_from true cs) (cond plain (with_front (c ∷ []) (quoted_from false cs)) None)) ≡
    follow (cond is_quote (Some (None, cs)) (cond is_backslash (escaped_at cs) (cond plain (Some (Some c, cs)) None)))
follow_branches true b p c cs = refl
follow_branches false true p c cs = escaped_follows cs
follow_branches false false true c cs = refl
follow_branches false false false c cs = refl

by_character : (bs : List ℕ) → quoted_from false bs ≡ follow (character_at bs)
unfolding quoted_from character_at
by_character [] = refl
by_character (c ∷ cs) = follow_branches (c == 34) (c == 92) (is_plain c) c cs

at_character : (bs rest : List ℕ) (c : ℕ) → character_at bs ≡ Some (Some c, rest) → quoted_from false bs ≡ with_front (c ∷ []) (quoted_from false rest)
at_character bs rest c e = rw (by_character bs, e) refl

pub at_quote : (bs rest : List ℕ) → character_at bs ≡ Some (None, rest) → quoted_from false bs ≡ Some ([], rest)
at_quote bs rest e = rw (by_character bs, e) refl

pub no_character : (bs : List ℕ) → character_at bs ≡ None → quoted_from false bs ≡ None
no_character bs e = rw (by_character bs, e) refl

-- what is after the literal is also after what is left of it
pub passes : (bs rest : List ℕ) (c : ℕ) (whole : Option (List ℕ)) → Some (Some c, rest) ≡ character_at bs → past_quote (quoted_from false bs) ≡ whole → past_quote (quoted_from false rest) ≡ whole
passes bs rest c whole e so_far = sym (after_front (c ∷ []) (quoted_from false rest)) ∙ ap past_quote (sym (at_character bs rest c (sym e))) ∙ so_far

-- a character moves from what is left of the literal to what was read of it
pub takes : (text bs rest : List ℕ) (c : ℕ) (whole : Option (List ℕ × List ℕ)) → Some (Some c, rest) ≡ character_at bs → with_front text (quoted_from false bs) ≡ whole → with_front (text ++ c ∷ []) (quoted_from false rest) ≡ whole
takes text bs rest c whole e so_far = sym (join_front text (c ∷ []) (quoted_from false rest)) ∙ ap (with_front text) (sym (at_character bs rest c (sym e))) ∙ so_far

pub at_end : (text bs rest : List ℕ) (whole : Option (List ℕ × List ℕ)) → Some (None, rest) ≡ character_at bs → with_front text (quoted_from false bs) ≡ whole → whole ≡ Some (text, rest)
unfolding with_front
at_end text bs rest whole e so_far = sym so_far ∙ rw (at_quote bs rest (sym e)) (ap (λ (xs : List ℕ). Some (xs, rest)) (simp append-nil))

pub at_fault : (text bs : List ℕ) (whole : Option (List ℕ × List ℕ)) → None ≡ character_at bs → with_front text (quoted_from false bs) ≡ whole → whole ≡ None
unfolding with_front
at_fault text bs whole e so_far = sym so_far ∙ rw (no_character bs (sym e)) refl

literal_of : (r : Option (List ℕ × List ℕ)) (rest : List ℕ) → past_quote r ≡ Some rest → bind {B = Token × List ℕ} r (λ x. Some (Quoted x.0, x.1)) ≡ Some (Quoted (choice r (λ x. x.0) []), rest)
unfolding bind choice past_quote
literal_of (Some x) rest e = let same : x.1 ≡ rest = cc in rw same refl
literal_of None rest e = absurd cc

none_from : (r : Option (List ℕ × List ℕ)) → past_quote r ≡ None → bind {B = Token × List ℕ} r (λ x. Some (Quoted x.0, x.1)) ≡ None
unfolding bind past_quote
none_from (Some x) e = absurd cc
none_from None e = refl

-- the token of a literal, by what is after it
pub literal_before : (bs rest : List ℕ) → past_quote (quoted_from false bs) ≡ Some rest → quoted_token bs ≡ Some (Quoted (characters_of bs), rest)
unfolding quoted_token characters_of
literal_before bs rest e = literal_of (quoted_from false bs) rest e

pub no_literal : (bs : List ℕ) → past_quote (quoted_from false bs) ≡ None → quoted_token bs ≡ None
unfolding quoted_token
no_literal bs e = none_from (quoted_from false bs) e
