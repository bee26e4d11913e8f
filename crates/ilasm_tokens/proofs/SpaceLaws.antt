-- What is after white space and comments, by the bytes at the front.
use Rattle.std.proofs.Common.{◌≡◌, ◌≢◌, ◌≤◌, ◌<◌, ◌-◌, ◌==◌, ℕ, Bool, true, false, List, [], ◌∷◌, length, take, drop, get_or, None, Some, refl, ap, sym, ◌∙◌, arith}
use Rattle.std.specs.Prelude.{if◌then◌else◌}
use Rattle.std.proofs.Math.Seq.{take-length}
use Rattle.std.proofs.lemmas.Bool.{ne_eqb}
use Rattle.cil_model.specs.Lexemes.{is_white, skip_gap, between, slash, in_line, in_block, star}
use Rattle.ilasm_tokens.proofs.Text.{gap_state_of}

-- what is after the first byte
abbrev pub following : List ℕ → List ℕ
following bs = take (length bs - 1) (drop 1 bs)

after_first : (c : ℕ) (cs : List ℕ) → cs ≡ following (c ∷ cs)
after_first c cs = sym (ap (λ (n : ℕ). take n cs) (omega arith) ∙ take-length cs)

pub after_shorter : (bs : List ℕ) → 1 ≤ length bs → length (following bs) < length bs
after_shorter [] some = absurd (omega (arith, some))
after_shorter (c ∷ cs) some = omega (arith, ap length (after_first c cs))

abbrev first : List ℕ → ℕ
first bs = get_or bs 0 0

-- ---- in a comment

pub line_continues : (bs : List ℕ) → 1 ≤ length bs → first bs ≢ 10 → skip_gap in_line bs ≡ skip_gap in_line (following bs)
line_continues [] some other = absurd (omega (arith, some))
line_continues (c ∷ cs) some other = rw (ne_eqb c 10 other) (ap (skip_gap in_line) (after_first c cs))

pub line_ends : (bs : List ℕ) → 1 ≤ length bs → first bs ≡ 10 → skip_gap in_line bs ≡ skip_gap between (following bs)
line_ends [] some end = absurd (omega (arith, some))
line_ends (c ∷ cs) some end = rw end (ap (skip_gap between) (after_first c cs))

pub line_none_left : (bs : List ℕ) → length bs < 1 → skip_gap in_line bs ≡ skip_gap between bs
line_none_left [] none = refl
line_none_left (c ∷ cs) none = absurd (omega (arith, none))

block_steps : (is_star : Bool) (cs : List ℕ) → (if is_star then skip_gap star cs else skip_gap in_block cs) ≡ skip_gap (gap_state_of is_star) cs
block_steps true cs = refl
block_steps false cs = refl

module _ (bs : List ℕ) (some : 1 ≤ length bs) where
  pub block_continues : (is_star : Bool) → is_star ≡ false → skip_gap (gap_state_of is_star) bs ≡ skip_gap (gap_state_of (first bs == 42)) (following bs)
  block_continues is_star none = rw none (one bs some)
    where
      one : (cs : List ℕ) → 1 ≤ length cs → skip_gap in_block cs ≡ skip_gap (gap_state_of (first cs == 42)) (following cs)
      one [] some = absurd (omega (arith, some))
      one (c ∷ cs) some = block_steps (c == 42) cs ∙ ap (skip_gap (gap_state_of (c == 42))) (after_first c cs)

  pub star_continues : (is_star : Bool) → is_star ≡ true → first bs ≢ 47 → skip_gap (gap_state_of is_star) bs ≡ skip_gap (gap_state_of (first bs == 42)) (following bs)
  star_continues is_star at_star other = rw at_star (one bs some other)
    where
      one : (cs : List ℕ) → 1 ≤ length cs → first cs ≢ 47 → skip_gap star cs ≡ skip_gap (gap_state_of (first cs == 42)) (following cs)
      one [] some other = absurd (omega (arith, some))
      one (c ∷ cs) some other = rw (ne_eqb c 47 other) (block_steps (c == 42) cs ∙ ap (skip_gap (gap_state_of (c == 42))) (after_first c cs))

  pub block_ends : (is_star : Bool) → is_star ≡ true → first bs ≡ 47 → skip_gap (gap_state_of is_star) bs ≡ skip_gap between (following bs)
  block_ends is_star at_star end = rw at_star (one bs some end)
    where
      one : (cs : List ℕ) → 1 ≤ length cs → first cs ≡ 47 → skip_gap star cs ≡ skip_gap between (following cs)
      one [] some end = absurd (omega (arith, some))
      one (c ∷ cs) some end = rw end (ap (skip_gap between) (after_first c cs))

pub block_none_left : (is_star : Bool) (bs : List ℕ) → length bs < 1 → skip_gap (gap_state_of is_star) bs ≡ None
block_none_left true [] none = refl
block_none_left false [] none = refl
block_none_left _ (c ∷ cs) none = absurd (omega (arith, none))

-- ---- between comments

pub past_white : (bs : List ℕ) (white : Bool) → 1 ≤ length bs → white ≡ is_white (first bs) → white ≡ true → skip_gap between bs ≡ skip_gap between (following bs)
past_white [] white some e is = absurd (omega arith)
past_white (c ∷ cs) white some e is = rw (sym e ∙ is) (ap (skip_gap between) (after_first c cs))

pub none_left : (bs : List ℕ) → length bs < 1 → skip_gap between bs ≡ Some bs
none_left [] none = refl
none_left (c ∷ cs) none = absurd (omega (arith, none))

pub at_token : (bs : List ℕ) (white : Bool) → 1 ≤ length bs → white ≡ is_white (first bs) → white ≡ false → first bs ≢ 47 → skip_gap between bs ≡ Some bs
at_token [] white some e is other = refl
at_token (c ∷ cs) white some e is other = rw (sym e ∙ is, ne_eqb c 47 other) refl

at_slash : (bs : List ℕ) (white : Bool) → 1 ≤ length bs → white ≡ is_white (first bs) → white ≡ false → first bs ≡ 47 → skip_gap between bs ≡ skip_gap slash (following bs)
at_slash [] white some e is found = absurd (omega arith)
at_slash (c ∷ cs) white some e is found = rw found (ap (skip_gap slash) (after_first c cs))

with_slash : (bs : List ℕ) → 1 ≤ length bs → first bs ≡ 47 → 47 ∷ following bs ≡ bs
with_slash [] some found = absurd (omega arith)
with_slash (c ∷ cs) some found = rw found (ap (λ (bs : List ℕ). 47 ∷ bs) (sym (after_first 47 cs)))

module _ (bs : List ℕ) (white : Bool) (some : 1 ≤ length bs) (is_test : white ≡ is_white (first bs)) (is_other : white ≡ false) (found : first bs ≡ 47) where
  pub last_slash : length (following bs) < 1 → skip_gap between bs ≡ Some bs
  last_slash none = at_slash bs white some is_test is_other found ∙ alone (following bs) none ∙ ap Some (with_slash bs some found)
    where
      alone : (cs : List ℕ) → length cs < 1 → skip_gap slash cs ≡ Some (47 ∷ cs)
      alone [] less = refl
      alone (c ∷ cs) less = absurd (omega (arith, less))

  pub in_line_comment : 1 ≤ length (following bs) → first (following bs) ≡ 47 → skip_gap between bs ≡ skip_gap in_line (following (following bs))
  in_line_comment more second = at_slash bs white some is_test is_other found ∙ line (following bs) more second
    where
      line : (cs : List ℕ) → 1 ≤ length cs → first cs ≡ 47 → skip_gap slash cs ≡ skip_gap in_line (following cs)
      line [] some e = absurd (omega arith)
      line (c ∷ cs) some e = rw e (ap (skip_gap in_line) (after_first c cs))

  pub in_block_comment : 1 ≤ length (following bs) → first (following bs) ≢ 47 → first (following bs) ≡ 42 → skip_gap between bs ≡ skip_gap in_block (following (following bs))
  in_block_comment more other second = at_slash bs white some is_test is_other found ∙ block (following bs) more second
    where
      block : (cs : List ℕ) → 1 ≤ length cs → first cs ≡ 42 → skip_gap slash cs ≡ skip_gap in_block (following cs)
      block [] some e = absurd (omega arith)
      block (c ∷ cs) some e = rw e (ap (skip_gap in_block) (after_first c cs))

  pub slash_alone : first (following bs) ≢ 47 → first (following bs) ≢ 42 → skip_gap between bs ≡ Some bs
  slash_alone line block = at_slash bs white some is_test is_other found ∙ other (following bs) line block ∙ ap Some (with_slash bs some found)
    where
      other : (cs : List ℕ) → first cs ≢ 47 → first cs ≢ 42 → skip_gap slash cs ≡ Some (47 ∷ cs)
      other [] line block = refl
      other (c ∷ cs) line block = rw (ne_eqb c 47 line, ne_eqb c 42 block) refl
