-- The lines of a `.run` file, and what is found in them.
use Rattle.std.proofs.Common.{append_assoc, ◌≡◌, ◌≢◌, ℕ, zero, suc, ◌<◌, ◌≤◌, ◌^◌, ◌/◌, ◌%◌, ◌==◌, ◌&&◌, not, Bool, true, false, List, [], ◌∷◌, ◌++◌, length, get_or, Option, Some, None, refl, sym, ap, ap₂, ◌∙◌, subst, arith, lit<}
use Rattle.std.specs.Fmt.{decimal}
use Rattle.std.proofs.lemmas.Slice.Eq.{bytes_eq-Decides}
use Rattle.std.proofs.lemmas.Str.{IsAscii-append}
use Rattle.std.proofs.lemmas.Str.Ascii.{IsAscii-cons, IsAscii-nil}
use Rattle.std.specs.Prelude.{codes, nat_le, nat_lt, option_map, ◌↔◌}
use Rattle.std.specs.Str.{IsAscii, bytes_eq}
use Rattle.hex.proofs.HexLemmas.{IsAscii-encode_with, decode_sized-encode_lower}
use Rattle.run_files.specs.Differences.{HasNoDifference, is_same_limits}
use Rattle.run_files.specs.declared.file.TheConstants.{MOST_WORKERS}
use Rattle.std.proofs.lemmas.Bool.{and_parts, eq-eqb, eqb-true, le-leb, leb-true, ltb-true, not-false, not_from_true}
use Rattle.std.proofs.lemmas.Fmt.{IsAscii-decimal, decimal_injective, decimal_is_IsNumeral}
use Rattle.std.proofs.lemmas.Option.{same_Some}
use Rattle.std.proofs.lemmas.Str.Parse.{digit_at}
use Rattle.std.proofs.lemmas.List.{append_cancel_left}
use Rattle.std.proofs.lemmas.Str.Pattern.{IsSplitOnceResult, split_after, split_parts}
use Rattle.std.specs.Prelude.{IfSome}
use Rattle.std.specs.Str.Pattern.{FindsTextPrefix, StripsPrefix}
use Rattle.hex.specs.Hex.{encode_lower, encode_with, lower_digits}
use Rattle.cil_model.specs.Ranges.{are_in_range, is_between}
use Rattle.cil_model.specs.declared.limits.Limits.{Limits}
use Rattle.cil_model.specs.declared.limits.TheConstants.{LEAST_WORDS, MOST_BUDGET, MOST_DEPTH, MOST_WORDS}
use Rattle.run_files.specs.RunFiles.{IsChecksum, IsRunFile, last_text, limits_text, line, text_of}
use Rattle.run_files.specs.declared.file.RunFile.{RunFile}
use denote.Ref.{Bor}

-- ---- no value has a line feed

pub no_break_decimal : (n : ℕ) → n < 2 ^ 64 → (i : ℕ) → i < length (decimal n) → get_or (decimal n) i 0 ≢ 10
no_break_decimal n small i below =
    let digit = digit_at (decimal n) i (decimal_is_IsNumeral n small).0.1 below in
    λ same. absurd (omega (arith, digit.0, same))

-- whether a text has no line feed
abbrev has_no_break : List ℕ → Bool
has_no_break [] = true
has_no_break (c ∷ cs) = not (c == 10) && has_no_break cs

no_break_at : (t : List ℕ) → has_no_break t ≡ true → (i : ℕ) → get_or t i 0 ≢ 10
no_break_at [] none i = λ same. let wrong : 0 ≡ 10 = same in absurd (omega (arith, wrong))
no_break_at (c ∷ cs) none zero =
    let parts = and_parts (not (c == 10)) (has_no_break cs) none in
    λ same. let wrong : false ≡ true = subst (λ n. not (n == 10) ≡ true) same parts.0 in absurd (cc wrong)
no_break_at (c ∷ cs) none (suc i) =
    let parts = and_parts (not (c == 10)) (has_no_break cs) none in
    no_break_at cs parts.1 i

pub no_break_hex : (bytes : List ℕ) (i : ℕ) → get_or (encode_lower bytes) i 0 ≢ 10
unfolding encode_with
no_break_hex [] i = λ same. let wrong : 0 ≡ 10 = same in absurd (omega (arith, wrong))
no_break_hex (b ∷ bytes) zero = no_break_at lower_digits refl (b / 16)
no_break_hex (b ∷ bytes) (suc zero) = no_break_at lower_digits refl (b % 16)
no_break_hex (b ∷ bytes) (suc (suc i)) = no_break_hex bytes i

-- ---- what is found is what a call returned

-- where something is found, the call has returned something
pub found_none : {X Y : Type 0} (f : X → Y) (r : Option X) (y : Y) → r ≡ None → option_map f r ≡ Some y → ⊥
found_none f None y is found = absurd (cc found)
found_none f (Some x) y is found = absurd (cc is)

-- and it is this
pub found_some : {X Y : Type 0} (f : X → Y) (r : Option X) (x : X) (y : Y) → r ≡ Some x → option_map f r ≡ Some y → f x ≡ y
found_some f None x y is found = absurd (cc is)
found_some f (Some z) x y is found = ap f (sym (same_Some z x is)) ∙ same_Some (f z) y found

-- ---- the first line of a text

pub strip_some : (name text rest : List ℕ) → StripsPrefix (FindsTextPrefix name) text rest → text ≡ name ++ rest
strip_some name text rest (n, finds, is, sizes) = finds.1 ∙ ap (λ (r : List ℕ). name ++ r) (sym is)

pub value_read : (name text rest : List ℕ) (r : Option (Bor (List ℕ) × Bor (List ℕ))) → text ≡ name ++ rest → IsSplitOnceResult 10 rest r
    → IfSome r (λ parts. text ≡ line name parts.0.now parts.1.now)
value_read name text rest None is cut = tt
value_read name text rest (Some parts) is cut = is ∙ ap (λ (r : List ℕ). name ++ r) (split_parts 10 rest (Some parts) cut (lit< tt)).0

abbrev pub contents : Bor (List ℕ) × Bor (List ℕ) → List ℕ × List ℕ
contents parts = (parts.0.now, parts.1.now)

pub value_found : (name text rest value after : List ℕ) (r : Option (Bor (List ℕ) × Bor (List ℕ))) → text ≡ name ++ rest → IsSplitOnceResult 10 rest r
    → ((i : ℕ) → i < length value → get_or value i 0 ≢ 10) → text ≡ line name value after → option_map contents r ≡ Some (value, after)
value_found name text rest value after None is cut unbroken whole =
    let same = append_cancel_left name rest (value ++ 10 ∷ after) (sym is ∙ whole) in
    absurd (split_after 10 rest value after None cut (lit< tt) same unbroken)
value_found name text rest value after (Some parts) is cut unbroken whole =
    let same = append_cancel_left name rest (value ++ 10 ∷ after) (sym is ∙ whole) in
    let found = split_after 10 rest value after (Some parts) cut (lit< tt) same unbroken in
    ap₂ (λ (v a : List ℕ). Some (v, a)) found.0 found.1

-- ---- the ranges of limits

within : (low high n : ℕ) → is_between low high n ≡ true → (low ≤ n) × (n ≤ high)
within low high n between =
    let parts = and_parts (nat_le low n) (nat_le n high) between in
    (leb-true low n parts.0, leb-true n high parts.1)

between : (low high n : ℕ) → low ≤ n → n ≤ high → is_between low high n ≡ true
between low high n above below = rw (le-leb low n above) (le-leb n high below)

-- the numbers of limits are in their ranges
pub record AreWithin (l : Limits) : Type 0 where
  pub words : (LEAST_WORDS ≤ l.words) × (l.words ≤ MOST_WORDS)
  pub max_words : (l.words ≤ l.max_words) × (l.max_words ≤ MOST_WORDS)
  pub budget : (1 ≤ l.budget) × (l.budget ≤ MOST_BUDGET)
  pub depth : (1 ≤ l.depth) × (l.depth ≤ MOST_DEPTH)

pub are_within : (l : Limits) → are_in_range l ≡ true → AreWithin l
are_within l in_range =
    let words = is_between LEAST_WORDS MOST_WORDS l.words in
    let max_words = is_between l.words MOST_WORDS l.max_words in
    let budget = is_between 1 MOST_BUDGET l.budget in
    let depth = is_between 1 MOST_DEPTH l.depth in
    let last = and_parts (words && max_words && budget) depth in_range in
    let third = and_parts (words && max_words) budget last.0 in
    let second = and_parts words max_words third.0 in
    record {
      words = within LEAST_WORDS MOST_WORDS l.words second.0;
      max_words = within l.words MOST_WORDS l.max_words second.1;
      budget = within 1 MOST_BUDGET l.budget third.1;
      depth = within 1 MOST_DEPTH l.depth last.1;
    }

pub in_range_of : (l : Limits) → AreWithin l → are_in_range l ≡ true
in_range_of l w =
    rw (
      between LEAST_WORDS MOST_WORDS l.words w.words.0 w.words.1,
      between l.words MOST_WORDS l.max_words w.max_words.0 w.max_words.1,
      between 1 MOST_BUDGET l.budget w.budget.0 w.budget.1,
    ) (between 1 MOST_DEPTH l.depth w.depth.0 w.depth.1)

-- ---- the lines of limits

abbrev pub contents_of : {A : Type 0} → A × Bor (List ℕ) → A × List ℕ
contents_of p = (p.0, p.1.now)

-- the first line
abbrev pub first_line : List ℕ
first_line = codes "cilvm-run: 1" ++ 10 ∷ []

-- what a line has, where the call has returned this
pub line_is : {A : Type 0} (r : Option (A × Bor (List ℕ))) (x : A × Bor (List ℕ)) (a : A) (rest : List ℕ) → r ≡ Some x → option_map (contents_of {A = A}) r ≡ Some (a, rest)
    → (x.0 ≡ a) × (x.1.now ≡ rest)
line_is {A = A} r x a rest is found =
    let same = found_some (contents_of {A = A}) r x (a, rest) is found in
    (ap (λ (p : A × List ℕ). p.0) same, ap (λ (p : A × List ℕ). p.1) same)

-- and where it has returned none, there is no such line
pub no_line : {A : Type 0} (r : Option (A × Bor (List ℕ))) (a : A) (rest : List ℕ) → r ≡ None → option_map (contents_of {A = A}) r ≡ Some (a, rest) → ⊥
no_line {A = A} r a rest is found = found_none (contents_of {A = A}) r (a, rest) is found

-- limits with these numbers, and the text after them
pub same_limits : {words max_words budget depth : ℕ} {l : Limits} {rest rest' : List ℕ} → words ≡ l.words → max_words ≡ l.max_words → budget ≡ l.budget → depth ≡ l.depth → rest ≡ rest'
    → ◌≡◌ {A = Option (Limits × List ℕ)} (Some (record { words = words; max_words = max_words; budget = budget; depth = depth }, rest)) (Some (l, rest'))
same_limits e f g h k = rw (e, f, g, h, k) refl

-- the text after the first line
pub after_first : (text rest : List ℕ) (file : RunFile) → StripsPrefix (FindsTextPrefix first_line) text rest → text ≡ text_of file
    → rest ≡ line (codes "source: ") (encode_lower file.source) (limits_text file.limits (last_text file))
after_first text rest file strips whole =
    append_cancel_left first_line rest (line (codes "source: ") (encode_lower file.source) (limits_text file.limits (last_text file)))
    (sym (strip_some first_line text rest strips) ∙ whole)

-- what is said by these parts
pub same_file : {source output : List ℕ} {limits : Limits} {workers : ℕ} {file : RunFile} → source ≡ file.source → limits ≡ file.limits → workers ≡ file.workers → output ≡ file.output
    → ◌≡◌ {A = Option RunFile} (Some (record { source = source; limits = limits; workers = workers; output = output })) (Some file)
same_file e f g h = rw (e, f, g, h) refl

-- ---- the text in two parts

-- more after the text after a line
line_then : (name value rest more : List ℕ) → line name value rest ++ more ≡ line name value (rest ++ more)
line_then name value rest more = append_assoc name (value ++ 10 ∷ rest) more ∙ ap (λ (t : List ℕ). name ++ t) (append_assoc value (10 ∷ rest) more)

-- more after the text after the lines of limits
limits_then : (l : Limits) (rest more : List ℕ) → limits_text l rest ++ more ≡ limits_text l (rest ++ more)
limits_then l rest more =
    let words = line (codes "words: ") (decimal l.words) in
    let max_words = line (codes "max-words: ") (decimal l.max_words) in
    let budget = line (codes "budget: ") (decimal l.budget) in
    let depth = line (codes "depth: ") (decimal l.depth) in
    line_then (codes "words: ") (decimal l.words) (max_words (budget (depth rest))) more
    ∙ ap words (line_then (codes "max-words: ") (decimal l.max_words) (budget (depth rest)) more
    ∙ ap max_words (line_then (codes "budget: ") (decimal l.budget) (depth rest) more
    ∙ ap budget (line_then (codes "depth: ") (decimal l.depth) rest more)))

-- the text up to the number of workers, and the lines after it
pub text_in_parts : (source : List ℕ) (limits : Limits) (workers last : List ℕ)
    → line (codes "cilvm-run: ") (codes "1") (line (codes "source: ") source (limits_text limits (codes "workers: " ++ workers))) ++ 10 ∷ last
    ≡ line (codes "cilvm-run: ") (codes "1") (line (codes "source: ") source (limits_text limits (line (codes "workers: ") workers last)))
text_in_parts source limits workers last =
    let begun = limits_text limits (codes "workers: " ++ workers) in
    let more = 10 ∷ last in
    line_then (codes "cilvm-run: ") (codes "1") (line (codes "source: ") source begun) more
    ∙ ap (line (codes "cilvm-run: ") (codes "1")) (line_then (codes "source: ") source begun more
    ∙ ap (line (codes "source: ") source) (limits_then limits (codes "workers: " ++ workers) more
    ∙ ap (limits_text limits) (append_assoc (codes "workers: ") workers more)))

-- ---- the text is ASCII

-- whether each byte is below 128
abbrev is_ascii : List ℕ → Bool
is_ascii [] = true
is_ascii (b ∷ bs) = nat_lt b 128 && is_ascii bs

ascii_of : (bs : List ℕ) → is_ascii bs ≡ true → IsAscii bs
ascii_of [] h = IsAscii-nil
ascii_of (b ∷ bs) h = let parts = and_parts (nat_lt b 128) (is_ascii bs) h in IsAscii-cons b bs (ltb-true b 128 parts.0) (ascii_of bs parts.1)

ascii_line : (name value rest : List ℕ) → is_ascii name ≡ true → IsAscii value → IsAscii rest → IsAscii (line name value rest)
ascii_line name value rest h v r = IsAscii-append name (value ++ 10 ∷ rest) (ascii_of name h) (IsAscii-append value (10 ∷ rest) v (IsAscii-cons 10 rest (lit< tt) r))

ascii_hex : (bytes : List ℕ) → IsAscii (encode_lower bytes)
ascii_hex bytes = IsAscii-encode_with lower_digits bytes (ascii_of lower_digits refl)

ascii_number : (n most : ℕ) → n ≤ most → most < 2 ^ 64 → IsAscii (decimal n)
ascii_number n most below small = IsAscii-decimal n (omega arith)

-- the lines of limits are ASCII where the text after them is
ascii_limits : (l : Limits) (rest : List ℕ) → AreWithin l → IsAscii rest → IsAscii (limits_text l rest)
ascii_limits l rest w more =
    let depth = line (codes "depth: ") (decimal l.depth) rest in
    let budget = line (codes "budget: ") (decimal l.budget) depth in
    let max_words = line (codes "max-words: ") (decimal l.max_words) budget in
    ascii_line (codes "words: ") (decimal l.words) max_words refl (ascii_number l.words MOST_WORDS w.words.1 (lit< tt))
    (ascii_line (codes "max-words: ") (decimal l.max_words) budget refl (ascii_number l.max_words MOST_WORDS w.max_words.1 (lit< tt))
    (ascii_line (codes "budget: ") (decimal l.budget) depth refl (ascii_number l.budget MOST_BUDGET w.budget.1 (lit< tt))
    (ascii_line (codes "depth: ") (decimal l.depth) rest refl (ascii_number l.depth MOST_DEPTH w.depth.1 (lit< tt)) more)))

-- so are the last two lines
ascii_last : (file : RunFile) → file.workers ≤ MOST_WORKERS → IsAscii (last_text file)
ascii_last file few =
    let output = line (codes "output: ") (encode_lower file.output) [] in
    ascii_line (codes "workers: ") (decimal file.workers) output refl (ascii_number file.workers MOST_WORKERS few (lit< tt))
    (ascii_line (codes "output: ") (encode_lower file.output) [] refl (ascii_hex file.output) IsAscii-nil)

pub ascii_text : (file : RunFile) → IsRunFile file → IsAscii (text_of file)
ascii_text file is =
    let rest = limits_text file.limits (last_text file) in
    ascii_line (codes "cilvm-run: ") (codes "1") (line (codes "source: ") (encode_lower file.source) rest) refl (ascii_of (codes "1") refl)
    (ascii_line (codes "source: ") (encode_lower file.source) rest refl (ascii_hex file.source)
    (ascii_limits file.limits (last_text file) (are_within file.limits is.limits) (ascii_last file is.workers.1)))

-- ---- differences

-- limits are equal where each number is
equal_limits : (one other : Limits) → one.words ≡ other.words → one.max_words ≡ other.max_words → one.budget ≡ other.budget → one.depth ≡ other.depth → one ≡ other
equal_limits one other e f g h =
    let numbers : Limits → Limits = λ l. record { words = l.words; max_words = l.max_words; budget = l.budget; depth = l.depth } in
    let same : numbers one ≡ numbers other = rw (e, f, g, h) refl in
    same

limits_equal : (one other : Limits) → is_same_limits one other ≡ true → one ≡ other
limits_equal one other same =
    let words = one.words == other.words in
    let max_words = one.max_words == other.max_words in
    let budget = one.budget == other.budget in
    let last = and_parts (words && max_words && budget) (one.depth == other.depth) same in
    let third = and_parts (words && max_words) budget last.0 in
    let second = and_parts words max_words third.0 in
    equal_limits one other (eqb-true one.words other.words second.0) (eqb-true one.max_words other.max_words second.1)
    (eqb-true one.budget other.budget third.1) (eqb-true one.depth other.depth last.1)

-- files are equal where each part is
equal_files : (one other : RunFile) → one.source ≡ other.source → one.limits ≡ other.limits → one.workers ≡ other.workers → one.output ≡ other.output → one ≡ other
equal_files one other source limits workers output =
    let parts : RunFile → RunFile = λ file. record { source = file.source; limits = file.limits; workers = file.workers; output = file.output } in
    let same : parts one ≡ parts other = rw (source, limits, workers, output) refl in
    same

same_limits_self : (l : Limits) → is_same_limits l l ≡ true
same_limits_self l = rw (eq-eqb l.words l.words refl, eq-eqb l.max_words l.max_words refl, eq-eqb l.budget l.budget refl) (eq-eqb l.depth l.depth refl)

-- two runs by equal numbers of workers differ in nothing exactly where the same is said of them
pub no_difference : (one other : RunFile) → one.workers ≡ other.workers → HasNoDifference one other ↔ (one ≡ other)
no_difference one other workers = (
  λ none.
      let source = (bytes_eq-Decides one.source other.source).0 (not-false (bytes_eq one.source other.source) none.0) in
      let limits = limits_equal one.limits other.limits (not-false (is_same_limits one.limits other.limits) none.1) in
      let output = (bytes_eq-Decides one.output other.output).0 (not-false (bytes_eq one.output other.output) none.2) in
      equal_files one other source limits workers output,
  λ same. subst (HasNoDifference one) same (
    not_from_true _ ((bytes_eq-Decides one.source one.source).1 refl),
    not_from_true _ (same_limits_self one.limits),
    not_from_true _ ((bytes_eq-Decides one.output one.output).1 refl),
  ),
)

-- ---- a text says one thing

-- where values without line feeds are followed by one, they are equal
same_value : (value other rest more : List ℕ) → ((i : ℕ) → i < length value → get_or value i 0 ≢ 10) → ((i : ℕ) → i < length other → get_or other i 0 ≢ 10)
    → value ++ 10 ∷ rest ≡ other ++ 10 ∷ more → (value ≡ other) × (rest ≡ more)
same_value [] [] rest more unbroken whole same = (refl, cc same)
same_value [] (c ∷ other) rest more unbroken whole same = absurd (whole 0 (omega arith) (cc same))
same_value (b ∷ value) [] rest more unbroken whole same = absurd (unbroken 0 (omega arith) (cc same))
same_value (b ∷ value) (c ∷ other) rest more unbroken whole same =
    let later = same_value value other rest more (λ i below. unbroken (suc i) (omega (arith, below))) (λ i below. whole (suc i) (omega (arith, below))) (cc same) in
    (cc (same, later.0), later.1)

-- lines with one name that have checksums
same_checksum : (name one other rest more : List ℕ) → IsChecksum one → IsChecksum other → line name (encode_lower one) rest ≡ line name (encode_lower other) more
    → (one ≡ other) × (rest ≡ more)
same_checksum name one other rest more is are same =
    let (texts, rests) = same_value (encode_lower one) (encode_lower other) rest more (λ i below. no_break_hex one i) (λ i below. no_break_hex other i)
    (append_cancel_left name (encode_lower one ++ 10 ∷ rest) (encode_lower other ++ 10 ∷ more) same) in
    let first = decode_sized-encode_lower one 32 is.0 is.1 in
    let second = decode_sized-encode_lower other 32 are.0 are.1 in
    (cc (first, second, texts), rests)

-- lines with one name that have numbers
same_number : (name : List ℕ) (one other : ℕ) (rest more : List ℕ) → one < 2 ^ 64 → other < 2 ^ 64 → line name (decimal one) rest ≡ line name (decimal other) more
    → (one ≡ other) × (rest ≡ more)
same_number name one other rest more small smaller same =
    let (texts, rests) = same_value (decimal one) (decimal other) rest more (no_break_decimal one small) (no_break_decimal other smaller)
    (append_cancel_left name (decimal one ++ 10 ∷ rest) (decimal other ++ 10 ∷ more) same) in
    (decimal_injective one other small smaller texts, rests)

-- the lines after that of the budget, of the most words and of the words
abbrev after_budget : Limits → List ℕ → List ℕ
after_budget l rest = line (codes "depth: ") (decimal l.depth) rest

abbrev after_max_words : Limits → List ℕ → List ℕ
after_max_words l rest = line (codes "budget: ") (decimal l.budget) (after_budget l rest)

abbrev after_words : Limits → List ℕ → List ℕ
after_words l rest = line (codes "max-words: ") (decimal l.max_words) (after_max_words l rest)

fits : (n most : ℕ) → n ≤ most → most < 2 ^ 64 → n < 2 ^ 64
fits n most below small = omega (arith, below, small)

same_limit_lines : (one other : Limits) (rest more : List ℕ) → AreWithin one → AreWithin other → limits_text one rest ≡ limits_text other more
    → (one ≡ other) × (rest ≡ more)
same_limit_lines one other rest more is are same =
    let words = same_number (codes "words: ") one.words other.words (after_words one rest) (after_words other more)
    (fits one.words MOST_WORDS is.words.1 (lit< tt)) (fits other.words MOST_WORDS are.words.1 (lit< tt)) same in
    let max_words = same_number (codes "max-words: ") one.max_words other.max_words (after_max_words one rest) (after_max_words other more)
    (fits one.max_words MOST_WORDS is.max_words.1 (lit< tt)) (fits other.max_words MOST_WORDS are.max_words.1 (lit< tt)) words.1 in
    let budget = same_number (codes "budget: ") one.budget other.budget (after_budget one rest) (after_budget other more)
    (fits one.budget MOST_BUDGET is.budget.1 (lit< tt)) (fits other.budget MOST_BUDGET are.budget.1 (lit< tt)) max_words.1 in
    let depth = same_number (codes "depth: ") one.depth other.depth rest more
    (fits one.depth MOST_DEPTH is.depth.1 (lit< tt)) (fits other.depth MOST_DEPTH are.depth.1 (lit< tt)) budget.1 in
    (equal_limits one other words.0 max_words.0 budget.0 depth.0, depth.1)

-- files with one text say the same
pub one_text : (one other : RunFile) → IsRunFile one → IsRunFile other → text_of one ≡ text_of other → one ≡ other
one_text one other is are same =
    let first = append_cancel_left first_line (line (codes "source: ") (encode_lower one.source) (limits_text one.limits (last_text one)))
    (line (codes "source: ") (encode_lower other.source) (limits_text other.limits (last_text other))) same in
    let source = same_checksum (codes "source: ") one.source other.source (limits_text one.limits (last_text one)) (limits_text other.limits (last_text other))
    is.source are.source first in
    let limits = same_limit_lines one.limits other.limits (last_text one) (last_text other) (are_within one.limits is.limits) (are_within other.limits are.limits) source.1 in
    let workers = same_number (codes "workers: ") one.workers other.workers (line (codes "output: ") (encode_lower one.output) []) (line (codes "output: ") (encode_lower other.output) [])
    (fits one.workers MOST_WORKERS is.workers.1 (lit< tt)) (fits other.workers MOST_WORKERS are.workers.1 (lit< tt)) limits.1 in
    let output = same_checksum (codes "output: ") one.output other.output [] [] is.output are.output workers.1 in
    equal_files one other source.0 limits.0 workers.0 output.0
