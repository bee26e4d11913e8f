-- No line of a trace is empty.
use Rattle.std.proofs.Common.{◌≡◌, ◌==◌, ◌+◌, ◌++◌, ◌∙◌, ℕ, true, false, List, [], ◌∷◌, length, refl, sym, ap, append_assoc}
use Rattle.event_trace.proofs.Names.{and_parts, ne_eqb, recursion_from_All, AllByRecursion, join_with_byte, list_all, IsPrintable, is_printable, line_of, IsLineOf, LinesComeBefore, before_empty_line}
use Rattle.event_trace.proofs.ColumnLaws.{line_columns}

-- ---- bytes without a line feed

abbrev HasNoFeed : List ℕ → Type 0
HasNoFeed [] = Unit {0}
HasNoFeed (x ∷ xs) = (x == 10 ≡ false) × HasNoFeed xs

not_feed : (x : ℕ) → is_printable x ≡ true → x == 10 ≡ false
not_feed x printable = ne_eqb x 10 (λ is. let e : false ≡ true = sym (ap is_printable is) ∙ printable in absurd (cc e))

printable_bytes : (cs : List ℕ) → IsPrintable cs → HasNoFeed cs
printable_bytes [] h = tt
printable_bytes (x ∷ xs) h = let (first, rest) = and_parts (is_printable x) (list_all is_printable xs) h in (not_feed x first, printable_bytes xs rest)

both_parts : (xs ys : List ℕ) → HasNoFeed xs → HasNoFeed ys → HasNoFeed (xs ++ ys)
both_parts [] ys h k = k
both_parts (x ∷ xs) ys h k = (h.0, both_parts xs ys h.1 k)

joined_columns : (columns : List (List ℕ)) → AllByRecursion IsPrintable columns → HasNoFeed (join_with_byte 9 columns)
joined_columns [] h = tt
joined_columns (c ∷ []) h = printable_bytes c h.0
joined_columns (c ∷ d ∷ cs) h = both_parts c (9 ∷ join_with_byte 9 (d ∷ cs)) (printable_bytes c h.0) (refl, joined_columns (d ∷ cs) h.1)

-- ---- ten columns are not nothing

some_byte : (front more : List ℕ) → front ++ 9 ∷ more ≡ [] → ⊥
some_byte [] more h = absurd (cc h)
some_byte (x ∷ xs) more h = absurd (cc h)

some_column : (columns : List (List ℕ)) → length columns ≡ 10 → join_with_byte 9 columns ≡ [] → ⊥
some_column [] ten h = absurd (cc ten)
some_column (c ∷ []) ten h = absurd (cc ten)
some_column (c ∷ d ∷ cs) ten h = some_byte c (join_with_byte 9 (d ∷ cs)) h

-- ---- one line after another

-- to the end of a line that has begun
rest_of_line : (bytes more : List ℕ) → HasNoFeed bytes → before_empty_line false (bytes ++ 10 ∷ more) ≡ bytes ++ 10 ∷ before_empty_line true more
rest_of_line [] more h = refl
rest_of_line (x ∷ xs) more h = rw h.0 (ap (λ l. x ∷ l) (rest_of_line xs more h.1))

whole_line : (bytes more : List ℕ) → HasNoFeed bytes → (bytes ≡ [] → ⊥) → before_empty_line true (bytes ++ 10 ∷ more) ≡ bytes ++ 10 ∷ before_empty_line true more
whole_line [] more h some = absurd (some refl)
whole_line (x ∷ xs) more h some = rw h.0 (ap (λ l. x ∷ l) (rest_of_line xs more h.1))

line_then : (columns : List (List ℕ)) (line more : List ℕ) → length columns ≡ 10 → IsLineOf columns line → before_empty_line true (line ++ more) ≡ line ++ before_empty_line true more
line_then columns line more ten h =
    let bytes = join_with_byte 9 columns in
    ap (λ l. before_empty_line true (l ++ more)) h.is ∙ ap (before_empty_line true) (append_assoc bytes (10 ∷ []) more)
    ∙ whole_line bytes more (joined_columns columns (recursion_from_All IsPrintable columns h.printable)) (some_column columns ten)
    ∙ sym (append_assoc bytes (10 ∷ []) (before_empty_line true more)) ∙ ap (λ l. l ++ before_empty_line true more) (sym h.is)

pub lines_before : LinesComeBefore
lines_before n c d [] rs text printed h = ap (λ t. before_empty_line true (t ++ 10 ∷ printed)) h.2 ∙ sym h.2
lines_before n c d (e ∷ es) [] text printed h = absurd h
lines_before n c d (e ∷ es) (r ∷ rs) text printed h =
    let line = line_of n e r c h.0 in
    let (columns, ten, is) = line_columns n e r c h.0 in
    ap (λ t. before_empty_line true (t ++ 10 ∷ printed)) h.3 ∙ ap (before_empty_line true) (append_assoc line h.1 (10 ∷ printed))
    ∙ line_then columns line (h.1 ++ 10 ∷ printed) ten is ∙ ap (λ l. line ++ l) (lines_before (n + 1) h.0 d es rs h.1 printed h.4) ∙ sym h.3
