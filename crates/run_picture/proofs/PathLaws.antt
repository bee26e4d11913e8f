-- Paths and words in content that grows.
use Rattle.std.proofs.Common.{◌≡◌, ◌==◌, ◌+◌, ◌<◌, ◌++◌, ◌⊎◌, ℕ, true, List, [], ◌∷◌, get_or, length, Option, Some, None, option_map, inl, inr, refl, sym, ap, subst, ◌∙◌, arith, append-nil, append_assoc}
use Rattle.std.proofs.lemmas.Bool.Decides.{nat_tests}
use Rattle.event_rows.specs.Rows.{rows_of, path_text}
use Rattle.event_rows.specs.declared.Span.{Span}
use Rattle.svg_text.specs.Contents.{Adds, AddsIfWhole}
use Rattle.svg_text.specs.Elements.{element_text, escape, start_text, tag_text}
use Rattle.svg_text.specs.declared.markup.Attribute.{Attribute}
use Rattle.svg_text.specs.declared.markup.Tag.{Tag}
use Rattle.run_picture.specs.Paths.{Draws, Has, HasPaths, HasRow, HasWords}

-- text around
has_around : (before whole after part : List ℕ) → Has whole part → Has (before ++ whole ++ after) part
has_around before whole after part h = (before ++ h.0, h.1 ++ after, ap (λ l. before ++ l ++ after) h.2 ∙ simp append_assoc)

has_after : (before whole part : List ℕ) → Has whole part → Has (before ++ whole) part
has_after before whole part h = subst (λ l. Has l part) (append-nil (before ++ whole)) (has_around before whole [] part h)

has_before : (whole after part : List ℕ) → Has whole part → Has (whole ++ after) part
has_before whole after part h = has_around [] whole after part h

row_around : (before whole after numbers : List ℕ) → HasRow whole numbers → HasRow (before ++ whole ++ after) numbers
row_around before whole after numbers h = (h.0, h.1, h.2, has_around before whole after (escape (path_text h.1 h.0)) h.3)

row_after : (before whole numbers : List ℕ) → HasRow whole numbers → HasRow (before ++ whole) numbers
row_after before whole numbers h = (h.0, h.1, h.2, has_after before whole (escape (path_text h.1 h.0)) h.3)

row_before : (whole after numbers : List ℕ) → HasRow whole numbers → HasRow (whole ++ after) numbers
row_before whole after numbers h = (h.0, h.1, h.2, has_before whole after (escape (path_text h.1 h.0)) h.3)

-- ---- a row more

pub nothing_at_zero : (bytes : List ℕ) → (length bytes == 0) ≡ true → bytes ≡ []
nothing_at_zero [] h = refl
nothing_at_zero (x ∷ xs) h = absurd (grind (arith, nat_tests, h))

pub row_nothing : (old : Option (List ℕ)) (spans : List Span) (y : ℕ) (bytes numbers : List ℕ) → rows_of spans ≡ numbers → bytes ≡ path_text y spans → bytes ≡ [] → Draws old old numbers
row_nothing None spans y bytes numbers e same nothing = inl refl
row_nothing (Some text) spans y bytes numbers e same nothing = inr ([], (spans, y, e, ([], [], ap (λ d. escape d ++ []) (sym nothing ∙ same))), ap Some (sym (append-nil text)))

-- the rows before this one
abbrev pub HasPathsBefore : Option (List ℕ) → List (List ℕ) → ℕ → Type 0
HasPathsBefore None rows n = Unit {0}
HasPathsBefore (Some text) rows n = (row : ℕ) → row < n → HasRow text (get_or rows row [])

nat_split : (row n : ℕ) → row < n + 1 → (row < n) ⊎ (row ≡ n)
nat_split row n within = grind arith

pub paths_more : (old new : Option (List ℕ)) (rows : List (List ℕ)) (n : ℕ) → HasPathsBefore old rows n → Draws old new (get_or rows n []) → HasPathsBefore new rows (n + 1)
paths_more old new rows n h (inl lost) = subst (λ o. HasPathsBefore o rows (n + 1)) (sym lost) tt
paths_more None new rows n h (inr added) = subst (λ o. HasPathsBefore o rows (n + 1)) (sym added.2) tt
paths_more (Some text) new rows n h (inr added) = subst (λ o. HasPathsBefore o rows (n + 1)) (sym added.2) each
  where
    each : (row : ℕ) → row < n + 1 → HasRow (text ++ added.0) (get_or rows row [])
    each row within = elim (nat_split row n within) [
      | inl below ↦ row_before text added.0 (get_or rows row []) (h row below)
      | inr here ↦ row_after text added.0 (get_or rows row []) (subst (λ k. HasRow added.0 (get_or rows k [])) (sym here) added.1)
    ]

-- ---- content around content

-- an element is what stands in it, with text around
element_split : (tag : Tag) (attributes : List Attribute) (inside : List ℕ) →
    (start_text tag attributes ++ 62 ∷ []) ++ inside ++ (60 ∷ 47 ∷ (tag_text tag ++ 62 ∷ 10 ∷ [])) ≡ element_text tag attributes inside
element_split tag attributes inside = simp append_assoc

in_element : (tag : Tag) (attributes : List Attribute) (inside part : List ℕ) → Has inside part → Has (element_text tag attributes inside) part
in_element tag attributes inside part h =
    subst (λ t. Has t part) (element_split tag attributes inside) (has_around (start_text tag attributes ++ 62 ∷ []) inside (60 ∷ 47 ∷ (tag_text tag ++ 62 ∷ 10 ∷ [])) part h)

row_in_element : (tag : Tag) (attributes : List Attribute) (inside numbers : List ℕ) → HasRow inside numbers → HasRow (element_text tag attributes inside) numbers
row_in_element tag attributes inside numbers h =
    subst (λ t. HasRow t numbers) (element_split tag attributes inside) (row_around (start_text tag attributes ++ 62 ∷ []) inside (60 ∷ 47 ∷ (tag_text tag ++ 62 ∷ 10 ∷ [])) numbers h)

pub paths_around : (old new inside : Option (List ℕ)) (tag : Tag) (attributes : List Attribute) (rows : List (List ℕ)) → AddsIfWhole old new inside (λ text. element_text tag attributes text) → HasPaths inside rows → HasPaths new rows
paths_around old new None tag attributes rows lost h = subst (λ o. HasPaths o rows) (sym lost) tt
paths_around old new (Some inside) tag attributes rows (inl lost) h = subst (λ o. HasPaths o rows) (sym lost) tt
paths_around None new (Some inside) tag attributes rows (inr added) h = subst (λ o. HasPaths o rows) (sym added) tt
paths_around (Some old) new (Some inside) tag attributes rows (inr added) h =
    subst (λ o. HasPaths o rows) (sym added) (λ row within. row_after old (element_text tag attributes inside) (get_or rows row []) (row_in_element tag attributes inside (get_or rows row []) (h row within)))

pub words_in_element : (old new : Option (List ℕ)) (tag : Tag) (attributes : List Attribute) (words : List ℕ) → old ≡ Some [] → Adds old new (element_text tag attributes (escape words)) → HasWords new words
words_in_element old new tag attributes words empty (inl lost) = subst (λ o. HasWords o words) (sym lost) tt
words_in_element old new tag attributes words empty (inr added) =
    subst (λ o. HasWords o words) (sym (added ∙ ap (option_map (λ text. text ++ element_text tag attributes (escape words))) empty))
    (in_element tag attributes (escape words) (escape words) ([], [], sym (append-nil (escape words))))

pub no_words : (text : Option (List ℕ)) (words : List ℕ) → text ≡ Some [] → words ≡ [] → HasWords text words
no_words text words empty none = subst (λ o. HasWords o words) (sym empty) (subst (λ l. Has [] (escape l)) (sym none) ([], [], refl))

pub words_after : (old new more : Option (List ℕ)) (words : List ℕ) → AddsIfWhole old new more (λ text. text) → HasWords more words → HasWords new words
words_after old new None words lost h = subst (λ o. HasWords o words) (sym lost) tt
words_after old new (Some more) words (inl lost) h = subst (λ o. HasWords o words) (sym lost) tt
words_after None new (Some more) words (inr added) h = subst (λ o. HasWords o words) (sym added) tt
words_after (Some old) new (Some more) words (inr added) h = subst (λ o. HasWords o words) (sym added) (has_after old more (escape words) h)

pub words_in_document : (page : Option (List ℕ)) (inside document : List ℕ) (tag : Tag) (attributes : List Attribute) (words : List ℕ) → page ≡ Some inside → document ≡ element_text tag attributes inside → HasWords page words → Has document (escape words)
words_in_document page inside document tag attributes words is same h =
    subst (λ t. Has t (escape words)) (sym same) (in_element tag attributes inside (escape words) (subst (λ o. HasWords o words) is h))

pub paths_before : (old new more : Option (List ℕ)) (rows : List (List ℕ)) → AddsIfWhole old new more (λ text. text) → HasPaths old rows → HasPaths new rows
paths_before old new None rows lost h = subst (λ o. HasPaths o rows) (sym lost) tt
paths_before old new (Some more) rows (inl lost) h = subst (λ o. HasPaths o rows) (sym lost) tt
paths_before None new (Some more) rows (inr added) h = subst (λ o. HasPaths o rows) (sym added) tt
paths_before (Some old) new (Some more) rows (inr added) h = subst (λ o. HasPaths o rows) (sym added) (λ row within. row_before old more (get_or rows row []) (h row within))

pub paths_in_document : (page : Option (List ℕ)) (inside document : List ℕ) (tag : Tag) (attributes : List Attribute) (rows : List (List ℕ)) → page ≡ Some inside → document ≡ element_text tag attributes inside → HasPaths page rows →
    (row : ℕ) → row < length rows → HasRow document (get_or rows row [])
paths_in_document page inside document tag attributes rows is same h row within =
    let k : HasPaths (Some inside) rows = subst (λ o. HasPaths o rows) is h in
    subst (λ t. HasRow t (get_or rows row [])) (sym same) (row_in_element tag attributes inside (get_or rows row []) (k row within))
