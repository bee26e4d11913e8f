-- The paths of rows, and words, in a text.
use Rattle.std.specs.Prelude.{◌≡◌, ◌<◌, ◌++◌, ◌⊎◌, ℕ, List, [], get_or, length, Option, Some, None, option_map}
use Rattle.event_rows.specs.Rows.{rows_of, path_text}
use Rattle.event_rows.specs.declared.Span.{Span}
use Rattle.svg_text.specs.Elements.{escape}

-- a text has another one in it
abbrev pub Has : List ℕ → List ℕ → Type 0
Has whole part = (before : List ℕ) × (after : List ℕ) × (whole ≡ before ++ part ++ after)

-- a text has the path of a row that draws exactly these numbers, at some height
abbrev pub HasRow : List ℕ → List ℕ → Type 0
HasRow text numbers = (spans : List Span) × (y : ℕ) × (rows_of spans ≡ numbers) × Has text (escape (path_text y spans))

-- content has the path of each of these rows, unless it is lost
abbrev pub HasPaths : Option (List ℕ) → List (List ℕ) → Type 0
HasPaths None rows = Unit {0}
HasPaths (Some text) rows = (row : ℕ) → row < length rows → HasRow text (get_or rows row [])

-- content has these words, unless it is lost
abbrev pub HasWords : Option (List ℕ) → List ℕ → Type 0
HasWords None words = Unit {0}
HasWords (Some text) words = Has text (escape words)

-- content is lost, or the path of a row is added to it
abbrev pub Draws : Option (List ℕ) → Option (List ℕ) → List ℕ → Type 0
Draws old new numbers = (new ≡ None) ⊎ ((more : List ℕ) × HasRow more numbers × (new ≡ option_map (λ text. text ++ more) old))
