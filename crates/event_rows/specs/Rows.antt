-- The events of a row of a picture (this profile).
use Rattle.std.specs.Prelude.{◌+◌, ◌++◌, ℕ, zero, suc, List, [], ◌∷◌, Option, Some, None, codes, decimal}
use Rattle.std.specs.List.{flat_map}
use Rattle.event_rows.specs.declared.Span.{Span}

-- the numbers from one on, given how many
abbrev pub numbers_from : ℕ → ℕ → List ℕ
numbers_from first zero = []
numbers_from first (suc n) = numbers_from first n ++ (first + n) ∷ []

-- the events that a span draws
abbrev pub drawn_by : Span → List ℕ
drawn_by s = numbers_from s.first s.count

abbrev pub drawn_by_last : Option Span → List ℕ
drawn_by_last None = []
drawn_by_last (Some s) = drawn_by s

-- the events that spans draw, in order
abbrev pub rows_of : List Span → List ℕ
rows_of spans = flat_map drawn_by spans

-- the text of a span at this height: M, where it begins, h, and how long it is
abbrev pub span_text : ℕ → Span → List ℕ
span_text y s = codes "M" ++ decimal s.first ++ codes " " ++ decimal y ++ codes "h" ++ decimal s.count

-- the texts of spans at this height, in order
abbrev pub path_text : ℕ → List Span → List ℕ
path_text y spans = flat_map (span_text y) spans
