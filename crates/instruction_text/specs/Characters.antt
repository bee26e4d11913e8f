-- Names and string literals in printable characters (II.5.2).
use Rattle.std.specs.Prelude.{◌≡◌, ◌==◌, ◌/◌, ◌%◌, ◌++◌, if◌then◌else◌, ℕ, Bool, true, List, [], ◌∷◌, decimal, flat_map}
use Rattle.std.specs.List.{list_all}
use Rattle.cil_model.specs.Ranges.{is_between}

-- from the space to the tilde
abbrev pub is_printable : ℕ → Bool
is_printable c = is_between 32 126 c

-- a text of printable characters alone: it has neither a tab nor a line feed
abbrev pub IsPrintable : List ℕ → Type 0
IsPrintable cs = list_all is_printable cs ≡ true

-- the three octal digits of a byte
abbrev pub octal_text : ℕ → List ℕ
octal_text c = decimal (c / 64) ++ decimal (c / 8 % 8) ++ decimal (c % 8)

-- a line feed, a tab, a quote and a backslash are written after a backslash, and so are the octal digits of what is not printable
abbrev pub character_text : ℕ → List ℕ
character_text c =
    if c == 10 then 92 ∷ 110 ∷ []
    else if c == 9 then 92 ∷ 116 ∷ []
    else if c == 34 then 92 ∷ 34 ∷ []
    else if c == 92 then 92 ∷ 92 ∷ []
    else if is_printable c then c ∷ []
    else 92 ∷ octal_text c

-- one character after another
abbrev pub characters_text : List ℕ → List ℕ
characters_text cs = flat_map character_text cs
