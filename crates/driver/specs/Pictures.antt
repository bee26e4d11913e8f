-- Which events of a run a picture shows, and what is reported where they are too many (this profile).
use Rattle.std.specs.Fmt.{decimal}
use Rattle.std.specs.Prelude.{◌++◌, ◌∷◌, [], ◌/◌, ◌%◌, ℕ, List, codes, nat_lt, if◌then◌else◌}
use Rattle.commands.specs.Orders.{last_of}
use Rattle.commands.specs.declared.part.Part.{Part}
use Rattle.run_picture.specs.declared.windows.Window.{Window}

-- the events that are drawn of a run with this number of events
abbrev pub window_of : Part → ℕ → Window
window_of part events = record { first = part.first; last = last_of part events }

-- the last three digits of a number
abbrev pub last_three : ℕ → List ℕ
last_three n = decimal (n / 100 % 10) ++ decimal (n / 10 % 10) ++ decimal (n % 10)

-- a number of four digits or more, with a comma before the last three and before the three before them
abbrev pub group_digits : ℕ → List ℕ
group_digits n = if nat_lt n 1000000 then decimal (n / 1000) ++ codes "," ++ last_three n
    else decimal (n / 1000000) ++ codes "," ++ last_three (n / 1000) ++ codes "," ++ last_three n

-- the line that reports that a picture would have this number of events
abbrev pub too_many_text : ℕ → List ℕ
too_many_text count = codes "cilvm: " ++ (group_digits count ++ (codes " events: a picture has 20,000 at most; choose them by --from and --to" ++ 10 ∷ []))
