-- Which events a part of a run has (this profile).
use Rattle.std.specs.Prelude.{◌+◌, ◌-◌, ℕ, Option, min}
use Rattle.std.specs.Option.{option_map_or}

-- the number of its last event in a run of this number of events: the run's last one where none is named, or where the named one is after it
abbrev pub last_in : Option ℕ → ℕ → ℕ
last_in last events = option_map_or (min events) last events

-- how many events it has
abbrev pub count_in : ℕ → Option ℕ → ℕ → ℕ
count_in first last events = last_in last events + 1 - first
