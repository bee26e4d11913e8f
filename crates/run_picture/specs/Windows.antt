-- The events that a picture shows (this profile).
use Rattle.std.specs.Prelude.{◌&&◌, ◌+◌, ◌-◌, nat_le, nat_lt, min, ℕ, Bool}
use Rattle.run_picture.specs.declared.windows.TheConstants.{MOST_EVENTS}
use Rattle.run_picture.specs.declared.windows.Window.{Window}

-- the first of the window's events, at most the number that a picture has
abbrev pub clamp : Window → Window
clamp w = record { first = w.first; last = min w.last (w.first + (MOST_EVENTS - 1)) }

-- whether the event of this number, from 0, is in a window, whose numbers are from 1
abbrev pub is_in_window : Window → ℕ → Bool
is_in_window w n = nat_le (w.first - 1) n && nat_lt n w.last
