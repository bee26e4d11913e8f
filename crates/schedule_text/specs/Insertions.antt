-- Events that are put among others (this profile).
use Rattle.std.specs.Prelude.{◌≡◌, ◌<◌, ◌≤◌, ◌+◌, ◌++◌, ℕ, List, drop, length, take}
use Rattle.cil_model.specs.declared.events.Event.{Event}
use Rattle.schedule_text.specs.declared.errors.ScheduleError.{ScheduleError}
use Rattle.schedule_text.specs.declared.errors.ScheduleError.TheVariants.{NoItem, NoThread, TooLong, OutOfMemory}
use Rattle.schedule_text.specs.declared.errors.TheConstants.{MOST_EVENTS}

-- the first `at` events, the inserted ones, and the rest: no more than a schedule has
abbrev pub IsInserted : List Event → ℕ → List Event → List Event → Type 0
IsInserted events at inserted all =
    (length events + length inserted ≤ MOST_EVENTS) × (all ≡ take at events ++ inserted ++ drop at events)

-- why events are not put among others
abbrev pub IsNotInserted : List Event → List Event → ScheduleError → Type 0
IsNotInserted events inserted NoItem = ⊥
IsNotInserted events inserted NoThread = ⊥
IsNotInserted events inserted TooLong = MOST_EVENTS < length events + length inserted
IsNotInserted events inserted OutOfMemory = length events + length inserted ≤ MOST_EVENTS
