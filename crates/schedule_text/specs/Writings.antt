-- What a list of events is written as (this profile).
use Rattle.std.specs.Prelude.{◌≡◌, ◌≢◌, ◌<◌, ◌≤◌, ◌++◌, ℕ, IsTrue, false, All, List, ◌∷◌, length, map}
use Rattle.std.specs.List.{join_with_byte, list_all}
use Rattle.cil_model.specs.declared.events.Event.{Event}
use Rattle.schedule_text.specs.Items.{events_of, has_thread_number, item_text}
use Rattle.schedule_text.specs.declared.errors.ScheduleError.{ScheduleError}
use Rattle.schedule_text.specs.declared.errors.ScheduleError.TheVariants.{NoItem, NoThread, TooLong, OutOfMemory}
use Rattle.schedule_text.specs.declared.errors.TheConstants.{MOST_EVENTS}
use Rattle.schedule_text.specs.declared.items.Item.{Item}

-- the longest runs of equal events: together they are the list, none is empty, and no two neighbours
-- are of one event
pub record AreRuns (events : List Event) (items : List Item) : Type 0 where
  pub together : events ≡ events_of items
  pub filled : All (λ item. 0 < item.count) items
  pub apart : (before after : List Item) (first second : Item) → items ≡ before ++ first ∷ second ∷ after → first.event ≢ second.event

-- one item a run, with one space between two
abbrev pub IsTextOf : List Event → List ℕ → Type 0
IsTextOf events text =
    (items : List Item) × AreRuns events items × (text ≡ join_with_byte 32 (map item_text items))

-- a schedule that can be written
abbrev pub IsWritable : List Event → Type 0
IsWritable events = (length events ≤ MOST_EVENTS) × IsTrue (list_all has_thread_number events)

-- the text is what the list is written as
abbrev pub IsWritten : List Event → List ℕ → Type 0
IsWritten events text = IsWritable events × IsTextOf events text

-- why a list is not written
abbrev pub IsNotWritten : List Event → ScheduleError → Type 0
IsNotWritten events NoItem = ⊥
IsNotWritten events NoThread = (length events ≤ MOST_EVENTS) × (list_all has_thread_number events ≡ false)
IsNotWritten events TooLong = MOST_EVENTS < length events
IsNotWritten events OutOfMemory = IsWritable events
