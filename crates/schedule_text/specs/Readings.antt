-- What the text of a schedule is read as (this profile).
use Rattle.std.specs.Prelude.{◌≡◌, ◌<◌, ◌≤◌, ◌+◌, ◌++◌, ℕ, IsTrue, false, List, ◌∷◌, length, replicate}
use Rattle.std.specs.List.{list_all}
use Rattle.cil_model.specs.declared.events.Event.{Event}
use Rattle.schedule_text.specs.Items.{IsItem, AreItems, events_of, has_thread_number}
use Rattle.schedule_text.specs.declared.errors.ScheduleError.{ScheduleError}
use Rattle.schedule_text.specs.declared.errors.ScheduleError.TheVariants.{NoItem, NoThread, TooLong, OutOfMemory}
use Rattle.schedule_text.specs.declared.errors.TheConstants.{MOST_EVENTS}
use Rattle.schedule_text.specs.declared.items.Item.{Item}

-- the words are items that represent these events, each of a thread that a machine can have, and no
-- more events than a schedule has
abbrev pub AreRead : List (List ℕ) → List Event → Type 0
AreRead words events = (items : List Item) × AreItems words items × (events ≡ events_of items)
    × IsTrue (list_all has_thread_number events) × (length events ≤ MOST_EVENTS)

-- a good item's events follow those before it
abbrev pub IsAdded : List Event → Item → List Event → Type 0
IsAdded before item after = IsTrue (has_thread_number item.event) × (length before + item.count ≤ MOST_EVENTS)
    × (after ≡ before ++ replicate item.count item.event)

-- what may be found of an item of the right form, after this number of events
abbrev pub IsFaultOf : ℕ → Item → ScheduleError → Type 0
IsFaultOf before item NoItem = ⊥
IsFaultOf before item NoThread = has_thread_number item.event ≡ false
IsFaultOf before item TooLong = IsTrue (has_thread_number item.event) × (MOST_EVENTS < before + item.count)
-- memory is taken for good items alone
IsFaultOf before item OutOfMemory =
    IsTrue (has_thread_number item.event) × (before + item.count ≤ MOST_EVENTS)

-- the word is at fault, after this number of events
abbrev pub IsFaulty : ℕ → List ℕ → ScheduleError → Type 0
IsFaulty before word NoItem = (item : Item) → IsItem word item → ⊥
IsFaulty before word error = (item : Item) × IsItem word item × IsFaultOf before item error

-- the first of the words that is at fault has this fault: those before it are read
abbrev pub IsFirstFault : List (List ℕ) → ScheduleError → Type 0
IsFirstFault words error =
    (before : List (List ℕ)) × (word : List ℕ) × (after : List (List ℕ)) × (events : List Event)
    × (words ≡ before ++ word ∷ after) × AreRead before events
    × IsFaulty (length events) word error
