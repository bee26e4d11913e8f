-- The items of a schedule's text: an event, and how many times it occurs (this profile).
use Rattle.std.specs.Prelude.{◌≡◌, ◌==◌, ◌<◌, ◌⊎◌, ◌++◌, ◌^◌, ◌-◌, ◌||◌, not, ℕ, Bool, true, false, IsTrue, List, [], ◌∷◌, length, min, nat_lt, if◌then◌else◌, codes, decimal, filter, replicate}
use Rattle.std.specs.Char.{is_ascii_digit}
use Rattle.std.specs.List.{flat_map, list_all, slice_split}
use Rattle.std.specs.Str.Parse.{digits_value}
use Rattle.cil_model.specs.declared.events.Event.{Event}
use Rattle.cil_model.specs.declared.events.Event.TheVariants.{Step, Ack, Gc}
use Rattle.cil_model.specs.declared.limits.TheConstants.{MOST_THREADS}
use Rattle.schedule_text.specs.declared.items.Item.{Item}

-- tab, line feed, carriage return and space
abbrev pub is_separator : ℕ → Bool
is_separator byte = (byte == 9) || ((byte == 10) || ((byte == 13) || (byte == 32)))

-- the words of a text: what is between separators, where anything is
abbrev pub words : List ℕ → List (List ℕ)
words text = filter (λ word. not (length word == 0)) (slice_split is_separator text)

-- `0`, or decimal digits with no leading zero
abbrev pub is_number : List ℕ → Bool
is_number [] = false
is_number (digit ∷ digits) =
    if digit == 48 then length digits == 0 else list_all is_ascii_digit (digit ∷ digits)

-- these digits write the number, which may be of any size
abbrev pub IsNumber : List ℕ → ℕ → Type 0
IsNumber digits number = IsTrue (is_number digits) × (number ≡ digits_value 10 digits)

-- the word names the event: `s` and a thread's number for its step, `a` and a thread's number for its
-- acknowledgement, `g` for an event of the collector; the number may be of any size
abbrev pub Names : List ℕ → Event → Type 0
Names word (Step thread) = (digits : List ℕ) × (word ≡ 115 ∷ digits) × IsNumber digits thread
Names word (Ack thread) = (digits : List ℕ) × (word ≡ 97 ∷ digits) × IsNumber digits thread
Names word Gc = word ≡ 103 ∷ []

-- the word is the item: the event's name alone for one, or with `*` and a count of at least 1 after it
abbrev pub IsItem : List ℕ → Item → Type 0
IsItem word item = (Names word item.event × (item.count ≡ 1))
    ⊎ ((name : List ℕ) × (digits : List ℕ) × (word ≡ name ++ 42 ∷ digits) × Names name item.event
    × IsNumber digits item.count × (0 < item.count))

-- each word is the item at its position, and there are no others
abbrev pub AreItems : List (List ℕ) → List Item → Type 0
AreItems [] [] = Unit {0}
AreItems [] (item ∷ items) = ⊥
AreItems (word ∷ words) [] = ⊥
AreItems (word ∷ words) (item ∷ items) = IsItem word item × AreItems words items

-- the events that items represent, in their order
abbrev pub events_of : List Item → List Event
events_of items = flat_map (λ item. replicate item.count item.event) items

-- the thread is one that a machine can have
abbrev pub has_thread_number : Event → Bool
has_thread_number (Step thread) = nat_lt thread MOST_THREADS
has_thread_number (Ack thread) = nat_lt thread MOST_THREADS
has_thread_number Gc = true

-- an item represents no events of another thread
abbrev pub has_good_events : Item → Bool
has_good_events item = (item.count == 0) || has_thread_number item.event

-- the name that is written for an event
abbrev pub name_of : Event → List ℕ
name_of (Step thread) = codes "s" ++ decimal thread
name_of (Ack thread) = codes "a" ++ decimal thread
name_of Gc = codes "g"

-- the text that is written for an item
abbrev pub item_text : Item → List ℕ
item_text item =
    if item.count == 1 then name_of item.event
    else name_of item.event ++ codes "*" ++ decimal item.count

-- `*`
abbrev pub is_star : ℕ → Bool
is_star byte = byte == 42

-- whether two events are the same
abbrev pub same_event : Event → Event → Bool
same_event (Step thread) (Step other) = thread == other
same_event (Ack thread) (Ack other) = thread == other
same_event Gc Gc = true
same_event event other = false

-- a text, and a space after it where there is one
abbrev pub separate_words : List ℕ → List ℕ
separate_words [] = []
separate_words (byte ∷ bytes) = (byte ∷ bytes) ++ codes " "

-- ---- what represents an item whose numbers are too great for the types of the program

-- 255 for a greater number of a thread
abbrev pub capped_event : Event → Event
capped_event (Step thread) = Step (min thread 255)
capped_event (Ack thread) = Ack (min thread 255)
capped_event Gc = Gc

-- the greatest number of 32 bits for a greater count
abbrev pub capped_item : Item → Item
capped_item item = record { event = capped_event item.event; count = min item.count (2 ^ 32 - 1) }
