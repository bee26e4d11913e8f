-- Lists of events that have no text.
use Rattle.std.proofs.Common.{◌≡◌, ◌≢◌, ◌+◌, ◌<◌, ◌++◌, ◌∷◌, [], ℕ, List, length, get_or, take, Result, Ok, Err, refl, sym, ap, ◌∙◌, arith}
use Rattle.std.proofs.lemmas.List.{take_more}
use Rattle.std.specs.Prelude.{IfOk}
use Rattle.cil_model.specs.declared.events.Event.{Event}
use Rattle.schedule_text.specs.Items.{events_of}
use Rattle.schedule_text.specs.Writings.{IsNotWritten, IsWritable}
use Rattle.schedule_text.proofs.SoFar.{events_of-append}
use Rattle.schedule_text.specs.declared.items.Item.{Item}
use Rattle.schedule_text.specs.declared.errors.ScheduleError.{ScheduleError}
use Rattle.schedule_text.specs.declared.errors.ScheduleError.TheVariants.{NoItem, NoThread, TooLong, OutOfMemory}

pub if_ok : {T E : Type 0} {P Q : T → Type 0} (r : Result T E) → IfOk r P → ((x : T) → P x → Q x) → IfOk r Q
if_ok (Ok x) h f = f x h
if_ok (Err e) h f = tt

-- a list that is refused for another reason than memory can't be written
pub not_writable : (events : List Event) (error : ScheduleError) → error ≢ OutOfMemory → IsNotWritten events error → IsWritable events → ⊥
not_writable events NoItem other never can = never
not_writable events NoThread other bad can = absurd (cc (sym bad.1 ∙ can.1))
not_writable events TooLong other many can = omega (arith, many, can.0)
not_writable events OutOfMemory other never can = other refl

-- an event as an item
abbrev pub single : Event → Item
single event = record { event = event; count = 1 }

-- one event more
pub one_more : (items : List Item) (events : List Event) (i : ℕ) (d : Event) → i < length events → events_of items ≡ take i events
    → events_of (items ++ single (get_or events i d) ∷ []) ≡ take (i + 1) events
one_more items events i d below so_far =
    events_of-append items (single (get_or events i d) ∷ []) ∙ ap (λ es. es ++ get_or events i d ∷ []) so_far ∙ sym (take_more events i d below)
