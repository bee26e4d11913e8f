-- What stores, births and comparisons of references do to what the heap and the static fields hold, by the phase that the thread has
-- acknowledged (Hudson and Moss, "Sapphire"; this profile). Each rule of an instruction, a monitor or a start of a thread cites these.
use Rattle.std.specs.Prelude.{ℕ, ◌==◌, ◌&&◌, if◌then◌else◌, nat_lt, Bool, true, List, length, Option, is_some, slice_set}
use Rattle.std.specs.Option.{option_map_or}
use Rattle.cil_model.specs.declared.phases.Phase.{Phase}
use Rattle.cil_model.specs.declared.phases.Phase.TheVariants.{Idle, Mark, Allocate, Copy, PreFlip, HeapFlip, ThreadFlip, Reclaim}
use Rattle.cil_model.specs.PhaseOrder.{is_between}
use Rattle.object_memory.specs.declared.addresses.Addr.{Addr}
use Rattle.object_memory.specs.declared.kinds.Kind.{Kind}
use Rattle.object_memory.specs.declared.monitors.Monitor.{Monitor}
use Rattle.object_memory.specs.declared.values.Value.{Value}
use Rattle.object_memory.specs.declared.values.Value.TheVariants.{Int32, Int64, Native, Ref}
use Rattle.object_memory.specs.Cells.{Cell, literal_number, store_slot, store_monitor}
use Rattle.object_memory.specs.Spaces.{change_copies, forward, is_old, is_there, is_within_cycle, other_of}
use Rattle.object_memory.specs.Objects.{Objects, object_cell, object_slots, with_birth, with_literal_monitor, with_mark, with_monitor, with_slot}
use Rattle.object_memory.specs.Values.{value_word}

-- ---- marks and forwards of values: integers have none

-- the objects once the object of a reference is marked
abbrev pub with_marked : Objects → Value → Objects
with_marked o (Ref a) = (with_mark o a).0
with_marked o (Int32 n) = o
with_marked o (Int64 n) = o
with_marked o (Native n) = o

-- the reference of the other copy, in place of an old object's
abbrev pub forward_value : Objects → Value → Value
forward_value o (Ref a) = Ref (forward o.spaces a)
forward_value o (Int32 n) = Int32 n
forward_value o (Int64 n) = Int64 n
forward_value o (Native n) = Native n

-- ---- what is there

-- an integer, or a reference of what is there
abbrev pub is_value_in_heap : Objects → Value → Bool
is_value_in_heap o (Ref a) = is_there o.spaces a
is_value_in_heap o (Int32 n) = true
is_value_in_heap o (Int64 n) = true
is_value_in_heap o (Native n) = true

-- the other copy of an object, where it has one, has a slot of this number too
abbrev pub other_has_slot : Objects → Addr → ℕ → Bool
other_has_slot o a slot = option_map_or (λ b. nat_lt slot (length (object_slots o b))) (other_of (object_cell o a)) true

-- the other copy of an object lies there, where it has one
abbrev pub is_other_in_heap : Objects → Addr → Bool
is_other_in_heap o a = option_map_or (λ b. is_some (object_cell o b)) (other_of (object_cell o a)) true

-- ---- both copies

-- A store that changes the old copy of an object in one way and the new one in another, through the address of either. An object of one copy
-- has its own way.
abbrev pub with_both : (Cell → Cell) → (Cell → Cell) → Objects → Addr → Objects
with_both f g o a = record o { spaces = if is_old o.spaces a then change_copies f g o.spaces a else change_copies g f o.spaces a }

abbrev pub with_both_slots : Objects → Addr → ℕ → (old new : Value) → Objects
with_both_slots o a slot v w = with_both (store_slot slot (value_word v)) (store_slot slot (value_word w)) o a

abbrev pub with_both_monitors : Objects → Addr → Monitor → Objects
with_both_monitors o a m = with_both (store_monitor m) (store_monitor m) o a

-- ---- stores of values

-- a value in a field or an element
abbrev pub stored_value : Phase → Objects → Addr → ℕ → Value → Objects
stored_value Idle o a slot v = with_slot o a slot (value_word v)
stored_value Mark o a slot v = with_slot (with_marked o v) a slot (value_word v)
stored_value Allocate o a slot v = with_slot o a slot (value_word v)
stored_value Copy o a slot v = with_both_slots o a slot v (forward_value o v)
stored_value PreFlip o a slot v = with_both_slots o a slot v (forward_value o v)
stored_value HeapFlip o a slot v = with_both_slots o a slot v (forward_value o v)
stored_value ThreadFlip o a slot v = with_both_slots o a slot v v
stored_value Reclaim o a slot v = with_slot o a slot (value_word v)

-- whether it can be stored there: a mark takes an open cycle and a value of this heap, and both copies have the slot where both are changed
abbrev pub is_storable : Phase → Objects → Addr → ℕ → Value → Bool
is_storable Idle o a slot v = true
is_storable Mark o a slot v = o.spaces.is_open && is_value_in_heap o v
is_storable Allocate o a slot v = true
is_storable Copy o a slot v = is_value_in_heap o v && other_has_slot o a slot
is_storable PreFlip o a slot v = is_value_in_heap o v && other_has_slot o a slot
is_storable HeapFlip o a slot v = is_value_in_heap o v && other_has_slot o a slot
is_storable ThreadFlip o a slot v = other_has_slot o a slot
is_storable Reclaim o a slot v = true

-- a reference
abbrev pub stored_ref : Phase → Objects → Addr → ℕ → Addr → Objects
stored_ref phase o a slot reference = stored_value phase o a slot (Ref reference)

-- ---- stores of what is no reference

-- whether a store reaches both copies of an object
abbrev pub reaches_both : Phase → Bool
reaches_both p = is_between Copy ThreadFlip p

-- a word that is no reference: an integer's, or the one that identifies the thread that was started on an object
abbrev pub stored_int : Phase → Objects → Addr → (slot word : ℕ) → Objects
stored_int phase o a slot word =
    if reaches_both phase then with_both (store_slot slot word) (store_slot slot word) o a else with_slot o a slot word

-- whether it can be stored there: both copies have the slot where both are changed
abbrev pub is_word_storable : Phase → Objects → Addr → ℕ → Bool
is_word_storable phase o a slot = if reaches_both phase then other_has_slot o a slot else true

-- the monitor of an object or a literal, which has no other copy
abbrev pub stored_monitor : Phase → Objects → Addr → Monitor → Objects
stored_monitor phase o a m =
    if reaches_both phase then option_map_or (with_literal_monitor o m) (literal_number a) (with_both_monitors o a m) else with_monitor o a m

-- whether it can be stored there: the other copy is there where both are changed
abbrev pub is_monitor_storable : Phase → Objects → Addr → Bool
is_monitor_storable phase o a = if reaches_both phase then is_other_in_heap o a else true

-- ---- static fields

-- a static field, by its number, and what the objects are then
abbrev pub stored_static : Phase → Objects → List Value → ℕ → Value → Objects × List Value
stored_static Idle o statics number v = (o, slice_set statics number v)
stored_static Mark o statics number v = (with_marked o v, slice_set statics number v)
stored_static Allocate o statics number v = (o, slice_set statics number v)
stored_static Copy o statics number v = (o, slice_set statics number v)
stored_static PreFlip o statics number v = (o, slice_set statics number (forward_value o v))
stored_static HeapFlip o statics number v = (o, slice_set statics number (forward_value o v))
stored_static ThreadFlip o statics number v = (o, slice_set statics number v)
stored_static Reclaim o statics number v = (o, slice_set statics number v)

-- whether it can be stored: a mark takes an open cycle, and a mark and a forward a value of this heap
abbrev pub is_static_storable : Phase → Objects → Value → Bool
is_static_storable Idle o v = true
is_static_storable Mark o v = o.spaces.is_open && is_value_in_heap o v
is_static_storable Allocate o v = true
is_static_storable Copy o v = true
is_static_storable PreFlip o v = is_value_in_heap o v
is_static_storable HeapFlip o v = is_value_in_heap o v
is_static_storable ThreadFlip o v = true
is_static_storable Reclaim o v = true

-- ---- births

-- the objects with one more, of this number of slots, and its address; as they were where it exceeds the room
abbrev pub object_born : Phase → Objects → Kind → ℕ → Objects × Option Addr
object_born phase o kind slots = with_birth phase o kind slots

-- whether a thread in this phase can bear: some phases are of an open cycle alone
abbrev pub can_allocate : Phase → Objects → Bool
can_allocate phase o = if is_within_cycle phase then o.spaces.is_open else true

-- ---- references

-- whether references are compared by their forwards: in the phases in which a thread may meet the addresses of both copies
abbrev pub compares_forwards : Phase → Bool
compares_forwards p = is_between Copy HeapFlip p

-- the address by which a reference is compared
abbrev pub comparison_address : Phase → Objects → Addr → Addr
comparison_address phase o a = if compares_forwards phase then forward o.spaces a else a

-- whether they can be compared: a forward is that of something that is there
abbrev pub are_comparable : Phase → Objects → Addr → Addr → Bool
are_comparable phase o a b = if compares_forwards phase then is_there o.spaces a && is_there o.spaces b else true

-- the test of it (III.1.5, table 4)
abbrev pub are_same : Phase → Objects → Addr → Addr → Bool
are_same phase o a b = (comparison_address phase o a).number == (comparison_address phase o b).number
