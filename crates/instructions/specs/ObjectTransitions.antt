-- What instructions do to objects, arrays and static fields (III.4). A rule has no result where an operand is missing or of another
-- kind, or where there is no such object or slot: no verified program comes there.
use Rattle.std.specs.Prelude.{ℕ, ◌==◌, ◌&&◌, ℤ, pos, negsuc, if◌then◌else◌, nat_lt, List, length, Option, Some, None, option_map, slice_get}
use Rattle.cil_model.specs.declared.reports.Fault.TheVariants.{NullReference, IndexOutOfRange, Overflow, OutOfMemory}
use Rattle.cil_model.specs.declared.phases.Phase.{Phase}
use Rattle.object_memory.specs.declared.addresses.Addr.{Addr}
use Rattle.object_memory.specs.declared.kinds.ArrayElement.{ArrayElement}
use Rattle.object_memory.specs.declared.kinds.Kind.{Kind}
use Rattle.object_memory.specs.declared.kinds.Kind.TheVariants.{Array}
use Rattle.object_memory.specs.declared.values.Value.{Value}
use Rattle.object_memory.specs.declared.values.Value.TheVariants.{Int32, Native, Ref}
use Rattle.cil_model.specs.declared.values.ValueKind.{ValueKind}
use Rattle.object_memory.specs.Cells.{Cell}
use Rattle.object_memory.specs.Objects.{Objects, object_cell}
use Rattle.object_memory.specs.Values.{value_in}
use Rattle.barriers.specs.Barriers.{can_allocate, is_static_storable, is_storable, object_born, stored_static, stored_value}
use Rattle.threads_monitors.specs.Frames.{Frames}
use Rattle.threads_monitors.specs.declared.effects.Effect.{Effect}
use Rattle.threads_monitors.specs.declared.effects.Effect.TheVariants.{Raises}
use Rattle.instructions.specs.Frames.{Transition, when_some, with_top, value_pushed, onward}

-- the frames and the objects after an instruction, and its outcome; or it has no result
abbrev pub ObjectTransition : Type 0
ObjectTransition = Option (Frames × Objects × Effect)

-- a transition of the frames beside these objects
abbrev pub with_objects : Objects → Transition → ObjectTransition
with_objects o transition = option_map (λ (t : Frames × Effect). (t.0, o, t.1)) transition

-- ---- operands

-- the object of a reference; null raises the fault
abbrev pub object_of : Value → Frames → Objects → (Addr → ObjectTransition) → ObjectTransition
object_of (Ref a) m o go = if a.number == 0 then Some (m, o, Raises NullReference) else go a
object_of _ m o go = None

-- an index or a length: 32 bits or of the native size (III.4.8, III.4.20)
abbrev pub index_in : Value → Option ℤ
index_in (Int32 x) = Some x
index_in (Native x) = Some x
index_in _ = None

abbrev pub index_of : Value → (ℤ → ObjectTransition) → ObjectTransition
index_of v go = when_some (index_in v) go

-- ---- slots

-- the slots of the object at an address
abbrev pub slots_of : Objects → Addr → Option (List ℕ)
slots_of o a = option_map (λ (c : Cell). c.slots) (object_cell o a)

-- leaves the value of a slot, of its kind
abbrev pub load_slot : ValueKind → ℕ → Addr → Frames → Objects → ObjectTransition
load_slot kind slot a m o = when_some (slots_of o a) (λ slots. when_some (slice_get slots slot) (λ w. with_objects o (value_pushed (value_in kind w) m)))

-- stores to a slot, by the phase of the thread, and advances
abbrev pub store_slot : Phase → Value → ℕ → Addr → Frames → Objects → ObjectTransition
store_slot phase v slot a m o = when_some (slots_of o a) (λ slots. when_some (slice_get slots slot) (λ w.
    if is_storable phase o a slot v then with_objects (stored_value phase o a slot v) (onward m) else None))

-- ldfld (III.4.10)
abbrev pub load_field_transition : ValueKind → ℕ → Frames → Objects → ObjectTransition
load_field_transition kind slot m o = with_top m (λ object n. object_of object n o (λ a. load_slot kind slot a n o))

-- stfld (III.4.28)
abbrev pub store_field_transition : Phase → ℕ → Frames → Objects → ObjectTransition
store_field_transition phase slot m o = with_top m (λ v n. with_top n (λ object k. object_of object k o (λ a. store_slot phase v slot a k o)))

-- ---- arrays

-- the index of an element among this number of elements, where there is one
abbrev pub checked_index : ℤ → ℕ → Option ℕ
checked_index (negsuc n) count = None
checked_index (pos n) count = if nat_lt n count then Some n else None

-- an element that is there
abbrev pub in_range : Option ℕ → Frames → Objects → (ℕ → ObjectTransition) → ObjectTransition
in_range None m o go = Some (m, o, Raises IndexOutOfRange)
in_range (Some n) m o go = go n

-- ldlen (III.4.12)
abbrev pub load_length_transition : Frames → Objects → ObjectTransition
load_length_transition m o = with_top m (λ array n. object_of array n o (λ a. when_some (slots_of o a) (λ slots. with_objects o (value_pushed (Native (pos (length slots))) n))))

-- ldelem.i4, ldelem.i8 and ldelem.ref (III.4.8)
abbrev pub load_element_transition : ValueKind → Frames → Objects → ObjectTransition
load_element_transition kind m o = with_top m (λ index n. with_top n (λ array k. object_of array k o (λ a. index_of index (λ i. when_some (slots_of o a) (λ slots.
    in_range (checked_index i (length slots)) k o (λ slot. load_slot kind slot a k o))))))

-- stelem.i4 and stelem.i8 (III.4.27)
abbrev pub store_element_transition : Phase → Frames → Objects → ObjectTransition
store_element_transition phase m o = with_top m (λ v n. with_top n (λ index k. with_top k (λ array j. object_of array j o (λ a. index_of index (λ i. when_some (slots_of o a) (λ slots.
    in_range (checked_index i (length slots)) j o (λ slot. store_slot phase v slot a j o)))))))

-- leaves the object that is born; without one memory is refused
abbrev pub object_pushed : Option Addr → Frames → Transition
object_pushed None m = Some (m, Raises OutOfMemory)
object_pushed (Some a) m = value_pushed (Ref a) m

-- the same beside the objects
abbrev pub birth_transition : Frames → Objects × Option Addr → ObjectTransition
birth_transition m birth = with_objects birth.0 (object_pushed birth.1 m)

-- continues with what a birth gives, by the phase of the thread
abbrev pub allocate_then : Phase → Objects → Kind → ℕ → (Objects × Option Addr → ObjectTransition) → ObjectTransition
allocate_then phase o kind slots go = if can_allocate phase o then go (object_born phase o kind slots) else None

-- of a length that isn't negative
abbrev pub new_array_of : Phase → ArrayElement → ℤ → Frames → Objects → ObjectTransition
new_array_of phase element (negsuc n) m o = Some (m, o, Raises Overflow)
new_array_of phase element (pos n) m o = allocate_then phase o (Array element) n (birth_transition m)

-- newarr (III.4.20)
abbrev pub new_array_transition : Phase → ArrayElement → Frames → Objects → ObjectTransition
new_array_transition phase element m o = with_top m (λ v n. index_of v (λ z. new_array_of phase element z n o))

-- ---- static fields

-- ldsfld (III.4.14)
abbrev pub load_static_transition : ℕ → Frames → List Value → Transition
load_static_transition number m statics = when_some (slice_get statics number) (λ v. value_pushed v m)

-- the frames, the objects with the static fields after an instruction, and its outcome; or it has no result
abbrev pub StaticTransition : Type 0
StaticTransition = Option (Frames × (Objects × List Value) × Effect)

-- a transition of the frames beside these objects and static fields
abbrev pub with_statics : Objects × List Value → Transition → StaticTransition
with_statics memory transition = option_map (λ (t : Frames × Effect). (t.0, memory, t.1)) transition

-- stsfld (III.4.30), by the phase of the thread
abbrev pub store_static_transition : Phase → ℕ → Frames → Objects → List Value → StaticTransition
store_static_transition phase number m o statics = with_top m (λ v n.
    if nat_lt number (length statics) && is_static_storable phase o v then with_statics (stored_static phase o statics number v) (onward n) else None)
