-- The state of the reference machine: objects that have names and never move (I.12, this profile).
use Rattle.cil_model.specs.Fields.{FieldKey, instance_fields, same_key}
use Rattle.std.specs.Prelude.{ℕ, Bool, false, is_none, if◌then◌else◌, List, [], ◌∷◌, ◌++◌, map, length, Option, Some, None, option_map, option_and_then, unwrap_or, slice_get, slice_set}
use Rattle.cil_model.specs.declared.types.ClassName.{ClassName}
use Rattle.cil_model.specs.declared.types.DeclaredType.{DeclaredType}
use Rattle.cil_model.specs.declared.trees.Tree.{Tree}
use Rattle.cil_model.specs.declared.trees.Method.{Method}
use Rattle.cil_model.specs.declared.reports.End.{End}
use Rattle.cil_model.specs.Same.{same_text}
use Rattle.cil_model.specs.Declarations.{string_name, plain}
use Rattle.cil_model.specs.declared.types.Element.TheVariants.{String}
use Rattle.cil_model.specs.Assignable.{array_of, type_of_class}
use Rattle.reference_machine.specs.Values.{ObjectName, Born, Literal, Value, zero_of, same_kind}

-- ---- what a state is made of

-- the lock of an object (I.12.6.5): the thread that holds it, and how often
pub data Monitor : Type 0 where
  Free : Monitor
  Held : (owner count : ℕ) → Monitor

-- what an object is: of a class, with its instance fields, or an array of elements of a type
pub data Contents : Type 0 where
  Instance : ClassName → List (FieldKey × Value) → Contents
  Array : DeclaredType → List Value → Contents

-- an object, and the thread that was started on it: the hidden field of a Cilvm.Thread
pub record HeapObject : Type 0 where
  pub contents : Contents
  pub monitor : Monitor
  pub thread : Option ℕ

-- A method state (I.12.3.2): the method with the class that declares it, by which argument 0 has its type, the pc of the
-- next instruction, and the values. Of a constructor that newobj runs, the object to push at its end.
pub record Frame : Type 0 where
  pub owner : ClassName
  pub method : Method
  pub pc : ℕ
  pub arguments : List Value
  pub locals : List Value
  pub stack : List Value
  pub constructed : Option ObjectName

-- a thread: its frames, the running one first, the steps of its budget that are left, and its end
pub record Thread : Type 0 where
  pub frames : List Frame
  pub steps_left : ℕ
  pub ended : Option End

-- The whole state. Object `Born n` is the n-th of the objects, which are never taken out; each literal of the source
-- has its monitor from the beginning, and each static field its value.
pub record State : Type 0 where
  pub objects : List HeapObject
  pub literal_monitors : List (List ℕ × Monitor)
  pub statics : List (FieldKey × Value)
  pub threads : List Thread
  pub printed : List ℕ

-- whether a thread has not ended
abbrev pub is_live_thread : Thread → Bool
is_live_thread t = is_none t.ended

-- the same, of a number
abbrev pub is_live : State → ℕ → Bool
is_live s t = unwrap_or (option_map is_live_thread (slice_get s.threads t)) false

-- ---- entries under keys

-- the value under a key
abbrev pub entry_at : {K V : Type 0} → (K → K → Bool) → K → List (K × V) → Option V
entry_at same k [] = None
entry_at same k (e ∷ es) = if same e.0 k then Some e.1 else entry_at same k es

-- the entries with another value under a key that they have
abbrev pub with_entry : {K V : Type 0} → (K → K → Bool) → K → V → List (K × V) → List (K × V)
with_entry same k v [] = []
with_entry same k v (e ∷ es) = if same e.0 k then (e.0, v) ∷ es else e ∷ with_entry same k v es

-- another value of the same kind in place of one that is there
abbrev pub same_kind_or_none : {X : Type 0} → Option Value → Value → X → Option X
same_kind_or_none None v x = None
same_kind_or_none (Some old) v x = if same_kind old v then Some x else None

-- a field with another value of its kind
abbrev pub replaced_entry : FieldKey → Value → List (FieldKey × Value) → Option (List (FieldKey × Value))
replaced_entry k v es = same_kind_or_none (entry_at same_key k es) v (with_entry same_key k v es)

-- an element, argument or local with another value of its kind
abbrev pub replaced_at : ℕ → Value → List Value → Option (List Value)
replaced_at n v vs = same_kind_or_none (slice_get vs n) v (slice_set vs n v)

-- ---- objects

-- the object of a name
abbrev pub object_at : State → ObjectName → Option HeapObject
object_at s (Born n) = slice_get s.objects n
object_at s (Literal characters) = None

-- the state with another object of that name
abbrev pub with_object : State → ObjectName → HeapObject → State
with_object s (Born n) o = record s { objects = slice_set s.objects n o }
with_object s (Literal characters) o = s

-- the type of an object, which never changes
abbrev pub type_of_contents : Contents → DeclaredType
type_of_contents (Instance c fields) = type_of_class c
type_of_contents (Array t elements) = array_of t

-- a literal is a string
abbrev pub type_of : State → ObjectName → Option DeclaredType
type_of s (Born n) = option_map (λ (o : HeapObject). type_of_contents o.contents) (object_at s (Born n))
type_of s (Literal characters) = Some (plain String)

-- the class whose chain says what a virtual call runs
abbrev pub class_of_contents : Contents → Option ClassName
class_of_contents (Instance c fields) = Some c
class_of_contents (Array t elements) = None

-- an array has none
abbrev pub class_of : State → ObjectName → Option ClassName
class_of s (Born n) = option_and_then (λ (o : HeapObject). class_of_contents o.contents) (object_at s (Born n))
class_of s (Literal characters) = Some string_name

-- the fields of an object of a class
abbrev pub fields_of_contents : Contents → Option (List (FieldKey × Value))
fields_of_contents (Instance c fields) = Some fields
fields_of_contents (Array t elements) = None

-- the elements of an array, with their type
abbrev pub elements_of_contents : Contents → Option (DeclaredType × List Value)
elements_of_contents (Instance c fields) = None
elements_of_contents (Array t elements) = Some (t, elements)

-- an object of a class with other fields
abbrev pub with_fields : Contents → List (FieldKey × Value) → Contents
with_fields (Instance c old) fields = Instance c fields
with_fields (Array t elements) fields = Array t elements

-- the value of an object's field
abbrev pub field_value : State → ObjectName → FieldKey → Option Value
field_value s n k = option_and_then (λ (o : HeapObject). option_and_then (entry_at same_key k) (fields_of_contents o.contents)) (object_at s n)

-- the state after a store to an object's field
abbrev pub with_field : State → ObjectName → FieldKey → Value → Option State
with_field s n k v =
    option_and_then (λ (o : HeapObject).
    option_and_then (λ fields.
    option_map (λ fields'. with_object s n (record o { contents = with_fields o.contents fields' })) (replaced_entry k v fields))
    (fields_of_contents o.contents))
    (object_at s n)

-- what an array holds: the type of its elements, and the elements
abbrev pub array_at : State → ObjectName → Option (DeclaredType × List Value)
array_at s n = option_and_then (λ (o : HeapObject). elements_of_contents o.contents) (object_at s n)

-- the state after a store to an array's element
abbrev pub with_element : State → ObjectName → ℕ → Value → Option State
with_element s n i v =
    option_and_then (λ (o : HeapObject).
    option_and_then (λ (array : DeclaredType × List Value).
    option_map (λ elements. with_object s n (record o { contents = Array array.0 elements })) (replaced_at i v array.1))
    (elements_of_contents o.contents))
    (object_at s n)

-- a new object, with a name that no object had
abbrev pub next_name : State → ObjectName
next_name s = Born (length s.objects)

-- the state with one object more
abbrev pub with_birth : State → Contents → State
with_birth s contents = record s { objects = s.objects ++ record { contents = contents; monitor = Free; thread = None } ∷ [] }

-- ---- monitors

-- the monitor of an object or a literal
abbrev pub monitor_of : State → ObjectName → Option Monitor
monitor_of s (Born n) = option_map (λ (o : HeapObject). o.monitor) (object_at s (Born n))
monitor_of s (Literal characters) = entry_at same_text characters s.literal_monitors

-- the state with another monitor of an object that is there
abbrev pub with_monitor : State → ObjectName → Monitor → State
with_monitor s (Born n) m = unwrap_or (option_map (λ (o : HeapObject). with_object s (Born n) (record o { monitor = m })) (object_at s (Born n))) s
with_monitor s (Literal characters) m = record s { literal_monitors = with_entry same_text characters m s.literal_monitors }

-- ---- fields at first

-- each field holds 0 or null at first (II.16)
abbrev pub zero_fields : List (FieldKey × DeclaredType) → List (FieldKey × Value)
zero_fields fields = map (λ (f : FieldKey × DeclaredType). (f.0, zero_of f.1)) fields

-- a new object of a class (III.4.21)
abbrev pub new_instance : Tree → ClassName → Contents
new_instance tree c = Instance c (zero_fields (instance_fields tree c))
