-- What instructions need of a memory: what loads, comparisons, stores and births of a thread do to objects that have names. The laws of
-- instructions rest on this alone, so they hold of each memory that has it.
use Rattle.std.specs.Prelude.{◌≡◌, ◌⊎◌, ◌≤◌, ◌<◌, ◌+◌, ℕ, true, false, List, length, replicate, Option, Some, None, IsSome, slice_get, slice_set}
use Rattle.interpreter.specs.cil_model.declared.limits.TheConstants.{MOST_WORDS}
use Rattle.interpreter.specs.cil_model.declared.phases.Phase.{Phase}
use Rattle.interpreter.specs.cil_model.declared.trees.Tree.{Tree}
use Rattle.interpreter.specs.cil_model.Fields.{FieldKey}
use Rattle.interpreter.specs.cil_model.Mentions.{literals_of}
use Rattle.interpreter.specs.reference_machine.Values.{ObjectName, Born, Literal, Value as StateValue, same_object}
use Rattle.interpreter.specs.reference_machine.Effects.{StepContext}
use Rattle.interpreter.specs.reference_machine.States.{Monitor as StateMonitor, Contents, HeapObject, State, with_object, next_name, with_monitor as with_state_monitor, with_birth as with_state_birth}
use Rattle.interpreter.specs.object_memory.declared.addresses.Addr.{Addr}
use Rattle.interpreter.specs.object_memory.declared.addresses.TheConstants.{ADDRESSES}
use Rattle.interpreter.specs.object_memory.declared.kinds.Kind.{Kind}
use Rattle.interpreter.specs.object_memory.declared.monitors.Monitor.{Monitor}
use Rattle.interpreter.specs.object_memory.declared.values.Value.{Value}
use Rattle.interpreter.specs.object_memory.Cells.{Cell, null, literal, store_slot, store_monitor}
use Rattle.interpreter.specs.object_memory.Objects.{Objects, object_cell}
use Rattle.interpreter.specs.object_memory.Spaces.{room_for}
use Rattle.interpreter.specs.instructions.barriers.Barriers.{are_comparable, are_same, can_allocate, is_monitor_storable, is_static_storable, is_storable, is_word_storable, object_born, stored_int, stored_monitor, stored_static, stored_value}
use Rattle.interpreter.specs.object_memory.Values.{value_word}
use Rattle.interpreter.specs.threads_monitors.declared.mutators.Mutator.{Mutator}
use Rattle.reference_machine.specs.TypedStates.{IsTyped}
use Rattle.collector.specs.References.{holds_reference, is_reference_value}
use Rattle.simulation.specs.Agreement.{Agree}
use Rattle.simulation.specs.Refines.{Names, Extends, IsValue, IsMonitor, IsOfContents, IsCell, IsBornAt, IsLiteralAt}
use Rattle.simulation.proofs.Memory.ReferenceSlots.{IsLinked}

-- what loads find: each named address has its object or its literal, each literal its name, and null none; no object has more slots than
-- there may be words
pub record IsReadable (tree : Tree) (name : Names) (o : Objects) (s : State) : Type 0 where
  pub null_unnamed : name 0 ≡ None
  pub small : (a : ℕ) (n : ObjectName) → name a ≡ Some n → a < ADDRESSES
  pub sizes : (a : Addr) (cell : Cell) → object_cell o a ≡ Some cell → length cell.slots ≤ MOST_WORDS
  pub born : (a n : ℕ) → name a ≡ Some (Born n) → IsBornAt tree name o s a n
  pub literals : (a : ℕ) (characters : List ℕ) → name a ≡ Some (Literal characters) → IsLiteralAt tree o s a characters
  pub each_literal : (n : ℕ) (characters : List ℕ) → slice_get (literals_of tree) n ≡ Some characters → name (literal n).number ≡ Some (Literal characters)

-- each static field holds its value
abbrev pub AreStatics : Names → List Value → List (FieldKey × StateValue) → Type 0
AreStatics name statics entries = Agree (λ v (f : FieldKey × StateValue). IsValue name v f.1) statics entries

-- a birth: the object has the next name, and all others keep theirs
pub record IsBirth (Fits : Names → Objects → List Value → State → Type 0) (name : Names) (statics : List Value) (s : State) (contents : Contents) (o : Objects) (a : Addr) : Type 0 where
  pub names : Names
  pub extends : Extends name names
  pub named : names a.number ≡ Some (next_name s)
  pub fits : Fits names o statics (with_state_birth s contents)

-- the same objects, monitors of literals and static fields, beside any threads and printed bytes
pub record IsBeside (s s' : State) : Type 0 where
  pub objects : s'.objects ≡ s.objects
  pub monitors : s'.literal_monitors ≡ s.literal_monitors
  pub statics : s'.statics ≡ s.statics

-- a reference of an object that has a name, or of none
abbrev pub IsReference : Names → Addr → Type 0
IsReference name a = (a ≡ null) ⊎ IsSome (name a.number)

-- Fits: under these names the objects and the static fields are those of the state, in a memory of this kind, for a thread in this phase
pub record MemoryModel (tree : Tree) : Type 1 where
  pub phase : Phase
  pub Fits : Names → Objects → List Value → State → Type 0
  -- reading, of a typed state
  pub reads : (name : Names) (o : Objects) (ss : List Value) (s : State) → Fits name o ss s → IsTyped tree s → IsReadable tree name o s
  pub statics : (name : Names) (o : Objects) (ss : List Value) (s : State) → Fits name o ss s → AreStatics name ss s.statics
  pub with_objects : (name : Names) (o : Objects) (ss : List Value) (s s' : State) → Fits name o ss s → IsBeside s s' → Fits name o ss s'
  -- comparing, of named addresses and null
  pub comparable : (name : Names) (o : Objects) (ss : List Value) (s : State) → Fits name o ss s → (a b : Addr) → IsReference name a → IsReference name b → are_comparable phase o a b ≡ true
  pub same : (name : Names) (o : Objects) (ss : List Value) (s : State) → Fits name o ss s → (a b : Addr) (n k : ObjectName) → name a.number ≡ Some n → name b.number ≡ Some k → are_same phase o a b ≡ same_object n k
  pub same_null : (name : Names) (o : Objects) (ss : List Value) (s : State) → Fits name o ss s → are_same phase o null null ≡ true
  pub null_name : (name : Names) (o : Objects) (ss : List Value) (s : State) → Fits name o ss s → (b : Addr) (k : ObjectName) → name b.number ≡ Some k → are_same phase o null b ≡ false
  pub name_null : (name : Names) (o : Objects) (ss : List Value) (s : State) → Fits name o ss s → (a : Addr) (n : ObjectName) → name a.number ≡ Some n → are_same phase o a null ≡ false
  -- storing: a value to a slot that is of its sort, a word to a slot that holds no reference, a monitor of an object, each of a typed state and so
  -- that the slots of the object still hold references where its values are; a monitor of a literal; a value to a static field
  pub storable : (name : Names) (o : Objects) (ss : List Value) (s : State) → Fits name o ss s →
      (a : Addr) (n : ℕ) → name a.number ≡ Some (Born n) → (cell : Cell) → object_cell o a ≡ Some cell →
      (slot : ℕ) (v : Value) (u : StateValue) → slot < length cell.slots → IsValue name v u → is_storable phase o a slot v ≡ true
  pub slots : (name : Names) (o : Objects) (ss : List Value) (s : State) → Fits name o ss s → IsTyped tree s →
      (a : Addr) (n : ℕ) → name a.number ≡ Some (Born n) → (cell : Cell) → object_cell o a ≡ Some cell →
      (slot : ℕ) (v : Value) (u : StateValue) → slot < length cell.slots → is_reference_value v ≡ holds_reference tree cell.kind slot → IsValue name v u →
      (object : HeapObject) → IsLinked tree cell.kind object.contents → IsCell tree name (store_slot slot (value_word v) cell) object →
      Fits name (stored_value phase o a slot v) ss (with_object s (Born n) object)
  pub word_storable : (name : Names) (o : Objects) (ss : List Value) (s : State) → Fits name o ss s →
      (a : Addr) (n : ℕ) → name a.number ≡ Some (Born n) → (cell : Cell) → object_cell o a ≡ Some cell →
      (slot : ℕ) → slot < length cell.slots → is_word_storable phase o a slot ≡ true
  pub hidden : (name : Names) (o : Objects) (ss : List Value) (s : State) → Fits name o ss s → IsTyped tree s →
      (a : Addr) (n : ℕ) → name a.number ≡ Some (Born n) → (cell : Cell) → object_cell o a ≡ Some cell →
      (slot w : ℕ) → slot < length cell.slots → holds_reference tree cell.kind slot ≡ false →
      (object : HeapObject) → IsLinked tree cell.kind object.contents → IsCell tree name (store_slot slot w cell) object →
      Fits name (stored_int phase o a slot w) ss (with_object s (Born n) object)
  pub monitor_storable : (name : Names) (o : Objects) (ss : List Value) (s : State) → Fits name o ss s → (a : Addr) (n : ObjectName) → name a.number ≡ Some n → is_monitor_storable phase o a ≡ true
  pub monitors : (name : Names) (o : Objects) (ss : List Value) (s : State) → Fits name o ss s → IsTyped tree s →
      (a : Addr) (n : ℕ) → name a.number ≡ Some (Born n) → (cell : Cell) → object_cell o a ≡ Some cell →
      (monitor : Monitor) (object : HeapObject) → IsLinked tree cell.kind object.contents → IsCell tree name (store_monitor monitor cell) object →
      Fits name (stored_monitor phase o a monitor) ss (with_object s (Born n) object)
  pub literals : (name : Names) (o : Objects) (ss : List Value) (s : State) → Fits name o ss s →
      (a : Addr) (characters : List ℕ) → name a.number ≡ Some (Literal characters) → (monitor : Monitor) (u : StateMonitor) → IsMonitor monitor u →
      Fits name (stored_monitor phase o a monitor) ss (with_state_monitor s (Literal characters) u)
  pub static_storable : (name : Names) (o : Objects) (ss : List Value) (s : State) → Fits name o ss s → (v : Value) (u : StateValue) → IsValue name v u → is_static_storable phase o v ≡ true
  pub static_stores : (name : Names) (o : Objects) (ss : List Value) (s : State) → Fits name o ss s →
      (n : ℕ) (v : Value) (u : StateValue) → n < length ss → IsValue name v u → (entries : List (FieldKey × StateValue)) → AreStatics name (slice_set ss n v) entries →
      Fits name (stored_static phase o ss n v).0 (stored_static phase o ss n v).1 (record s { statics = entries })
  -- births: one that is refused changes nothing, and its object exceeds the room; any other makes an object of the next name
  pub bears : (name : Names) (o : Objects) (ss : List Value) (s : State) → Fits name o ss s → can_allocate phase o ≡ true
  pub refusals : (name : Names) (o : Objects) (ss : List Value) (s : State) → Fits name o ss s →
      (k : Kind) (count : ℕ) (born : Objects) → ◌≡◌ {A = Objects × Option Addr} (object_born phase o k count) (born, None) → (born ≡ o) × (room_for phase o.spaces < 3 + count)
  pub births : (name : Names) (o : Objects) (ss : List Value) (s : State) → Fits name o ss s →
      (k : Kind) (count : ℕ) (contents : Contents) → ((names : Names) → IsOfContents tree names k (replicate count 0) contents None) →
      (born : Objects) (a : Addr) → object_born phase o k count ≡ (born, Some a) → IsBirth Fits name ss s contents born a

-- a thread of this setting, as the collector sees it, in the phase of the model
abbrev pub mutator_in : (here : StepContext) → MemoryModel here.tree → Mutator
mutator_in here model = record { number = here.thread; phase = model.phase }

-- a memory with its static fields and printed bytes, as the instructions of a thread find it
pub record IsModelled (tree : Tree) (model : MemoryModel tree) (name : Names) (o : Objects) (statics : List Value) (printed : List ℕ) (s : State) : Type 0 where
  pub fits : model.Fits name o statics s
  pub printed_is : printed ≡ s.printed
