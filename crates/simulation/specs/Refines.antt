-- When what a machine holds represents a state of the reference machine: the same, with addresses in place of names (this profile).
use Rattle.std.specs.Prelude.{◌≡◌, ◌⊎◌, ◌≤◌, ◌<◌, ℕ, suc, ℤ, if◌then◌else◌, List, [], ◌∷◌, ◌++◌, length, Option, Some, None, slice_get, FitsSigned, IsTrue}
use Rattle.std.specs.Int.{w32, w64}
use Rattle.interpreter.specs.cil_model.declared.limits.Limits.{Limits}
use Rattle.interpreter.specs.cil_model.declared.trees.Tree.{Tree}
use Rattle.interpreter.specs.cil_model.declared.types.ClassName.{ClassName}
use Rattle.interpreter.specs.cil_model.declared.reports.End.{End}
use Rattle.interpreter.specs.cil_model.Same.{same_text}
use Rattle.interpreter.specs.cil_model.Chains.{is_thread_class}
use Rattle.interpreter.specs.cil_model.Ranges.{are_in_range}
use Rattle.interpreter.specs.cil_model.Typings.{IsAccepted}
use Rattle.interpreter.specs.cil_model.Fields.{FieldKey}
use Rattle.interpreter.specs.cil_model.Mentions.{literals_of}
use Rattle.interpreter.specs.reference_machine.Values.{ObjectName, Born, Literal, Value as StateValue, Int32 as Int32Value, Int64 as Int64Value, Native as NativeValue, Null, Reference}
use Rattle.interpreter.specs.reference_machine.States.{Monitor as StateMonitor, Free as IsFree, Held as IsHeld, Contents, Instance as IsInstance, Array as IsArray, HeapObject, Frame as StateFrame, Thread as StateThread, State, entry_at}
use Rattle.reference_machine.specs.TypedStates.{IsTyped}
use Rattle.simulation.specs.Counts.{IsCounted}
use Rattle.interpreter.specs.resolved_code.ById.{class_name, type_at}
use Rattle.interpreter.specs.object_memory.declared.addresses.Addr.{Addr}
use Rattle.interpreter.specs.object_memory.declared.addresses.TheConstants.{ADDRESSES}
use Rattle.interpreter.specs.object_memory.declared.kinds.Kind.{Kind}
use Rattle.interpreter.specs.object_memory.declared.kinds.Kind.TheVariants.{Instance, Array}
use Rattle.interpreter.specs.object_memory.declared.monitors.Monitor.{Monitor}
use Rattle.interpreter.specs.object_memory.declared.monitors.Monitor.TheVariants.{Free, Held}
use Rattle.interpreter.specs.object_memory.declared.values.Value.{Value}
use Rattle.interpreter.specs.object_memory.declared.values.Value.TheVariants.{Int32, Int64, Native, Ref}
use Rattle.interpreter.specs.object_memory.Cells.{Cell, cell_in, literal, literal_number, null}
use Rattle.interpreter.specs.object_memory.Objects.{Objects, object_cell}
use Rattle.interpreter.specs.object_memory.Spaces.{Spaces, other_of}
use Rattle.interpreter.specs.object_memory.Values.{value_word}
use Rattle.interpreter.specs.loaded_program.AllMethods.{all_methods}
use Rattle.interpreter.specs.instructions.TypeTransitions.{held_type}
use Rattle.interpreter.specs.threads_monitors.Frames.{Frame, Frames}
use Rattle.interpreter.specs.threads_monitors.declared.threads.ThreadStatus.{ThreadStatus}
use Rattle.interpreter.specs.threads_monitors.declared.threads.ThreadStatus.TheVariants.{Live, Ended}
use Rattle.interpreter.specs.threads_monitors.declared.threads.Thread.{Thread}
use Rattle.simulation.specs.MachineStates.{MachineState, frame_room}
use Rattle.simulation.specs.Sound.{IsSound}
use Rattle.simulation.specs.Agreement.{Agree}

-- ---- values

-- which object has the address of a number
abbrev pub Names : Type 0
Names = ℕ → Option ObjectName

-- more is named, and all that was named keeps its name
abbrev pub Extends : Names → Names → Type 0
Extends name name' = (a : ℕ) (n : ObjectName) → name a ≡ Some n → name' a ≡ Some n

-- the same integer, in the bits of its size; null; or the address of the object of that name
pub data IsValue (name : Names) : Value → StateValue → Type 0 where
  int32 : (z : ℤ) → FitsSigned w32 z → IsValue name (Int32 z) (Int32Value z)
  int64 : (z : ℤ) → FitsSigned w64 z → IsValue name (Int64 z) (Int64Value z)
  native : (z : ℤ) → FitsSigned w64 z → IsValue name (Native z) (NativeValue z)
  null_reference : IsValue name (Ref null) Null
  reference : (a : Addr) (n : ObjectName) → name a.number ≡ Some n → IsValue name (Ref a) (Reference n)

-- a word of a slot that holds the value
pub record IsWord (name : Names) (w : ℕ) (v : StateValue) : Type 0 where
  pub value : Value
  pub refines : IsValue name value v
  pub is : value_word value ≡ w

-- ---- objects

-- nobody's, or the same thread's as often
abbrev pub IsMonitor : Monitor → StateMonitor → Type 0
IsMonitor Free IsFree = Unit {0}
IsMonitor (Held owner count) (IsHeld owner' count') = (owner ≡ owner') × (count ≡ count')
IsMonitor Free (IsHeld owner' count') = ⊥
IsMonitor (Held owner count) IsFree = ⊥

-- the word that identifies the thread that was started on an object
abbrev pub thread_word : Option ℕ → ℕ
thread_word None = 0
thread_word (Some n) = suc n

-- the words before an object's fields
abbrev pub hidden_words : Tree → ClassName → Option ℕ → List ℕ
hidden_words tree c thread = if is_thread_class tree c then thread_word thread ∷ [] else []

-- an object of the class of the number, with a word for each field
pub record IsInstanceCell (tree : Tree) (name : Names) (class : ℕ) (slots : List ℕ) (c : ClassName) (fields : List (FieldKey × StateValue)) (thread : Option ℕ) : Type 0 where
  pub class_is : class_name tree class ≡ Some c
  pub words : List ℕ
  pub slots_are : slots ≡ hidden_words tree c thread ++ words
  pub values : Agree (λ w (f : FieldKey × StateValue). IsWord name w f.1) words fields

-- what a cell's kind and slots are of an object, the thread that was started on it among them
abbrev pub IsOfContents : Tree → Names → Kind → List ℕ → Contents → Option ℕ → Type 0
IsOfContents tree name (Instance class) slots (IsInstance c fields) thread = IsInstanceCell tree name class slots c fields thread
IsOfContents tree name (Array e) slots (IsArray t elements) thread = (type_at tree (held_type e) ≡ Some t) × Agree (IsWord name) slots elements
IsOfContents tree name (Instance class) slots (IsArray t elements) thread = ⊥
IsOfContents tree name (Array e) slots (IsInstance c fields) thread = ⊥

-- a cell of the object
pub record IsCell (tree : Tree) (name : Names) (cell : Cell) (object : HeapObject) : Type 0 where
  pub contents : IsOfContents tree name cell.kind cell.slots object.contents object.thread
  pub monitor : IsMonitor cell.monitor object.monitor

-- an object that was born lies at the address
pub record IsBornAt (tree : Tree) (name : Names) (o : Objects) (s : State) (a n : ℕ) : Type 0 where
  pub no_literal : literal_number (record { number = a }) ≡ None
  pub cell : Cell
  pub lies : object_cell o (record { number = a }) ≡ Some cell
  pub object : HeapObject
  pub is : slice_get s.objects n ≡ Some object
  pub refines : IsCell tree name cell object

-- the address is that of a literal of the program, with its monitor
pub record IsLiteralAt (tree : Tree) (o : Objects) (s : State) (a : ℕ) (characters : List ℕ) : Type 0 where
  pub number : ℕ
  pub has_id : literal_number (record { number = a }) ≡ Some number
  pub is : slice_get (literals_of tree) number ≡ Some characters
  pub monitor : Monitor
  pub held : slice_get o.literals number ≡ Some monitor
  pub state_monitor : StateMonitor
  pub state_held : entry_at same_text characters s.literal_monitors ≡ Some state_monitor
  pub refines : IsMonitor monitor state_monitor

-- one address is that of the other copy of an old object
abbrev pub AreTwins : Spaces → ℕ → ℕ → Type 0
AreTwins m a b = (other_of (cell_in m.old (record { number = a })) ≡ Some (record { number = b })) ⊎ (other_of (cell_in m.old (record { number = b })) ≡ Some (record { number = a }))

-- named addresses have one name exactly where they are equal or the two copies of one object
pub record HasOneName (name : Names) (m : Spaces) : Type 0 where
  pub one : (a b : ℕ) (n : ObjectName) → name a ≡ Some n → name b ≡ Some n → (a ≡ b) ⊎ AreTwins m a b
  pub twins : (a b : ℕ) (n k : ObjectName) → name a ≡ Some n → name b ≡ Some k → AreTwins m a b → n ≡ k

-- each named address has its object or its literal, and the two copies of an object have one name
pub record IsHeap (tree : Tree) (name : Names) (o : Objects) (s : State) : Type 0 where
  pub null_unnamed : name 0 ≡ None
  pub small : (a : ℕ) (n : ObjectName) → name a ≡ Some n → a < ADDRESSES
  pub names : HasOneName name o.spaces
  pub born : (a n : ℕ) → name a ≡ Some (Born n) → IsBornAt tree name o s a n
  pub literals : (a : ℕ) (characters : List ℕ) → name a ≡ Some (Literal characters) → IsLiteralAt tree o s a characters
  pub each_literal : (n : ℕ) (characters : List ℕ) → slice_get (literals_of tree) n ≡ Some characters → name (literal n).number ≡ Some (Literal characters)

-- ---- frames

-- an object's address, or neither
abbrev pub IsObject : Names → Option Addr → Option ObjectName → Type 0
IsObject name None None = Unit {0}
IsObject name (Some a) (Some n) = name a.number ≡ Some n
IsObject name None (Some n) = ⊥
IsObject name (Some a) None = ⊥

-- a frame of the same method, at the same pc, with the same values
pub record IsFrame (tree : Tree) (name : Names) (f : Frame) (g : StateFrame) : Type 0 where
  pub method : slice_get (all_methods tree) f.method ≡ Some (g.owner, g.method)
  pub pc : f.pc ≡ g.pc
  pub arguments : Agree (IsValue name) f.arguments g.arguments
  pub locals : Agree (IsValue name) f.locals g.locals
  pub stack : Agree (IsValue name) f.stack g.stack
  pub constructed : IsObject name f.constructed g.constructed

-- the frames of a live thread, no more of them than there may be
pub record AreFrames (tree : Tree) (limits : Limits) (name : Names) (m : Frames) (fs : List StateFrame) : Type 0 where
  pub frames : Agree (IsFrame tree name) (m.running ∷ m.below) fs
  pub depth : m.depth ≡ limits.depth
  pub few : length (m.running ∷ m.below) ≤ limits.depth
  pub room : m.room ≡ frame_room

-- live with the same frames, or ended alike
abbrev pub StatusRefines : Tree → Limits → Names → ThreadStatus → List StateFrame → Option End → Type 0
StatusRefines tree limits name (Live m) fs None = AreFrames tree limits name m fs
StatusRefines tree limits name (Ended e) fs (Some e') = e ≡ e'
StatusRefines tree limits name (Live m) fs (Some e') = ⊥
StatusRefines tree limits name (Ended e) fs None = ⊥

-- a thread with the same number of steps left
pub record IsThread (tree : Tree) (limits : Limits) (name : Names) (t : Thread) (u : StateThread) : Type 0 where
  pub thread_status : StatusRefines tree limits name t.thread_status u.frames u.ended
  pub steps_left : t.steps_left ≡ u.steps_left

-- ---- the whole

-- the objects, the static fields and the printed bytes, without the threads
pub record IsMemory (tree : Tree) (name : Names) (o : Objects) (statics : List Value) (printed : List ℕ) (s : State) : Type 0 where
  pub heap : IsHeap tree name o s
  pub static_values : Agree (λ v (f : FieldKey × StateValue). IsValue name v f.1) statics s.statics
  pub printed_is : printed ≡ s.printed

-- under these names
pub record RefinesUnder (name : Names) (c : MachineState) (s : State) : Type 0 where
  pub memory : IsMemory c.tree name c.objects c.statics c.printed s
  pub threads : Agree (IsThread c.tree c.limits name) c.threads s.threads

-- under some names
pub record Refines (c : MachineState) (s : State) : Type 0 where
  pub name : Names
  pub by : RefinesUnder name c s

-- Within limits that a run may have, an accepted program's sound machine represents a typed state, whose monitors are counted.
pub record Represents (c : MachineState) (s : State) : Type 0 where
  pub accepted : IsAccepted c.tree
  pub limits : IsTrue (are_in_range c.limits)
  pub typed : IsTyped c.tree s
  pub counted : IsCounted c.limits s
  pub sound : IsSound c
  pub refines : Refines c s
