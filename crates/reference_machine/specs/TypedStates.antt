-- States of the reference machine in which each value is of the type that the program declares for its location (I.8.7, III.1.8).
use Rattle.std.specs.Prelude.{◌≡◌, ◌≢◌, IsTrue, IsSome, ℕ, Bool, true, not, ◌&&◌, List, [], ◌∷◌, Option, Some, None, slice_get, Contains}
use Rattle.cil_model.specs.declared.types.ClassName.{ClassName}
use Rattle.cil_model.specs.declared.types.Element.TheVariants.{Int32 as Int32Element, Int64 as Int64Element}
use Rattle.cil_model.specs.declared.types.DeclaredType.{DeclaredType}
use Rattle.cil_model.specs.declared.trees.Tree.{Tree}
use Rattle.cil_model.specs.declared.trees.Code.{Code}
use Rattle.cil_model.specs.Same.{same_text, same_class}
use Rattle.cil_model.specs.Declarations.{string_name, plain}
use Rattle.cil_model.specs.Chains.{methods_declared, is_interface}
use Rattle.cil_model.specs.Assignable.{is_reference, is_assignable}
use Rattle.cil_model.specs.Fields.{FieldKey, instance_fields, static_fields}
use Rattle.cil_model.specs.Bodies.{code_of, argument_types}
use Rattle.cil_model.specs.Mentions.{literals_of}
use Rattle.cil_model.specs.TypeTree.{StackType, Declared, NativeInt, Null as NullType}
use Rattle.cil_model.specs.FlowRules.{give, is_concrete}
use Rattle.cil_model.specs.Typings.{Typing, Reaches, IsCodeTyping}
use Rattle.reference_machine.specs.Values.{ObjectName, Value, Int32, Int64, Native, Null, Reference}
use Rattle.reference_machine.specs.States.{Contents, Instance, Array, HeapObject, Frame, Thread, State, entry_at, type_of, monitor_of}

-- ---- values

-- an object that is there, with a monitor, and whose own type is assignable to the type
pub record IsObjectOf (tree : Tree) (s : State) (n : ObjectName) (t : DeclaredType) : Type 0 where
  pub own : DeclaredType
  pub is : type_of s n ≡ Some own
  pub fits : IsTrue (is_assignable tree own t)
  pub monitor : IsSome (monitor_of s n)

-- an integer of its size, null of any reference type, or an object of the type
abbrev pub HasType : Tree → State → Value → DeclaredType → Type 0
HasType tree s (Int32 z) t = t ≡ plain Int32Element
HasType tree s (Int64 z) t = t ≡ plain Int64Element
HasType tree s (Native z) t = ⊥
HasType tree s Null t = IsTrue (is_reference t)
HasType tree s (Reference n) t = IsObjectOf tree s n t

-- what a verifier knows of a value holds of it
abbrev pub HasStackType : Tree → State → Value → StackType → Type 0
HasStackType tree s v (Declared t) = HasType tree s v t
HasStackType tree s (Native z) NativeInt = Unit {0}
HasStackType tree s Null NullType = Unit {0}
HasStackType tree s _ _ = ⊥

-- the values of a list, index by index
abbrev pub HaveTypes : Tree → State → List Value → List DeclaredType → Type 0
HaveTypes tree s [] [] = Unit {0}
HaveTypes tree s (v ∷ vs) (t ∷ ts) = HasType tree s v t × HaveTypes tree s vs ts
HaveTypes tree s [] (t ∷ ts) = ⊥
HaveTypes tree s (v ∷ vs) [] = ⊥

-- those of a stack
abbrev pub HaveStackTypes : Tree → State → List Value → List StackType → Type 0
HaveStackTypes tree s [] [] = Unit {0}
HaveStackTypes tree s (v ∷ vs) (t ∷ ts) = HasStackType tree s v t × HaveStackTypes tree s vs ts
HaveStackTypes tree s [] (t ∷ ts) = ⊥
HaveStackTypes tree s (v ∷ vs) [] = ⊥

-- those of an array, which have one type
abbrev pub AllHaveType : Tree → State → DeclaredType → List Value → Type 0
AllHaveType tree s t [] = Unit {0}
AllHaveType tree s t (v ∷ vs) = HasType tree s v t × AllHaveType tree s t vs

-- those of fields, under their keys
abbrev pub HaveFieldTypes : Tree → State → List (FieldKey × Value) → List (FieldKey × DeclaredType) → Type 0
HaveFieldTypes tree s [] [] = Unit {0}
HaveFieldTypes tree s (e ∷ es) (f ∷ fs) = (e.0 ≡ f.0) × HasType tree s e.1 f.1 × HaveFieldTypes tree s es fs
HaveFieldTypes tree s [] (f ∷ fs) = ⊥
HaveFieldTypes tree s (e ∷ es) [] = ⊥

-- ---- objects

-- a class that newobj makes objects of: it isn't abstract, and isn't System.String, whose objects are the literals alone
abbrev pub has_objects : Tree → ClassName → Bool
has_objects tree c = is_concrete tree c && not (same_class c string_name)

-- an object of a class that has objects, with exactly its fields; or an array of elements of its type
abbrev pub IsTypedContents : Tree → State → Contents → Type 0
IsTypedContents tree s (Instance c fields) = IsTrue (has_objects tree c) × (is_interface tree c ≢ true) × HaveFieldTypes tree s fields (instance_fields tree c)
IsTypedContents tree s (Array t elements) = AllHaveType tree s t elements

-- ---- frames

-- the object that a constructor of newobj makes is there, and the constructor returns nothing else
pub record IsConstructing (s : State) (f : Frame) (n : ObjectName) : Type 0 where
  pub own : DeclaredType
  pub is : type_of s n ≡ Some own
  pub monitor : IsSome (monitor_of s n)
  pub nothing_returned : f.method.signature.return_type ≡ None

-- A frame of a method with a typing. Its stack is as the typing says at its pc, once it has been given a value of the
-- type, if one is named.
pub record IsTypedFrame (tree : Tree) (s : State) (given : Option DeclaredType) (f : Frame) : Type 0 where
  pub code : Code
  pub typing : Typing
  pub is_declared : (n : ℕ) × (slice_get (methods_declared tree f.owner) n ≡ Some f.method)
  pub has_code : code_of f.method.kind ≡ Some code
  pub is_typing : IsCodeTyping tree (argument_types f.method f.owner) f.method.signature.return_type code typing
  pub arguments : HaveTypes tree s f.arguments (argument_types f.method f.owner)
  pub locals : HaveTypes tree s f.locals code.locals
  pub stack : List StackType
  pub values : HaveStackTypes tree s f.stack stack
  pub reaches : Reaches tree typing (give given stack) f.pc
  pub constructs : (n : ObjectName) → f.constructed ≡ Some n → IsConstructing s f n

-- the type of what a frame gives to the one below it: the object that it constructs, or what its method returns
abbrev pub type_given : State → Option ObjectName → Option DeclaredType → Option DeclaredType
type_given s None returned = returned
type_given s (Some n) returned = type_of s n

-- the same, of a frame
abbrev pub gives : State → Frame → Option DeclaredType
gives s f = type_given s f.constructed f.method.signature.return_type

-- frames that wait, the nearest for a value of the type, if one is named
abbrev pub AreWaiting : Tree → State → Option DeclaredType → List Frame → Type 0
AreWaiting tree s given [] = Unit {0}
AreWaiting tree s given (f ∷ fs) = IsTypedFrame tree s given f × AreWaiting tree s (gives s f) fs

-- the frames of a live thread: one runs, and the others wait
abbrev pub AreTypedFrames : Tree → State → List Frame → Type 0
AreTypedFrames tree s [] = ⊥
AreTypedFrames tree s (f ∷ fs) = IsTypedFrame tree s None f × AreWaiting tree s (gives s f) fs

-- ---- states

-- all objects, static fields and live threads are typed, and each literal of the program has its monitor
pub record IsTyped (tree : Tree) (s : State) : Type 0 where
  pub objects : (n : ℕ) (o : HeapObject) → slice_get s.objects n ≡ Some o → IsTypedContents tree s o.contents
  pub literals : (characters : List ℕ) → Contains (literals_of tree) characters → IsSome (entry_at same_text characters s.literal_monitors)
  pub statics : HaveFieldTypes tree s s.statics (static_fields tree)
  pub threads : (t : ℕ) (thread : Thread) → slice_get s.threads t ≡ Some thread → thread.ended ≡ None → AreTypedFrames tree s thread.frames
