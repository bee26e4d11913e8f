-- In a typed state each object that is reachable is there.
use Rattle.std.proofs.Common.{◌≡◌, ◌≤◌, ◌<◌, ◌+◌, ℕ, List, [], ◌∷◌, length, Option, Some, None, option_map, slice_get, refl, arith}
use Rattle.std.proofs.lemmas.Option.{slice_get_within}
use Rattle.cil_model.specs.declared.types.DeclaredType.{DeclaredType}
use Rattle.cil_model.specs.declared.trees.Tree.{Tree}
use Rattle.cil_model.specs.Bodies.{argument_types}
use Rattle.cil_model.specs.Fields.{FieldKey, instance_fields, static_fields}
use Rattle.cil_model.specs.TypeTree.{StackType, Declared, NativeInt, Null as NullType}
use Rattle.cil_model.proofs.Lists.{none_is_some}
use Rattle.reference_machine.specs.Values.{ObjectName, Born, Literal, Value, Reference}
use Rattle.reference_machine.specs.States.{Contents, Instance, Array, HeapObject, Frame, State, type_of_contents, type_of}
use Rattle.reference_machine.specs.Reachable.{constructed_value, values_of_contents, IsReachable}
use Rattle.reference_machine.specs.TypedStates.{HasType, HasStackType, HaveTypes, HaveStackTypes, AllHaveType, HaveFieldTypes, IsTypedContents, IsConstructing, IsTypedFrame, gives, AreWaiting, AreTypedFrames, IsTyped}
use Rattle.reference_machine.proofs.ReachableObjects.Values.{values_of, IsWithin, AreWithin}
use Rattle.reference_machine.proofs.ReachableObjects.States.{IsFrameWithin, AreFramesWithin, HoldsWithin}
use Rattle.reference_machine.proofs.ReachableObjects.ClosedSets.{reachable_within}

module _ (tree : Tree) (s : State) where
  -- the object was born
  abbrev IsThere : ℕ → Type 0
  IsThere n = n + 1 ≤ length s.objects

  -- what has a type is there
  name_is_there : (n : ObjectName) (own : DeclaredType) → type_of s n ≡ Some own → IsWithin IsThere (Reference n)
  name_is_there (Literal characters) own is = tt
  name_is_there (Born n) own is = by_object (slice_get s.objects n) refl is
    where
      by_object : (o : Option HeapObject) → slice_get s.objects n ≡ o → option_map (λ (x : HeapObject). type_of_contents x.contents) o ≡ Some own → IsThere n
      by_object None e h = none_is_some own h
      by_object (Some o) e h = let before : n < length s.objects = slice_get_within s.objects n o e in omega arith

  -- ---- values

  value_is_there : (v : Value) (t : DeclaredType) → HasType tree s v t → IsWithin IsThere v
  value_is_there (Reference n) t h = name_is_there n h.own h.is
  value_is_there _ t h = tt

  stack_value_is_there : (v : Value) (t : StackType) → HasStackType tree s v t → IsWithin IsThere v
  stack_value_is_there v (Declared t) h = value_is_there v t h
  stack_value_is_there (Reference n) NativeInt h = elim h [ ]
  stack_value_is_there (Reference n) NullType h = elim h [ ]
  stack_value_is_there _ _ h = tt

  values_are_there : (vs : List Value) (ts : List DeclaredType) → HaveTypes tree s vs ts → AreWithin IsThere vs
  values_are_there [] ts h = tt
  values_are_there (v ∷ vs) [] h = elim h [ ]
  values_are_there (v ∷ vs) (t ∷ ts) h = (value_is_there v t h.0, values_are_there vs ts h.1)

  stack_is_there : (vs : List Value) (ts : List StackType) → HaveStackTypes tree s vs ts → AreWithin IsThere vs
  stack_is_there [] ts h = tt
  stack_is_there (v ∷ vs) [] h = elim h [ ]
  stack_is_there (v ∷ vs) (t ∷ ts) h = (stack_value_is_there v t h.0, stack_is_there vs ts h.1)

  elements_are_there : (t : DeclaredType) (vs : List Value) → AllHaveType tree s t vs → AreWithin IsThere vs
  elements_are_there t [] h = tt
  elements_are_there t (v ∷ vs) h = (value_is_there v t h.0, elements_are_there t vs h.1)

  fields_are_there : (es : List (FieldKey × Value)) (fs : List (FieldKey × DeclaredType)) → HaveFieldTypes tree s es fs → AreWithin IsThere (values_of es)
  fields_are_there [] fs h = tt
  fields_are_there (e ∷ es) [] h = elim h [ ]
  fields_are_there (e ∷ es) (f ∷ fs) h = (value_is_there e.1 f.1 h.1, fields_are_there es fs h.2)

  -- ---- objects and frames

  contents_are_there : (c : Contents) → IsTypedContents tree s c → AreWithin IsThere (values_of_contents c)
  contents_are_there (Instance c fields) h = fields_are_there fields (instance_fields tree c) h.2
  contents_are_there (Array t elements) h = elements_are_there t elements h

  constructed_is_there : (f : Frame) (o : Option ObjectName) → ((n : ObjectName) → o ≡ Some n → IsConstructing s f n) → AreWithin IsThere (constructed_value o)
  constructed_is_there f None h = tt
  constructed_is_there f (Some n) h = let object : IsConstructing s f n = h n refl in (name_is_there n object.own object.is, tt)

  frame_is_there : (given : Option DeclaredType) (f : Frame) → IsTypedFrame tree s given f → IsFrameWithin IsThere f
  frame_is_there given f h = record {
    arguments = values_are_there f.arguments (argument_types f.method f.owner) h.arguments;
    locals = values_are_there f.locals h.code.locals h.locals;
    stack = stack_is_there f.stack h.stack h.values;
    constructed = constructed_is_there f f.constructed h.constructs;
  }

  waiting_are_there : (given : Option DeclaredType) (fs : List Frame) → AreWaiting tree s given fs → AreFramesWithin IsThere fs
  waiting_are_there given [] h = tt
  waiting_are_there given (f ∷ fs) h = (frame_is_there given f h.0, waiting_are_there (gives s f) fs h.1)

  frames_are_there : (fs : List Frame) → AreTypedFrames tree s fs → AreFramesWithin IsThere fs
  frames_are_there [] h = elim h [ ]
  frames_are_there (f ∷ fs) h = (frame_is_there None f h.0, waiting_are_there (gives s f) fs h.1)

  -- ---- states

  module _ (typed : IsTyped tree s) where
    holds_what_is_there : HoldsWithin IsThere s
    holds_what_is_there = record {
      objects = λ n o there inside. contents_are_there o.contents (typed.objects n o there);
      statics = fields_are_there s.statics (static_fields tree) typed.statics;
      threads = λ t thread there live. frames_are_there thread.frames (typed.threads t thread there live);
    }

    pub reachable_is_there : (n : ℕ) → IsReachable s (Born n) → n + 1 ≤ length s.objects
    reachable_is_there n reached = reachable_within IsThere s holds_what_is_there (Born n) reached
