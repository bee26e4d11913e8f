-- States in which the roots, and the objects of one set, refer to objects of that set alone; each change keeps them so.
use Rattle.std.proofs.Common.{◌≡◌, ◌≤◌, ℕ, List, [], ◌∷◌, ◌++◌, length, Option, Some, None, option_map, slice_get, unwrap_or, sym, subst, refl, arith}
use Rattle.std.specs.List.{AllByRecursion}
use Rattle.std.proofs.lemmas.List.{length-set, length-append}
use Rattle.std.proofs.lemmas.Option.{same_Some, option_and_then_some}
use Rattle.cil_model.specs.declared.trees.Code.{Code}
use Rattle.cil_model.specs.declared.trees.Method.{Method}
use Rattle.cil_model.specs.declared.types.ClassName.{ClassName}
use Rattle.cil_model.specs.declared.types.DeclaredType.{DeclaredType}
use Rattle.cil_model.specs.Fields.{FieldKey}
use Rattle.cil_model.proofs.Lists.{none_is_some, set_or_was, last_or_was}
use Rattle.reference_machine.specs.Values.{ObjectName, Born, Literal, Value, Reference}
use Rattle.reference_machine.specs.States.{Monitor, Free, Contents, Instance, Array, HeapObject, Frame, Thread, State, replaced_entry, replaced_at, object_at, with_object, fields_of_contents, elements_of_contents, with_fields, field_value, with_field, array_at, with_element, with_monitor, next_name, with_birth}
use Rattle.reference_machine.specs.Effects.{new_frame, after, return_value}
use Rattle.reference_machine.specs.Reachable.{constructed_value, values_of_contents}
use Rattle.reference_machine.specs.Steps.{with_thread_at}
use Rattle.reference_machine.proofs.Runs.StateChanges.{item_passes, mapped_some}
use Rattle.reference_machine.proofs.ReachableObjects.Values.{values_of, IsWithin, AreWithin, entry_within, replaced_within, replaced_entry_within, zeros_within}

-- the frame refers to objects of the set alone
pub record IsFrameWithin (Inside : ℕ → Type 0) (f : Frame) : Type 0 where
  pub arguments : AreWithin Inside f.arguments
  pub locals : AreWithin Inside f.locals
  pub stack : AreWithin Inside f.stack
  pub constructed : AreWithin Inside (constructed_value f.constructed)

-- each frame does
abbrev pub AreFramesWithin : (ℕ → Type 0) → List Frame → Type 0
AreFramesWithin Inside fs = AllByRecursion (IsFrameWithin Inside) fs

-- static fields and live threads refer to objects of the set alone, and so do the objects of the set
pub record HoldsWithin (Inside : ℕ → Type 0) (s : State) : Type 0 where
  pub objects : (n : ℕ) (o : HeapObject) → slice_get s.objects n ≡ Some o → Inside n → AreWithin Inside (values_of_contents o.contents)
  pub statics : AreWithin Inside (values_of s.statics)
  pub threads : (t : ℕ) (thread : Thread) → slice_get s.threads t ≡ Some thread → thread.ended ≡ None → AreFramesWithin Inside thread.frames

-- and the set has each object that is still to be born
pub record IsClosed (Inside : ℕ → Type 0) (s : State) : Type 0 where
  pub unborn : (n : ℕ) → length s.objects ≤ n → Inside n
  pub holds : HoldsWithin Inside s

module _ (Inside : ℕ → Type 0) where
  -- ---- frames

  pub after_within : (f : Frame) (stack : List Value) → IsFrameWithin Inside f → AreWithin Inside stack → IsFrameWithin Inside (after f stack)
  after_within f stack h k = record { arguments = h.arguments; locals = h.locals; stack = k; constructed = h.constructed }

  pub new_frame_within : (c : ClassName) (m : Method) (code : Code) (arguments : List Value) (constructed : Option ObjectName) → AreWithin Inside arguments → AreWithin Inside (constructed_value constructed) →
      IsFrameWithin Inside (new_frame c m code arguments constructed)
  new_frame_within c m code arguments constructed h k = record { arguments = h; locals = zeros_within Inside code.locals; stack = tt; constructed = k }

  pub returned_within : (v : Value) (fs : List Frame) → IsWithin Inside v → AreFramesWithin Inside fs → AreFramesWithin Inside (return_value (Some v) fs)
  returned_within v [] h k = tt
  returned_within v (f ∷ fs) h k = (record { arguments = k.0.arguments; locals = k.0.locals; stack = (h, k.0.stack); constructed = k.0.constructed }, k.1)

  pub left_within : (fs : List Frame) → AreFramesWithin Inside fs → AreFramesWithin Inside (return_value None fs)
  left_within [] k = tt
  left_within (f ∷ fs) k = k

module _ (Inside : ℕ → Type 0) (s : State) (closed : IsClosed Inside s) where
  -- ---- what is read

  -- what an object of the set holds
  contents_within : (n : ObjectName) (o : HeapObject) → IsWithin Inside (Reference n) → object_at s n ≡ Some o → AreWithin Inside (values_of_contents o.contents)
  contents_within (Born n) o h there = closed.holds.objects n o there h
  contents_within (Literal characters) o h there = none_is_some o there

  fields_within : (c : Contents) (fields : List (FieldKey × Value)) → AreWithin Inside (values_of_contents c) → fields_of_contents c ≡ Some fields → AreWithin Inside (values_of fields)
  fields_within (Instance c held) fields h e = subst (λ (x : List (FieldKey × Value)). AreWithin Inside (values_of x)) (same_Some held fields e) h
  fields_within (Array t elements) fields h e = none_is_some fields e

  elements_of_within : (c : Contents) (array : DeclaredType × List Value) → AreWithin Inside (values_of_contents c) → elements_of_contents c ≡ Some array → AreWithin Inside array.1
  elements_of_within (Instance c held) array h e = none_is_some array e
  elements_of_within (Array t elements) array h e = subst (λ (x : DeclaredType × List Value). AreWithin Inside x.1) (same_Some (t, elements) array e) h

  pub field_within : (n : ObjectName) (k : FieldKey) (v : Value) → IsWithin Inside (Reference n) → field_value s n k ≡ Some v → IsWithin Inside v
  field_within n k v h e =
      option_and_then_some _ (object_at s n) v e (λ o there e'.
      option_and_then_some _ (fields_of_contents o.contents) v e' (λ fields held e''.
      entry_within Inside k fields v (fields_within o.contents fields (contents_within n o h there) held) e''))

  pub array_within : (n : ObjectName) (array : DeclaredType × List Value) → IsWithin Inside (Reference n) → array_at s n ≡ Some array → AreWithin Inside array.1
  array_within n array h e = option_and_then_some _ (object_at s n) array e (λ o there e'. elements_of_within o.contents array (contents_within n o h there) e')

  -- ---- what is changed

  -- another object in place of one
  pub closed_object : (n : ObjectName) (o : HeapObject) → AreWithin Inside (values_of_contents o.contents) → IsClosed Inside (with_object s n o)
  closed_object (Literal characters) o h = closed
  closed_object (Born n) o h = record {
    unborn = λ m outside. closed.unborn m (subst (λ k. k ≤ m) (length-set s.objects n o) outside);
    holds = record {
      objects = λ m x there inside. item_passes (λ (y : HeapObject). AreWithin Inside (values_of_contents y.contents)) o x h (λ was. closed.holds.objects m x was inside) (set_or_was s.objects n m o x there);
      statics = closed.holds.statics;
      threads = closed.holds.threads;
    };
  }

  -- an object of the set with other marks and what it held
  pub closed_marks : (n : ObjectName) (o o' : HeapObject) → IsWithin Inside (Reference n) → object_at s n ≡ Some o → o'.contents ≡ o.contents → IsClosed Inside (with_object s n o')
  closed_marks n o o' h there same = closed_object n o' (subst (λ c. AreWithin Inside (values_of_contents c)) (sym same) (contents_within n o h there))

  pub closed_field : (n : ObjectName) (k : FieldKey) (v : Value) (s' : State) → IsWithin Inside (Reference n) → IsWithin Inside v → with_field s n k v ≡ Some s' → IsClosed Inside s'
  closed_field n k v s' h value e =
      option_and_then_some _ (object_at s n) s' e (λ o there e'.
      option_and_then_some _ (fields_of_contents o.contents) s' e' (λ fields held e''.
      mapped_some _ (replaced_entry k v fields) s' e'' (λ fields' stored is.
      subst (IsClosed Inside) is (closed_object n (record o { contents = with_fields o.contents fields' })
      (by_contents o.contents fields' (contents_within n o h there) (replaced_entry_within Inside k fields fields' v (fields_within o.contents fields (contents_within n o h there) held) value stored))))))
    where
      by_contents : (c : Contents) (fields' : List (FieldKey × Value)) → AreWithin Inside (values_of_contents c) → AreWithin Inside (values_of fields') → AreWithin Inside (values_of_contents (with_fields c fields'))
      by_contents (Instance c old) fields' was now = now
      by_contents (Array t elements) fields' was now = was

  pub closed_element : (n : ObjectName) (i : ℕ) (v : Value) (s' : State) → IsWithin Inside (Reference n) → IsWithin Inside v → with_element s n i v ≡ Some s' → IsClosed Inside s'
  closed_element n i v s' h value e =
      option_and_then_some _ (object_at s n) s' e (λ o there e'.
      option_and_then_some _ (elements_of_contents o.contents) s' e' (λ array held e''.
      mapped_some _ (replaced_at i v array.1) s' e'' (λ elements stored is.
      subst (IsClosed Inside) is (closed_object n (record o { contents = Array array.0 elements })
      (replaced_within Inside array.1 elements i v (elements_of_within o.contents array (contents_within n o h there) held) value stored)))))

  -- an object more, which holds nothing but what is within
  pub closed_birth : (contents : Contents) → AreWithin Inside (values_of_contents contents) → IsClosed Inside (with_birth s contents)
  closed_birth contents h = record {
    unborn = λ m outside. closed.unborn m (fewer m outside);
    holds = record {
      objects = λ m o there inside. item_passes (λ (y : HeapObject). AreWithin Inside (values_of_contents y.contents)) newborn o h (λ was. closed.holds.objects m o was inside) (last_or_was s.objects m newborn o there);
      statics = closed.holds.statics;
      threads = closed.holds.threads;
    };
  }
    where
      newborn : HeapObject
      newborn = record { contents = contents; monitor = Free; thread = None }

      fewer : (m : ℕ) → length (s.objects ++ newborn ∷ []) ≤ m → length s.objects ≤ m
      fewer m outside = omega (arith, length-append s.objects (newborn ∷ []))

  -- its name is that of an object which was still to be born
  pub newborn_within : IsWithin Inside (Reference (next_name s))
  newborn_within = closed.unborn (length s.objects) (omega arith)

  abbrev IsClosedWith : ℕ → Monitor → Option HeapObject → Type 0
  IsClosedWith n m o = IsClosed Inside (unwrap_or (option_map (λ (x : HeapObject). with_object s (Born n) (record x { monitor = m })) o) s)

  pub closed_monitor : (n : ObjectName) (m : Monitor) → IsWithin Inside (Reference n) → IsClosed Inside (with_monitor s n m)
  closed_monitor (Born n) m h = by_object (slice_get s.objects n) refl
    where
      by_object : (o : Option HeapObject) → slice_get s.objects n ≡ o → IsClosedWith n m (slice_get s.objects n)
      by_object None e = subst (IsClosedWith n m) (sym e) closed
      by_object (Some o) e = subst (IsClosedWith n m) (sym e) (closed_marks (Born n) o (record o { monitor = m }) h e refl)
  closed_monitor (Literal characters) m h = record { unborn = closed.unborn; holds = record { objects = closed.holds.objects; statics = closed.holds.statics; threads = closed.holds.threads } }

  pub closed_statics : (k : FieldKey) (v : Value) (statics : List (FieldKey × Value)) → IsWithin Inside v → replaced_entry k v s.statics ≡ Some statics → IsClosed Inside (record s { statics = statics })
  closed_statics k v statics h e = record {
    unborn = closed.unborn;
    holds = record {
      objects = closed.holds.objects;
      statics = replaced_entry_within Inside k s.statics statics v closed.holds.statics h e;
      threads = closed.holds.threads;
    };
  }

  pub closed_printed : (printed : List ℕ) → IsClosed Inside (record s { printed = printed })
  closed_printed printed = record { unborn = closed.unborn; holds = record { objects = closed.holds.objects; statics = closed.holds.statics; threads = closed.holds.threads } }

  -- one thread more
  pub closed_thread_more : (thread : Thread) → (thread.ended ≡ None → AreFramesWithin Inside thread.frames) → IsClosed Inside (record s { threads = s.threads ++ thread ∷ [] })
  closed_thread_more thread frames = record {
    unborn = closed.unborn;
    holds = record {
      objects = closed.holds.objects;
      statics = closed.holds.statics;
      threads = λ t x there. item_passes (λ (y : Thread). y.ended ≡ None → AreFramesWithin Inside y.frames) thread x frames (closed.holds.threads t x) (last_or_was s.threads t thread x there);
    };
  }

  -- another thread in place of one
  pub closed_thread_at : (t : ℕ) (thread : Thread) → (thread.ended ≡ None → AreFramesWithin Inside thread.frames) → IsClosed Inside (with_thread_at s t thread)
  closed_thread_at t thread frames = record {
    unborn = closed.unborn;
    holds = record {
      objects = closed.holds.objects;
      statics = closed.holds.statics;
      threads = λ n x there. item_passes (λ (y : Thread). y.ended ≡ None → AreFramesWithin Inside y.frames) thread x frames (closed.holds.threads n x) (set_or_was s.threads t n thread x there);
    };
  }
