-- Values keep their types: while states follow one another, and up the tree of types.
use Rattle.std.proofs.Common.{◌≡◌, ℕ, zero, suc, Bool, true, false, IsTrue, if◌then◌else◌, List, [], ◌∷◌, map, Option, Some, None, option_map, slice_get, refl, sym, ap, ◌∙◌, subst}
use Rattle.std.specs.Prelude.{IsSome}
use Rattle.std.proofs.lemmas.Option.{same_Some}
use Rattle.cil_model.specs.declared.types.DeclaredType.{DeclaredType}
use Rattle.cil_model.specs.declared.trees.Tree.{Tree}
use Rattle.cil_model.specs.Same.{same_text}
use Rattle.cil_model.specs.Assignable.{chained, is_assignable}
use Rattle.cil_model.specs.Fields.{FieldKey}
use Rattle.cil_model.specs.Legality.{IsLegal}
use Rattle.cil_model.specs.TypeTree.{StackType, Declared, NativeInt, Null as NullType, IsBelow, ancestor}
use Rattle.cil_model.specs.Typings.{AreBelow}
use Rattle.cil_model.proofs.Lists.{none_is_some}
use Rattle.cil_model.proofs.AssignableLaws.{test_is_sound}
use Rattle.cil_model.proofs.CompleteLaws.{test_is_complete}
use Rattle.cil_model.proofs.BelowLaws.{ancestor_is_reference}
use Rattle.cil_model.proofs.FitsLaws.{below_fits}
use Rattle.reference_machine.specs.Values.{ObjectName, Born, Literal, Value, Int32, Int64, Native, Null, Reference}
use Rattle.reference_machine.specs.States.{Contents, Instance, Array, HeapObject, Frame, State, entry_at, type_of_contents, type_of, monitor_of}
use Rattle.reference_machine.specs.Growth.{Follows}
use Rattle.reference_machine.proofs.Runs.JoinedRuns.{type_stays}
use Rattle.reference_machine.specs.TypedStates.{HasType, HasStackType, HaveTypes, HaveStackTypes, AllHaveType, HaveFieldTypes, IsTypedContents, IsConstructing, IsTypedFrame, type_given, gives, AreWaiting, AreTypedFrames}

-- ---- along states

-- whether there is an entry is determined by the keys
entry_by_keys : {K V : Type 0} (same : K → K → Bool) (k : K) (es fs : List (K × V)) → map (λ (e : K × V). e.0) es ≡ map (λ (e : K × V). e.0) fs → IsSome (entry_at same k es) → IsSome (entry_at same k fs)
entry_by_keys same k [] [] h there = there
entry_by_keys same k [] (f ∷ fs) h there = absurd cc
entry_by_keys same k (e ∷ es) [] h there = absurd cc
entry_by_keys {K} {V} same k (e ∷ es) (f ∷ fs) h there = by_test (same e.0 k) (ap (λ x. same x k) first) (entry_by_keys same k es fs rest) there
  where
    first : e.0 ≡ f.0
    first = cc

    rest : map (λ (x : K × V). x.0) es ≡ map (λ (x : K × V). x.0) fs
    rest = cc

    by_test : (b : Bool) → b ≡ same f.0 k → (IsSome (entry_at same k es) → IsSome (entry_at same k fs)) → IsSome (if b then Some e.1 else entry_at same k es) → IsSome (if same f.0 k then Some f.1 else entry_at same k fs)
    by_test true is later here = subst (λ c. IsSome (if c then Some f.1 else entry_at same k fs)) is refl
    by_test false is later here = subst (λ c. IsSome (if c then Some f.1 else entry_at same k fs)) is (later here)

typed_is_there : (s : State) (n : ℕ) (own : DeclaredType) → type_of s (Born n) ≡ Some own → IsSome (monitor_of s (Born n))
typed_is_there s n own is = by_object (slice_get s.objects n) refl is
  where
    by_object : (o : Option HeapObject) → slice_get s.objects n ≡ o → option_map (λ (x : HeapObject). type_of_contents x.contents) o ≡ Some own → IsSome (option_map (λ (x : HeapObject). x.monitor) o)
    by_object None e h = none_is_some own h
    by_object (Some o) e h = refl

module _ (tree : Tree) (s t : State) (follows : Follows s t) where
  pub monitor_keeps : (n : ObjectName) (own : DeclaredType) → type_of s n ≡ Some own → IsSome (monitor_of s n) → IsSome (monitor_of t n)
  monitor_keeps (Born n) own is there = typed_is_there t n own (type_stays s t follows (Born n) own is)
  monitor_keeps (Literal characters) own is there = entry_by_keys same_text characters s.literal_monitors t.literal_monitors (sym follows.literals_stay) there

  pub value_keeps : (v : Value) (d : DeclaredType) → HasType tree s v d → HasType tree t v d
  value_keeps (Reference n) d h = record { own = h.own; is = type_stays s t follows n h.own h.is; fits = h.fits; monitor = monitor_keeps n h.own h.is h.monitor }
  value_keeps _ d h = h

  pub stack_value_keeps : (v : Value) (d : StackType) → HasStackType tree s v d → HasStackType tree t v d
  stack_value_keeps v (Declared d) h = value_keeps v d h
  stack_value_keeps _ _ h = h

  pub values_keep : (vs : List Value) (ts : List DeclaredType) → HaveTypes tree s vs ts → HaveTypes tree t vs ts
  values_keep (v ∷ vs) (d ∷ ds) h = (value_keeps v d h.0, values_keep vs ds h.1)
  values_keep _ _ h = h

  pub stack_keeps : (vs : List Value) (ts : List StackType) → HaveStackTypes tree s vs ts → HaveStackTypes tree t vs ts
  stack_keeps (v ∷ vs) (d ∷ ds) h = (stack_value_keeps v d h.0, stack_keeps vs ds h.1)
  stack_keeps _ _ h = h

  pub elements_keep : (d : DeclaredType) (vs : List Value) → AllHaveType tree s d vs → AllHaveType tree t d vs
  elements_keep d [] h = h
  elements_keep d (v ∷ vs) h = (value_keeps v d h.0, elements_keep d vs h.1)

  pub fields_keep : (es : List (FieldKey × Value)) (fs : List (FieldKey × DeclaredType)) → HaveFieldTypes tree s es fs → HaveFieldTypes tree t es fs
  fields_keep (e ∷ es) (f ∷ fs) h = (h.0, value_keeps e.1 f.1 h.1, fields_keep es fs h.2)
  fields_keep _ _ h = h

  pub contents_keep : (c : Contents) → IsTypedContents tree s c → IsTypedContents tree t c
  contents_keep (Instance c fields) h = (h.0, h.1, fields_keep fields _ h.2)
  contents_keep (Array d elements) h = elements_keep d elements h

  constructing_keeps : (f : Frame) (n : ObjectName) → IsConstructing s f n → IsConstructing t f n
  constructing_keeps f n h = record { own = h.own; is = type_stays s t follows n h.own h.is; monitor = monitor_keeps n h.own h.is h.monitor; nothing_returned = h.nothing_returned }

  pub frame_keeps : (d : Option DeclaredType) (f : Frame) → IsTypedFrame tree s d f → IsTypedFrame tree t d f
  frame_keeps d f h = record {
    code = h.code;
    typing = h.typing;
    is_declared = h.is_declared;
    has_code = h.has_code;
    is_typing = h.is_typing;
    stack = h.stack;
    reaches = h.reaches;
    arguments = values_keep f.arguments _ h.arguments;
    locals = values_keep f.locals _ h.locals;
    values = stack_keeps f.stack h.stack h.values;
    constructs = λ n e. constructing_keeps f n (h.constructs n e);
  }

  pub gives_keeps : (d : Option DeclaredType) (f : Frame) → IsTypedFrame tree s d f → gives t f ≡ gives s f
  gives_keeps d f h = by_object f.constructed refl
    where
      by_object : (o : Option ObjectName) → f.constructed ≡ o → type_given t o f.method.signature.return_type ≡ type_given s o f.method.signature.return_type
      by_object None e = refl
      by_object (Some n) e = let made = h.constructs n e in type_stays s t follows n made.own made.is ∙ sym made.is

  pub waiting_keep : (d : Option DeclaredType) (fs : List Frame) → AreWaiting tree s d fs → AreWaiting tree t d fs
  waiting_keep d [] h = h
  waiting_keep d (f ∷ fs) h = (frame_keeps d f h.0, subst (λ x. AreWaiting tree t x fs) (sym (gives_keeps d f h.0)) (waiting_keep (gives s f) fs h.1))

  pub frames_keep : (fs : List Frame) → AreTypedFrames tree s fs → AreTypedFrames tree t fs
  frames_keep [] h = h
  frames_keep (f ∷ fs) h = (frame_keeps None f h.0, subst (λ x. AreWaiting tree t x fs) (sym (gives_keeps None f h.0)) (waiting_keep (gives s f) fs h.1))

-- ---- up the tree of types

module _ (tree : Tree) (legal : IsLegal tree) (s : State) where
  pub assignable_on : (a b c : DeclaredType) → IsTrue (is_assignable tree a b) → IsTrue (is_assignable tree b c) → IsTrue (is_assignable tree a c)
  assignable_on a b c h k = test_is_complete tree legal a c (chained (test_is_sound tree a b h) (test_is_sound tree b c k))

  pub value_above : (v : Value) (a b : StackType) → IsBelow tree a b → HasStackType tree s v a → HasStackType tree s v b
  value_above (Int32 z) (Declared a) (Declared b) (zero, e) h = sym (same_Some a b e) ∙ h
  value_above (Int32 z) (Declared a) (Declared b) (suc n, e) h = none_is_some b (subst (λ x. ancestor tree (suc n) x ≡ Some b) h e)
  value_above (Int64 z) (Declared a) (Declared b) (zero, e) h = sym (same_Some a b e) ∙ h
  value_above (Int64 z) (Declared a) (Declared b) (suc n, e) h = none_is_some b (subst (λ x. ancestor tree (suc n) x ≡ Some b) h e)
  value_above (Native z) (Declared a) (Declared b) below h = h
  value_above Null (Declared a) (Declared b) (n, e) h = ancestor_is_reference tree n a b h e
  value_above (Reference n) (Declared a) (Declared b) below h =
      record { own = h.own; is = h.is; monitor = h.monitor; fits = assignable_on h.own a b h.fits (below_fits tree legal (Declared a) b below) }
  value_above Null NullType (Declared b) below h = below
  value_above v NullType NullType below h = h
  value_above v NativeInt NativeInt below h = h
  value_above (Int32 z) NullType (Declared b) below h = elim h [ ]
  value_above (Int64 z) NullType (Declared b) below h = elim h [ ]
  value_above (Native z) NullType (Declared b) below h = elim h [ ]
  value_above (Reference n) NullType (Declared b) below h = elim h [ ]
  value_above v _ _ below h = absurd cc

  pub stack_above : (vs : List Value) (ts us : List StackType) → AreBelow tree ts us → HaveStackTypes tree s vs ts → HaveStackTypes tree s vs us
  stack_above [] [] [] below h = h
  stack_above (v ∷ vs) (a ∷ ts) (b ∷ us) below h = (value_above v a b below.0 h.0, stack_above vs ts us below.1 h.1)
  stack_above [] [] (b ∷ us) below h = below
  stack_above (v ∷ vs) (a ∷ ts) [] below h = elim below [ ]
  stack_above _ _ us below h = elim h [ ]
