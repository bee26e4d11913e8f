-- A frame at the beginning of a method is typed, and so is the initial state of an accepted program.
use Rattle.std.proofs.Common.{◌≡◌, ◌==◌, ◌&&◌, ℕ, zero, suc, Bool, true, false, IsTrue, if◌then◌else◌, is_none, List, [], ◌∷◌, length, map, Option, Some, None, option_map, option_and_then, slice_get, Contains, refl, sym, ap, ◌∙◌, subst, arith}
use Rattle.std.specs.Prelude.{IsSome}
use Rattle.std.specs.Option.{option_map_or}
use Rattle.std.proofs.lemmas.Bool.{eqb-true}
use Rattle.std.proofs.lemmas.Option.{same_Some}
use Rattle.cil_model.specs.declared.types.ClassName.{ClassName}
use Rattle.cil_model.specs.declared.types.DeclaredType.{DeclaredType}
use Rattle.cil_model.specs.declared.types.Element.{Element}
use Rattle.cil_model.specs.declared.types.Element.TheVariants.{Int32 as Int32Element}
use Rattle.cil_model.specs.declared.trees.Tree.{Tree}
use Rattle.cil_model.specs.declared.trees.Method.{Method}
use Rattle.cil_model.specs.declared.trees.Code.{Code}
use Rattle.cil_model.specs.declared.limits.Limits.{Limits}
use Rattle.cil_model.specs.Same.{same_text}
use Rattle.cil_model.specs.Assignable.{type_of_class}
use Rattle.cil_model.specs.Bodies.{code_of, argument_types, source_methods, is_entry_point, entry_points}
use Rattle.cil_model.specs.Chains.{methods_declared, is_static}
use Rattle.cil_model.specs.Fields.{FieldKey, static_fields}
use Rattle.cil_model.specs.Mentions.{literals_of}
use Rattle.cil_model.specs.Legality.{is_entry_method}
use Rattle.cil_model.specs.Typings.{Typing, IsCodeTyping, IsTypingOf, IsTyping, IsAccepted}
use Rattle.cil_model.proofs.Lists.{none_is_some}
use Rattle.cil_model.proofs.SameLaws.{never, both_first, both_second, if_true, same_text_itself}
use Rattle.cil_model.proofs.BelowLaws.{typed as typed_as}
use Rattle.cil_model.proofs.Legal.{entry_alone}
use Rattle.reference_machine.specs.Values.{ObjectName, Value, zero_of}
use Rattle.reference_machine.specs.States.{Free, Thread, State, entry_at, zero_fields}
use Rattle.reference_machine.specs.Effects.{new_frame}
use Rattle.reference_machine.specs.Runs.{initial_state_at, initial_state}
use Rattle.reference_machine.specs.TypedStates.{HasType, HaveTypes, HaveFieldTypes, IsConstructing, IsTypedFrame, AreTypedFrames, IsTyped}
use Rattle.reference_machine.proofs.Programs.SourceMethods.{kept_from, source_is_declared}

module _ (tree : Tree) (s : State) where
  -- ---- what locations hold at first

  -- zero or null is of the type
  pub zero_typed : (t : DeclaredType) → HasType tree s (zero_of t) t
  zero_typed t = by_element t.element t.brackets
    where
      by_element : (e : Element) (n : ℕ) → HasType tree s (zero_of (typed_as e n)) (typed_as e n)
      by_element e (suc n) = refl
      by_element Int32Element zero = refl
      by_element _ zero = refl

  pub zeros_typed : (ts : List DeclaredType) → HaveTypes tree s (map zero_of ts) ts
  zeros_typed [] = tt
  zeros_typed (t ∷ ts) = (zero_typed t, zeros_typed ts)

  pub zeroed_typed : (fs : List (FieldKey × DeclaredType)) → HaveFieldTypes tree s (zero_fields fs) fs
  zeroed_typed [] = tt
  zeroed_typed (f ∷ fs) = (refl, zero_typed f.1, zeroed_typed fs)

  -- ---- a frame at the beginning of a method

  -- it is typed where the method is declared, has a typing, and is given arguments of its types
  pub new_frame_typed : (owner : ClassName) (m : Method) (code : Code) (arguments : List Value) (constructed : Option ObjectName) →
      (n : ℕ) × (slice_get (methods_declared tree owner) n ≡ Some m) → code_of m.kind ≡ Some code → (typing : Typing) × IsTyping tree owner m typing →
      HaveTypes tree s arguments (argument_types m owner) → ((n : ObjectName) → constructed ≡ Some n → IsConstructing s (new_frame owner m code arguments constructed) n) →
      IsTypedFrame tree s None (new_frame owner m code arguments constructed)
  new_frame_typed owner m code arguments constructed declared has_code has_typing values constructs =
      let is_typing : IsCodeTyping tree (argument_types m owner) m.signature.return_type code has_typing.0 = subst (λ (c : Option Code). IsTypingOf tree (argument_types m owner) m.signature.return_type c has_typing.0) has_code has_typing.1 in
      record {
        code = code;
        typing = has_typing.0;
        is_declared = declared;
        has_code = has_code;
        is_typing = is_typing;
        arguments = values;
        locals = zeros_typed code.locals;
        stack = [];
        values = tt;
        reaches = ([], is_typing.start, tt);
        constructs = constructs;
      }

-- ---- the initial state

-- a literal of a list has its monitor in that of monitors
has_monitor : (cs : List (List ℕ)) (c : List ℕ) → Contains cs c → IsSome (entry_at same_text c (map (λ (d : List ℕ). (d, Free)) cs))
has_monitor [] c (k, within, e) = absurd (omega (arith, within))
has_monitor (d ∷ ds) c (zero, within, e) =
    let same : IsTrue (same_text d c) = subst (λ x. IsTrue (same_text d x)) e (same_text_itself d) in
    subst (λ o. IsSome o) (sym (if_true (same_text d c) (Some Free) (entry_at same_text c (map (λ (x : List ℕ). (x, Free)) ds)) same)) refl
has_monitor (d ∷ ds) c (suc k, within, e) = by_test (same_text d c) (has_monitor ds c (k, omega (arith, within), e))
  where
    by_test : (b : Bool) → IsSome (entry_at same_text c (map (λ (x : List ℕ). (x, Free)) ds)) → IsSome (if b then Some Free else entry_at same_text c (map (λ (x : List ℕ). (x, Free)) ds))
    by_test true later = refl
    by_test false later = later

-- an entry point has no arguments
no_arguments : (owner : ClassName) (m : Method) → is_entry_method m ≡ true → argument_types m owner ≡ []
no_arguments owner m is = by_parameters m.signature.parameters (both_second (is_static m.kind && is_none m.signature.return_type) _ is)
  where
    by_parameters : (ts : List DeclaredType) → IsTrue (length ts == 0) → (if is_static m.kind then ts else type_of_class owner ∷ ts) ≡ []
    by_parameters [] h = if_true (is_static m.kind) [] (type_of_class owner ∷ []) (both_first _ (is_none m.signature.return_type) (both_first _ _ is))
    by_parameters (t ∷ ts) h = let e = eqb-true (length (t ∷ ts)) 0 h in absurd (omega (arith, e))

module _ (tree : Tree) (limits : Limits) (accepted : IsAccepted tree) where
  -- the state at the beginning of an entry point is typed
  initial_at_typed : (e : ClassName × Method) (code : Code) (n : ℕ) → slice_get (source_methods tree) n ≡ Some e → is_entry_method e.1 ≡ true → code_of e.1.kind ≡ Some code → IsTyped tree (initial_state_at tree limits e code)
  initial_at_typed e code n at is_entry has_code = record {
    objects = λ k o there. none_is_some o there;
    literals = λ c named. has_monitor (literals_of tree) c named;
    statics = zeroed_typed tree first (static_fields tree);
    threads = threads;
  }
    where
      first : State
      first = initial_state_at tree limits e code

      frame : IsTypedFrame tree first None (new_frame e.0 e.1 code [] None)
      frame =
          new_frame_typed tree first e.0 e.1 code [] None (source_is_declared tree accepted.legal n e.0 e.1 at) has_code (accepted.typed n e.0 e.1 at)
          (subst (λ ts. HaveTypes tree first [] ts) (sym (no_arguments e.0 e.1 is_entry)) tt) (λ name none. none_is_some name none)

      threads : (t : ℕ) (thread : Thread) → slice_get first.threads t ≡ Some thread → thread.ended ≡ None → AreTypedFrames tree first thread.frames
      threads zero thread there live = subst (λ (x : Thread). AreTypedFrames tree first x.frames) (same_Some _ thread there) (frame, tt)
      threads (suc t) thread there live = none_is_some thread there

  module _ (e : ClassName × Method) (alone : entry_points tree ≡ e ∷ []) (is_entry : is_entry_method e.1 ≡ true) where
    entry_refines : (k : ℕ) × (slice_get (source_methods tree) k ≡ Some e) × IsTrue (is_entry_point e.1)
    entry_refines = kept_from (λ (found : ClassName × Method). is_entry_point found.1) (source_methods tree) 0 e (ap (λ es. slice_get es 0) alone)

    -- what the initial state is
    initial_is : initial_state tree limits ≡ option_map (initial_state_at tree limits e) (code_of e.1.kind)
    initial_is = ap (λ es. option_and_then (λ (entry : ClassName × Method). option_map (initial_state_at tree limits entry) (code_of entry.1.kind)) (slice_get es 0)) alone

    entry_opens : (o : Option Code) → code_of e.1.kind ≡ o → IsTrue (option_map_or (λ (code : Code). code.is_entry_point) o false) → (s : State) × (initial_state tree limits ≡ Some s) × IsTyped tree s
    entry_opens None is h = never h
    entry_opens (Some code) is h = (initial_state_at tree limits e code, initial_is ∙ ap (option_map (initial_state_at tree limits e)) is, initial_at_typed e code entry_refines.0 entry_refines.1 is_entry is)

  -- an accepted program has an initial state, which is typed
  pub opens : (s : State) × (initial_state tree limits ≡ Some s) × IsTyped tree s
  opens =
      let entry = entry_alone tree accepted.legal in
      entry_opens entry.0 entry.1 entry.2 (code_of entry.0.1.kind) refl (entry_refines entry.0 entry.1 entry.2).2

  -- so is any that it is said to have
  pub initial_typed : (s : State) → initial_state tree limits ≡ Some s → IsTyped tree s
  initial_typed s e = subst (λ x. IsTyped tree x) (same_Some opens.0 s (sym opens.1 ∙ e)) opens.2
