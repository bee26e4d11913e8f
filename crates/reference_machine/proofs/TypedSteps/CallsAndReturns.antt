-- Calls and returns leave typed states.
use Rattle.std.proofs.Common.{◌≡◌, ℕ, ◌+◌, Bool, true, false, if◌then◌else◌, IsTrue, List, [], ◌∷◌, Option, Some, None, option_map, option_and_then, refl, sym, ap, ◌∙◌, subst}
use Rattle.std.specs.Option.{option_map_or}
use Rattle.std.proofs.lemmas.Option.{same_Some}
use Rattle.cil_model.specs.declared.types.ClassName.{ClassName}
use Rattle.cil_model.specs.declared.types.DeclaredType.{DeclaredType}
use Rattle.cil_model.specs.declared.types.Signature.{Signature}
use Rattle.cil_model.specs.declared.instructions.Instruction.{Instruction}
use Rattle.cil_model.specs.declared.instructions.Instruction.TheVariants.{Call, CallVirtual, Return}
use Rattle.cil_model.specs.declared.instructions.MethodReference.{MethodReference}
use Rattle.cil_model.specs.declared.trees.Tree.{Tree}
use Rattle.cil_model.specs.declared.trees.Method.{Method}
use Rattle.cil_model.specs.declared.trees.MethodKind.{MethodKind}
use Rattle.cil_model.specs.declared.trees.MethodKind.TheVariants.{Static, Instance, Virtual, Abstract}
use Rattle.cil_model.specs.declared.trees.Code.{Code}
use Rattle.cil_model.specs.declared.reports.Fault.TheVariants.{StackOverflow}
use Rattle.cil_model.specs.Chains.{find_method, is_virtual, is_abstract_method}
use Rattle.cil_model.specs.Slots.{target}
use Rattle.cil_model.specs.Assignable.{to_itself, is_reference, type_of_class}
use Rattle.cil_model.specs.Bodies.{code_of, argument_types, falls_through, reference_operands, virtual_reference}
use Rattle.cil_model.specs.Legality.{IsLegal}
use Rattle.cil_model.specs.TypeTree.{StackType, Declared, fits}
use Rattle.cil_model.specs.FlowRules.{give, take_operands, take_returned, nothing_below}
use Rattle.cil_model.specs.Typings.{Reaches}
use Rattle.cil_model.specs.Stacks.{take_one}
use Rattle.cil_model.proofs.Lists.{none_is_some}
use Rattle.cil_model.proofs.SameLaws.{never, both_first}
use Rattle.cil_model.proofs.CompleteLaws.{test_is_complete}
use Rattle.cil_model.proofs.BelowLaws.{element_is_reference}
use Rattle.reference_machine.specs.Values.{ObjectName, Value, Native, Null, Reference, is_of_kind}
use Rattle.reference_machine.specs.States.{Frame, State, type_of, class_of}
use Rattle.reference_machine.specs.Effects.{StepContext, Goes, Raises, Sticks, when_some, new_frame, after, return_value}
use Rattle.reference_machine.specs.BuiltIn.{Action, action_of, act}
use Rattle.reference_machine.specs.Steps.{frame_for, is_too_deep, run_method, operands, run_virtual, push_and_advance, push_and_advance_value, execute}
use Rattle.reference_machine.specs.Growth.{Follows}
use Rattle.reference_machine.proofs.Runs.StateChanges.{follows_itself}
use Rattle.reference_machine.proofs.Programs.MethodTypings.{IsDeclared, target_is_declared, framed_has_typing}
use Rattle.reference_machine.specs.TypedStates.{IsObjectOf, HasType, HaveTypes, HaveStackTypes, IsConstructing, IsTypedFrame, type_given, gives, AreWaiting, IsTyped}
use Rattle.reference_machine.proofs.TypedStates.ValueTypes.{values_keep, frame_keeps, gives_keeps, waiting_keep}
use Rattle.reference_machine.proofs.TypedStates.RunningFrames.{IsTypedEffect, IsRunning}
use Rattle.reference_machine.proofs.TypedStates.InitialStates.{new_frame_typed}
use Rattle.reference_machine.proofs.TypedStates.StackOperands.{value_fits}
use Rattle.reference_machine.proofs.TypedSteps.CallOperands.{typed_is_of_kind, operands_typed}
use Rattle.reference_machine.proofs.Programs.VirtualTargets.{no_virtuals, targets_run}
use Rattle.reference_machine.proofs.Programs.FoundMethods.{IsFound, found, arguments_of_instance, operands_are_arguments}
use Rattle.reference_machine.proofs.TypedStates.Instances.{IsInstanceOf, instance_of, instance_typed}
use Rattle.reference_machine.proofs.Programs.BuiltInMembers.{IsMember, acts_as_member}
use Rattle.reference_machine.proofs.TypedSteps.BuiltInMembers.{act_typed}

-- ---- the end of a method

-- a value of the type that is given, or none where none is
abbrev pub IsGiven : Tree → State → Option Value → Option DeclaredType → Type 0
IsGiven tree s None None = Unit {0}
IsGiven tree s (Some v) (Some t) = HasType tree s v t
IsGiven tree s None (Some t) = ⊥
IsGiven tree s (Some v) None = ⊥

module _ (tree : Tree) (s : State) (typed : IsTyped tree s) where
  -- the frame that waits for it continues with it
  returned_typed : (v : Option Value) (d : Option DeclaredType) (below : List Frame) → IsGiven tree s v d → AreWaiting tree s d below → IsTypedEffect tree (Goes (return_value v below) s)
  returned_typed v d [] value waiting = typed
  returned_typed None None (g ∷ gs) value waiting = (typed, waiting)
  returned_typed (Some v) (Some t) (g ∷ gs) value waiting =
      let frame : IsTypedFrame tree s (Some t) g = waiting.0 in (
        typed,
        (
          record {
            code = frame.code;
            typing = frame.typing;
            is_declared = frame.is_declared;
            has_code = frame.has_code;
            is_typing = frame.is_typing;
            arguments = frame.arguments;
            locals = frame.locals;
            stack = Declared t ∷ frame.stack;
            values = (value, frame.values);
            reaches = frame.reaches;
            constructs = λ n e. let made = frame.constructs n e in record { own = made.own; is = made.is; monitor = made.monitor; nothing_returned = made.nothing_returned };
          },
          waiting.1,
        ),
      )
  returned_typed _ _ _ value waiting = elim value [ ]

module _ (here : StepContext) (s : State) (f : Frame) (below : List Frame) where
  -- an object is of its own type
  made_is_given : IsLegal here.tree → (n : ObjectName) → IsConstructing s f n → IsGiven here.tree s (Some (Reference n)) (type_of s n)
  made_is_given legal n made =
      subst (IsGiven here.tree s (Some (Reference n))) (sym made.is)
      (record { own = made.own; is = made.is; fits = test_is_complete here.tree legal made.own made.own to_itself; monitor = made.monitor })

  module _ (running : IsRunning here s f below Return) where
    -- what is given to the frame below, or the thread's end
    push_and_advance_typed : (v : Option Value) → IsGiven here.tree s v (gives s f) → IsTypedEffect here.tree (push_and_advance here s f below v)
    push_and_advance_typed v value = returned_typed here.tree s running.typed v (gives s f) below value running.waiting

    -- the value that a method returns is of its type
    push_and_advance_value_typed : (t : DeclaredType) → gives s f ≡ Some t → (vs : List Value) (stack : List StackType) → HaveStackTypes here.tree s vs stack →
        nothing_below (take_operands here.tree (t ∷ []) stack) ≡ Some running.result →
        IsTypedEffect here.tree (take_one Sticks vs (λ v rest. if is_of_kind t v then push_and_advance here s f below (Some v) else Sticks))
    push_and_advance_value_typed t when_some [] [] values flows = none_is_some running.result flows
    push_and_advance_value_typed t when_some (v ∷ vs) (a ∷ stack) values flows = by_fit (fits here.tree a t) refl flows
      where
        with_value : HasType here.tree s v t → IsTypedEffect here.tree (if is_of_kind t v then push_and_advance here s f below (Some v) else Sticks)
        with_value h =
            subst (λ b. IsTypedEffect here.tree (if b then push_and_advance here s f below (Some v) else Sticks)) (sym (typed_is_of_kind here.tree running.accepted.legal s v t h))
            (push_and_advance_typed (Some v) (subst (IsGiven here.tree s (Some v)) (sym when_some) h))

        by_fit : (b : Bool) → fits here.tree a t ≡ b → nothing_below (if b then Some stack else None) ≡ Some running.result → IsTypedEffect here.tree (if is_of_kind t v then push_and_advance here s f below (Some v) else Sticks)
        by_fit false fit e = none_is_some running.result e
        by_fit true fit e = with_value (value_fits here.tree running.accepted.legal s v a t fit values.0)
    push_and_advance_value_typed t when_some _ _ values flows = elim values [ ]

    -- a return, by what it gives: the object that was constructed, a value, or nothing
    pub return_typed : IsTypedEffect here.tree (execute here s f below Return)
    return_typed = by_made f.constructed refl
      where
        by_type : (r : Option DeclaredType) → gives s f ≡ r → nothing_below (take_returned here.tree r running.stack) ≡ Some running.result → IsTypedEffect here.tree (option_map_or (push_and_advance_value here s f below) r (push_and_advance here s f below None))
        by_type None when_some flows = push_and_advance_typed None (subst (IsGiven here.tree s None) (sym when_some) tt)
        by_type (Some t) when_some flows = push_and_advance_value_typed t when_some f.stack running.stack running.values flows

        by_made : (o : Option ObjectName) → f.constructed ≡ o →
            IsTypedEffect here.tree (option_map_or (λ name. push_and_advance here s f below (Some (Reference name))) o (option_map_or (push_and_advance_value here s f below) f.method.signature.return_type (push_and_advance here s f below None)))
        by_made None e = by_type f.method.signature.return_type (ap (λ o. type_given s o f.method.signature.return_type) e) running.flows
        by_made (Some n) e =
            push_and_advance_typed (Some (Reference n)) (subst (λ o. IsGiven here.tree s (Some (Reference n)) (type_given s o f.method.signature.return_type)) (sym e) (made_is_given running.accepted.legal n (running.frame.constructs n e)))

-- ---- the beginning of a method

module _ (here : StepContext) (s : State) (f : Frame) (below : List Frame) (i : Instruction) (running : IsRunning here s f below i) (falls : IsTrue (falls_through i)) where
  -- the caller waits after its call for what the method gives
  caller_typed : (s' : State) → Follows s s' → (d : Option DeclaredType) (rest : List Value) (types : List StackType) → HaveStackTypes here.tree s' rest types → running.result ≡ give d types → IsTypedFrame here.tree s' d (after f rest)
  caller_typed s' follows d rest types values result =
      let kept : IsTypedFrame here.tree s' None f = frame_keeps here.tree s s' follows None f running.frame in
      record {
        code = running.frame.code;
        typing = running.frame.typing;
        is_declared = running.frame.is_declared;
        has_code = running.frame.has_code;
        is_typing = running.frame.is_typing;
        arguments = values_keep here.tree s s' follows f.arguments _ running.frame.arguments;
        locals = values_keep here.tree s s' follows f.locals _ running.frame.locals;
        stack = types;
        values = values;
        reaches = subst (λ x. Reaches here.tree running.frame.typing x (f.pc + 1)) result (running.on.falls (subst (λ x. IsTrue (falls_through x)) (sym running.is) falls));
        constructs = λ n e. let made = kept.constructs n e in record { own = made.own; is = made.is; monitor = made.monitor; nothing_returned = made.nothing_returned };
      }

  -- the frames below it wait as before
  below_typed : (s' : State) → Follows s s' → (rest : List Value) → AreWaiting here.tree s' (gives s' (after f rest)) below
  below_typed s' follows rest =
      subst (λ d. AreWaiting here.tree s' d below) (sym (gives_keeps here.tree s s' follows None f running.frame)) (waiting_keep here.tree s s' follows (gives s f) below running.waiting)

  -- a new frame of a method with code, above the caller's
  pub frame_typed : (s' : State) → IsTyped here.tree s' → Follows s s' → (c : ClassName) (m : Method) → IsDeclared here.tree c m → action_of c m ≡ None → (code : Code) → code_of m.kind ≡ Some code →
      (arguments : List Value) → HaveTypes here.tree s' arguments (argument_types m c) →
      (constructed : Option ObjectName) → ((n : ObjectName) → constructed ≡ Some n → IsConstructing s' (new_frame c m code arguments constructed) n) →
      (rest : List Value) (types : List StackType) → HaveStackTypes here.tree s' rest types → running.result ≡ give (type_given s' constructed m.signature.return_type) types →
      IsTypedEffect here.tree (frame_for here s f below c m arguments constructed s' rest)
  frame_typed s' typed follows c m declared plain_method code has_code arguments argument_values constructed constructs rest types values result =
      let frame : IsTypedFrame here.tree s' None (new_frame c m code arguments constructed) =
      new_frame_typed here.tree s' c m code arguments constructed declared has_code (framed_has_typing here.tree running.accepted c declared.0 m declared.1 plain_method) argument_values constructs in
      subst (λ o. IsTypedEffect here.tree (when_some o (λ x. Goes (new_frame c m x arguments constructed ∷ after f rest ∷ below) s'))) (sym has_code)
      (typed, (frame, (caller_typed s' follows (type_given s' constructed m.signature.return_type) rest types values result, below_typed s' follows rest)))

  -- ---- calls

  -- a declared method with code, called with arguments of its types
  pub run_typed : (c : ClassName) (m : Method) → IsDeclared here.tree c m → (code : Code) → code_of m.kind ≡ Some code → (arguments : List Value) → HaveTypes here.tree s arguments (argument_types m c) →
      (rest : List Value) (types : List StackType) → HaveStackTypes here.tree s rest types → running.result ≡ give m.signature.return_type types → IsTypedEffect here.tree (run_method here s f below (c, m) arguments rest)
  run_typed c m declared code has_code arguments argument_values rest types values result = by_action (action_of c m) refl
    where
      -- a member that acts takes one operand, and leaves the stack below it
      as_member : (a : Action) → IsMember a c m → (vs : List Value) → HaveTypes here.tree s vs (argument_types m c) → IsTypedEffect here.tree (act here s f below a vs rest)
      as_member a member vs h = by_values vs (subst (λ x. HaveTypes here.tree s vs x) member.takes h)
        where
          below_it : HaveStackTypes here.tree s rest running.result
          below_it = subst (λ x. HaveStackTypes here.tree s rest x) (sym (result ∙ ap (λ d. give d types) member.nothing_returned)) values

          by_values : (vs : List Value) → HaveTypes here.tree s vs (member.operand ∷ []) → IsTypedEffect here.tree (act here s f below a vs rest)
          by_values [] k = elim k [ ]
          by_values (v ∷ []) k = act_typed here s f below i running falls rest below_it a member.operand member.fits v k.0
          by_values (v ∷ w ∷ us) k = elim k.1 [ ]

      by_depth : (b : Bool) → action_of c m ≡ None → IsTypedEffect here.tree (if b then Raises StackOverflow else frame_for here s f below c m arguments None s rest)
      by_depth true plain_method = tt
      by_depth false plain_method = frame_typed s running.typed (follows_itself s) c m declared plain_method code has_code arguments argument_values None (λ n e. none_is_some n e) rest types values result

      by_action : (o : Option Action) → action_of c m ≡ o →
          IsTypedEffect here.tree (option_map_or (λ a. act here s f below a arguments rest) o (if is_too_deep here s f below then Raises StackOverflow else frame_for here s f below c m arguments None s rest))
      by_action None e = by_depth (is_too_deep here s f below) e
      by_action (Some a) e = as_member a (acts_as_member here.tree c m a declared e) arguments argument_values

-- a method that isn't abstract has code
pub has_code : (k : MethodKind) → is_abstract_method k ≡ false → (code : Code) × (code_of k ≡ Some code)
has_code (Static code) h = (code, refl)
has_code (Instance code) h = (code, refl)
has_code (Virtual is_new_slot code) h = (code, refl)
has_code (Abstract is_new_slot) h = absurd cc

-- nor is one that isn't virtual
plain_is_not_abstract : (k : MethodKind) → is_virtual k ≡ false → is_abstract_method k ≡ false
plain_is_not_abstract (Abstract is_new_slot) h = h
plain_is_not_abstract _ h = refl

-- a result that gives a type to a stack
pub given_to : {A : Type 0} (d : Option DeclaredType) (o : Option (List StackType)) (result : List StackType) → option_map (give d) o ≡ Some result → ((types : List StackType) → o ≡ Some types → result ≡ give d types → A) → A
given_to d None result e each = none_is_some result e
given_to d (Some types) result e each = each types refl (sym (same_Some (give d types) result e))

module _ (here : StepContext) (s : State) (f : Frame) (below : List Frame) where
  -- a method of the signature gives what the reference says
  gives_same : (m : Method) (signature : Signature) → m.signature ≡ signature → (result types : List StackType) → result ≡ give signature.return_type types → result ≡ give m.signature.return_type types
  gives_same m signature same result types e = e ∙ ap (λ (x : Signature). give x.return_type types) (sym same)

  module _ (is_instance : Bool) (r : MethodReference) (running : IsRunning here s f below (Call is_instance r)) where
    -- the method that is found runs on its operands
    call_found : (c : ClassName) (m : Method) → find_method here.tree is_instance r ≡ Some (c, m) → (types : List StackType) → take_operands here.tree (reference_operands is_instance r) running.stack ≡ Some types →
        running.result ≡ give r.signature.return_type types → is_abstract_method m.kind ≡ false → IsTypedEffect here.tree (operands here s f below (reference_operands is_instance r) (run_method here s f below (c, m)))
    call_found c m e types taken result concrete =
        let is : IsFound here.tree is_instance r c m = found here.tree running.accepted.legal is_instance r c m e in
        let code : (code : Code) × (code_of m.kind ≡ Some code) = has_code m.kind concrete in
        operands_typed here s f below running.accepted.legal (reference_operands is_instance r) (run_method here s f below (c, m)) running.stack types taken running.values (λ arguments rest h k.
        run_typed here s f below (Call is_instance r) running refl c m is.declared code.0 code.1 arguments (operands_are_arguments here.tree running.accepted.legal s is_instance r c m is arguments h) rest types k
        (gives_same m r.signature is.signature running.result types result))

    -- a call
    pub call_typed : IsTypedEffect here.tree (execute here s f below (Call is_instance r))
    call_typed = by_found (find_method here.tree is_instance r) refl running.flows
      where
        taken : Option (List StackType)
        taken = take_operands here.tree (reference_operands is_instance r) running.stack

        by_kind : (c : ClassName) (m : Method) → find_method here.tree is_instance r ≡ Some (c, m) → (b : Bool) → is_abstract_method m.kind ≡ b → (if b then None else option_map (give r.signature.return_type) taken) ≡ Some running.result →
            IsTypedEffect here.tree (operands here s f below (reference_operands is_instance r) (run_method here s f below (c, m)))
        by_kind c m e true abstract flows = none_is_some running.result flows
        by_kind c m e false concrete flows = given_to r.signature.return_type taken running.result flows (λ types taken result. call_found c m e types taken result concrete)

        by_found : (o : Option (ClassName × Method)) → find_method here.tree is_instance r ≡ o →
            option_and_then (λ (x : ClassName × Method). if is_abstract_method x.1.kind then None else option_map (give r.signature.return_type) taken) o ≡ Some running.result →
            IsTypedEffect here.tree (when_some o (λ x. operands here s f below (reference_operands is_instance r) (run_method here s f below x)))
        by_found None e flows = none_is_some running.result flows
        by_found (Some (c, m)) e flows = by_kind c m e (is_abstract_method m.kind) refl flows

  -- ---- virtual calls

  module _ (owner : ClassName) (name : List ℕ) (signature : Signature) (running : IsRunning here s f below (CallVirtual owner name signature)) where
    abbrev reference : MethodReference
    reference = virtual_reference owner name signature

    module _ (c : ClassName) (m : Method) (e : find_method here.tree true reference ≡ Some (c, m)) (rest : List Value) (types : List StackType) (values : HaveStackTypes here.tree s rest types)
        (result : running.result ≡ give signature.return_type types) where
      is_found : IsFound here.tree true reference c m
      is_found = found here.tree running.accepted.legal true reference c m e

      -- on the object: one that isn't virtual runs itself, and otherwise the target for the object's class runs
      chosen_typed : (n : ObjectName) (arguments : List Value) → IsObjectOf here.tree s n (type_of_class owner) → HaveTypes here.tree s arguments signature.parameters →
          (v : Bool) → is_virtual m.kind ≡ v → IsTypedEffect here.tree (when_some (if v then option_and_then (λ d. target here.tree d c m) (class_of s n) else Some (c, m)) (λ chosen. run_method here s f below chosen (Reference n ∷ arguments) rest))
      chosen_typed n arguments this others false kind =
          let code : (code : Code) × (code_of m.kind ≡ Some code) = has_code m.kind (plain_is_not_abstract m.kind kind) in
          run_typed here s f below (CallVirtual owner name signature) running refl c m is_found.declared code.0 code.1 (Reference n ∷ arguments) (operands_are_arguments here.tree running.accepted.legal s true reference c m is_found (Reference n ∷ arguments) (this, others)) rest types values
          (gives_same m signature is_found.signature running.result types result)
      chosen_typed n arguments this others true kind =
          let object : IsInstanceOf here.tree s n (type_of_class owner) = instance_of here.tree s running.typed n (type_of_class owner) this (λ own which fits. no_virtuals here.tree own owner name signature c m which e fits kind) in
          let runs = targets_run here.tree running.accepted.legal object.own owner name signature c m (both_first _ _ object.has) object.no_interface e kind object.fits in
          let k : ClassName = runs.0 in
          let x : Method = runs.1 in
          let same : x.signature ≡ signature = runs.5 ∙ is_found.signature in
          let own_arguments : HaveTypes here.tree s (Reference n ∷ arguments) (argument_types x k) =
          arguments_of_instance here.tree running.accepted.legal s (Reference n) arguments (type_of_class object.own) k x runs.6 (instance_typed here.tree running.accepted.legal s n object) runs.7
          (subst (λ (y : Signature). HaveTypes here.tree s arguments y.parameters) (sym same) others) in
          subst (λ o. IsTypedEffect here.tree (when_some (option_and_then (λ d. target here.tree d c m) o) (λ chosen. run_method here s f below chosen (Reference n ∷ arguments) rest))) (sym object.is) (
          subst (λ o. IsTypedEffect here.tree (when_some o (λ chosen. run_method here s f below chosen (Reference n ∷ arguments) rest))) (sym runs.3)
          (run_typed here s f below (CallVirtual owner name signature) running refl k x (target_is_declared here.tree object.own c m k x runs.3 is_found.declared) runs.2 runs.4 (Reference n ∷ arguments) own_arguments rest types values
          (gives_same x signature same running.result types result)))

      -- null ends the thread by its fault, and an object chooses what runs
      virtual_typed : (arguments : List Value) → HaveTypes here.tree s arguments (type_of_class owner ∷ signature.parameters) → IsTypedEffect here.tree (run_virtual here s f below (c, m) arguments rest)
      virtual_typed [] h = elim h [ ]
      virtual_typed (Reference n ∷ arguments) h = chosen_typed n arguments h.0 h.1 (is_virtual m.kind) refl
      virtual_typed (Null ∷ arguments) h = tt
      virtual_typed (Native z ∷ arguments) h = elim h.0 [ ]
      virtual_typed _ h = never (subst (λ x. IsTrue (is_reference x)) h.0 (element_is_reference here.tree (Some owner) 0))

    -- a virtual call
    pub call_virtual_typed : IsTypedEffect here.tree (execute here s f below (CallVirtual owner name signature))
    call_virtual_typed = by_found (find_method here.tree true reference) refl running.flows
      where
        types : List DeclaredType
        types = reference_operands true reference

        by_found : (o : Option (ClassName × Method)) → find_method here.tree true reference ≡ o →
            option_and_then (λ (x : ClassName × Method). option_map (give signature.return_type) (take_operands here.tree types running.stack)) o ≡ Some running.result →
            IsTypedEffect here.tree (when_some o (λ x. operands here s f below types (run_virtual here s f below x)))
        by_found None e flows = none_is_some running.result flows
        by_found (Some (c, m)) e flows = given_to signature.return_type (take_operands here.tree types running.stack) running.result flows (λ left taken result.
            operands_typed here s f below running.accepted.legal types (run_virtual here s f below (c, m)) running.stack left taken running.values (λ arguments rest h k. virtual_typed c m e rest left k result arguments h))
