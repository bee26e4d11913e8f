-- New objects leave typed states.
use Rattle.std.proofs.Common.{◌≡◌, ◌≢◌, ◌⊎◌, Bool, true, false, not, ◌&&◌, ◌||◌, if◌then◌else◌, IsTrue, List, [], ◌∷◌, find, Option, Some, None, is_some, option_map, option_and_then, slice_get, refl, inl, inr, sym, ap, ◌∙◌, subst}
use Rattle.std.specs.List.{list_any}
use Rattle.std.specs.Option.{option_map_or}
use Rattle.std.proofs.lemmas.Bool.{and_from}
use Rattle.std.proofs.lemmas.Option.{same_Some}
use Rattle.cil_model.specs.declared.types.ClassName.{ClassName}
use Rattle.cil_model.specs.declared.types.DeclaredType.{DeclaredType}
use Rattle.cil_model.specs.declared.types.Signature.{Signature}
use Rattle.cil_model.specs.declared.instructions.Instruction.TheVariants.{NewObject}
use Rattle.cil_model.specs.declared.instructions.MethodName.TheVariants.{Constructor}
use Rattle.cil_model.specs.declared.trees.Tree.{Tree}
use Rattle.cil_model.specs.declared.trees.Class.{Class}
use Rattle.cil_model.specs.declared.trees.ClassKind.{ClassKind}
use Rattle.cil_model.specs.declared.trees.ClassKind.TheVariants.{Interface, Class as PlainClass}
use Rattle.cil_model.specs.declared.trees.Method.{Method}
use Rattle.cil_model.specs.declared.trees.Code.{Code}
use Rattle.cil_model.specs.declared.reports.Fault.TheVariants.{OutOfMemory, StackOverflow}
use Rattle.cil_model.specs.Same.{same_class, same_flag, same_signature, same_method_name}
use Rattle.cil_model.specs.Declarations.{Declaration, declaration_of, source_name, is_interface_kind, is_abstract_kind, string_name}
use Rattle.cil_model.specs.Chains.{methods_declared, listed_by, is_interface, is_abstract_method, is_static, find_method}
use Rattle.cil_model.specs.Assignable.{type_of_class}
use Rattle.cil_model.specs.Bodies.{code_of, argument_types, constructor_reference}
use Rattle.cil_model.specs.FlowRules.{is_concrete, give, take_operands}
use Rattle.cil_model.specs.Legality.{IsLegal, kinds_fit}
use Rattle.cil_model.specs.TypeTree.{StackType, Declared}
use Rattle.cil_model.proofs.Lists.{none_is_some, passes_not}
use Rattle.cil_model.proofs.SameLaws.{never, both_first, either, is_not, same_class_equal}
use Rattle.reference_machine.specs.Values.{ObjectName, Value, Reference}
use Rattle.reference_machine.specs.States.{Contents, Frame, State, next_name, with_birth, new_instance}
use Rattle.reference_machine.specs.Effects.{StepContext, Effect, Raises, when_some, new_frame, onward}
use Rattle.reference_machine.specs.BuiltIn.{Action, action_of}
use Rattle.reference_machine.specs.Steps.{birth, frame_for, is_too_deep, operands, construct, execute}
use Rattle.reference_machine.specs.Growth.{Follows}
use Rattle.reference_machine.proofs.Runs.StateChanges.{follows_birth}
use Rattle.reference_machine.proofs.Programs.MethodTypings.{IsDeclared}
use Rattle.reference_machine.specs.TypedStates.{HasType, HaveTypes, HaveStackTypes, IsConstructing, has_objects, IsTyped}
use Rattle.reference_machine.proofs.TypedStates.ValueTypes.{values_keep, stack_keeps}
use Rattle.reference_machine.proofs.TypedStates.RunningFrames.{IsTypedEffect, IsRunning, onward_typed}
use Rattle.reference_machine.proofs.Programs.DeclaredClasses.{found_passes, declared, ThreadStatus, of_source, of_object, of_string, of_console, of_monitor, of_thread, of_none, thread_status, source_declares, interface_is_source, all_kinds_fit}
use Rattle.reference_machine.proofs.Programs.VirtualTargets.{nearest_at}
use Rattle.reference_machine.proofs.TypedStates.StateChanges.{typed_birth, newborn_type, newborn_monitor, newborn_has_own_type, new_instance_typed}
use Rattle.reference_machine.proofs.TypedSteps.CallOperands.{operands_typed}
use Rattle.reference_machine.proofs.Programs.FoundMethods.{IsFound, found, arguments_of_instance}
use Rattle.reference_machine.proofs.TypedSteps.CallsAndReturns.{frame_typed, has_code, given_to}

-- ---- classes of which objects are made

module _ (tree : Tree) where
  -- a class of the source that has objects is declared without `abstract`
  concrete_kind : (c : ClassName) (x : Class) → declaration_of tree c ≡ Some (declared tree x) → IsTrue (is_concrete tree c) → IsTrue (not (is_abstract_kind x.kind))
  concrete_kind c x declares h = subst (λ o. IsTrue (option_map_or (λ (d : Declaration). not d.is_abstract) o false)) declares h

  -- no interface is one
  pub concrete_is_class : (c : ClassName) → IsTrue (is_concrete tree c) → is_interface tree c ≢ true
  concrete_is_class c concrete interface =
      let x = interface_is_source tree c interface in
      by_kind x.0.kind x.2 (concrete_kind c x.0 (source_declares tree c x.0 x.1) concrete)
    where
      by_kind : (k : ClassKind) → IsTrue (is_interface_kind k) → IsTrue (not (is_abstract_kind k)) → ⊥
      by_kind Interface h k = never k
      by_kind (PlainClass is_abstract base interfaces) h k = never h

  -- it declares no abstract method
  pub concrete_declares_code : IsLegal tree → (c : ClassName) (m : Method) → IsTrue (is_concrete tree c) → IsDeclared tree c m → is_abstract_method m.kind ≡ false
  concrete_declares_code legal c m concrete declared = passes_not (λ (x : Method). is_abstract_method x.kind) (methods_declared tree c) declared.0 m (by_thread_status (thread_status tree c) concrete) declared.1
    where
      by_abstract : (a s t w : Bool) → IsTrue (not a) → IsTrue ((a || (not s && not t)) && w) → s ≡ false
      by_abstract true s t w h k = never h
      by_abstract false s t w h k = is_not s (both_first _ _ (both_first _ _ k))

      by_kind : (k : ClassKind) (s t w v : Bool) → IsTrue (not (is_abstract_kind k)) → IsTrue (if is_interface_kind k then v else (is_abstract_kind k || (not s && not t)) && w) → s ≡ false
      by_kind Interface s t w v h k = never h
      by_kind (PlainClass is_abstract base interfaces) s t w v h k = by_abstract is_abstract s t w h k

      by_thread_status : {c : ClassName} → ThreadStatus tree c → IsTrue (is_concrete tree c) → list_any (λ (x : Method). is_abstract_method x.kind) (methods_declared tree c) ≡ false
      by_thread_status {c} (of_source x is) h =
          let fits : IsTrue (kinds_fit tree x) = found_passes (λ y. same_class (source_name y) c) (kinds_fit tree) tree.classes x is (all_kinds_fit tree legal) in
          ap (λ o. list_any (λ (y : Method). is_abstract_method y.kind) (listed_by (λ (d : Declaration). d.methods) o)) (source_declares tree c x is) ∙ by_kind x.kind _ _ _ _ (concrete_kind c x (source_declares tree c x is) h) fits
      by_thread_status of_object h = refl
      by_thread_status of_string h = refl
      by_thread_status of_console h = refl
      by_thread_status of_monitor h = refl
      by_thread_status of_thread h = refl
      by_thread_status (of_none e) h = ap (λ o. list_any (λ (y : Method). is_abstract_method y.kind) (listed_by (λ (d : Declaration). d.methods) o)) e

  -- System.String declares no method
  pub declaring_has_objects : (c : ClassName) (m : Method) → IsTrue (is_concrete tree c) → IsDeclared tree c m → IsTrue (has_objects tree c)
  declaring_has_objects c m concrete declared = and_from _ _ concrete (by_test (same_class c string_name) refl)
    where
      by_test : (b : Bool) → same_class c string_name ≡ b → IsTrue (not b)
      by_test false e = refl
      by_test true e = none_is_some m (subst (λ k. slice_get (methods_declared tree k) declared.0 ≡ Some m) (same_class_equal c string_name e) declared.1)

-- a constructor is of the class itself
constructor_is_own : (tree : Tree) (c k : ClassName) (parameters : List DeclaredType) (m : Method) → find_method tree true (constructor_reference c parameters) ≡ Some (k, m) → c ≡ k
constructor_is_own tree c k parameters m h = by_case (either (same_class k c) false (nearest_at at (c ∷ []) k m h).1)
  where
    at : ClassName → Option Method
    at x = find (λ (y : Method). same_method_name y.name Constructor && same_signature y.signature (constructor_reference c parameters).signature && same_flag (is_static y.kind) (not true)) (methods_declared tree x)

    by_case : IsTrue (same_class k c) ⊎ IsTrue false → c ≡ k
    by_case (inl same) = sym (same_class_equal k c same)
    by_case (inr lost) = never lost

-- ---- a new object

module _ (here : StepContext) (s : State) (f : Frame) (below : List Frame) where
  -- a birth is refused, or the instruction continues
  birth_typed : (contents : Contents) (go : ObjectName → State → Effect) → IsTypedEffect here.tree (go (next_name s) (with_birth s contents)) → IsTypedEffect here.tree (birth here s f below contents go)
  birth_typed contents go h = by_refusal here.is_refused
    where
      by_refusal : (b : Bool) → IsTypedEffect here.tree (if b then Raises OutOfMemory else go (next_name s) (with_birth s contents))
      by_refusal true = tt
      by_refusal false = h

  module _ (c : ClassName) (parameters : List DeclaredType) (running : IsRunning here s f below (NewObject c parameters)) where
    abbrev contents : Contents
    contents = new_instance here.tree c

    abbrev born : State
    born = with_birth s contents

    abbrev name : ObjectName
    name = next_name s

    legal : IsLegal here.tree
    legal = running.accepted.legal

    module _ (m : Method) (e : find_method here.tree true (constructor_reference c parameters) ≡ Some (c, m)) (concrete : IsTrue (is_concrete here.tree c))
        (types : List StackType) (result : running.result ≡ Declared (type_of_class c) ∷ types) where
      is_found : IsFound here.tree true (constructor_reference c parameters) c m
      is_found = found here.tree legal true (constructor_reference c parameters) c m e

      -- the state with the object is typed
      born_typed : IsTyped here.tree born
      born_typed = typed_birth here.tree s running.typed contents (new_instance_typed here.tree born c (declaring_has_objects here.tree c m concrete is_found.declared) (concrete_is_class here.tree c concrete))

      follows : Follows s born
      follows = follows_birth s contents

      object_typed : HasType here.tree born (Reference name) (type_of_class c)
      object_typed = newborn_has_own_type here.tree s legal contents

      -- a frame of the constructor makes the object
      is_constructing : (code : Code) (arguments : List Value) → IsConstructing born (new_frame c m code arguments (Some name)) name
      is_constructing code arguments = record {
        own = type_of_class c;
        is = newborn_type here.tree s contents;
        monitor = newborn_monitor here.tree s contents;
        nothing_returned = ap (λ (x : Signature). x.return_type) is_found.signature;
      }

      module _ (arguments : List Value) (argument_values : HaveTypes here.tree s arguments parameters) (rest : List Value) (values : HaveStackTypes here.tree s rest types) where
        -- a built-in constructor does nothing
        at_once : IsTypedEffect here.tree (onward f below born (Reference name ∷ rest))
        at_once =
            onward_typed here s f below (NewObject c parameters) running refl born born_typed follows (Reference name ∷ rest)
            (subst (HaveStackTypes here.tree born (Reference name ∷ rest)) (sym result) (object_typed, stack_keeps here.tree s born follows rest types values))

        -- another runs on the object
        by_constructor : action_of c m ≡ None → IsTypedEffect here.tree (frame_for here s f below c m (Reference name ∷ arguments) (Some name) born rest)
        by_constructor plain_method =
            let code : (code : Code) × (code_of m.kind ≡ Some code) = has_code m.kind (concrete_declares_code here.tree legal c m concrete is_found.declared) in
            let others : HaveTypes here.tree born arguments m.signature.parameters = subst (λ (x : Signature). HaveTypes here.tree born arguments x.parameters) (sym is_found.signature) (values_keep here.tree s born follows arguments parameters argument_values) in
            let own_arguments : HaveTypes here.tree born (Reference name ∷ arguments) (argument_types m c) =
            arguments_of_instance here.tree legal born (Reference name) arguments (type_of_class c) c m is_found.static object_typed is_found.above others in
            frame_typed here s f below (NewObject c parameters) running refl born born_typed follows c m is_found.declared plain_method code.0 code.1 (Reference name ∷ arguments) own_arguments (Some name)
            (λ n same. subst (IsConstructing born (new_frame c m code.0 (Reference name ∷ arguments) (Some name))) (same_Some name n same) (is_constructing code.0 (Reference name ∷ arguments)))
            rest types (stack_keeps here.tree s born follows rest types values) (result ∙ sym (ap (λ d. give d types) (newborn_type here.tree s contents)))

        -- either, with its operands taken
        construct_typed : IsTypedEffect here.tree (construct here s f below c (c, m) arguments rest)
        construct_typed = by_action (action_of c m) refl
          where
            framed : Effect
            framed = birth here s f below contents (λ n s'. frame_for here s f below c m (Reference n ∷ arguments) (Some n) s' rest)

            by_depth : (b : Bool) → action_of c m ≡ None → IsTypedEffect here.tree (if b then Raises StackOverflow else framed)
            by_depth true plain_method = tt
            by_depth false plain_method = birth_typed contents (λ n s'. frame_for here s f below c m (Reference n ∷ arguments) (Some n) s' rest) (by_constructor plain_method)

            by_action : (o : Option Action) → action_of c m ≡ o →
                IsTypedEffect here.tree (if is_some o then birth here s f below contents (λ n s'. onward f below s' (Reference n ∷ rest)) else if is_too_deep here s f below then Raises StackOverflow else framed)
            by_action (Some a) acts = birth_typed contents (λ n s'. onward f below s' (Reference n ∷ rest)) at_once
            by_action None acts = by_depth (is_too_deep here s f below) acts

    -- newobj
    pub new_object_typed : IsTypedEffect here.tree (execute here s f below (NewObject c parameters))
    new_object_typed = by_found (find_method here.tree true (constructor_reference c parameters)) refl running.flows
      where
        taken : Option (List StackType)
        taken = take_operands here.tree parameters running.stack

        with_own : (m : Method) → find_method here.tree true (constructor_reference c parameters) ≡ Some (c, m) → IsTrue (is_concrete here.tree c) → (types : List StackType) → taken ≡ Some types →
            running.result ≡ Declared (type_of_class c) ∷ types → IsTypedEffect here.tree (operands here s f below parameters (construct here s f below c (c, m)))
        with_own m e concrete types took result =
            operands_typed here s f below legal parameters (construct here s f below c (c, m)) running.stack types took running.values (λ arguments rest h k. construct_typed m e concrete types result arguments h rest k)

        by_class : (m : Method) → find_method here.tree true (constructor_reference c parameters) ≡ Some (c, m) → (b : Bool) → is_concrete here.tree c ≡ b →
            (if b then option_map (λ rest. Declared (type_of_class c) ∷ rest) taken else None) ≡ Some running.result → IsTypedEffect here.tree (operands here s f below parameters (construct here s f below c (c, m)))
        by_class m e false concrete flows = none_is_some running.result flows
        by_class m e true concrete flows = given_to (Some (type_of_class c)) taken running.result flows (with_own m e concrete)

        by_found : (o : Option (ClassName × Method)) → find_method here.tree true (constructor_reference c parameters) ≡ o →
            option_and_then (λ (x : ClassName × Method). if is_concrete here.tree c then option_map (λ rest. Declared (type_of_class c) ∷ rest) taken else None) o ≡ Some running.result →
            IsTypedEffect here.tree (when_some o (λ x. operands here s f below parameters (construct here s f below c x)))
        by_found None e flows = none_is_some running.result flows
        by_found (Some (k, m)) e flows =
            let own : c ≡ k = constructor_is_own here.tree c k parameters m e in
            subst (λ x. IsTypedEffect here.tree (operands here s f below parameters (construct here s f below c (x, m)))) own
            (by_class m (subst (λ x. find_method here.tree true (constructor_reference c parameters) ≡ Some (x, m)) (sym own) e) (is_concrete here.tree c) refl flows)
