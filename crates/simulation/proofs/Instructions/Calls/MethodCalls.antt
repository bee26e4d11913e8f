-- Calls of methods, and virtual calls, do the same on both machines.
use Rattle.std.proofs.Common.{◌≡◌, ℕ, Bool, true, false, not, List, ◌∷◌, length, take, drop, reverse, Some, refl, sym, ap, subst, nat_le, if◌then◌else◌, ◌≤◌, ◌++◌, zero, suc, [], Option, None, slice_get, ◌∙◌, arith, ◌&&◌, IsTrue, option_and_then, unwrap_or}
use Rattle.interpreter.specs.cil_model.declared.instructions.Instruction.TheVariants as Named
use Rattle.interpreter.specs.cil_model.declared.instructions.MethodReference.{MethodReference}
use Rattle.interpreter.specs.cil_model.declared.types.ClassName.{ClassName}
use Rattle.interpreter.specs.cil_model.declared.types.Signature.{Signature}
use Rattle.interpreter.specs.cil_model.declared.types.DeclaredType.{DeclaredType}
use Rattle.interpreter.specs.cil_model.declared.trees.Method.{Method}
use Rattle.interpreter.specs.cil_model.Assignable.{type_of_class}
use Rattle.interpreter.specs.cil_model.Bodies.{argument_types, reference_operands, virtual_reference}
use Rattle.interpreter.specs.reference_machine.Values.{Value as StateValue, ObjectName, Reference}
use Rattle.interpreter.specs.reference_machine.States.{Frame as StateFrame, State, class_of}
use Rattle.interpreter.specs.reference_machine.Effects.{StepContext, Effect as StateEffect, Sticks, when_some as given_there, are_of_kinds}
use Rattle.interpreter.specs.reference_machine.Steps.{run_method, operands, execute, run_virtual}
use Rattle.interpreter.proofs.reference_machine.Programs.FoundMethods.{IsFound, found}
use Rattle.interpreter.proofs.reference_machine.TypedStates.RunningFrames.{IsTypedEffect}
use Rattle.interpreter.specs.name_tables.declared.ids.MethodId.{MethodId}
use Rattle.interpreter.specs.resolved_code.ById.{class_name}
use Rattle.interpreter.specs.resolved_code.ResolvedPrograms.{IsMethod}
use Rattle.interpreter.specs.resolved_code.declared.operations.Operation.TheVariants as Resolved
use Rattle.interpreter.specs.object_memory.declared.values.Value.{Value}
use Rattle.interpreter.specs.object_memory.Objects.{Objects}
use Rattle.interpreter.specs.threads_monitors.Frames.{Frames}
use Rattle.interpreter.specs.Calls.{run_transition, CallTransition, chosen_method, receiver, receiver_in, call_answer, run_on}
use Rattle.interpreter.specs.Instructions.{MachineTransition, of_calls, operation_transition, answer_of}
use Rattle.interpreter.proofs.LinkedTransitions.{call_does, virtual_does}
use Rattle.simulation.specs.Refines.{Names, IsValue, null_reference, reference}
use Rattle.simulation.proofs.Instructions.Correspondence.{IsSetting, DoesAlike}
use Rattle.simulation.proofs.Instructions.StackOperands.{fine}
use Rattle.simulation.proofs.Instructions.Calls.MethodExecution.{methods_run_alike}
use Rattle.simulation.proofs.Memory.MemoryModels.{MemoryModel, mutator_in}
use Rattle.std.proofs.lemmas.List.{reverse-append, length-reverse}
use Rattle.std.proofs.lemmas.Bool.{leb-true}
use Rattle.interpreter.specs.cil_model.declared.reports.Fault.TheVariants.{NullReference}
use Rattle.interpreter.specs.object_memory.declared.addresses.Addr.{Addr}
use Rattle.interpreter.specs.threads_monitors.declared.effects.Effect.TheVariants.{Raises}
use Rattle.interpreter.specs.instructions.Frames.{when_some}
use Rattle.interpreter.specs.declared.outcomes.InstructionOutcome.TheVariants.{OwnEffect}
use Rattle.simulation.specs.Agreement.{Agree}
use Rattle.simulation.proofs.ListLaws.AgreeingLists.{agree_get}
use Rattle.simulation.proofs.Instructions.FrameProgress.{own_frame}
use Rattle.simulation.proofs.Instructions.Calls.Statements.{MethodsRunAlike}
use Rattle.simulation.proofs.Memory.ClassesAtAddresses.{method_by, chosen_is}
use Rattle.simulation.proofs.Memory.NamedAddresses.{named_is_not_null}
use Rattle.interpreter.proofs.cil_model.SameLaws.{never, both_second, same_signature_equal}
use Rattle.std.specs.Option.{option_map_or}
use Rattle.std.proofs.lemmas.Option.{option_and_then_some, same_Some}
use Rattle.interpreter.specs.cil_model.declared.trees.Tree.{Tree}
use Rattle.interpreter.specs.cil_model.declared.trees.MethodKind.{MethodKind}
use Rattle.interpreter.specs.cil_model.declared.trees.MethodKind.TheVariants.{Virtual, Abstract}
use Rattle.interpreter.specs.cil_model.declared.instructions.MethodName.{MethodName}
use Rattle.interpreter.specs.cil_model.Chains.{chain_of, listed_by, methods_declared, method_declared, nearest, is_static, is_virtual, is_new_slot_method, is_interface}
use Rattle.interpreter.specs.cil_model.Declarations.{Declaration}
use Rattle.interpreter.specs.cil_model.Same.{same_class, same_options, same_signature, same_method_name}
use Rattle.interpreter.specs.cil_model.Slots.{slot_filled, slot_along, implementation_along, class_target, virtual_in, implementer_along, interface_target, target}
use Rattle.interpreter.proofs.cil_model.Lists.{none_is_some, find_passes}
use Rattle.interpreter.proofs.reference_machine.Programs.MethodTypings.{IsDeclared, target_is_declared}
use Rattle.interpreter.specs.name_tables.Numbers.{class_number, method_at}
use Rattle.interpreter.proofs.name_tables.NumberLaws.{HasId, has_id}
use Rattle.interpreter.proofs.loaded_program.FlatLaws.{id_at}

-- ---- A call does the same on both machines.

-- a reference has one operand for each argument of the method that it finds
pub operand_count : (is_instance : Bool) (r : MethodReference) (c : ClassName) (m : Method) (static : Bool) → static ≡ not is_instance → m.signature ≡ r.signature →
    length (reference_operands is_instance r) ≡ length (if static then m.signature.parameters else type_of_class c ∷ m.signature.parameters)
operand_count true r c m false is same = ap (λ (x : Signature). length (type_of_class c ∷ x.parameters)) (sym same)
operand_count false r c m true is same = ap (λ (x : Signature). length x.parameters) (sym same)
operand_count _ r c m _ is same = absurd cc

-- ---- operands that are of their kinds

module _ (here : StepContext) (s : State) (f : StateFrame) (below : List StateFrame) (types : List DeclaredType) (go : List StateValue → List StateValue → StateEffect) where
  -- where they aren't, the instruction is stuck
  pub operands_there : (P : StateEffect → Type 0) → (n : ℕ) → length types ≡ n → IsTypedEffect here.tree (operands here s f below types go) →
      (nat_le n (length f.stack) ≡ true → IsTypedEffect here.tree (go (reverse (take n f.stack)) (drop n f.stack)) → P (go (reverse (take n f.stack)) (drop n f.stack))) → P (operands here s f below types go)
  operands_there P n count typed each =
      subst (λ k. P (if nat_le k (length f.stack) then (if are_of_kinds types (reverse (take k f.stack)) then go (reverse (take k f.stack)) (drop k f.stack) else Sticks) else Sticks)) (sym count)
      (by_length (nat_le n (length f.stack)) refl (subst (λ k. IsTypedEffect here.tree (if nat_le k (length f.stack) then (if are_of_kinds types (reverse (take k f.stack)) then go (reverse (take k f.stack)) (drop k f.stack) else Sticks) else Sticks)) count typed))
    where
      by_kinds : nat_le n (length f.stack) ≡ true → (b : Bool) → IsTypedEffect here.tree (if b then go (reverse (take n f.stack)) (drop n f.stack) else Sticks) → P (if b then go (reverse (take n f.stack)) (drop n f.stack) else Sticks)
      by_kinds enough true t = each enough t
      by_kinds enough false t = elim t [ ]

      by_length : (b : Bool) → nat_le n (length f.stack) ≡ b → IsTypedEffect here.tree (if b then (if are_of_kinds types (reverse (take n f.stack)) then go (reverse (take n f.stack)) (drop n f.stack) else Sticks) else Sticks) →
          P (if b then (if are_of_kinds types (reverse (take n f.stack)) then go (reverse (take n f.stack)) (drop n f.stack) else Sticks) else Sticks)
      by_length true enough t = by_kinds enough (are_of_kinds types (reverse (take n f.stack))) t
      by_length false few t = elim t [ ]

-- ---- calls

module _ (here : StepContext) (model : MemoryModel here.tree) (name : Names) (m : Frames) (o : Objects) (statics : List Value) (printed : List ℕ) (s : State) (f : StateFrame) (below : List StateFrame) where
  pub call_alike : (is_instance : Bool) (r : MethodReference) (owner : ℕ) (method : MethodId) → class_name here.tree owner ≡ Some r.owner → IsMethod here.tree is_instance r method →
      IsSetting here model name m o statics printed s f below (Named.Call is_instance r) (Resolved.Call is_instance owner method) →
      DoesAlike here model name m o statics printed s f below (operation_transition here.tree (mutator_in here model) (Resolved.Call is_instance owner method) m o statics printed) (execute here s f below (Named.Call is_instance r))
  call_alike is_instance r owner method named finds at =
      let run : ClassName × Method = (finds.declared_in, finds.found) in
      let is : IsFound here.tree is_instance r finds.declared_in finds.found = found here.tree at.running.accepted.legal is_instance r finds.declared_in finds.found finds.finds in
      let types : List DeclaredType = reference_operands is_instance r in
      let transition : MachineTransition = operation_transition here.tree (mutator_in here model) (Resolved.Call is_instance owner method) m o statics printed in
      let transition_is : transition ≡ of_calls o statics printed (run_transition here.tree (mutator_in here model) run m o printed) = call_does here.tree (mutator_in here model) m o statics printed method run finds.has_id is_instance owner in
      let typed : IsTypedEffect here.tree (operands here s f below types (run_method here s f below run)) =
      subst (λ x. IsTypedEffect here.tree (given_there x (λ y. operands here s f below types (run_method here s f below y)))) finds.finds
      (fine here model name m o statics printed s f below (Named.Call is_instance r) (Resolved.Call is_instance owner method) at) in
      subst (λ x. DoesAlike here model name m o statics printed s f below transition (given_there x (λ y. operands here s f below types (run_method here s f below y)))) (sym finds.finds)
      (subst (λ x. DoesAlike here model name m o statics printed s f below x (operands here s f below types (run_method here s f below run))) (sym transition_is)
      (operands_there here s f below types (run_method here s f below run) (λ e. DoesAlike here model name m o statics printed s f below (of_calls o statics printed (run_transition here.tree (mutator_in here model) run m o printed)) e)
      (length (argument_types finds.found finds.declared_in)) (operand_count is_instance r finds.declared_in finds.found _ is.static is.signature) typed (λ enough t.
      methods_run_alike here model name m o statics printed s f below (Named.Call is_instance r) (Resolved.Call is_instance owner method) at run method.class method.index finds.has_id enough t)))

-- ---- The method that a virtual call runs has a number, and one argument for each operand of the call.

-- ---- what fills a slot

-- a virtual method has an object
virtual_has_object : (k : MethodKind) → IsTrue (is_virtual k) → is_static k ≡ false
virtual_has_object (Virtual is_new_slot code) h = refl
virtual_has_object (Abstract is_new_slot) h = refl
virtual_has_object _ h = never h

module _ (tree : Tree) (name : MethodName) (signature : Signature) where
  -- the signature that was looked for, and an object
  abbrev HasObject : Method → Type 0
  HasObject m = (m.signature ≡ signature) × (is_static m.kind ≡ false)

  -- only a virtual method fills a slot
  fills_virtual : (c : ClassName) (inherited : Option ClassName) (m : Method) (slot : ClassName) (b : Bool) → IsTrue (same_options same_class (if b then Some (if is_new_slot_method m.kind then c else unwrap_or inherited c) else None) (Some slot)) → IsTrue b
  fills_virtual c inherited m slot true h = refl
  fills_virtual c inherited m slot false h = never h

  implementation_has_object : (slot : ClassName) (cs : List ClassName) (k : ClassName) (m : Method) → implementation_along tree name signature slot cs ≡ Some (k, m) → HasObject m
  implementation_has_object slot [] k m h = none_is_some (k, m) h
  implementation_has_object slot (d ∷ ds) k m h = by_class (method_declared tree name signature d) refl (same_options same_class (slot_along tree name signature (d ∷ ds)) (Some slot)) refl h (implementation_has_object slot ds k m)
    where
      by_class : (o : Option Method) → method_declared tree name signature d ≡ o → (b : Bool) → same_options same_class (slot_along tree name signature (d ∷ ds)) (Some slot) ≡ b →
          option_map_or (λ x. if b then Some (d, x) else implementation_along tree name signature slot ds) o (implementation_along tree name signature slot ds) ≡ Some (k, m) →
          (implementation_along tree name signature slot ds ≡ Some (k, m) → HasObject m) → HasObject m
      by_class (Some x) e true same h' later =
          let inherited : Option ClassName = slot_along tree name signature ds in
          let passes : IsTrue (same_method_name x.name name && same_signature x.signature signature) = find_passes (λ (y : Method). same_method_name y.name name && same_signature y.signature signature) (methods_declared tree d) x e in
          let fills : IsTrue (same_options same_class (slot_filled d inherited x) (Some slot)) = subst (λ o. IsTrue (same_options same_class (option_map_or (slot_filled d inherited) o inherited) (Some slot))) e same in
          subst HasObject (ap (λ (p : ClassName × Method). p.1) (same_Some (d, x) (k, m) h'))
          (same_signature_equal x.signature signature (both_second _ _ passes), virtual_has_object x.kind (fills_virtual d inherited x slot (is_virtual x.kind) fills))
      by_class _ e _ same h' later = later h'

  class_target_has_object : (d c k : ClassName) (m : Method) → class_target tree name signature d c ≡ Some (k, m) → HasObject m
  class_target_has_object d c k m h = option_and_then_some _ (slot_along tree name signature (chain_of tree c)) (k, m) h (λ slot e f. implementation_has_object slot (chain_of tree d) k m f)

  interface_target_has_object : (d i k : ClassName) (m : Method) → interface_target tree name signature d i ≡ Some (k, m) → HasObject m
  interface_target_has_object d i k m h = option_and_then_some _ (implementer_along tree name signature i (chain_of tree d)) (k, m) h (λ implementer e f.
      option_and_then_some _ (nearest (virtual_in tree name signature) (chain_of tree implementer)) (k, m) f (λ found e' g. class_target_has_object d found.0 k m g))

-- the target of a call on an object has the signature of the method that is called, and an object
pub target_has_object : (tree : Tree) (d c : ClassName) (m : Method) (k : ClassName) (m' : Method) → target tree d c m ≡ Some (k, m') → is_static m.kind ≡ false → (m'.signature ≡ m.signature) × (is_static m'.kind ≡ false)
target_has_object tree d c m k m' h object = by_kind (is_virtual m.kind) (is_interface tree c) h
  where
    by_kind : (v w : Bool) → (if v then (if w then interface_target tree m.name m.signature d c else class_target tree m.name m.signature d c) else Some (c, m)) ≡ Some (k, m') → (m'.signature ≡ m.signature) × (is_static m'.kind ≡ false)
    by_kind true true e = interface_target_has_object tree m.name m.signature d c k m' e
    by_kind true false e = class_target_has_object tree m.name m.signature d c k m' e
    by_kind false w e = subst (λ (p : ClassName × Method). (p.1.signature ≡ m.signature) × (is_static p.1.kind ≡ false)) (same_Some (c, m) (k, m') e) (refl, object)

-- ---- numbers

-- a declared method is at an index of a class with an id
pub declared_at : (tree : Tree) (c : ClassName) (m : Method) → IsDeclared tree c m → (class : ℕ) × (index : ℕ) × (method_at tree (class, index) ≡ Some (c, m))
declared_at tree c m (index, h) = by_number (class_number tree c) (has_id tree c)
  where
    by_number : (o : Option ℕ) → HasId tree c o → (class : ℕ) × (index : ℕ) × (method_at tree (class, index) ≡ Some (c, m))
    by_number None e = none_is_some m (sym (ap (λ z. slice_get (listed_by (λ (d : Declaration). d.methods) z) index) e) ∙ h)
    by_number (Some n) (d, e, at) =
        let own : slice_get d.methods index ≡ Some m = sym (ap (λ z. slice_get (listed_by (λ (y : Declaration). y.methods) z) index) e) ∙ h in
        (n, index, id_at tree n index (c, d) m at own)

-- ---- what is chosen

-- a method with a number, which takes an object and the arguments that the signature names
pub record IsChosen (tree : Tree) (signature : Signature) (run : ClassName × Method) : Type 0 where
  pub class : ℕ
  pub index : ℕ
  pub has_id : method_at tree (class, index) ≡ Some run
  pub count : length (argument_types run.1 run.0) ≡ suc (length signature.parameters)

-- a declared method of an object, of the signature
pub is_chosen : (tree : Tree) (signature : Signature) (run : ClassName × Method) → IsDeclared tree run.0 run.1 → run.1.signature ≡ signature → is_static run.1.kind ≡ false → IsChosen tree signature run
is_chosen tree signature run declared same object =
    let index = declared_at tree run.0 run.1 declared in
    record {
      class = index.0;
      index = index.1;
      has_id = index.2;
      count = ap (λ b. length (if b then run.1.signature.parameters else type_of_class run.0 ∷ run.1.signature.parameters)) object ∙ ap (λ (x : Signature). suc (length x.parameters)) same;
    }

-- what runs for an object of a class is such a method
pub chosen_has_number : (tree : Tree) (signature : Signature) (found : ClassName × Method) → IsDeclared tree found.0 found.1 → found.1.signature ≡ signature → is_static found.1.kind ≡ false →
    (class : Option ClassName) (run : ClassName × Method) → method_by tree found class ≡ Some run → IsChosen tree signature run
chosen_has_number tree signature found declared same object class run h = by_kind (is_virtual found.1.kind) h
  where
    by_kind : (v : Bool) → (if v then option_and_then (λ d. target tree d found.0 found.1) class else Some found) ≡ Some run → IsChosen tree signature run
    by_kind false e = subst (IsChosen tree signature) (same_Some found run e) (is_chosen tree signature found declared same object)
    by_kind true e = option_and_then_some (λ d. target tree d found.0 found.1) class run e (λ d e' f.
        let kept = target_has_object tree d found.0 found.1 run.0 run.1 f object in
        is_chosen tree signature run (target_is_declared tree d found.0 found.1 run.0 run.1 f declared) (kept.0 ∙ same) kept.1)

-- ---- Virtual calls do the same on a machine as on the reference machine (III.4.2).

-- ---- the operand pushed first

-- it is the last that is taken
last_taken : {X : Type 0} (n : ℕ) (vs : List X) (y : X) (ys : List X) → suc n ≤ length vs → reverse (take (suc n) vs) ≡ y ∷ ys → slice_get vs n ≡ Some y
last_taken n [] y ys few e = absurd (omega (arith, few))
last_taken zero (v ∷ vs) y ys few e = ap (λ l. slice_get l 0) e
last_taken (suc n) (v ∷ []) y ys few e = absurd (omega (arith, few))
last_taken {X} (suc n) (v ∷ w ∷ vs) y ys few e =
    by_rest (reverse (take (suc n) (w ∷ vs))) refl (sym (reverse-append (v ∷ []) (take (suc n) (w ∷ vs))) ∙ e) (λ z zs. last_taken n (w ∷ vs) z zs (omega (arith, few)))
  where
    by_rest : (l : List X) → reverse (take (suc n) (w ∷ vs)) ≡ l → l ++ v ∷ [] ≡ y ∷ ys → ((z : X) (zs : List X) → reverse (take (suc n) (w ∷ vs)) ≡ z ∷ zs → slice_get (w ∷ vs) n ≡ Some z) → slice_get (w ∷ vs) n ≡ Some y
    by_rest [] is e' later = let h : suc (length (take n vs)) ≡ 0 = sym (length-reverse (take (suc n) (w ∷ vs))) ∙ ap length is in absurd (omega (arith, h))
    by_rest (z ∷ zs) is e' later = later z zs is ∙ ap (λ l. slice_get l 0) e'

-- ---- the call

module _ (methods_run_alike : MethodsRunAlike) where
  module _ (here : StepContext) (model : MemoryModel here.tree) (name : Names) (m : Frames) (o : Objects) (statics : List Value) (printed : List ℕ) (s : State) (f : StateFrame) (below : List StateFrame) where
    abbrev Alike : CallTransition → StateEffect → Type 0
    Alike transition e = DoesAlike here model name m o statics printed s f below (of_calls o statics printed transition) e

    abbrev Typed : StateEffect → Type 0
    Typed e = IsTypedEffect here.tree e

    module _ (c : ClassName) (label : List ℕ) (signature : Signature) (owner : ℕ) (method : MethodId) (finds : IsMethod here.tree true (virtual_reference c label signature) method)
        (at : IsSetting here model name m o statics printed s f below (Named.CallVirtual c label signature) (Resolved.CallVirtual owner method)) where
      abbrev own : ClassName × Method
      own = (finds.declared_in, finds.found)

      is_found : IsFound here.tree true (virtual_reference c label signature) finds.declared_in finds.found
      is_found = found here.tree at.running.accepted.legal true (virtual_reference c label signature) finds.declared_in finds.found finds.finds

      -- how many operands there are: an object, and the arguments that the signature names
      abbrev count : ℕ
      count = suc (length signature.parameters)

      abbrev rest : List StateValue
      rest = drop count f.stack

      own_count : length (argument_types finds.found finds.declared_in) ≡ count
      own_count = (is_chosen here.tree signature own is_found.declared is_found.signature is_found.static).count

      -- the machine's part once the object is known
      abbrev transition_on : Addr → CallTransition
      transition_on a = run_on here.tree (mutator_in here model) own a m o printed

      transition_on_is : (a : Addr) (n : ObjectName) → name a.number ≡ Some n → transition_on a ≡ when_some (method_by here.tree own (class_of s n)) (λ x. run_transition here.tree (mutator_in here model) x m o printed)
      transition_on_is a n named =
          ap (λ b. if b then Some (call_answer m o printed (OwnEffect (Raises NullReference))) else when_some (chosen_method here.tree o a own) (λ y. run_transition here.tree (mutator_in here model) y m o printed)) (named_is_not_null here.tree name o s (model.reads name o statics s at.memory.fits at.running.typed) a.number n named) ∙
          ap (λ x. when_some x (λ y. run_transition here.tree (mutator_in here model) y m o printed)) (chosen_is here.tree name o s (model.reads name o statics s at.memory.fits at.running.typed) own a n named)

      module _ (few : nat_le count (length f.stack) ≡ true) (this : StateValue) (arguments : List StateValue) (taken : reverse (take count f.stack) ≡ this ∷ arguments) where
        -- the method that an object chooses runs alike
        run_alike : (run : ClassName × Method) → IsChosen here.tree signature run → Typed (run_method here s f below run (this ∷ arguments) rest) → Alike (run_transition here.tree (mutator_in here model) run m o printed) (run_method here s f below run (this ∷ arguments) rest)
        run_alike run is typed =
            subst (λ vs. Alike (run_transition here.tree (mutator_in here model) run m o printed) (run_method here s f below run vs rest)) taken
            (subst (λ n. Alike (run_transition here.tree (mutator_in here model) run m o printed) (run_method here s f below run (reverse (take n f.stack)) (drop n f.stack))) is.count
            (methods_run_alike here model name m o statics printed s f below (Named.CallVirtual c label signature) (Resolved.CallVirtual owner method) at run is.class is.index is.has_id
            (subst (λ n. nat_le n (length f.stack) ≡ true) (sym is.count) few)
            (subst (λ n. Typed (run_method here s f below run (reverse (take n f.stack)) (drop n f.stack))) (sym is.count) (subst (λ vs. Typed (run_method here s f below run vs rest)) (sym taken) typed))))

        chosen_alike : (a : Addr) (n : ObjectName) → name a.number ≡ Some n → (run : Option (ClassName × Method)) → method_by here.tree own (class_of s n) ≡ run →
            Typed (given_there run (λ x. run_method here s f below x (this ∷ arguments) rest)) →
            Alike (when_some run (λ x. run_transition here.tree (mutator_in here model) x m o printed)) (given_there run (λ x. run_method here s f below x (this ∷ arguments) rest))
        chosen_alike a n named None is typed = elim typed [ ]
        chosen_alike a n named (Some run) is typed = run_alike run (chosen_has_number here.tree signature own is_found.declared is_found.signature is_found.static (class_of s n) run is) typed

      -- by what the first operand is
      this_alike : nat_le count (length f.stack) ≡ true → (this : StateValue) (arguments : List StateValue) → reverse (take count f.stack) ≡ this ∷ arguments → (v : Value) → IsValue name v this →
          Typed (run_virtual here s f below own (this ∷ arguments) rest) → Alike (when_some (receiver_in (Some v)) transition_on) (run_virtual here s f below own (this ∷ arguments) rest)
      this_alike few this arguments taken v null_reference typed = record { answer = answer_of m o statics printed (OwnEffect (Raises NullReference)); is = refl; refuses = λ _ h. never h; alike = λ r. (refl, (refl, refl, refl)) }
      this_alike few this arguments taken v (reference a n named) typed =
          subst (λ transition. Alike transition (run_virtual here s f below own (Reference n ∷ arguments) rest)) (sym (transition_on_is a n named)) (chosen_alike few (Reference n) arguments taken a n named (method_by here.tree own (class_of s n)) refl typed)
      this_alike few this arguments taken v _ typed = elim typed [ ]

      abbrev types : List DeclaredType
      types = reference_operands true (virtual_reference c label signature)

      -- the operands are on both stacks
      operands_alike : Typed (operands here s f below types (run_virtual here s f below own)) → Alike (when_some (receiver m.running.stack count) transition_on) (operands here s f below types (run_virtual here s f below own))
      operands_alike typed = by_count (nat_le count (length f.stack)) refl typed
        where
          by_operands : nat_le count (length f.stack) ≡ true → (vs : List StateValue) → reverse (take count f.stack) ≡ vs → Typed (run_virtual here s f below own vs rest) → Alike (when_some (receiver m.running.stack count) transition_on) (run_virtual here s f below own vs rest)
          by_operands few [] taken typed' = elim typed' [ ]
          by_operands few (this ∷ arguments) taken typed' =
              let stacks : Agree (IsValue name) m.running.stack f.stack = (own_frame here model name m o statics printed s f below (Named.CallVirtual c label signature) (Resolved.CallVirtual owner method) at).stack in
              let first : slice_get f.stack (length signature.parameters) ≡ Some this = last_taken (length signature.parameters) f.stack this arguments (leb-true count (length f.stack) few) taken in
              let object = agree_get (IsValue name) m.running.stack f.stack stacks (length signature.parameters) this first in
              subst (λ x. Alike (when_some (receiver_in x) transition_on) (run_virtual here s f below own (this ∷ arguments) rest)) (sym object.1) (this_alike few this arguments taken object.0 object.2 typed')

          by_kinds : nat_le count (length f.stack) ≡ true → (b : Bool) → Typed (if b then run_virtual here s f below own (reverse (take count f.stack)) rest else Sticks) →
              Alike (when_some (receiver m.running.stack count) transition_on) (if b then run_virtual here s f below own (reverse (take count f.stack)) rest else Sticks)
          by_kinds few false typed' = elim typed' [ ]
          by_kinds few true typed' = by_operands few (reverse (take count f.stack)) refl typed'

          by_count : (b : Bool) → nat_le count (length f.stack) ≡ b → Typed (if b then (if are_of_kinds types (reverse (take count f.stack)) then run_virtual here s f below own (reverse (take count f.stack)) rest else Sticks) else Sticks) →
              Alike (when_some (receiver m.running.stack count) transition_on) (if b then (if are_of_kinds types (reverse (take count f.stack)) then run_virtual here s f below own (reverse (take count f.stack)) rest else Sticks) else Sticks)
          by_count false few typed' = elim typed' [ ]
          by_count true few typed' = by_kinds few (are_of_kinds types (reverse (take count f.stack))) typed'

      -- the method that the reference finds
      found_alike : Alike (when_some (receiver m.running.stack (length (argument_types finds.found finds.declared_in))) transition_on) (operands here s f below types (run_virtual here s f below own))
      found_alike =
          subst (λ n. Alike (when_some (receiver m.running.stack n) transition_on) (operands here s f below types (run_virtual here s f below own))) (sym own_count)
          (operands_alike (subst (λ x. Typed (given_there x (λ y. operands here s f below types (run_virtual here s f below y)))) finds.finds (fine here model name m o statics printed s f below (Named.CallVirtual c label signature) (Resolved.CallVirtual owner method) at)))

    -- callvirt (III.4.2)
    pub call_virtual_alike : (c : ClassName) (label : List ℕ) (signature : Signature) (owner : ℕ) (method : MethodId) → class_name here.tree owner ≡ Some c → IsMethod here.tree true (virtual_reference c label signature) method →
        IsSetting here model name m o statics printed s f below (Named.CallVirtual c label signature) (Resolved.CallVirtual owner method) →
        DoesAlike here model name m o statics printed s f below (operation_transition here.tree (mutator_in here model) (Resolved.CallVirtual owner method) m o statics printed) (execute here s f below (Named.CallVirtual c label signature))
    call_virtual_alike c label signature owner method named finds at =
        subst (λ transition. DoesAlike here model name m o statics printed s f below transition (execute here s f below (Named.CallVirtual c label signature))) (sym (virtual_does here.tree (mutator_in here model) m o statics printed method (finds.declared_in, finds.found) finds.has_id owner))
        (subst (λ x. Alike (when_some (receiver m.running.stack (length (argument_types finds.found finds.declared_in))) (transition_on c label signature owner method finds at)) (given_there x (λ y. operands here s f below (types c label signature owner method finds at) (run_virtual here s f below y)))) (sym finds.finds)
        (found_alike c label signature owner method finds at))
