-- What a thread is about to enter or to join is there, and what its instruction calls is known to the table.
use Rattle.std.proofs.Common.{◌≡◌, ◌≢◌, ◌==◌, ◌<◌, ℕ, Bool, true, false, ◌&&◌, ◌||◌, if◌then◌else◌, List, ◌∷◌, length, Option, Some, None, option_map, option_and_then, slice_get, refl, sym, ap, ◌∙◌, subst}
use Rattle.std.specs.Prelude.{IsSome}
use Rattle.std.specs.Option.{option_map_or}
use Rattle.std.proofs.lemmas.Bool.{eqb-true}
use Rattle.std.proofs.lemmas.Option.{option_and_then_some, same_Some}
use Rattle.cil_model.specs.declared.instructions.Instruction.{Instruction}
use Rattle.cil_model.specs.declared.instructions.Instruction.TheVariants as Named
use Rattle.cil_model.specs.declared.instructions.MethodReference.{MethodReference}
use Rattle.cil_model.specs.declared.trees.Line.{Line}
use Rattle.cil_model.specs.declared.trees.Method.{Method}
use Rattle.cil_model.specs.declared.trees.Tree.{Tree}
use Rattle.cil_model.specs.declared.types.ClassName.{ClassName}
use Rattle.cil_model.specs.declared.types.Signature.{Signature}
use Rattle.cil_model.specs.declared.reports.Fault.TheVariants.{NullReference}
use Rattle.cil_model.specs.Bodies.{argument_types, lines_of, virtual_reference}
use Rattle.cil_model.specs.Chains.{find_method, is_interface, is_virtual}
use Rattle.cil_model.specs.Slots.{class_target, interface_target, target}
use Rattle.cil_model.proofs.Lists.{none_is_some}
use Rattle.cil_model.proofs.SameLaws.{not_both}
use Rattle.reference_machine.specs.BuiltIn.{Action, Enter, Join, action_of}
use Rattle.reference_machine.proofs.Programs.MethodTypings.{IsDeclared, found_is_declared}
use Rattle.simulation.proofs.reference_machine.Programs.BuiltInMembers.{acts_as_member}
use Rattle.simulation.specs.reference_machine.Waits.{action_found, called_action}
use Rattle.simulation.proofs.reference_machine.Programs.ActingMembers.{acting_is_not_virtual}
use Rattle.name_tables.specs.declared.ids.MethodId.{MethodId}
use Rattle.name_tables.specs.Numbers.{method_at}
use Rattle.resolved_code.specs.ById.{class_name}
use Rattle.resolved_code.specs.ResolvedPrograms.{IsMethod, IsOperation, call, call_virtual}
use Rattle.resolved_code.specs.declared.operations.Operation.{Operation}
use Rattle.resolved_code.specs.declared.operations.Operation.TheVariants as Resolved
use Rattle.object_memory.specs.declared.addresses.Addr.{Addr}
use Rattle.object_memory.specs.declared.monitors.Monitor.{Monitor}
use Rattle.object_memory.specs.declared.values.Value.{Value}
use Rattle.object_memory.specs.declared.values.Value.TheVariants.{Ref}
use Rattle.object_memory.specs.Cells.{null}
use Rattle.object_memory.specs.Objects.{Objects, monitor_at, object_slots}
use Rattle.simulation.specs.loaded_program.MethodNumbers.{number_of}
use Rattle.threads_monitors.specs.Frames.{Frames, with_stack}
use Rattle.threads_monitors.specs.declared.mutators.Mutator.{Mutator}
use Rattle.simulation.specs.instructions.barriers.Barriers.{is_monitor_storable}
use Rattle.threads_monitors.specs.Monitors.{with_entry}
use Rattle.threads_monitors.specs.declared.effects.Effect.TheVariants.{Raises}
use Rattle.simulation.specs.instructions.Calls.{call_transition}
use Rattle.simulation.specs.instructions.Frames.{when_some}
use Rattle.simulation.specs.instructions.ObjectTransitions.{ObjectTransition, with_objects}
use Rattle.simulation.specs.instructions.BuiltInTransitions.{pop_if_continues, is_countable, reference_from}
use Rattle.simulation.specs.interpreter.Calls.{CallTransition, act_transition, with_console, call_answer, called_method, chosen_method, chosen_by, class_at, receiver, run_transition, top_reference, run_on}
use Rattle.simulation.specs.interpreter.Instructions.{Answer, HasSmallConstant, IsAt, IsDone, MachineTransition, answer_of, line_at, of_calls, operation_transition}
use Rattle.simulation.proofs.interpreter.LinkedTransitions.{call_does, virtual_does}
use Rattle.simulation.specs.interpreter.declared.outcomes.InstructionOutcome.TheVariants.{OwnEffect, Joins}
use Rattle.simulation.specs.MachineStates.{MachineState, mutator_of}
use Rattle.simulation.specs.ReadySteps.{IsAnswerable, IsReady}
use Rattle.interleaving_core.specs.Waits.{HasObject, action_at, called_member}

-- ---- what an instruction calls

-- a call, with what runs for it; or an instruction that calls no built-in member that acts
pub data Calls (tree : Tree) : Instruction → Operation → Type 0 where
  by_call : (flag : Bool) (r : MethodReference) (owner : ℕ) (method : MethodId) → IsMethod tree flag r method → Calls tree (Named.Call flag r) (Resolved.Call flag owner method)
  by_virtual_call : (c : ClassName) (name : List ℕ) (signature : Signature) (owner : ℕ) (method : MethodId) → IsMethod tree true (virtual_reference c name signature) method →
      Calls tree (Named.CallVirtual c name signature) (Resolved.CallVirtual owner method)
  nothing : (i : Instruction) (op : Operation) → called_action tree i ≡ None → called_member op ≡ None → Calls tree i op

pub calls_of : (tree : Tree) (lines : List Line) (i : Instruction) (op : Operation) → IsOperation tree lines i op → Calls tree i op
calls_of tree lines _ _ (call flag r owner method named finds) = by_call flag r owner method finds
calls_of tree lines _ _ (call_virtual c name signature owner method named finds) = by_virtual_call c name signature owner method finds
calls_of tree lines _ _ _ = nothing _ _ refl refl

-- ---- the action at a frame's pc

module _ (tree : Tree) (m : Frames) (op : Operation) (at : IsAt tree m op) where
  line_is : line_at tree m ≡ Some at.line
  line_is = ap (option_and_then (λ (x : ClassName × Method). slice_get (lines_of x.1) m.running.pc)) at.found_is ∙ at.line_is

  pub action_is : action_at tree m ≡ called_action tree at.line.instruction
  action_is = ap (option_and_then (λ (l : Line). called_action tree l.instruction)) line_is

  -- where the instruction is no call there is none
  pub no_member : called_member op ≡ None → action_at tree m ≡ None
  no_member none = action_is ∙ by_calls at.line.instruction op (calls_of tree (lines_of at.found.1) at.line.instruction op at.refines) none
    where
      by_calls : (i : Instruction) (o : Operation) → Calls tree i o → called_member o ≡ None → called_action tree i ≡ None
      by_calls _ _ (by_call flag r owner method finds) e = none_is_some method (sym e)
      by_calls _ _ (by_virtual_call c name signature owner method finds) e = none_is_some method (sym e)
      by_calls _ _ (nothing i o none' e') e = none'

  -- and else it is that of the method of the member's number
  pub member_acts : (method : MethodId) → called_member op ≡ Some method → (found : ClassName × Method) × (method_at tree (method.class, method.index) ≡ Some found) × (action_at tree m ≡ action_of found.0 found.1)
  member_acts method is = by_calls at.line.instruction op (calls_of tree (lines_of at.found.1) at.line.instruction op at.refines) is action_is
    where
      Acting : Option Action → Type 0
      Acting a = (found : ClassName × Method) × (method_at tree (method.class, method.index) ≡ Some found) × (a ≡ action_of found.0 found.1)

      found_acts : (flag : Bool) (r : MethodReference) (k : MethodId) → IsMethod tree flag r k → k ≡ method → (a : Option Action) → a ≡ action_found (find_method tree flag r) → Acting a
      found_acts flag r k finds same a e = ((finds.declared_in, finds.found), subst (λ (x : MethodId). method_at tree (x.class, x.index) ≡ Some (finds.declared_in, finds.found)) same finds.has_id, e ∙ ap action_found finds.finds)

      by_calls : (i : Instruction) (o : Operation) → Calls tree i o → called_member o ≡ Some method → action_at tree m ≡ called_action tree i → Acting (action_at tree m)
      by_calls _ _ (by_call flag r owner k finds) e a = found_acts flag r k finds (same_Some k method e) (action_at tree m) a
      by_calls _ _ (by_virtual_call c name signature owner k finds) e a = found_acts true (virtual_reference c name signature) k finds (same_Some k method e) (action_at tree m) a
      by_calls _ _ (nothing i o none' e') e a = none_is_some method (sym e' ∙ e)

-- ---- the transition of a call of a member that acts

abbrev IsNot0 : Addr → Type 0
IsNot0 a = (a.number == 0) ≡ false

pub not_null_number : (a : Addr) → a ≢ null → IsNot0 a
not_null_number a apart = by_test (a.number == 0) refl
  where
    by_test : (b : Bool) → (a.number == 0) ≡ b → (a.number == 0) ≡ false
    by_test false e = e
    by_test true e = absurd (apart (ap (λ n. record { number = n }) (eqb-true a.number 0 e)))

module _ (tree : Tree) (mutator : Mutator) (m : Frames) (o : Objects) (ss : List Value) (pr : List ℕ) (a : Action) (x : Addr) (top : top_reference m.running.stack ≡ Some x) (nonzero : IsNot0 x) where
  -- the topmost value is a reference to it
  stack_is : (stack : List Value) → top_reference stack ≡ Some x → (rest : List Value) × (stack ≡ Ref x ∷ rest)
  stack_is (Ref y ∷ rest) e = (rest, ap (λ z. Ref z ∷ rest) (same_Some y x e))
  stack_is _ e = none_is_some x e

  abbrev acted : MachineTransition
  acted = of_calls o ss pr (act_transition tree mutator a m o pr)

  run_is : (found : ClassName × Method) → action_of found.0 found.1 ≡ Some a → run_transition tree mutator found m o pr ≡ act_transition tree mutator a m o pr
  run_is found acts = ap (λ k. option_map_or (λ b. act_transition tree mutator b m o pr) k otherwise) acts
    where
      otherwise : CallTransition
      otherwise = when_some (number_of tree found) (λ n. with_console pr (with_objects o (call_transition (called_method found n) m)))

  plain_is : (flag : Bool) (r : MethodReference) (owner : ℕ) (method : MethodId) → IsMethod tree flag r method → called_action tree (Named.Call flag r) ≡ Some a →
      operation_transition tree mutator (Resolved.Call flag owner method) m o ss pr ≡ acted
  plain_is flag r owner method finds acts =
      let own : action_of finds.declared_in finds.found ≡ Some a = sym (ap action_found finds.finds) ∙ acts in
      call_does tree mutator m o ss pr method (finds.declared_in, finds.found) finds.has_id flag owner ∙ ap (of_calls o ss pr) (run_is (finds.declared_in, finds.found) own)

  -- a method that is not virtual runs itself
  chosen_itself : (found run : ClassName × Method) → is_virtual found.1.kind ≡ false → (k : Option ℕ) → chosen_by tree found k ≡ Some run → run ≡ found
  chosen_itself found run plain None e = same_Some run found (sym e ∙ ap (λ b. if b then None else Some found) plain)
  chosen_itself found run plain (Some n) e = option_and_then_some (λ d. target tree d found.0 found.1) (class_name tree n) run e (λ d there h. same_Some run found (sym h ∙ itself d))
    where
      itself : (d : ClassName) → target tree d found.0 found.1 ≡ Some found
      itself d = ap (λ b. if b then (if is_interface tree found.0 then interface_target tree found.1.name found.1.signature d found.0 else class_target tree found.1.name found.1.signature d found.0) else Some found) plain

  virtual_is : (c : ClassName) (name : List ℕ) (signature : Signature) (owner : ℕ) (method : MethodId) → IsMethod tree true (virtual_reference c name signature) method → called_action tree (Named.CallVirtual c name signature) ≡ Some a →
      IsSome (operation_transition tree mutator (Resolved.CallVirtual owner method) m o ss pr) → operation_transition tree mutator (Resolved.CallVirtual owner method) m o ss pr ≡ acted
  virtual_is c name signature owner method finds acts there = whole ∙ by_run (chosen_method tree o x found) refl (subst IsSome whole there)
    where
      found : ClassName × Method
      found = (finds.declared_in, finds.found)

      own : action_of finds.declared_in finds.found ≡ Some a
      own = sym (ap action_found finds.finds) ∙ acts

      declared : IsDeclared tree finds.declared_in finds.found
      declared = found_is_declared tree true (virtual_reference c name signature) finds.declared_in finds.found finds.finds

      go : Addr → CallTransition
      go y = run_on tree mutator found y m o pr

      runs : ClassName × Method → CallTransition
      runs run = run_transition tree mutator run m o pr

      called : receiver m.running.stack (length (argument_types finds.found finds.declared_in)) ≡ Some x
      called =
          let stack = stack_is m.running.stack top in
          ap (receiver m.running.stack) (ap length (acts_as_member tree finds.declared_in finds.found a declared own).takes) ∙ ap (λ l. receiver l 1) stack.1

      whole : operation_transition tree mutator (Resolved.CallVirtual owner method) m o ss pr ≡ of_calls o ss pr (when_some (chosen_method tree o x found) runs)
      whole =
          virtual_does tree mutator m o ss pr method found finds.has_id owner
          ∙ ap (λ k. of_calls o ss pr (when_some k go)) called
          ∙ ap (λ b. of_calls o ss pr (if b then Some (call_answer m o pr (OwnEffect (Raises NullReference))) else when_some (chosen_method tree o x found) runs)) nonzero

      by_run : (r : Option (ClassName × Method)) → chosen_method tree o x found ≡ r → IsSome (of_calls o ss pr (when_some r runs)) → of_calls o ss pr (when_some r runs) ≡ acted
      by_run None e there' = absurd cc
      by_run (Some run) e there' =
          let same : run ≡ found = option_and_then_some (chosen_by tree found) (class_at o x) run e (λ k lies h. chosen_itself found run (acting_is_not_virtual tree finds.declared_in finds.found a declared own) k h) in
          ap (of_calls o ss pr) (ap runs same ∙ run_is found own)

-- ---- what a ready thread is about to do can be done

module _ (c : MachineState) (t left : ℕ) (m : Frames) (ready : IsReady c t m) (answers : (a : Answer) → IsDone c.tree (mutator_of c t) m c.objects c.statics c.printed a → IsAnswerable c t left a a.outcome) where
  module _ (op : Operation) (at : IsAt c.tree m op) (x : Addr) (top : top_reference m.running.stack ≡ Some x) (apart : x ≢ null) where
    transition_of : (a : Action) → action_at c.tree m ≡ Some a → HasSmallConstant op × (operation_transition c.tree (mutator_of c t) op m c.objects c.statics c.printed ≡ of_calls c.objects c.statics c.printed (act_transition c.tree (mutator_of c t) a m c.objects c.printed))
    transition_of a acts = by_calls at.line.instruction op (calls_of c.tree (lines_of at.found.1) at.line.instruction op at.refines) (sym (action_is c.tree m op at) ∙ acts) (ready.there op at)
      where
        nonzero : IsNot0 x
        nonzero = not_null_number x apart

        by_calls : (i : Instruction) (o : Operation) → Calls c.tree i o → called_action c.tree i ≡ Some a → (HasSmallConstant o → IsSome (operation_transition c.tree (mutator_of c t) o m c.objects c.statics c.printed)) →
            HasSmallConstant o × (operation_transition c.tree (mutator_of c t) o m c.objects c.statics c.printed ≡ of_calls c.objects c.statics c.printed (act_transition c.tree (mutator_of c t) a m c.objects c.printed))
        by_calls _ _ (by_call flag r owner method finds) e there = (tt, plain_is c.tree (mutator_of c t) m c.objects c.statics c.printed a x top nonzero flag r owner method finds e)
        by_calls _ _ (by_virtual_call k name signature owner method finds) e there = (tt, virtual_is c.tree (mutator_of c t) m c.objects c.statics c.printed a x top nonzero k name signature owner method finds e (there tt))
        by_calls _ _ (nothing i o none' e') e there = none_is_some a (sym none' ∙ e)

    -- a monitor, where it enters
    enters : action_at c.tree m ≡ Some Enter → IsSome (monitor_at c.objects x)
    enters acts =
        let transition = transition_of Enter acts in
        by_stack m.running.stack top (subst IsSome transition.1 (ready.there op at transition.0))
      where
        goes : Addr → Frames → ObjectTransition
        goes a n = if (a.number == 0) || (is_countable (monitor_at c.objects a) && is_monitor_storable (mutator_of c t).phase c.objects a) then pop_if_continues m n (with_entry (mutator_of c t) c.objects a) else None

        by_monitor : (y : Addr) (n : Frames) → y ≡ x → (b d : Bool) → b ≡ false → (w : Option Monitor) → IsSome (of_calls c.objects c.statics c.printed (with_console c.printed (if b || (is_countable w && d) then pop_if_continues m n (with_entry (mutator_of c t) c.objects y) else None))) → IsSome w
        by_monitor y n same true d e w there = not_both true e refl
        by_monitor y n same false d e None there = absurd cc
        by_monitor y n same false d e (Some w) there = refl

        by_stack : (stack : List Value) → top_reference stack ≡ Some x → IsSome (of_calls c.objects c.statics c.printed (with_console c.printed (reference_from stack m goes))) → IsSome (monitor_at c.objects x)
        by_stack (Ref y ∷ rest) e there =
            let same : y ≡ x = same_Some y x e in
            subst (λ k. IsSome (monitor_at c.objects k)) same
            (by_monitor y (with_stack m rest) same (y.number == 0) (is_monitor_storable (mutator_of c t).phase c.objects y) (ap (λ (k : Addr). k.number == 0) same ∙ not_null_number x apart) (monitor_at c.objects y) there)
        by_stack _ e there = none_is_some x e

    -- and the slot that identifies a thread, where it joins
    joins : action_at c.tree m ≡ Some Join → 0 < length (object_slots c.objects x)
    joins acts =
        let transition = transition_of Join acts in
        let answer : Answer = answer_of m c.objects c.statics c.printed (Joins x) in
        let asked : of_calls c.objects c.statics c.printed (act_transition c.tree (mutator_of c t) Join m c.objects c.printed) ≡ Some answer =
        ap (λ k. of_calls c.objects c.statics c.printed (option_map (λ b. call_answer m c.objects c.printed (Joins b)) k)) top in
        (answers answer (record { operation = op; at = at; constant = transition.0; is = sym (transition.1 ∙ asked) })).slot apart

  pub has_object : HasObject c.tree c.objects m
  has_object = record {
    pc = ready.pc;
    monitor = λ op at acts x top apart. enters op at x top apart acts;
    slot = λ op at acts x top apart. joins op at x top apart acts;
  }
