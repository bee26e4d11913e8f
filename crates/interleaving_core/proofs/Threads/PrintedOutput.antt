-- An event prints no more than the line of its thread's next instruction.
use Rattle.std.proofs.Common.{◌≡◌, ◌+◌, ◌==◌, ◌≤◌, ℕ, Bool, true, false, if◌then◌else◌, List, [], ◌∷◌, ◌++◌, length, Option, Some, None, option_map, option_and_then, slice_get, unwrap_or, refl, sym, ap, ◌∙◌, subst, arith, nat_lt}
use Rattle.std.specs.Option.{option_map_or}
use Rattle.std.proofs.lemmas.List.{length-append}
use Rattle.std.proofs.lemmas.Option.{option_and_then_some, same_Some}
use Rattle.cil_model.specs.declared.events.Event.{Event}
use Rattle.cil_model.specs.declared.events.Event.TheVariants.{Step, Ack, Gc}
use Rattle.cil_model.specs.declared.instructions.Instruction.{Instruction}
use Rattle.cil_model.specs.declared.reports.Fault.TheVariants.{NullReference}
use Rattle.cil_model.specs.declared.reports.Report.{Report}
use Rattle.cil_model.specs.declared.trees.Method.{Method}
use Rattle.cil_model.specs.declared.trees.Tree.{Tree}
use Rattle.cil_model.specs.declared.types.ClassName.{ClassName}
use Rattle.cil_model.specs.Bodies.{argument_types, lines_of, virtual_reference}
use Rattle.cil_model.specs.Chains.{is_interface, is_virtual}
use Rattle.cil_model.specs.Mentions.{literals_of}
use Rattle.cil_model.specs.Slots.{class_target, interface_target, target}
use Rattle.cil_model.proofs.Lists.{none_is_some}
use Rattle.reference_machine.specs.BuiltIn.{Action, Construct, Write, Enter, Exit, Start, Join, action_of}
use Rattle.reference_machine.proofs.Programs.MethodTypings.{IsDeclared, found_is_declared}
use Rattle.simulation.specs.reference_machine.Waits.{action_found, called_action}
use Rattle.simulation.proofs.reference_machine.Programs.ActingMembers.{virtual_target_does_not_act}
use Rattle.simulation.proofs.CollectorEvents.UnchangedState.{collected_keeps}
use Rattle.simulation.proofs.Threads.StepEffects.{finished_printed}
use Rattle.name_tables.specs.declared.ids.MethodId.{MethodId}
use Rattle.name_tables.specs.Numbers.{method_at}
use Rattle.resolved_code.specs.ById.{class_name}
use Rattle.resolved_code.specs.declared.operations.Operation.{Operation}
use Rattle.resolved_code.specs.declared.operations.Operation.TheVariants.{LoadString, LoadField, StoreField, LoadStaticField, StoreStaticField, NewArray, LoadLength, LoadElement, StoreElement, CastClass, IsInstance, Call, CallVirtual, NewObject}
use Rattle.object_memory.specs.declared.addresses.Addr.{Addr}
use Rattle.object_memory.specs.declared.values.Value.{Value}
use Rattle.object_memory.specs.Objects.{Objects}
use Rattle.threads_monitors.specs.Frames.{Frames, with_stack}
use Rattle.threads_monitors.specs.declared.effects.Effect.{Effect}
use Rattle.threads_monitors.specs.declared.effects.Effect.TheVariants.{Raises}
use Rattle.threads_monitors.specs.declared.mutators.Mutator.{Mutator}
use Rattle.threads_monitors.specs.declared.threads.ThreadStatus.{ThreadStatus}
use Rattle.threads_monitors.specs.declared.threads.ThreadStatus.TheVariants.{Live, Ended}
use Rattle.threads_monitors.specs.declared.threads.Thread.{Thread}
use Rattle.simulation.specs.loaded_program.MethodNumbers.{number_of}
use Rattle.simulation.specs.instructions.BuiltInTransitions.{line_of, print_bytes}
use Rattle.simulation.specs.instructions.Calls.{call_transition}
use Rattle.simulation.specs.instructions.Frames.{Transition, when_some, onward, top_of}
use Rattle.simulation.specs.instructions.ObjectTransitions.{ObjectTransition, StaticTransition, with_objects}
use Rattle.simulation.specs.interpreter.Calls.{CallTransition, act_transition, with_console, call_answer, called_method, chosen_method, chosen_by, class_at, receiver, run_transition, top_reference, run_on}
use Rattle.simulation.specs.loaded_program.declared.instructions.LinkedInstruction.TheVariants as Linked
use Rattle.simulation.specs.interpreter.Instructions.{Answer, IsDone, answer_of, of_calls, of_frames, of_objects, of_statics, operation_transition, linked_transition, MachineTransition}
use Rattle.object_memory.specs.Cells.{literal}
use Rattle.object_memory.specs.declared.addresses.TheConstants.{FIRST_LITERAL}
use Rattle.simulation.specs.loaded_program.declared.instructions.LinkedInstruction.{LinkedInstruction}
use Rattle.simulation.specs.loaded_program.Links.{number_at}
use Rattle.simulation.specs.loaded_program.Operands.{linked_array, class_in, field_kind_at, slot_at, slots_at, static_at}
use Rattle.simulation.proofs.interpreter.LinkedTransitions.{call_does, virtual_does}
use Rattle.simulation.specs.interpreter.declared.outcomes.InstructionOutcome.{InstructionOutcome}
use Rattle.simulation.specs.interpreter.declared.outcomes.InstructionOutcome.TheVariants.{OwnEffect, Starts, Joins}
use Rattle.simulation.specs.MachineStates.{MachineState, mutator_of}
use Rattle.simulation.specs.Transitions.{IsStatusTransition, IsThreadTransition, IsTransition}
use Rattle.interleaving_core.specs.Prints.{next_print, print_by, print_in, status_print}
use Rattle.interleaving_core.specs.Waits.{called_member}
use Rattle.interleaving_core.proofs.Threads.AwaitedObjects.{Calls, by_call, by_virtual_call, nothing, action_is, calls_of}

-- ---- the method that an object chooses acts only where the method that was called does

module _ (tree : Tree) (found run : ClassName × Method) (declared : IsDeclared tree found.0 found.1) (a : Action) (acts : action_of run.0 run.1 ≡ Some a) where
  -- a method that is not virtual runs itself
  plain_acts : is_virtual found.1.kind ≡ false → (k : Option ℕ) → chosen_by tree found k ≡ Some run → action_of found.0 found.1 ≡ Some a
  plain_acts plain None e = same (same_Some run found (sym e ∙ ap (λ b. if b then None else Some found) plain))
    where
      same : run ≡ found → action_of found.0 found.1 ≡ Some a
      same is = subst (λ (x : ClassName × Method). action_of x.0 x.1 ≡ Some a) is acts
  plain_acts plain (Some n) e = option_and_then_some (λ d. target tree d found.0 found.1) (class_name tree n) run e (λ d there h. subst (λ (x : ClassName × Method). action_of x.0 x.1 ≡ Some a) (same_Some run found (sym h ∙ itself d)) acts)
    where
      itself : (d : ClassName) → target tree d found.0 found.1 ≡ Some found
      itself d = ap (λ b. if b then (if is_interface tree found.0 then interface_target tree found.1.name found.1.signature d found.0 else class_target tree found.1.name found.1.signature d found.0) else Some found) plain

  -- what is chosen in place of a virtual one does not act
  virtual_acts : is_virtual found.1.kind ≡ true → (k : Option ℕ) → chosen_by tree found k ≡ Some run → action_of found.0 found.1 ≡ Some a
  virtual_acts virtual None e = none_is_some run (sym (ap (λ b. if b then None else Some found) virtual) ∙ e)
  virtual_acts virtual (Some n) e = option_and_then_some (λ d. target tree d found.0 found.1) (class_name tree n) run e (λ d there h. virtual_target_does_not_act tree d found.0 found.1 run.0 run.1 a declared virtual h acts)

  chosen_acts : (k : Option ℕ) → chosen_by tree found k ≡ Some run → action_of found.0 found.1 ≡ Some a
  chosen_acts k e = by_kind (is_virtual found.1.kind) refl
    where
      by_kind : (v : Bool) → is_virtual found.1.kind ≡ v → action_of found.0 found.1 ≡ Some a
      by_kind false is = plain_acts is k e
      by_kind true is = virtual_acts is k e

-- ---- one instruction

module _ (tree : Tree) (mutator : Mutator) (m : Frames) (o : Objects) (ss : List Value) (c : List ℕ) (answer : Answer) where
  -- no more is printed than this
  abbrev Within : List ℕ → Type 0
  Within line = length answer.printed ≤ length c + length line

  same_within : answer.printed ≡ c → (line : List ℕ) → Within line
  same_within is line = let same : length answer.printed ≡ length c = ap length is in omega (arith, same)

  line_within : (line : List ℕ) → answer.printed ≡ c ++ line → Within line
  line_within line is = let same : length answer.printed ≡ length c + length line = ap length is ∙ length-append c line in omega (arith, same)

  -- what leaves the printed bytes as they are
  frames_keep : (transition : Transition) → Some answer ≡ of_frames o ss c transition → answer.printed ≡ c
  frames_keep None e = none_is_some answer (sym e)
  frames_keep (Some t) e = ap (λ (x : Answer). x.printed) (same_Some answer (answer_of t.0 o ss c (OwnEffect t.1)) e)

  objects_keep : (transition : ObjectTransition) → Some answer ≡ of_objects o ss c transition → answer.printed ≡ c
  objects_keep None e = none_is_some answer (sym e)
  objects_keep (Some t) e = ap (λ (x : Answer). x.printed) (same_Some answer (answer_of t.0 t.1 ss c (OwnEffect t.2)) e)

  statics_keep : (transition : StaticTransition) → Some answer ≡ of_statics o ss c transition → answer.printed ≡ c
  statics_keep None e = none_is_some answer (sym e)
  statics_keep (Some t) e = ap (λ (x : Answer). x.printed) (same_Some answer (answer_of t.0 t.1.0 t.1.1 c (OwnEffect t.2)) e)

  console_keeps : (transition : ObjectTransition) → Some answer ≡ of_calls o ss c (with_console c transition) → answer.printed ≡ c
  console_keeps None e = none_is_some answer (sym e)
  console_keeps (Some t) e = ap (λ (x : Answer). x.printed) (same_Some answer (answer_of t.0 t.1 ss c (OwnEffect t.2)) e)

  asks_keep : (what : Addr → InstructionOutcome) (a : Option Addr) → Some answer ≡ of_calls o ss c (option_map (λ x. call_answer m o c (what x)) a) → answer.printed ≡ c
  asks_keep what None e = none_is_some answer (sym e)
  asks_keep what (Some a) e = ap (λ (x : Answer). x.printed) (same_Some answer (answer_of m o ss c (what a)) e)

  -- what is linked for operands that are found
  abbrev linked_answer : LinkedInstruction → MachineTransition
  linked_answer l = linked_transition tree mutator l m o ss c

  mapped_keep : {X : Type 0} (f : X → LinkedInstruction) → ((x : X) → Some answer ≡ linked_answer (f x) → answer.printed ≡ c) → (x : Option X) → Some answer ≡ when_some (option_map f x) linked_answer → answer.printed ≡ c
  mapped_keep f keep None e = none_is_some answer (sym e)
  mapped_keep f keep (Some x) e = keep x e

  then_keep : {X : Type 0} (f : X → Option LinkedInstruction) → ((x : X) → Some answer ≡ when_some (f x) linked_answer → answer.printed ≡ c) → (x : Option X) → Some answer ≡ when_some (option_and_then f x) linked_answer → answer.printed ≡ c
  then_keep f keep None e = none_is_some answer (sym e)
  then_keep f keep (Some x) e = keep x e

  string_keeps : (a : Addr) (b : Bool) → Some answer ≡ when_some (if b then Some (Linked.LoadString a) else None) linked_answer → answer.printed ≡ c
  string_keeps a true e = frames_keep _ e
  string_keeps a false e = none_is_some answer (sym e)

  -- an instruction that calls no method by its number
  quiet : (op : Operation) → called_member op ≡ None → Some answer ≡ operation_transition tree mutator op m o ss c → answer.printed ≡ c
  quiet (LoadString n) h e = string_keeps (literal n) (nat_lt n FIRST_LITERAL) e
  quiet (LoadField owner field) h e =
      then_keep (λ slot. option_map (λ kind. Linked.LoadField slot kind) (field_kind_at tree field)) (λ slot. mapped_keep (λ kind. Linked.LoadField slot kind) (λ kind. objects_keep _) (field_kind_at tree field)) (slot_at tree field) e
  quiet (StoreField owner field) h e = mapped_keep (λ slot. Linked.StoreField slot) (λ slot. objects_keep _) (slot_at tree field) e
  quiet (LoadStaticField field) h e = mapped_keep (λ number. Linked.LoadStaticField number) (λ number. frames_keep _) (static_at tree field) e
  quiet (StoreStaticField field) h e = mapped_keep (λ number. Linked.StoreStaticField number) (λ number. statics_keep _) (static_at tree field) e
  quiet (NewArray t) h e = mapped_keep (λ element. Linked.NewArray element) (λ element. objects_keep _) (linked_array t) e
  quiet LoadLength h e = objects_keep _ e
  quiet (LoadElement kind) h e = objects_keep _ e
  quiet (StoreElement kind) h e = objects_keep _ e
  quiet (CastClass t) h e = objects_keep _ e
  quiet (IsInstance t) h e = objects_keep _ e
  quiet (Call is_instance owner method) h e = none_is_some method (sym h)
  quiet (CallVirtual owner method) h e = none_is_some method (sym h)
  quiet (NewObject method) h e =
      then_keep (λ class. option_and_then (λ slots. option_map (λ number. Linked.NewObject class slots number) (number_at tree method)) (slots_at tree method)) (λ class.
      then_keep (λ slots. option_map (λ number. Linked.NewObject class slots number) (number_at tree method)) (λ slots.
      mapped_keep (λ number. Linked.NewObject class slots number) (λ number. objects_keep _) (number_at tree method)) (slots_at tree method)) (class_in method) e
  quiet _ h e = frames_keep _ e

  -- a built-in member
  writes : (stack : List Value) → Some answer ≡ of_calls o ss c (option_map (λ (t : Frames × List ℕ × Effect). call_answer t.0 o t.1 (OwnEffect t.2)) (top_of stack m (λ v n. when_some (line_of (literals_of tree) v) (λ line. print_bytes line c n)))) → Within (print_by tree Write stack)
  writes [] e = none_is_some answer (sym e)
  writes (v ∷ rest) e = by_line (line_of (literals_of tree) v) e
    where
      on : List ℕ → Option (Frames × Effect) → Option (Frames × List ℕ × Effect)
      on line transition = option_map (λ (t : Frames × Effect). (t.0, c ++ line, t.1)) transition

      by_transition : (line : List ℕ) (transition : Option (Frames × Effect)) → Some answer ≡ of_calls o ss c (option_map (λ (t : Frames × List ℕ × Effect). call_answer t.0 o t.1 (OwnEffect t.2)) (on line transition)) → answer.printed ≡ c ++ line
      by_transition line None e' = none_is_some answer (sym e')
      by_transition line (Some t) e' = ap (λ (x : Answer). x.printed) (same_Some answer (answer_of t.0 o ss (c ++ line) (OwnEffect t.1)) e')

      by_line : (l : Option (List ℕ)) → Some answer ≡ of_calls o ss c (option_map (λ (t : Frames × List ℕ × Effect). call_answer t.0 o t.1 (OwnEffect t.2)) (when_some l (λ line. print_bytes line c (with_stack m rest)))) → Within (unwrap_or l [])
      by_line None e' = none_is_some answer (sym e')
      by_line (Some line) e' = line_within line (by_transition line (onward (with_stack m rest)) e')

  constructs : (stack : List Value) → Some answer ≡ of_calls o ss c (top_of stack m (λ v n. with_console c (with_objects o (onward n)))) → answer.printed ≡ c
  constructs [] e = none_is_some answer (sym e)
  constructs (v ∷ rest) e = console_keeps (with_objects o (onward (with_stack m rest))) e

  acts : (a : Action) → Some answer ≡ of_calls o ss c (act_transition tree mutator a m o c) → Within (print_by tree a m.running.stack)
  acts Construct e = same_within (constructs m.running.stack e) []
  acts Write e = writes m.running.stack e
  acts Enter e = same_within (console_keeps _ e) []
  acts Exit e = same_within (console_keeps _ e) []
  acts Start e = same_within (asks_keep Starts (top_reference m.running.stack) e) []
  acts Join e = same_within (asks_keep Joins (top_reference m.running.stack) e) []

  -- the line that a method prints as it is called, by what it does
  abbrev print_of : Option Action → List ℕ
  print_of k = option_map_or (λ a. print_by tree a m.running.stack) k []

  -- a method that runs
  runs : (found : ClassName × Method) (k : Option Action) → Some answer ≡ of_calls o ss c (option_map_or (λ a. act_transition tree mutator a m o c) k (when_some (number_of tree found) (λ n. with_console c (with_objects o (call_transition (called_method found n) m))))) → Within (print_of k)
  runs found None e = by_number (number_of tree found) e
    where
      by_number : (n : Option ℕ) → Some answer ≡ of_calls o ss c (when_some n (λ n. with_console c (with_objects o (call_transition (called_method found n) m)))) → Within []
      by_number None e' = none_is_some answer (sym e')
      by_number (Some n) e' = same_within (console_keeps (with_objects o (call_transition (called_method found n) m)) e') []
  runs found (Some a) e = acts a e

  -- call
  called : (flag : Bool) (owner : ℕ) (method : MethodId) (found : ClassName × Method) → method_at tree (method.class, method.index) ≡ Some found →
      Some answer ≡ operation_transition tree mutator (Call flag owner method) m o ss c → Within (print_of (action_of found.0 found.1))
  called flag owner method found has_id e = runs found (action_of found.0 found.1) (e ∙ call_does tree mutator m o ss c method found has_id flag owner)

  -- callvirt
  called_virtually : (owner : ℕ) (method : MethodId) (found : ClassName × Method) → IsDeclared tree found.0 found.1 → method_at tree (method.class, method.index) ≡ Some found →
      Some answer ≡ operation_transition tree mutator (CallVirtual owner method) m o ss c → Within (print_of (action_of found.0 found.1))
  called_virtually owner method found declared has_id e =
      by_receiver (receiver m.running.stack (length (argument_types found.1 found.0))) (e ∙ virtual_does tree mutator m o ss c method found has_id owner)
    where
      go : Addr → CallTransition
      go y = run_on tree mutator found y m o c

      by_run : (y : Addr) (r : Option (ClassName × Method)) → chosen_method tree o y found ≡ r → Some answer ≡ of_calls o ss c (when_some r (λ run. run_transition tree mutator run m o c)) → Within (print_of (action_of found.0 found.1))
      by_run y None is e' = none_is_some answer (sym e')
      by_run y (Some run) is e' = by_action (action_of run.0 run.1) refl (runs run (action_of run.0 run.1) e')
        where
          by_action : (k : Option Action) → action_of run.0 run.1 ≡ k → Within (print_of k) → Within (print_of (action_of found.0 found.1))
          by_action None none h = let few : length answer.printed ≤ length c + 0 = h in omega (arith, few)
          by_action (Some a) some h =
              option_and_then_some (chosen_by tree found) (class_at o y) run is (λ k lies e''. subst (λ x. Within (print_of x)) (sym (chosen_acts tree found run declared a some k e'')) h)

      by_null : (y : Addr) (b : Bool) → Some answer ≡ of_calls o ss c (if b then Some (call_answer m o c (OwnEffect (Raises NullReference))) else when_some (chosen_method tree o y found) (λ run. run_transition tree mutator run m o c)) → Within (print_of (action_of found.0 found.1))
      by_null y true e' = same_within (ap (λ (x : Answer). x.printed) (same_Some answer (answer_of m o ss c (OwnEffect (Raises NullReference))) e')) (print_of (action_of found.0 found.1))
      by_null y false e' = by_run y (chosen_method tree o y found) refl e'

      by_receiver : (r : Option Addr) → Some answer ≡ of_calls o ss c (when_some r go) → Within (print_of (action_of found.0 found.1))
      by_receiver None e' = none_is_some answer (sym e')
      by_receiver (Some y) e' = by_null y (y.number == 0) e'

  -- any instruction at the frame's pc
  done_within : IsDone tree mutator m o ss c answer → Within (print_in tree m)
  done_within done =
      subst (λ k. Within (print_of k)) (sym (action_is tree m done.operation done.at))
      (by_calls done.at.line.instruction done.operation (calls_of tree (lines_of done.at.found.1) done.at.line.instruction done.operation done.at.refines) done.is)
    where
      by_calls : (i : Instruction) (op : Operation) → Calls tree i op → Some answer ≡ operation_transition tree mutator op m o ss c → Within (print_of (called_action tree i))
      by_calls _ _ (by_call flag r owner method finds) e =
          subst (λ k. Within (print_of (action_found k))) (sym finds.finds) (called flag owner method (finds.declared_in, finds.found) finds.has_id e)
      by_calls _ _ (by_virtual_call d name signature owner method finds) e =
          subst (λ k. Within (print_of (action_found k))) (sym finds.finds)
          (called_virtually owner method (finds.declared_in, finds.found) (found_is_declared tree true (virtual_reference d name signature) finds.declared_in finds.found finds.finds) finds.has_id e)
      by_calls _ _ (nothing i op none none') e = same_within (quiet op none' e) (print_of (called_action tree i))

-- ---- any event

module _ (c : MachineState) (after : MachineState × Report) where
  -- it prints what is next, and no more
  pub prints_within : (e : Event) → IsTransition c e after → length after.0.printed ≤ length c.printed + length (next_print c e)
  prints_within (Step t) h = by_thread (slice_get c.threads t) h
    where
      by_thread_status : (left : ℕ) (thread_status : ThreadStatus) → IsStatusTransition c t left thread_status after → length after.0.printed ≤ length c.printed + length (status_print c.tree thread_status)
      by_thread_status left (Live m) k =
          let done : length k.0.printed ≤ length c.printed + length (print_in c.tree m) = done_within c.tree (mutator_of c t) m c.objects c.statics c.printed k.0 k.1 in
          let same : length after.0.printed ≡ length k.0.printed = ap length (finished_printed c t left k.0 after k.0.outcome k.2) in
          omega (arith, done, same)
      by_thread_status left (Ended x) k = let same : length after.0.printed ≡ length c.printed = ap (λ (x : MachineState × Report). length x.0.printed) k in omega (arith, same)

      by_thread : (o : Option Thread) → IsThreadTransition c t o after → length after.0.printed ≤ length c.printed + length (option_map_or (λ (x : Thread). status_print c.tree x.thread_status) o [])
      by_thread None k = let same : length after.0.printed ≡ length c.printed = ap (λ (x : MachineState × Report). length x.0.printed) k in omega (arith, same)
      by_thread (Some thread) k = by_thread_status thread.steps_left thread.thread_status k
  prints_within (Ack t) h = let same : length after.0.printed ≡ length c.printed = ap (λ (x : MachineState × Report). length x.0.printed) h in omega (arith, same)
  prints_within Gc h = let same : length after.0.printed ≡ length c.printed = ap (λ (x : MachineState × Report). length x.0.printed) h ∙ ap length (collected_keeps c).printed in omega (arith, same)
