-- Each event of a machine does what the reference machine does: each step of a thread, acknowledgement and event of the collector, from the initial state on.
use Rattle.std.proofs.Common.{◌≡◌, ℕ, IsTrue, List, Some, slice_get, ◌↔◌, sym, subst}
use Rattle.interpreter.specs.cil_model.declared.instructions.Instruction.{Instruction}
use Rattle.interpreter.specs.cil_model.declared.limits.Limits.{Limits}
use Rattle.interpreter.specs.cil_model.declared.trees.Tree.{Tree}
use Rattle.interpreter.specs.cil_model.Bodies.{lines_of}
use Rattle.interpreter.specs.cil_model.Ranges.{are_in_range}
use Rattle.interpreter.specs.cil_model.Typings.{IsAccepted}
use Rattle.interpreter.specs.reference_machine.States.{Frame as StateFrame, State}
use Rattle.interpreter.specs.reference_machine.Effects.{StepContext}
use Rattle.interpreter.specs.reference_machine.Steps.{Answers, execute, step}
use Rattle.interpreter.specs.reference_machine.Runs.{is_refusal, initial_state}
use Rattle.interpreter.specs.cil_model.declared.events.Event.TheVariants.{Step, Ack, Gc}
use Rattle.interpreter.specs.cil_model.declared.reports.Report.{Report}
use Rattle.interpreter.specs.resolved_code.ResolvedPrograms.{IsOperation, no_operation, load_int32, load_int64, load_null, load_string, load_argument, store_argument, load_local, store_local, duplicate, pop, binary, unary, shift, compare, convert_int32, convert_int64, branch, switch, load_field, store_field, load_static_field, store_static_field, new_array, load_length, load_element, store_element, cast_class, is_instance, call, call_virtual, new_object, return}
use Rattle.interpreter.specs.resolved_code.declared.operations.Operation.{Operation}
use Rattle.interpreter.specs.object_memory.declared.values.Value.{Value}
use Rattle.interpreter.specs.object_memory.Objects.{Objects}
use Rattle.interpreter.specs.threads_monitors.Frames.{Frames}
use Rattle.interpreter.specs.threads_monitors.declared.threads.ThreadStatus.TheVariants.{Live}
use Rattle.interpreter.specs.Instructions.{IsDone, operation_transition, Answer}
use Rattle.simulation.specs.MachineStates.{MachineState, mutator_of}
use Rattle.simulation.specs.Refines.{Names, Represents}
use Rattle.simulation.specs.Transitions.{IsTransition, initial_machine_state}
use Rattle.simulation.proofs.Memory.MemoryModels.{MemoryModel, mutator_in}
use Rattle.simulation.proofs.Instructions.Correspondence.{IsSetting, DoesAlike, InstructionsAreAlike}
use Rattle.simulation.proofs.CollectorEvents.AcknowledgementNames.{acknowledgement_represents}
use Rattle.simulation.proofs.CollectorEvents.UnchangedState.{collected_represents}
use Rattle.simulation.proofs.Threads.LiveThreads.{normally}
use Rattle.simulation.proofs.Instructions.FrameInstructions.{no_operation_alike, load_int32_alike, load_int64_alike, load_null_alike, load_string_alike, load_argument_alike, store_argument_alike, load_local_alike, store_local_alike, duplicate_alike, pop_alike, binary_alike, unary_alike, shift_alike, compare_alike, convert_int32_alike, convert_int64_alike, branch_alike, switch_alike}
use Rattle.simulation.proofs.Instructions.InstanceFields.{load_field_alike, store_field_alike}
use Rattle.simulation.proofs.Instructions.StaticFields.{load_static_field_alike, store_static_field_alike}
use Rattle.simulation.proofs.Instructions.ArraysAndLengths.{new_array_alike, load_length_alike}
use Rattle.simulation.proofs.Instructions.ArrayElements.{load_element_alike, store_element_alike}
use Rattle.simulation.proofs.Instructions.Casts.{cast_class_alike, is_instance_alike}
use Rattle.simulation.proofs.Instructions.Calls.MethodExecution.{methods_run_alike, return_alike}
use Rattle.simulation.proofs.Instructions.Calls.MethodCalls.{call_alike, call_virtual_alike}
use Rattle.simulation.proofs.Instructions.NewObjects.{new_object_alike}
use Rattle.simulation.specs.ReadySteps.{IsReady, IsAnswerable}
use Rattle.simulation.proofs.Representation.InitialContents.{initial_represents}
use Rattle.simulation.proofs.Threads.Steps.{answerable, step_follows, refused_beyond_room}
use Rattle.simulation.specs.Rooms.{HasNoRoom}
use Rattle.simulation.proofs.Threads.NextInstruction.{live_is_ready}

module _ (here : StepContext) (model : MemoryModel here.tree) (name : Names) (m : Frames) (o : Objects) (statics : List Value) (printed : List ℕ) (s : State) (f : StateFrame) (below : List StateFrame) where
  -- by what runs for the instruction
  by_operation : (i : Instruction) (operation : Operation) → IsOperation here.tree (lines_of f.method) i operation → IsSetting here model name m o statics printed s f below i operation →
      DoesAlike here model name m o statics printed s f below (operation_transition here.tree (mutator_in here model) operation m o statics printed) (execute here s f below i)
  by_operation _ _ no_operation at = no_operation_alike here model name m o statics printed s f below at
  by_operation _ _ (load_int32 z) at = load_int32_alike here model name m o statics printed s f below z at
  by_operation _ _ (load_int64 z) at = load_int64_alike here model name m o statics printed s f below z at
  by_operation _ _ load_null at = load_null_alike here model name m o statics printed s f below at
  by_operation _ _ (load_string characters number is) at = load_string_alike here model name m o statics printed s f below characters number is at
  by_operation _ _ (load_argument n) at = load_argument_alike here model name m o statics printed s f below n at
  by_operation _ _ (store_argument n) at = store_argument_alike here model name m o statics printed s f below n at
  by_operation _ _ (load_local n) at = load_local_alike here model name m o statics printed s f below n at
  by_operation _ _ (store_local n) at = store_local_alike here model name m o statics printed s f below n at
  by_operation _ _ duplicate at = duplicate_alike here model name m o statics printed s f below at
  by_operation _ _ pop at = pop_alike here model name m o statics printed s f below at
  by_operation _ _ (binary op) at = binary_alike here model name m o statics printed s f below op at
  by_operation _ _ (unary op) at = unary_alike here model name m o statics printed s f below op at
  by_operation _ _ (shift op) at = shift_alike here model name m o statics printed s f below op at
  by_operation _ _ (compare op) at = compare_alike here model name m o statics printed s f below op at
  by_operation _ _ convert_int32 at = convert_int32_alike here model name m o statics printed s f below at
  by_operation _ _ convert_int64 at = convert_int64_alike here model name m o statics printed s f below at
  by_operation _ _ (branch condition label index is) at = branch_alike here model name m o statics printed s f below condition label index is at
  by_operation _ _ (switch labels indices are) at = switch_alike here model name m o statics printed s f below labels indices are at
  by_operation _ _ (load_field r owner field named finds) at = load_field_alike here model name m o statics printed s f below r owner field named finds at
  by_operation _ _ (store_field r owner field named finds) at = store_field_alike here model name m o statics printed s f below r owner field named finds at
  by_operation _ _ (load_static_field r field finds) at = load_static_field_alike here model name m o statics printed s f below r field finds at
  by_operation _ _ (store_static_field r field finds) at = store_static_field_alike here model name m o statics printed s f below r field finds at
  by_operation _ _ (new_array t n is) at = new_array_alike here model name m o statics printed s f below t n is at
  by_operation _ _ load_length at = load_length_alike here model name m o statics printed s f below at
  by_operation _ _ (load_element kind) at = load_element_alike here model name m o statics printed s f below kind at
  by_operation _ _ (store_element kind) at = store_element_alike here model name m o statics printed s f below kind at
  by_operation _ _ (cast_class t n is) at = cast_class_alike here model name m o statics printed s f below t n is at
  by_operation _ _ (is_instance t n is) at = is_instance_alike here model name m o statics printed s f below t n is at
  by_operation _ _ (call flag r owner method named finds) at = call_alike here model name m o statics printed s f below flag r owner method named finds at
  by_operation _ _ (call_virtual c label signature owner method named finds) at = call_virtual_alike methods_run_alike here model name m o statics printed s f below c label signature owner method named finds at
  by_operation _ _ (new_object c parameters number finds) at = new_object_alike here model name m o statics printed s f below c parameters number finds at
  by_operation _ _ return at = return_alike here model name m o statics printed s f below at

-- each instruction, wherever a typed frame is at it
pub each_alike : InstructionsAreAlike
each_alike here model name m o statics printed s f below i operation at = by_operation here model name m o statics printed s f below i operation at.resolved at

-- ---- the initial state

-- an accepted program has an initial machine state, which represents its initial state
pub initial_is_represented : (tree : Tree) (limits : Limits) → IsAccepted tree → IsTrue (are_in_range limits) →
    (c : MachineState) × (s : State) × (initial_machine_state tree limits ≡ Some c) × (initial_state tree limits ≡ Some s) × Represents c s
initial_is_represented = initial_represents

-- ---- steps

-- what a machine does on a step, the reference machine does
pub step_is_followed : (c : MachineState) (s : State) → Represents c s → (t : ℕ) (after : MachineState × Report) → IsTransition c (Step t) after →
    (s' : State) × (step c.tree c.limits s t (is_refusal after.1) ≡ Answers after.1 s') × Represents after.0 s'
step_is_followed c s r t after transition = let follows = step_follows each_alike c s r t after transition in (follows.0, follows.1, follows.2)

-- it is refused memory exactly where its object exceeds the room for births of its thread
pub step_is_refused : (c : MachineState) (s : State) → Represents c s → (t : ℕ) (after : MachineState × Report) → IsTransition c (Step t) after → IsTrue (is_refusal after.1) ↔ HasNoRoom c s t
step_is_refused c s r t after transition = refused_beyond_room each_alike c s r t after transition

-- what is no step keeps the state
pub acknowledgement_keeps : (c : MachineState) (s : State) → Represents c s → (t : ℕ) (after : MachineState × Report) → IsTransition c (Ack t) after → Represents after.0 s
acknowledgement_keeps c s r t after transition =
    subst (λ (x : MachineState × Report). Represents x.0 s) (sym transition) (acknowledgement_represents c t s r)

pub collection_keeps : (c : MachineState) (s : State) → Represents c s → (after : MachineState × Report) → IsTransition c Gc after → Represents after.0 s
collection_keeps c s r after transition =
    let normal = normally c s r in subst (λ (x : MachineState × Report). Represents x.0 s) (sym transition) (collected_represents c s r normal.name normal.normal normal.by)

-- a live thread's instruction has a result
pub thread_is_ready : (c : MachineState) (s : State) → Represents c s → (t left : ℕ) (m : Frames) → slice_get c.threads t ≡ Some (record { thread_status = Live m; steps_left = left }) → IsReady c t m
thread_is_ready c s r t left m there = live_is_ready each_alike c s r t left m there

-- and so has what it asks of other threads
pub asked_is_answerable : (c : MachineState) (s : State) → Represents c s → (t left : ℕ) (m : Frames) → slice_get c.threads t ≡ Some (record { thread_status = Live m; steps_left = left }) →
    (a : Answer) → IsDone c.tree (mutator_of c t) m c.objects c.statics c.printed a → IsAnswerable c t left a a.outcome
asked_is_answerable c s r t left m there a done = answerable each_alike c s r t left m there a done
