-- Each instruction of an accepted program leaves a typed state, and so no run of one is stuck.
use Rattle.std.proofs.Common.{◌≡◌, List, Some}
use Rattle.cil_model.specs.declared.instructions.Instruction.TheVariants.{NoOperation, LoadInt32, LoadInt64, LoadNull, LoadString, LoadArgument, StoreArgument, LoadLocal, StoreLocal, Duplicate, Pop, Binary, Unary, Shift, Compare, ConvertInt32, ConvertInt64, Branch, Switch, LoadField, StoreField, LoadStaticField, StoreStaticField, NewArray, LoadLength, LoadElement, StoreElement, CastClass, IsInstance, Call, CallVirtual, NewObject, Return}
use Rattle.cil_model.specs.declared.trees.Tree.{Tree}
use Rattle.cil_model.specs.declared.limits.Limits.{Limits}
use Rattle.cil_model.specs.declared.reports.Report.{Report}
use Rattle.cil_model.specs.Typings.{IsAccepted}
use Rattle.reference_machine.specs.States.{State}
use Rattle.reference_machine.specs.Runs.{StepRequest, RunsTo, initial_state, run}
use Rattle.reference_machine.specs.TypedStates.{IsTyped}
use Rattle.reference_machine.proofs.TypedSteps.FrameInstructions.{no_operation_typed, load_int32_typed, load_int64_typed, load_null_typed, load_string_typed, load_argument_typed, load_local_typed, store_argument_typed, store_local_typed, duplicate_typed, pop_typed, binary_typed, unary_typed, shift_typed, convert_int32_typed, convert_int64_typed, compare_typed, branch_instruction_typed, switch_typed}
use Rattle.reference_machine.proofs.TypedSteps.ObjectInstructions.{new_array_typed, load_length_typed, load_element_typed, store_element_typed, cast_class_typed, is_instance_typed, load_field_typed, store_field_typed, load_static_field_typed, store_static_field_typed}
use Rattle.reference_machine.proofs.TypedSteps.CallsAndReturns.{call_typed, call_virtual_typed, return_typed}
use Rattle.reference_machine.proofs.TypedSteps.NewObjects.{new_object_typed}
use Rattle.reference_machine.proofs.TypedSteps.StepsAndRuns.{InstructionsAreTyped, never_stuck}

-- each instruction, wherever a typed frame is at it
pub instruction_typed : InstructionsAreTyped
instruction_typed here s f below NoOperation running = no_operation_typed here s f below running
instruction_typed here s f below (LoadInt32 z) running = load_int32_typed here s f below z running
instruction_typed here s f below (LoadInt64 z) running = load_int64_typed here s f below z running
instruction_typed here s f below LoadNull running = load_null_typed here s f below running
instruction_typed here s f below (LoadString characters) running = load_string_typed here s f below characters running
instruction_typed here s f below (LoadArgument n) running = load_argument_typed here s f below n running
instruction_typed here s f below (LoadLocal n) running = load_local_typed here s f below n running
instruction_typed here s f below (StoreArgument n) running = store_argument_typed here s f below n running
instruction_typed here s f below (StoreLocal n) running = store_local_typed here s f below n running
instruction_typed here s f below Duplicate running = duplicate_typed here s f below running
instruction_typed here s f below Pop running = pop_typed here s f below running
instruction_typed here s f below (Binary op) running = binary_typed here s f below op running
instruction_typed here s f below (Unary op) running = unary_typed here s f below op running
instruction_typed here s f below (Shift op) running = shift_typed here s f below op running
instruction_typed here s f below (Compare op) running = compare_typed here s f below op running
instruction_typed here s f below ConvertInt32 running = convert_int32_typed here s f below running
instruction_typed here s f below ConvertInt64 running = convert_int64_typed here s f below running
instruction_typed here s f below (Branch condition label) running = branch_instruction_typed here s f below condition label running
instruction_typed here s f below (Switch labels) running = switch_typed here s f below labels running
instruction_typed here s f below (LoadField r) running = load_field_typed here s f below r running
instruction_typed here s f below (StoreField r) running = store_field_typed here s f below r running
instruction_typed here s f below (LoadStaticField r) running = load_static_field_typed here s f below r running
instruction_typed here s f below (StoreStaticField r) running = store_static_field_typed here s f below r running
instruction_typed here s f below (NewArray t) running = new_array_typed here s f below t running
instruction_typed here s f below LoadLength running = load_length_typed here s f below running
instruction_typed here s f below (LoadElement kind) running = load_element_typed here s f below kind running
instruction_typed here s f below (StoreElement kind) running = store_element_typed here s f below kind running
instruction_typed here s f below (CastClass t) running = cast_class_typed here s f below t running
instruction_typed here s f below (IsInstance t) running = is_instance_typed here s f below t running
instruction_typed here s f below (Call is_instance r) running = call_typed here s f below is_instance r running
instruction_typed here s f below (CallVirtual owner name signature) running = call_virtual_typed here s f below owner name signature running
instruction_typed here s f below (NewObject c parameters) running = new_object_typed here s f below c parameters running
instruction_typed here s f below Return running = return_typed here s f below running

-- a run of an accepted program from its initial state is never stuck, and leaves a typed state
pub accepted_never_stuck : (tree : Tree) (limits : Limits) → IsAccepted tree → (requests : List StepRequest) →
    (first : State) × (reports : List Report) × (s : State) × (initial_state tree limits ≡ Some first) × (run tree limits first requests ≡ RunsTo reports s) × IsTyped tree s
accepted_never_stuck tree limits accepted requests = never_stuck instruction_typed tree limits accepted requests
