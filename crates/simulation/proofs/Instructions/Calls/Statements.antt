-- The statement that methods run alike on both machines, as the laws of calls use it.
use Rattle.std.specs.Prelude.{◌≡◌, ℕ, nat_le, true, List, length, take, drop, reverse, Some}
use Rattle.interpreter.specs.cil_model.declared.instructions.Instruction.{Instruction}
use Rattle.interpreter.specs.cil_model.declared.trees.Method.{Method}
use Rattle.interpreter.specs.cil_model.declared.types.ClassName.{ClassName}
use Rattle.interpreter.specs.cil_model.Bodies.{argument_types}
use Rattle.interpreter.specs.reference_machine.States.{Frame as StateFrame, State}
use Rattle.interpreter.specs.reference_machine.Effects.{StepContext}
use Rattle.interpreter.specs.reference_machine.Steps.{run_method}
use Rattle.reference_machine.proofs.TypedStates.RunningFrames.{IsTypedEffect}
use Rattle.interpreter.specs.name_tables.Numbers.{method_at}
use Rattle.interpreter.specs.resolved_code.declared.operations.Operation.{Operation}
use Rattle.interpreter.specs.object_memory.declared.values.Value.{Value}
use Rattle.interpreter.specs.object_memory.Objects.{Objects}
use Rattle.interpreter.specs.threads_monitors.Frames.{Frames}
use Rattle.interpreter.specs.Instructions.{of_calls}
use Rattle.interpreter.specs.Calls.{run_transition}
use Rattle.simulation.specs.Refines.{Names}
use Rattle.simulation.proofs.Memory.MemoryModels.{MemoryModel, mutator_in}
use Rattle.simulation.proofs.Instructions.Correspondence.{IsSetting, DoesAlike}

-- a method that is found runs alike on operands that are there, one for each of its arguments
abbrev pub MethodsRunAlike : Type 1
MethodsRunAlike =
    (here : StepContext) (model : MemoryModel here.tree) (name : Names) (m : Frames) (o : Objects) (statics : List Value) (printed : List ℕ) (s : State) (f : StateFrame) (below : List StateFrame) (i : Instruction) (operation : Operation) →
    IsSetting here model name m o statics printed s f below i operation →
    (found : ClassName × Method) (class index : ℕ) → method_at here.tree (class, index) ≡ Some found →
    nat_le (length (argument_types found.1 found.0)) (length f.stack) ≡ true →
    IsTypedEffect here.tree (run_method here s f below found (reverse (take (length (argument_types found.1 found.0)) f.stack)) (drop (length (argument_types found.1 found.0)) f.stack)) →
    DoesAlike here model name m o statics printed s f below (of_calls o statics printed (run_transition here.tree (mutator_in here model) found m o printed))
    (run_method here s f below found (reverse (take (length (argument_types found.1 found.0)) f.stack)) (drop (length (argument_types found.1 found.0)) f.stack))
