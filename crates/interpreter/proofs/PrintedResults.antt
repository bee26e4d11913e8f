-- An instruction whose result prints.
use Rattle.std.proofs.Common.{◌≡◌, ◌<◌, ℕ, true, List, length, Some, None, refl, sym, arith}
use Rattle.std.proofs.lemmas.Bool.Decides.{nat_tests}
use Rattle.std.specs.Prelude.{nat_lt}
use Rattle.cil_model.specs.declared.trees.Tree.{Tree}
use Rattle.resolved_code.specs.declared.operations.Operation.{Operation}
use Rattle.object_memory.specs.declared.values.Value.{Value}
use Rattle.object_memory.specs.Objects.{Objects}
use Rattle.threads_monitors.specs.declared.mutators.Mutator.{Mutator}
use Rattle.threads_monitors.specs.Frames.{Frames}
use Rattle.interpreter.specs.Instructions.{HasSmallConstant, IsAt, Prints, is_printing, operation_transition, MachineTransition}

-- an instruction at the thread's pc that prints
pub instruction_prints : (tree : Tree) (mutator : Mutator) (m : Frames) (o : Objects) (statics : List Value) (console : List ℕ) (operation : Operation) → IsAt tree m operation → HasSmallConstant operation →
    is_printing console (operation_transition tree mutator operation m o statics console) ≡ true → Prints tree mutator m o statics console
instruction_prints tree mutator m o statics console operation at constant h = by_transition (operation_transition tree mutator operation m o statics console) refl h
  where
    below : (a b : ℕ) → nat_lt a b ≡ true → a < b
    below a b is = grind (arith, nat_tests)

    by_transition : (transition : MachineTransition) → operation_transition tree mutator operation m o statics console ≡ transition → is_printing console transition ≡ true → Prints tree mutator m o statics console
    by_transition None is e = absurd cc
    by_transition (Some answer) is e = (answer, record { operation = operation; at = at; constant = constant; is = sym is }, below (length console) (length answer.printed) e)
