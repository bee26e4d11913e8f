-- Casts do the same on a machine as on the reference machine (III.4.3, III.4.6).
use Rattle.std.proofs.Common.{◌≡◌, ◌≤◌, ◌+◌, ℕ, Bool, true, false, if◌then◌else◌, List, ◌∷◌, length, Option, Some, None, refl, sym, ap, subst}
use Rattle.interpreter.specs.cil_model.declared.instructions.Instruction.{Instruction}
use Rattle.interpreter.specs.cil_model.declared.instructions.Instruction.TheVariants as Named
use Rattle.interpreter.specs.cil_model.declared.reports.Fault.TheVariants.{InvalidCast}
use Rattle.interpreter.specs.cil_model.declared.types.DeclaredType.{DeclaredType}
use Rattle.interpreter.specs.reference_machine.Values.{Value as StateValue, Null}
use Rattle.interpreter.specs.reference_machine.States.{Frame as StateFrame, State}
use Rattle.interpreter.specs.reference_machine.Effects.{StepContext, Effect as StateEffect, Raises as StateRaises, when_some as given_state}
use Rattle.interpreter.specs.reference_machine.Steps.{execute, next, cast, may_hold}
use Rattle.interpreter.proofs.reference_machine.TypedStates.RunningFrames.{IsTypedEffect}
use Rattle.interpreter.specs.resolved_code.ById.{type_at}
use Rattle.interpreter.specs.resolved_code.declared.types.ResolvedType.{ResolvedType}
use Rattle.interpreter.specs.resolved_code.declared.operations.Operation.{Operation}
use Rattle.interpreter.specs.resolved_code.declared.operations.Operation.TheVariants as Resolved
use Rattle.interpreter.specs.object_memory.declared.values.Value.{Value}
use Rattle.interpreter.specs.object_memory.declared.values.Value.TheVariants.{Ref}
use Rattle.interpreter.specs.object_memory.Cells.{null}
use Rattle.interpreter.specs.object_memory.Objects.{Objects}
use Rattle.interpreter.specs.threads_monitors.Frames.{Frames, with_pc, with_stack}
use Rattle.interpreter.specs.threads_monitors.declared.effects.Effect.TheVariants.{Continues, Raises}
use Rattle.interpreter.specs.instructions.Frames.{when_some, value_pushed}
use Rattle.interpreter.specs.instructions.ObjectTransitions.{ObjectTransition, with_objects}
use Rattle.interpreter.specs.instructions.TypeTransitions.{may_be_used_as, cast_transition}
use Rattle.interpreter.specs.declared.outcomes.InstructionOutcome.TheVariants.{OwnEffect}
use Rattle.interpreter.specs.Instructions.{MachineTransition, of_objects, operation_transition, answer_of}
use Rattle.simulation.specs.Agreement.{Agree}
use Rattle.simulation.specs.Refines.{Names, IsValue, null_reference}
use Rattle.simulation.proofs.Instructions.Correspondence.{IsSetting, DoesAlike}
use Rattle.simulation.proofs.Instructions.FrameProgress.{leaves_is, next_alike}
use Rattle.simulation.proofs.Instructions.StackOperands.{fine, one_operand}
use Rattle.simulation.proofs.Memory.TypesAtAddresses.{may_be_used_as_is}
use Rattle.interpreter.proofs.cil_model.SameLaws.{never}
use Rattle.simulation.proofs.Memory.MemoryModels.{MemoryModel, mutator_in}

module _ (here : StepContext) (model : MemoryModel here.tree) (name : Names) (m : Frames) (o : Objects) (statics : List Value) (printed : List ℕ) (s : State) (f : StateFrame) (below : List StateFrame) where
  abbrev Alike : MachineTransition → StateEffect → Type 0
  Alike transition e = DoesAlike here model name m o statics printed s f below transition e

  module _ (i : Instruction) (operation : Operation) (at : IsSetting here model name m o statics printed s f below i operation) where
    -- on to the next instruction with a value more
    left_alike : (v : Value) (u : StateValue) (rest : List Value) (rest' : List StateValue) → IsValue name v u → Agree (IsValue name) rest rest' → length rest ≤ length m.running.stack →
        Alike (of_objects o statics printed (with_objects o (value_pushed v (with_stack m rest)))) (next here s f below (u ∷ rest'))
    left_alike v u rest rest' h k shorter =
        record {
          answer = answer_of (with_pc (with_stack m (v ∷ rest)) (m.running.pc + 1)) o statics printed (OwnEffect Continues);
          is = ap (λ t. of_objects o statics printed (with_objects o t)) (leaves_is here model name m o statics printed s f below i operation at v rest shorter);
          refuses = λ _ h. never h;
          alike = λ r. next_alike here model name m o statics printed s f below i operation at (v ∷ rest) (u ∷ rest') (h, k);
        }

    -- an object of the class stays on the stack; what becomes of another one is alike
    cast_alike : (t : DeclaredType) (n : ResolvedType) → type_at here.tree n ≡ Some t → (otherwise : Frames → Objects → ObjectTransition) (otherwise' : List StateValue → StateEffect) →
        ((rest : List Value) (rest' : List StateValue) → Agree (IsValue name) rest rest' → length rest ≤ length m.running.stack → Alike (of_objects o statics printed (otherwise (with_stack m rest) o)) (otherwise' rest')) →
        IsTypedEffect here.tree (cast here s f below t otherwise') → Alike (of_objects o statics printed (cast_transition here.tree otherwise n m o)) (cast here s f below t otherwise')
    cast_alike t n has_id otherwise otherwise' each typed =
        one_operand here model name m o statics printed s f below i operation at (of_objects o statics printed) (λ v k. when_some (may_be_used_as here.tree o v n) (λ holds. if holds then with_objects o (value_pushed v k) else otherwise k o))
        (λ u rest'. given_state (may_hold here s f below t u) (λ holds. if holds then next here s f below (u ∷ rest') else otherwise' rest')) typed
        (λ v rest u rest' is is' h k shorter typed'.
        subst (λ b. Alike (of_objects o statics printed (when_some b (λ holds. if holds then with_objects o (value_pushed v (with_stack m rest)) else otherwise (with_stack m rest) o))) (given_state (may_hold here s f below t u) (λ holds. if holds then next here s f below (u ∷ rest') else otherwise' rest')))
        (sym (may_be_used_as_is here name o s f below (model.reads name o statics s at.memory.fits at.running.typed) v u t n has_id h)) (by_class v rest u rest' h k shorter (may_hold here s f below t u) typed'))
      where
        by_class : (v : Value) (rest : List Value) (u : StateValue) (rest' : List StateValue) → IsValue name v u → Agree (IsValue name) rest rest' → length rest ≤ length m.running.stack → (holds : Option Bool) →
            IsTypedEffect here.tree (given_state holds (λ b. if b then next here s f below (u ∷ rest') else otherwise' rest')) →
            Alike (of_objects o statics printed (when_some holds (λ b. if b then with_objects o (value_pushed v (with_stack m rest)) else otherwise (with_stack m rest) o))) (given_state holds (λ b. if b then next here s f below (u ∷ rest') else otherwise' rest'))
        by_class v rest u rest' h k shorter None typed' = elim typed' [ ]
        by_class v rest u rest' h k shorter (Some true) typed' = left_alike v u rest rest' h k shorter
        by_class v rest u rest' h k shorter (Some false) typed' = each rest rest' k shorter

  -- castclass (III.4.3)
  pub cast_class_alike : (t : DeclaredType) (n : ResolvedType) → type_at here.tree n ≡ Some t → IsSetting here model name m o statics printed s f below (Named.CastClass t) (Resolved.CastClass n) →
      DoesAlike here model name m o statics printed s f below (operation_transition here.tree (mutator_in here model) (Resolved.CastClass n) m o statics printed) (execute here s f below (Named.CastClass t))
  cast_class_alike t n has_id at =
      cast_alike (Named.CastClass t) (Resolved.CastClass n) at t n has_id (λ k p. Some (k, p, Raises InvalidCast)) (λ rest. StateRaises InvalidCast)
      (λ rest rest' k shorter. record { answer = answer_of (with_stack m rest) o statics printed (OwnEffect (Raises InvalidCast)); is = refl; refuses = λ _ h. never h; alike = λ r. (refl, (refl, refl, refl)) })
      (fine here model name m o statics printed s f below (Named.CastClass t) (Resolved.CastClass n) at)

  -- isinst (III.4.6)
  pub is_instance_alike : (t : DeclaredType) (n : ResolvedType) → type_at here.tree n ≡ Some t → IsSetting here model name m o statics printed s f below (Named.IsInstance t) (Resolved.IsInstance n) →
      DoesAlike here model name m o statics printed s f below (operation_transition here.tree (mutator_in here model) (Resolved.IsInstance n) m o statics printed) (execute here s f below (Named.IsInstance t))
  is_instance_alike t n has_id at =
      cast_alike (Named.IsInstance t) (Resolved.IsInstance n) at t n has_id (λ k p. with_objects p (value_pushed (Ref null) k)) (λ rest. next here s f below (Null ∷ rest))
      (λ rest rest' k shorter. left_alike (Named.IsInstance t) (Resolved.IsInstance n) at (Ref null) Null rest rest' null_reference k shorter)
      (fine here model name m o statics printed s f below (Named.IsInstance t) (Resolved.IsInstance n) at)
