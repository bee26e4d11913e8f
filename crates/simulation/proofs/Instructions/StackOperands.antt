-- One, two or three operands are taken off the stack alike on both machines.
use Rattle.std.proofs.Common.{◌≡◌, ◌≤◌, ◌+◌, ℕ, List, [], ◌∷◌, length, Option, refl, sym, subst, arith}
use Rattle.interpreter.specs.cil_model.declared.instructions.Instruction.{Instruction}
use Rattle.interpreter.specs.cil_model.Stacks.{take_one, take_two, take_three}
use Rattle.interpreter.specs.reference_machine.Values.{Value as StateValue}
use Rattle.interpreter.specs.reference_machine.States.{Frame as StateFrame, State}
use Rattle.interpreter.specs.reference_machine.Effects.{StepContext, Effect as StateEffect, Sticks}
use Rattle.interpreter.specs.reference_machine.Steps.{execute}
use Rattle.reference_machine.proofs.TypedStates.RunningFrames.{IsTypedEffect}
use Rattle.reference_machine.proofs.TypedSteps.AllInstructions.{instruction_typed}
use Rattle.interpreter.specs.resolved_code.declared.operations.Operation.{Operation}
use Rattle.interpreter.specs.object_memory.declared.values.Value.{Value}
use Rattle.interpreter.specs.object_memory.Objects.{Objects}
use Rattle.interpreter.specs.threads_monitors.Frames.{Frames, with_stack}
use Rattle.interpreter.specs.instructions.Frames.{top_of, with_top}
use Rattle.interpreter.specs.Instructions.{MachineTransition}
use Rattle.simulation.specs.Agreement.{Agree}
use Rattle.simulation.specs.Refines.{Names, IsValue}
use Rattle.simulation.proofs.Instructions.Correspondence.{IsSetting, DoesAlike}
use Rattle.simulation.proofs.Instructions.FrameProgress.{own_frame}
use Rattle.simulation.proofs.Memory.MemoryModels.{MemoryModel}

module _ (here : StepContext) (model : MemoryModel here.tree) (name : Names) (m : Frames) (o : Objects) (statics : List Value) (printed : List ℕ) (s : State) (f : StateFrame) (below : List StateFrame) (i : Instruction) (operation : Operation)
    (at : IsSetting here model name m o statics printed s f below i operation) where
  abbrev Alike : MachineTransition → StateEffect → Type 0
  Alike transition e = DoesAlike here model name m o statics printed s f below transition e

  abbrev Typed : StateEffect → Type 0
  Typed e = IsTypedEffect here.tree e

  -- the instruction isn't stuck
  pub fine : Typed (execute here s f below i)
  fine = instruction_typed here s f below i at.running

  own_stack : Agree (IsValue name) m.running.stack f.stack
  own_stack = (own_frame here model name m o statics printed s f below i operation at).stack

  -- one operand, with the stacks below it
  pub one_operand : {R : Type 0} (lift : Option R → MachineTransition) (go : Value → Frames → Option R) (go' : StateValue → List StateValue → StateEffect) →
      Typed (take_one Sticks f.stack go') →
      ((v : Value) (rest : List Value) (u : StateValue) (rest' : List StateValue) → m.running.stack ≡ v ∷ rest → f.stack ≡ u ∷ rest' → IsValue name v u → Agree (IsValue name) rest rest' → length rest ≤ length m.running.stack →
      Typed (go' u rest') → Alike (lift (go v (with_stack m rest))) (go' u rest')) →
      Alike (lift (with_top m go)) (take_one Sticks f.stack go')
  one_operand {R} lift go go' typed each = by_stacks m.running.stack f.stack refl refl own_stack typed
    where
      by_stacks : (vs : List Value) (us : List StateValue) → m.running.stack ≡ vs → f.stack ≡ us → Agree (IsValue name) vs us → Typed (take_one Sticks us go') → Alike (lift (top_of vs m go)) (take_one Sticks us go')
      by_stacks [] [] is is' h t = elim t [ ]
      by_stacks (v ∷ vs) (u ∷ us) is is' h t = each v vs u us is is' h.0 h.1 (subst (λ x. length vs ≤ length x) (sym is) (omega arith)) t
      by_stacks _ _ is is' h t = elim h [ ]

  -- two, the second topmost
  pub two_operands : {R : Type 0} (lift : Option R → MachineTransition) (go : Value → Value → Frames → Option R) (go' : StateValue → StateValue → List StateValue → StateEffect) →
      Typed (take_two Sticks f.stack go') →
      ((v w : Value) (rest : List Value) (u x : StateValue) (rest' : List StateValue) → m.running.stack ≡ w ∷ v ∷ rest → f.stack ≡ x ∷ u ∷ rest' → IsValue name v u → IsValue name w x → Agree (IsValue name) rest rest' → length rest + 1 ≤ length m.running.stack →
      Typed (go' u x rest') → Alike (lift (go v w (with_stack m rest))) (go' u x rest')) →
      Alike (lift (with_top m (λ w n. with_top n (λ v k. go v w k)))) (take_two Sticks f.stack go')
  two_operands {R} lift go go' typed each = by_stacks m.running.stack f.stack refl refl own_stack typed
    where
      by_stacks : (vs : List Value) (us : List StateValue) → m.running.stack ≡ vs → f.stack ≡ us → Agree (IsValue name) vs us → Typed (take_two Sticks us go') →
          Alike (lift (top_of vs m (λ w n. with_top n (λ v k. go v w k)))) (take_two Sticks us go')
      by_stacks (w ∷ v ∷ vs) (x ∷ u ∷ us) is is' h t = each v w vs u x us is is' h.1.0 h.0 h.1.1 (subst (λ l. length vs + 1 ≤ length l) (sym is) (omega arith)) t
      by_stacks [] (u ∷ us) is is' h t = elim h [ ]
      by_stacks (v ∷ vs) [] is is' h t = elim h [ ]
      by_stacks (v ∷ []) (u ∷ x ∷ us) is is' h t = elim h.1 [ ]
      by_stacks (w ∷ v ∷ vs) (u ∷ []) is is' h t = elim h.1 [ ]
      by_stacks _ _ is is' h t = elim t [ ]

  -- three, the third topmost
  pub three_operands : {R : Type 0} (lift : Option R → MachineTransition) (go : Value → Value → Value → Frames → Option R) (go' : StateValue → StateValue → StateValue → List StateValue → StateEffect) →
      Typed (take_three Sticks f.stack go') →
      ((a b c : Value) (rest : List Value) (p q r : StateValue) (rest' : List StateValue) → m.running.stack ≡ c ∷ b ∷ a ∷ rest → f.stack ≡ r ∷ q ∷ p ∷ rest' →
      IsValue name a p → IsValue name b q → IsValue name c r → Agree (IsValue name) rest rest' → length rest + 2 ≤ length m.running.stack →
      Typed (go' p q r rest') → Alike (lift (go a b c (with_stack m rest))) (go' p q r rest')) →
      Alike (lift (with_top m (λ c n. with_top n (λ b k. with_top k (λ a j. go a b c j))))) (take_three Sticks f.stack go')
  three_operands {R} lift go go' typed each = by_stacks m.running.stack f.stack refl refl own_stack typed
    where
      by_stacks : (vs : List Value) (us : List StateValue) → m.running.stack ≡ vs → f.stack ≡ us → Agree (IsValue name) vs us → Typed (take_three Sticks us go') →
          Alike (lift (top_of vs m (λ c n. with_top n (λ b k. with_top k (λ a j. go a b c j))))) (take_three Sticks us go')
      by_stacks (c ∷ b ∷ a ∷ vs) (r ∷ q ∷ p ∷ us) is is' h t = each a b c vs p q r us is is' h.1.1.0 h.1.0 h.0 h.1.1.1 (subst (λ l. length vs + 2 ≤ length l) (sym is) (omega arith)) t
      by_stacks [] (u ∷ us) is is' h t = elim h [ ]
      by_stacks (v ∷ vs) [] is is' h t = elim h [ ]
      by_stacks (v ∷ []) (u ∷ x ∷ us) is is' h t = elim h.1 [ ]
      by_stacks (w ∷ v ∷ vs) (u ∷ []) is is' h t = elim h.1 [ ]
      by_stacks (c ∷ b ∷ []) (r ∷ q ∷ p ∷ us) is is' h t = elim h.1.1 [ ]
      by_stacks (c ∷ b ∷ a ∷ vs) (r ∷ q ∷ []) is is' h t = elim h.1.1 [ ]
      by_stacks _ _ is is' h t = elim t [ ]
