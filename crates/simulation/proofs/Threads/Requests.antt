-- What an instruction asks of other threads is the same on both machines.
use Rattle.std.proofs.Common.{◌≡◌, ◌≢◌, ◌<◌, ◌+◌, ◌⊎◌, ◌==◌, ℕ, suc, true, false, List, [], ◌∷◌, length, drop, Some, option_map, unwrap_or, slice_get, refl, inl, inr, sym, ap, ◌∙◌, subst, arith}
use Rattle.std.specs.Prelude.{nat_lt}
use Rattle.std.proofs.lemmas.Bool.Decides.{nat_tests}
use Rattle.interpreter.specs.cil_model.declared.instructions.Instruction.{Instruction}
use Rattle.interpreter.specs.cil_model.declared.limits.TheConstants.{MOST_INSTRUCTIONS}
use Rattle.interpreter.specs.cil_model.declared.reports.Fault.TheVariants.{NullReference}
use Rattle.interpreter.specs.reference_machine.Values.{ObjectName, Born, Value as StateValue, Null, Reference}
use Rattle.interpreter.specs.reference_machine.States.{HeapObject, Frame as StateFrame, State}
use Rattle.interpreter.specs.reference_machine.Effects.{StepContext, Effect as StateEffect, Raises as StateRaises, after, not_null}
use Rattle.interpreter.specs.reference_machine.BuiltIn.{Action, act, thread_object}
use Rattle.interpreter.proofs.reference_machine.TypedStates.RunningFrames.{IsTypedEffect}
use Rattle.interpreter.proofs.reference_machine.TypedSteps.AllInstructions.{instruction_typed}
use Rattle.interpreter.specs.resolved_code.declared.operations.Operation.{Operation}
use Rattle.interpreter.specs.object_memory.declared.addresses.Addr.{Addr}
use Rattle.interpreter.specs.object_memory.declared.values.Value.TheVariants.{Ref}
use Rattle.interpreter.specs.object_memory.Cells.{Cell, null}
use Rattle.interpreter.specs.object_memory.Objects.{object_slots}
use Rattle.interpreter.specs.threads_monitors.Frames.{Frames, with_pc, with_stack}
use Rattle.interpreter.specs.threads_monitors.declared.effects.Effect.TheVariants.{Continues}
use Rattle.interpreter.specs.threads_monitors.declared.threads.ThreadStatus.TheVariants.{Live}
use Rattle.interpreter.specs.Instructions.{HasSmallConstant, IsAt, Answer}
use Rattle.simulation.specs.Agreement.{Agree}
use Rattle.simulation.specs.MachineStates.{MachineState}
use Rattle.simulation.specs.Refines.{IsValue, IsFrame, AreFrames, Represents}
use Rattle.simulation.specs.Transitions.{after_request}
use Rattle.simulation.proofs.ListLaws.AgreeingLists.{agree_length, agree_drop}
use Rattle.simulation.proofs.Instructions.FrameProgress.{moved_frames, index_is_small}
use Rattle.simulation.proofs.Instructions.Correspondence.{IsSetting, AsksFor}
use Rattle.simulation.specs.ReadySteps.{HasRequest}
use Rattle.simulation.proofs.Threads.NextInstruction.{setting_of, is_alive, is_running, in_setting}
use Rattle.simulation.proofs.Threads.StepResults.{done}
use Rattle.simulation.proofs.Memory.ThreadObjects.{reference_is, IsThreadObject, thread_object_is}
use Rattle.simulation.proofs.Memory.NamedAddresses.{named_is_not_null}
use Rattle.simulation.proofs.Threads.LiveThreads.{own_model, own_names, own_reads}

module _ (c : MachineState) (s : State) (r : Represents c s) (t left : ℕ) (m : Frames) (there : slice_get c.threads t ≡ Some (record { thread_status = Live m; steps_left = left })) where
  abbrev pub here : StepContext
  here = setting_of c t false

  abbrev pub running : StateFrame
  running = (is_alive c s r t left m there).running

  abbrev pub below : List StateFrame
  below = (is_alive c s r t left m there).below

  abbrev pub instruction : Instruction
  instruction = (is_running c s r t left m there false).0

  -- the instruction asks for this
  abbrev pub Asks : Action → Addr → Answer → Type 0
  Asks action object a = AsksFor here (own_model c s r t left m there) (own_names c s r t left m there) m c.objects c.statics c.printed s running below action object a (done c s r t left m there false)

  own : IsFrame c.tree (own_names c s r t left m there) m.running running
  own = (is_alive c s r t left m there).frames.frames.0

  -- the stack without the operand
  pub rest_agrees : (operand : StateValue) (rest : List StateValue) → running.stack ≡ operand ∷ rest → Agree (IsValue (own_names c s r t left m there)) (drop 1 m.running.stack) rest
  rest_agrees operand rest stack = subst (Agree (IsValue (own_names c s r t left m there)) (drop 1 m.running.stack)) (ap (drop 1) stack) (agree_drop (IsValue (own_names c s r t left m there)) 1 m.running.stack running.stack own.stack)

  -- what is asked of an object of a class of threads, or of null
  abbrev pub IsAskedOf : StateEffect → (ObjectName → HeapObject → StateEffect) → Addr → Type 0
  IsAskedOf e go object =
      ((object ≡ null) × (e ≡ StateRaises NullReference)) ⊎
      ((number : ℕ) × (x : IsThreadObject c.tree (own_names c s r t left m there) c.objects s object number) × (e ≡ go (Born number) x.object) × ((object.number == 0) ≡ false) × ((own_names c s r t left m there) object.number ≡ Some (Born number)))

  pub done_typed : IsTypedEffect c.tree (done c s r t left m there false)
  done_typed = instruction_typed here s running below instruction (is_running c s r t left m there false).2

  pub asked_of : (action : Action) (go : List StateValue → ObjectName → HeapObject → StateEffect) →
      ((v : StateValue) (rest : List StateValue) → act here s running below action (v ∷ []) rest ≡ not_null v NullReference (λ n. thread_object here s running below n (go rest n))) →
      (object : Addr) (a : Answer) → (asks : Asks action object a) → IsAskedOf (done c s r t left m there false) (go asks.rest) object
  asked_of action go acts object a asks = by_operand (reference_is (own_names c s r t left m there) (Ref object) asks.operand asks.refines object refl)
    where
      does : done c s r t left m there false ≡ not_null asks.operand NullReference (λ n. thread_object here s running below n (go asks.rest n))
      does = asks.is ∙ acts asks.operand asks.rest

      by_operand : ((object ≡ null) × (asks.operand ≡ Null)) ⊎ ((n : ObjectName) × (asks.operand ≡ Reference n) × ((own_names c s r t left m there) object.number ≡ Some n)) → IsAskedOf (done c s r t left m there false) (go asks.rest) object
      by_operand (inl (is, operand)) = inl (is, does ∙ ap (λ v. not_null v NullReference (λ n. thread_object here s running below n (go asks.rest n))) operand)
      by_operand (inr (n, operand, named)) =
          let gives : done c s r t left m there false ≡ thread_object here s running below n (go asks.rest n) = does ∙ ap (λ v. not_null v NullReference (λ k. thread_object here s running below k (go asks.rest k))) operand in
          let x = thread_object_is here s running below (own_names c s r t left m there) c.objects (own_reads c s r t left m there) object (go asks.rest n) n named (subst (IsTypedEffect c.tree) gives done_typed) in
          inr (
            x.0,
            x.2,
            gives ∙ x.3 ∙ ap (λ k. go asks.rest k x.2.object) x.1,
            named_is_not_null c.tree (own_names c s r t left m there) c.objects s (own_reads c s r t left m there) object.number n named,
            named ∙ ap Some x.1,
          )

  -- the operand is there, and its slot
  pub has_operand : (action : Action) (go : ObjectName → HeapObject → StateEffect) (object : Addr) (a : Answer) → (asks : Asks action object a) → IsAskedOf (done c s r t left m there false) go object →
      nat_lt m.running.pc MOST_INSTRUCTIONS ≡ true → HasRequest a.objects a.frames object
  has_operand action go object a asks asked small = record {
    slot = λ apart. subst (λ o. 0 < length (object_slots o object)) (sym asks.memory.0) (by_object asked apart);
    operand = subst (λ (x : Frames). 0 < length x.running.stack) (sym asks.frames) stack_is_there;
    following = subst (λ (x : Frames). x.running.pc < MOST_INSTRUCTIONS) (sym asks.frames) (grind (arith, nat_tests));
  }
    where
      stack_is_there : 0 < length m.running.stack
      stack_is_there =
          let same : length m.running.stack ≡ suc (length asks.rest) = agree_length (IsValue (own_names c s r t left m there)) m.running.stack running.stack own.stack ∙ ap length asks.stack in
          omega (arith, same)

      by_object : IsAskedOf (done c s r t left m there false) go object → object ≢ null → 0 < length (object_slots c.objects object)
      by_object (inl (is, e)) apart = absurd (apart is)
      by_object (inr (number, x, e, nonzero, named)) apart =
          subst (λ l. 0 < length l) (sym (ap (λ y. unwrap_or (option_map (λ (k : Cell). k.slots) y) []) x.lies ∙ x.slots)) (omega arith)

  module _ (operation : Operation) (at : IsAt c.tree m operation) (constant : HasSmallConstant operation) where
    abbrev pub setting : IsSetting here (own_model c s r t left m there) (own_names c s r t left m there) m c.objects c.statics c.printed s running below instruction operation
    setting = in_setting c s r t left m there false operation at constant

    pub index_below : nat_lt m.running.pc MOST_INSTRUCTIONS ≡ true
    index_below = index_is_small here (own_model c s r t left m there) (own_names c s r t left m there) m c.objects c.statics c.printed s running below instruction operation setting

    -- the frames once what was asked for is done
    pub popped_frames : (operand : StateValue) (rest : List StateValue) → running.stack ≡ operand ∷ rest → AreFrames c.tree c.limits (own_names c s r t left m there) (after_request Continues m) (after running rest ∷ below)
    popped_frames operand rest stack =
        subst (λ p. AreFrames c.tree c.limits (own_names c s r t left m there) (with_pc (with_stack m (drop 1 m.running.stack)) (p + 1)) (after running rest ∷ below)) (sym own.pc)
        (moved_frames here (own_model c s r t left m there) (own_names c s r t left m there) m c.objects c.statics c.printed s running below instruction operation setting (own_names c s r t left m there) (λ a n is. is)
        m.running.arguments m.running.locals (drop 1 m.running.stack) running.arguments running.locals rest (running.pc + 1) own.arguments own.locals (rest_agrees operand rest stack))
