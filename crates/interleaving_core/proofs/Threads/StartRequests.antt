-- An instruction that asks for the start of a thread changes nothing itself.
use Rattle.std.proofs.Common.{◌≡◌, ℕ, Bool, true, false, List, [], ◌∷◌, Option, Some, None, option_map, refl, sym, ap, ◌∙◌, slice_get}
use Rattle.std.specs.Prelude.{◌==◌, if◌then◌else◌}
use Rattle.std.specs.Option.{option_map_or}
use Rattle.std.proofs.lemmas.Option.{same_Some}
use Rattle.cil_model.specs.declared.types.ClassName.{ClassName}
use Rattle.cil_model.specs.declared.trees.Tree.{Tree}
use Rattle.cil_model.specs.declared.trees.Method.{Method}
use Rattle.cil_model.specs.declared.reports.Fault.TheVariants.{NullReference}
use Rattle.cil_model.specs.Mentions.{literals_of}
use Rattle.reference_machine.specs.BuiltIn.{Action, Construct, Write, Enter, Exit, Start, Join, action_of}
use Rattle.object_memory.specs.declared.addresses.Addr.{Addr}
use Rattle.object_memory.specs.declared.values.Value.{Value}
use Rattle.object_memory.specs.Objects.{Objects}
use Rattle.simulation.specs.loaded_program.MethodNumbers.{number_of}
use Rattle.threads_monitors.specs.Frames.{Frames}
use Rattle.threads_monitors.specs.declared.mutators.Mutator.{Mutator}
use Rattle.threads_monitors.specs.declared.effects.Effect.{Effect}
use Rattle.threads_monitors.specs.declared.effects.Effect.TheVariants.{Raises}
use Rattle.simulation.specs.instructions.Frames.{Transition, when_some, onward, top_of}
use Rattle.simulation.specs.instructions.ObjectTransitions.{ObjectTransition, with_objects, StaticTransition}
use Rattle.simulation.specs.instructions.Calls.{call_transition}
use Rattle.simulation.specs.instructions.BuiltInTransitions.{enter_transition, exit_transition, write_transition}
use Rattle.simulation.specs.loaded_program.declared.instructions.LinkedInstruction.TheVariants as Linked
use Rattle.simulation.specs.interpreter.Instructions.{IsDone, MachineTransition, of_frames, of_objects, of_statics, of_calls, Answer, answer_of, linked_transition, link_of}
use Rattle.simulation.specs.loaded_program.AllMethods.{all_methods}
use Rattle.simulation.specs.loaded_program.declared.instructions.LinkedInstruction.{LinkedInstruction}
use Rattle.simulation.specs.interpreter.Calls.{CallTransition, act_transition, with_console, called_method, receiver, run_transition, top_reference, CallAnswer, call_answer, call_by_id, chosen_method, run_on, virtual_by_id, virtual_transition}
use Rattle.simulation.specs.interpreter.declared.outcomes.InstructionOutcome.{InstructionOutcome}
use Rattle.simulation.specs.interpreter.declared.outcomes.InstructionOutcome.TheVariants.{OwnEffect, Starts, Joins}
use Rattle.cil_model.proofs.Lists.{none_is_some}

-- an outcome for the thread itself, or a wait, is no start
is_no_start : {A : Type 0} (e : Effect) (object : Addr) → OwnEffect e ≡ Starts object → A
is_no_start {A} e object h = absurd (lost h)
  where
    lost : OwnEffect e ≡ Starts object → ⊥
    lost k = cc

joins_not : {A : Type 0} (a object : Addr) → Joins a ≡ Starts object → A
joins_not {A} a object h = absurd (lost h)
  where
    lost : Joins a ≡ Starts object → ⊥
    lost k = cc

module _ (m : Frames) (o : Objects) (statics : List Value) (printed : List ℕ) where
  -- a result that asks for a start is all as it was
  abbrev KeepsAll : MachineTransition → Type 0
  KeepsAll transition = (answer : Answer) (object : Addr) → Some answer ≡ transition → answer.outcome ≡ Starts object → answer ≡ answer_of m o statics printed (Starts object)

  abbrev KeepsCall : CallTransition → Type 0
  KeepsCall transition = (t : CallAnswer) (object : Addr) → Some t ≡ transition → t.outcome ≡ Starts object → t ≡ call_answer m o printed (Starts object)

  -- ---- what results in an effect asks for nothing

  other_outcome : {A : Type 0} (answer other : Answer) (e : Effect) (object : Addr) → Some answer ≡ Some other → other.outcome ≡ OwnEffect e → answer.outcome ≡ Starts object → A
  other_outcome answer other e object is gives starts =
      is_no_start e object (sym gives ∙ sym (ap (λ (x : Answer). x.outcome) (same_Some answer other is)) ∙ starts)

  frames_keep : (transition : Transition) → KeepsAll (of_frames o statics printed transition)
  frames_keep None answer object is starts = none_is_some answer (sym is)
  frames_keep (Some t) answer object is starts = other_outcome answer (answer_of t.0 o statics printed (OwnEffect t.1)) t.1 object is refl starts

  objects_keep : (transition : ObjectTransition) → KeepsAll (of_objects o statics printed transition)
  objects_keep None answer object is starts = none_is_some answer (sym is)
  objects_keep (Some t) answer object is starts = other_outcome answer (answer_of t.0 t.1 statics printed (OwnEffect t.2)) t.2 object is refl starts

  statics_keep : (transition : StaticTransition) → KeepsAll (of_statics o statics printed transition)
  statics_keep None answer object is starts = none_is_some answer (sym is)
  statics_keep (Some t) answer object is starts = other_outcome answer (answer_of t.0 t.1.0 t.1.1 printed (OwnEffect t.2)) t.2 object is refl starts

  -- ---- calls

  calls_keep : (transition : CallTransition) → KeepsCall transition → KeepsAll (of_calls o statics printed transition)
  calls_keep None keeps answer object is starts = none_is_some answer (sym is)
  calls_keep (Some t) keeps answer object is starts =
      let same : answer ≡ (answer_of t.frames t.objects statics t.printed t.outcome) = same_Some answer (answer_of t.frames t.objects statics t.printed t.outcome) is in
      same ∙ ap (λ (x : CallAnswer). answer_of x.frames x.objects statics x.printed x.outcome) (keeps t object refl (sym (ap (λ (x : Answer). x.outcome) same) ∙ starts))

  -- a call that results in an effect
  effect_keeps : (n : Frames) (p : Objects) (w : List ℕ) (e : Effect) → KeepsCall (Some (call_answer n p w (OwnEffect e)))
  effect_keeps n p w e t object is starts =
      is_no_start e object (sym (ap (λ (x : CallAnswer). x.outcome) (same_Some t (call_answer n p w (OwnEffect e)) is)) ∙ starts)

  none_keeps : KeepsCall None
  none_keeps t object is starts = none_is_some t (sym is)

  console_keeps : (transition : ObjectTransition) → KeepsCall (with_console printed transition)
  console_keeps None = none_keeps
  console_keeps (Some t) = effect_keeps t.0 t.1 printed t.2

  write_keeps : (transition : Option (Frames × List ℕ × Effect)) → KeepsCall (option_map (λ (t : Frames × List ℕ × Effect). call_answer t.0 o t.1 (OwnEffect t.2)) transition)
  write_keeps None = none_keeps
  write_keeps (Some t) = effect_keeps t.0 o t.1 t.2

  given_keeps : {X : Type 0} (found : Option X) (go : X → CallTransition) → ((x : X) → KeepsCall (go x)) → KeepsCall (when_some found go)
  given_keeps None go keeps = none_keeps
  given_keeps (Some x) go keeps = keeps x

  start_keeps : (found : Option Addr) → KeepsCall (option_map (λ a. call_answer m o printed (Starts a)) found)
  start_keeps None t object is starts = none_is_some t (sym is)
  start_keeps (Some a) t object is starts =
      let same : t ≡ (call_answer m o printed (Starts a)) = same_Some t (call_answer m o printed (Starts a)) is in
      same ∙ ap (λ (x : InstructionOutcome). call_answer m o printed x) (sym (ap (λ (x : CallAnswer). x.outcome) same) ∙ starts)

  join_keeps : (found : Option Addr) → KeepsCall (option_map (λ a. call_answer m o printed (Joins a)) found)
  join_keeps None t object is starts = none_is_some t (sym is)
  join_keeps (Some a) t object is starts = joins_not a object (sym (ap (λ (x : CallAnswer). x.outcome) (same_Some t (call_answer m o printed (Joins a)) is)) ∙ starts)

  construct_keeps : (stack : List Value) → KeepsCall (top_of stack m (λ v n. with_console printed (with_objects o (onward n))))
  construct_keeps [] = none_keeps
  construct_keeps (v ∷ rest) = console_keeps _

  module _ (tree : Tree) (mutator : Mutator) where
    act_keeps : (a : Action) → KeepsCall (act_transition tree mutator a m o printed)
    act_keeps Construct = construct_keeps m.running.stack
    act_keeps Write = write_keeps (write_transition (literals_of tree) printed m)
    act_keeps Enter = console_keeps (enter_transition mutator m o)
    act_keeps Exit = console_keeps (exit_transition mutator m o)
    act_keeps Start = start_keeps (top_reference m.running.stack)
    act_keeps Join = join_keeps (top_reference m.running.stack)

    action_keeps : (a : Option Action) (transition : CallTransition) → KeepsCall transition → KeepsCall (option_map_or (λ x. act_transition tree mutator x m o printed) a transition)
    action_keeps None transition keeps = keeps
    action_keeps (Some a) transition keeps = act_keeps a

    run_keeps : (found : ClassName × Method) → KeepsCall (run_transition tree mutator found m o printed)
    run_keeps found =
        action_keeps (action_of found.0 found.1) (when_some (number_of tree found) (λ n. with_console printed (with_objects o (call_transition (called_method found n) m))))
        (given_keeps (number_of tree found) (λ n. with_console printed (with_objects o (call_transition (called_method found n) m))) (λ n. console_keeps (with_objects o (call_transition (called_method found n) m))))

    null_keeps : (is_null : Bool) (transition : CallTransition) → KeepsCall transition → KeepsCall (if is_null then Some (call_answer m o printed (OwnEffect (Raises NullReference))) else transition)
    null_keeps true transition keeps = effect_keeps m o printed (Raises NullReference)
    null_keeps false transition keeps = keeps

    virtual_keeps : (number operands : ℕ) → KeepsCall (virtual_by_id tree mutator number operands m o printed)
    virtual_keeps number operands =
        given_keeps (slice_get (all_methods tree) number) (λ found. virtual_transition tree mutator found operands m o printed) (λ found.
        given_keeps (receiver m.running.stack operands) (λ a. run_on tree mutator found a m o printed) (λ a.
        null_keeps (a.number == 0) (when_some (chosen_method tree o a found) (λ run. run_transition tree mutator run m o printed)) (given_keeps (chosen_method tree o a found) (λ run. run_transition tree mutator run m o printed) run_keeps)))

    -- ---- every instruction

    link_keeps : (l : LinkedInstruction) → KeepsAll (linked_transition tree mutator l m o statics printed)
    link_keeps (Linked.LoadField slot kind) = objects_keep _
    link_keeps (Linked.StoreField slot) = objects_keep _
    link_keeps (Linked.StoreStaticField number) = statics_keep _
    link_keeps (Linked.NewArray element) = objects_keep _
    link_keeps Linked.LoadLength = objects_keep _
    link_keeps (Linked.LoadElement kind) = objects_keep _
    link_keeps (Linked.StoreElement kind) = objects_keep _
    link_keeps (Linked.CastClass t) = objects_keep _
    link_keeps (Linked.IsInstance t) = objects_keep _
    link_keeps (Linked.Call number) = calls_keep (call_by_id tree mutator number m o printed) (given_keeps (slice_get (all_methods tree) number) (λ found. run_transition tree mutator found m o printed) run_keeps)
    link_keeps (Linked.CallVirtual number operands) = calls_keep (virtual_by_id tree mutator number operands m o printed) (virtual_keeps number operands)
    link_keeps (Linked.NewObject class slots number) = objects_keep _
    link_keeps _ = frames_keep _

    linked_keeps : (l : Option LinkedInstruction) → KeepsAll (when_some l (λ x. linked_transition tree mutator x m o statics printed))
    linked_keeps None = λ answer object is starts. none_is_some answer (sym is)
    linked_keeps (Some l) = link_keeps l

    -- an instruction that asks for a thread to start leaves all as it was
    pub start_changes_nothing : (answer : Answer) (object : Addr) → IsDone tree mutator m o statics printed answer → answer.outcome ≡ Starts object → answer ≡ answer_of m o statics printed (Starts object)
    start_changes_nothing answer object done starts = linked_keeps (link_of tree m done.operation) answer object done.is starts
