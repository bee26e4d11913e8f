-- A thread waits for another alike on both machines.
use Rattle.std.proofs.Common.{◌≡◌, if◌then◌else◌, ℕ, Bool, true, false, is_none, List, ◌∷◌, drop, Option, Some, None, option_map, unwrap_or, slice_get, refl, inl, inr, sym, ap, ◌∙◌, subst}
use Rattle.std.specs.Option.{option_map_or}
use Rattle.interpreter.specs.cil_model.declared.reports.End.{End}
use Rattle.interpreter.specs.cil_model.declared.reports.Fault.TheVariants.{NullReference, ThreadState}
use Rattle.interpreter.specs.reference_machine.Values.{Value as StateValue}
use Rattle.interpreter.specs.reference_machine.States.{Frame as StateFrame, Thread as StateThread, State, is_live, is_live_thread}
use Rattle.interpreter.specs.reference_machine.Effects.{Blocks as StateBlocks, Raises as StateRaises, onward}
use Rattle.interpreter.specs.reference_machine.BuiltIn.{Join, join}
use Rattle.interpreter.specs.resolved_code.declared.operations.Operation.{Operation}
use Rattle.interpreter.specs.object_memory.declared.addresses.Addr.{Addr}
use Rattle.interpreter.specs.threads_monitors.Frames.{Frames}
use Rattle.interpreter.specs.threads_monitors.Threads.{end_in, is_live as is_live_machine, is_live_at, thread_on, wait_for, join_effect}
use Rattle.interpreter.specs.threads_monitors.declared.effects.Effect.{Effect}
use Rattle.interpreter.specs.threads_monitors.declared.effects.Effect.TheVariants.{Continues, Blocks, Raises}
use Rattle.interpreter.specs.threads_monitors.declared.threads.ThreadStatus.{ThreadStatus}
use Rattle.interpreter.specs.threads_monitors.declared.threads.ThreadStatus.TheVariants.{Live, Ended}
use Rattle.interpreter.specs.threads_monitors.declared.threads.Thread.{Thread}
use Rattle.interpreter.specs.declared.outcomes.InstructionOutcome.TheVariants.{OwnEffect, Joins}
use Rattle.interpreter.specs.Instructions.{HasSmallConstant, IsAt, answer_of}
use Rattle.simulation.specs.MachineStates.{MachineState}
use Rattle.simulation.specs.Refines.{IsThread, StatusRefines, Represents}
use Rattle.simulation.specs.Transitions.{after_request, count_step}
use Rattle.simulation.proofs.ListLaws.AgreeingLists.{agree_get, agree_beyond}
use Rattle.simulation.proofs.Instructions.FrameProgress.{next_alike}
use Rattle.simulation.proofs.Instructions.Correspondence.{GoesAlike, EffectsAlike, is_refused_effect}
use Rattle.simulation.proofs.Threads.StepResults.{Follows, done, gives}
use Rattle.simulation.proofs.Memory.ThreadObjects.{thread_on_is}
use Rattle.simulation.proofs.Threads.Requests.{here, running, below, instruction, Asks, IsAskedOf, asked_of, rest_agrees, setting}
use Rattle.simulation.proofs.Threads.LiveThreads.{own_model, own_names}

-- ---- which threads live

module _ (c : MachineState) (s : State) (r : Represents c s) where
  status_lives : (thread_status : ThreadStatus) (fs : List StateFrame) (e : Option End) → StatusRefines c.tree c.limits r.refines.name thread_status fs e → is_none (end_in thread_status) ≡ is_none e
  status_lives (Live m) fs (Some e') h = elim h [ ]
  status_lives (Ended e) fs None h = elim h [ ]
  status_lives _ fs _ h = refl

  -- the same on both
  pub lives_alike : (k : ℕ) → is_live_at c.threads k ≡ is_live s k
  lives_alike k = by_thread (slice_get s.threads k) refl
    where
      by_thread : (u : Option StateThread) → slice_get s.threads k ≡ u → is_live_at c.threads k ≡ unwrap_or (option_map is_live_thread u) false
      by_thread None is = ap (λ x. option_map_or is_live_machine x false) (agree_beyond (IsThread c.tree c.limits r.refines.name) c.threads s.threads r.refines.by.threads k is)
      by_thread (Some u) is =
          let found : (x : Thread) × (slice_get c.threads k ≡ Some x) × IsThread c.tree c.limits r.refines.name x u = agree_get (IsThread c.tree c.limits r.refines.name) c.threads s.threads r.refines.by.threads k u is in
          ap (λ x. option_map_or is_live_machine x false) found.1 ∙ status_lives found.0.thread_status u.frames u.ended found.2.thread_status

-- ---- Join

module _ (c : MachineState) (s : State) (r : Represents c s) (t left : ℕ) (m : Frames) (there : slice_get c.threads t ≡ Some (record { thread_status = Live m; steps_left = left }))
    (operation : Operation) (at : IsAt c.tree m operation) (constant : HasSmallConstant operation) where
  -- the outcome of waiting
  abbrev IsJoined : Effect → Type 0
  IsJoined j =
      (false ≡ is_refused_effect j) ×
      EffectsAlike (here c s r t left m there) (own_model c s r t left m there) (own_names c s r t left m there) m c.objects c.statics c.printed s (running c s r t left m there) (below c s r t left m there)
      (OwnEffect j) (answer_of (after_request j m) c.objects c.statics c.printed (OwnEffect j)) (done c s r t left m there false)

  module _ (operand : StateValue) (rest : List StateValue) (stack : (running c s r t left m there).stack ≡ operand ∷ rest) where
    joined_by : (live : Bool) → done c s r t left m there false ≡ (if live then StateBlocks else onward (running c s r t left m there) (below c s r t left m there) s rest) → IsJoined (if live then Blocks else Continues)
    joined_by true e = (refl, (e, refl, (refl, refl, refl)))
    joined_by false e = (
      refl,
      subst (λ x. GoesAlike (here c s r t left m there) (own_model c s r t left m there) (own_names c s r t left m there) m c.objects c.statics c.printed s (running c s r t left m there) (below c s r t left m there) (answer_of (after_request Continues m) c.objects c.statics c.printed (OwnEffect Continues)) x) (sym e)
          (next_alike (here c s r t left m there) (own_model c s r t left m there) (own_names c s r t left m there) m c.objects c.statics c.printed s (running c s r t left m there) (below c s r t left m there) (instruction c s r t left m there) operation
          (setting c s r t left m there operation at constant) (drop 1 m.running.stack) rest (rest_agrees c s r t left m there operand rest stack)),
    )

    -- the thread of the object, if one was started
    joined_with : (k : Option ℕ) → done c s r t left m there false ≡ option_map_or (λ n. if is_live s n then StateBlocks else onward (running c s r t left m there) (below c s r t left m there) s rest) k (StateRaises ThreadState) →
        IsJoined (wait_for c.threads k)
    joined_with None e = (refl, (e, (refl, refl, refl)))
    joined_with (Some n) e = subst (λ b. IsJoined (if b then Blocks else Continues)) (sym (lives_alike c s r n)) (joined_by (is_live s n) e)

  join_alike : (object : Addr) → (operand : StateValue) (rest : List StateValue) → (running c s r t left m there).stack ≡ operand ∷ rest →
      IsAskedOf c s r t left m there (done c s r t left m there false) (λ n. join (here c s r t left m there) s (running c s r t left m there) (below c s r t left m there) rest) object →
      IsJoined (join_effect c.threads c.objects object)
  join_alike object operand rest stack (inl (is, e)) = subst (λ x. IsJoined (join_effect c.threads c.objects x)) (sym is) (refl, (e, (refl, refl, refl)))
  join_alike object operand rest stack (inr (number, x, e, apart, named)) =
      subst (λ b. IsJoined (if b then Raises NullReference else wait_for c.threads (thread_on c.objects object))) (sym apart)
      (subst (λ k. IsJoined (wait_for c.threads k)) (sym (thread_on_is c.tree (own_names c s r t left m there) c.objects s object number x)) (joined_with operand rest stack x.object.thread e))

  -- a step that asks to join
  pub joins : (threads : List Thread) → threads ≡ c.threads → (object : Addr) → Asks c s r t left m there Join object (answer_of m c.objects c.statics c.printed (Joins object)) →
      Follows c s r t (count_step (record c { threads = threads }) t left (join_effect threads c.objects object) (after_request (join_effect threads c.objects object) m))
  joins threads same object asks =
      let joined : IsJoined (join_effect c.threads c.objects object) =
      join_alike object asks.operand asks.rest asks.stack
      (asked_of c s r t left m there Join (λ rest n. join (here c s r t left m there) s (running c s r t left m there) (below c s r t left m there) rest) (λ v rest. refl) object (answer_of m c.objects c.statics c.printed (Joins object)) asks) in
      subst (λ ts. Follows c s r t (count_step (record c { threads = ts }) t left (join_effect ts c.objects object) (after_request (join_effect ts c.objects object) m))) (sym same)
      (gives c s r t left m there c.threads (λ x. refl) false (join_effect c.threads c.objects object) joined.0
      (answer_of (after_request (join_effect c.threads c.objects object) m) c.objects c.statics c.printed (OwnEffect (join_effect c.threads c.objects object))) joined.1)
