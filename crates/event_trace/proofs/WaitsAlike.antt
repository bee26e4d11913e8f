-- What a thread of a machine waits for is what that of the state waits for which the machine represents.
use Rattle.std.proofs.Common.{◌≡◌, ◌==◌, is_none, ℕ, Bool, true, false, if◌then◌else◌, List, [], ◌∷◌, Option, Some, None, option_map, option_and_then, slice_get, refl, sym, ap, ◌∙◌, subst}
use Rattle.cil_model.specs.declared.instructions.Instruction.{Instruction}
use Rattle.cil_model.specs.declared.reports.End.{End}
use Rattle.cil_model.specs.Bodies.{lines_of}
use Rattle.interleaving_core.specs.simulation.reference_machine.BuiltIn.{Action, Enter, Join as JoinAction, act, join}
use Rattle.interleaving_core.specs.simulation.reference_machine.Effects.{StepContext}
use Rattle.interleaving_core.specs.simulation.reference_machine.Steps.{instruction_at}
use Rattle.interleaving_core.specs.simulation.reference_machine.TypedStates.{AreTypedFrames}
use Rattle.interleaving_core.proofs.simulation.reference_machine.TypedStates.RunningFrames.{IsTypedEffect}
use Rattle.interleaving_core.proofs.simulation.reference_machine.Deadlocks.WaitingThreads.{calling_acts}
use Rattle.interleaving_core.specs.simulation.object_memory.declared.addresses.Addr.{Addr}
use Rattle.interleaving_core.specs.simulation.object_memory.declared.monitors.Monitor.{Monitor as AnyMonitor}
use Rattle.interleaving_core.specs.simulation.object_memory.declared.monitors.Monitor.TheVariants.{Free, Held}
use Rattle.interleaving_core.specs.simulation.object_memory.declared.values.Value.{Value}
use Rattle.interleaving_core.specs.simulation.object_memory.declared.values.Value.TheVariants.{Ref}
use Rattle.interleaving_core.specs.simulation.object_memory.Cells.{null}
use Rattle.interleaving_core.specs.simulation.object_memory.Objects.{monitor_at}
use Rattle.interleaving_core.specs.simulation.threads_monitors.Frames.{Frames}
use Rattle.interleaving_core.specs.simulation.threads_monitors.declared.threads.ThreadStatus.{ThreadStatus}
use Rattle.interleaving_core.specs.simulation.threads_monitors.declared.threads.ThreadStatus.TheVariants.{Live, Ended}
use Rattle.interleaving_core.specs.simulation.threads_monitors.declared.threads.Thread.{Thread}
use Rattle.interleaving_core.specs.simulation.interpreter.Calls.{top_reference}
use Rattle.interleaving_core.specs.simulation.interpreter.Instructions.{line_at}
use Rattle.interleaving_core.specs.simulation.Agreement.{Agree}
use Rattle.interleaving_core.proofs.simulation.Memory.NamedAddresses.{named_is_not_null}
use Rattle.interleaving_core.proofs.simulation.Memory.MemoryModels.{IsReadable}
use Rattle.interleaving_core.proofs.simulation.object_memory.Spaces.{slots_few}
use Rattle.interleaving_core.proofs.simulation.Memory.Monitors.{AreMonitors, monitors_there}
use Rattle.interleaving_core.proofs.simulation.Memory.ThreadObjects.{IsThreadObject, thread_object_is, thread_on_is}
use Rattle.event_trace.proofs.Names.{Line, Method, ClassName, StateMonitor, IsFree, IsHeld, HeapObject, StateFrame, StateThread, State, is_live, monitor_of, object_at, ObjectName, StateValue, Null, Reference, ForMonitor, ForEnd, called_action, top_object, wait_of, wait_of_thread, StateWait, state_wait_by, state_wait_in, state_held, state_awaited, thread_on, MachineState, Names, AreFrames, IsFrame, IsMonitor, IsThread, IsValue, Represents, StatusRefines, int32, int64, native, null_reference, reference, class_of_object, end_awaited, held_by_another, join_wait, monitor_wait, status_wait, wait_at, wait_by, wait_in, Wait, Monitor, Join, agree_beyond, agree_get, lives_alike}

-- a machine's wait is for the same thread
abbrev pub IsWaitAlike : Wait → StateWait → Type 0
IsWaitAlike (Monitor class owner) (ForMonitor n other) = owner ≡ other
IsWaitAlike (Join thread) (ForEnd other) = thread ≡ other
IsWaitAlike (Monitor class owner) (ForEnd other) = ⊥
IsWaitAlike (Join thread) (ForMonitor n other) = ⊥

abbrev pub AreWaitsAlike : Option Wait → Option StateWait → Type 0
AreWaitsAlike None None = Unit {0}
AreWaitsAlike (Some w) (Some v) = IsWaitAlike w v
AreWaitsAlike None (Some v) = ⊥
AreWaitsAlike (Some w) None = ⊥

module _ (c : MachineState) (s : State) (r : Represents c s) (t : ℕ) where
  abbrev name : Names
  name = r.refines.name

  abbrev here : StepContext
  here = record { tree = c.tree; limits = c.limits; thread = t; is_refused = false }

  -- what loads find
  readable : IsReadable c.tree name c.objects s
  readable =
      let heap = r.refines.by.memory.heap in
      record { null_unnamed = heap.null_unnamed; small = heap.small; sizes = slots_few c.objects r.sound.heap.blocks.spaces; born = heap.born; literals = heap.literals; each_literal = heap.each_literal }

  -- ---- monitors

  held_alike : (class : Option ℕ) (n : ObjectName) (m : AnyMonitor) (k : StateMonitor) → IsMonitor m k → AreWaitsAlike (held_by_another class t m) (state_held n t k)
  held_alike class n Free IsFree h = tt
  held_alike class n Free (IsHeld owner count) h = elim h [ ]
  held_alike class n (Held owner count) IsFree h = elim h [ ]
  held_alike class n (Held owner count) (IsHeld other count') h =
      subst (λ o. AreWaitsAlike (if owner == t then None else Some (Monitor class owner)) (if o == t then None else Some (ForMonitor n o))) h.0 (by_owner (owner == t))
    where
      by_owner : (b : Bool) → AreWaitsAlike (if b then None else Some (Monitor class owner)) (if b then None else Some (ForMonitor n owner))
      by_owner true = tt
      by_owner false = refl

  enters_alike : (a : Addr) (n : ObjectName) → name a.number ≡ Some n → AreWaitsAlike (monitor_wait c.objects t a) (option_and_then (state_held n t) (monitor_of s n))
  enters_alike a n named =
      let at : AreMonitors c.objects s a n = monitors_there c.tree name c.objects s readable a n named in
      let machine : monitor_wait c.objects t a ≡ held_by_another (class_of_object c.objects a) t at.monitor =
      ap (λ b. if b then None else option_and_then (held_by_another (class_of_object c.objects a) t) (monitor_at c.objects a)) (named_is_not_null c.tree name c.objects s readable a.number n named)
      ∙ ap (option_and_then (held_by_another (class_of_object c.objects a) t)) at.held in
      subst (λ w. AreWaitsAlike w (option_and_then (state_held n t) (monitor_of s n))) (sym machine)
      (subst (λ k. AreWaitsAlike (held_by_another (class_of_object c.objects a) t at.monitor) (option_and_then (state_held n t) k)) (sym at.state_held)
      (held_alike (class_of_object c.objects a) n at.monitor at.state_monitor at.refines))

  -- ---- ends of threads

  awaited_alike : (v : ℕ) → AreWaitsAlike (end_awaited c.threads v) (state_awaited s v)
  awaited_alike v = subst (λ b. AreWaitsAlike (if b then Some (Join v) else None) (if is_live s v then Some (ForEnd v) else None)) (sym (lives_alike c s r v)) (by_life (is_live s v))
    where
      by_life : (b : Bool) → AreWaitsAlike (if b then Some (Join v) else None) (if b then Some (ForEnd v) else None)
      by_life true = refl
      by_life false = tt

  thread_awaited : (v : Option ℕ) → AreWaitsAlike (option_and_then (end_awaited c.threads) v) (option_and_then (state_awaited s) v)
  thread_awaited None = tt
  thread_awaited (Some v) = awaited_alike v

  joins_alike : (f : StateFrame) (below : List StateFrame) (rest : List StateValue) (a : Addr) (n : ObjectName) → name a.number ≡ Some n → IsTypedEffect c.tree (act here s f below JoinAction (Reference n ∷ []) rest) →
      AreWaitsAlike (join_wait c.threads c.objects a) (option_and_then (λ (o : HeapObject). option_and_then (state_awaited s) o.thread) (object_at s n))
  joins_alike f below rest a n named typed =
      let asked = thread_object_is here s f below name c.objects readable a (join here s f below rest) n named typed in
      let x : IsThreadObject c.tree name c.objects s a asked.0 = asked.2 in
      let machine : join_wait c.threads c.objects a ≡ option_and_then (end_awaited c.threads) x.object.thread =
      ap (λ b. if b then None else option_and_then (end_awaited c.threads) (thread_on c.objects a)) (named_is_not_null c.tree name c.objects s readable a.number n named)
      ∙ ap (option_and_then (end_awaited c.threads)) (thread_on_is c.tree name c.objects s a asked.0 x) in
      let state : object_at s n ≡ Some x.object = ap (object_at s) asked.1 ∙ x.is in
      subst (λ w. AreWaitsAlike w (option_and_then (λ (o : HeapObject). option_and_then (state_awaited s) o.thread) (object_at s n))) (sym machine)
      (subst (λ o. AreWaitsAlike (option_and_then (end_awaited c.threads) x.object.thread) (option_and_then (λ (y : HeapObject). option_and_then (state_awaited s) y.thread) o)) (sym state) (thread_awaited x.object.thread))

  -- ---- an action on the topmost value

  module _ (f : StateFrame) (below : List StateFrame) (typed : AreTypedFrames c.tree s (f ∷ below)) (i : Instruction) (at : instruction_at f ≡ Some i) (a : Action) (acts : called_action c.tree i ≡ Some a) where
    abbrev ActsAlike : List Value → List StateValue → Type 0
    ActsAlike vs us = AreWaitsAlike (wait_by c t a vs) (state_wait_by s t a us)

    -- of an object
    object_alike : (b : Action) → a ≡ b → (x : Addr) (n : ObjectName) (rest : List Value) (rest' : List StateValue) → name x.number ≡ Some n → f.stack ≡ Reference n ∷ rest' →
        AreWaitsAlike (wait_by c t b (Ref x ∷ rest)) (state_wait_by s t b (Reference n ∷ rest'))
    object_alike Enter same x n rest rest' named stack = enters_alike x n named
    object_alike JoinAction same x n rest rest' named stack =
        let done = calling_acts here r.accepted s r.typed f below typed i at a acts n (ap top_object stack) in
        joins_alike f below done.0 x n named (subst (λ k. IsTypedEffect c.tree (act here s f below k (Reference n ∷ []) done.0)) same done.3)
    object_alike b same x n rest rest' named stack = tt

    -- of null
    null_alike : (b : Action) (rest : List Value) (rest' : List StateValue) → AreWaitsAlike (wait_by c t b (Ref null ∷ rest)) (state_wait_by s t b (Null ∷ rest'))
    null_alike Enter rest rest' = tt
    null_alike b rest rest' = tt

    -- of no reference
    no_object : (b : Action) (vs : List Value) (us : List StateValue) → top_reference vs ≡ None → top_object us ≡ None → AreWaitsAlike (wait_by c t b vs) (state_wait_by s t b us)
    no_object Enter vs us e e' =
        subst (λ o. AreWaitsAlike (option_and_then (monitor_wait c.objects t) o) (option_and_then (λ n. option_and_then (state_held n t) (monitor_of s n)) (top_object us))) (sym e)
        (subst (λ o. AreWaitsAlike None (option_and_then (λ n. option_and_then (state_held n t) (monitor_of s n)) o)) (sym e') tt)
    no_object JoinAction vs us e e' =
        subst (λ o. AreWaitsAlike (option_and_then (join_wait c.threads c.objects) o) (option_and_then (λ n. option_and_then (λ (x : HeapObject). option_and_then (state_awaited s) x.thread) (object_at s n)) (top_object us))) (sym e)
        (subst (λ o. AreWaitsAlike None (option_and_then (λ n. option_and_then (λ (x : HeapObject). option_and_then (state_awaited s) x.thread) (object_at s n)) o)) (sym e') tt)
    no_object b vs us e e' = tt

    value_alike : (v : Value) (u : StateValue) → IsValue name v u → (rest : List Value) (rest' : List StateValue) → f.stack ≡ u ∷ rest' → ActsAlike (v ∷ rest) (u ∷ rest')
    value_alike _ _ (int32 z fits) rest rest' stack = no_object a _ _ refl refl
    value_alike _ _ (int64 z fits) rest rest' stack = no_object a _ _ refl refl
    value_alike _ _ (native z fits) rest rest' stack = no_object a _ _ refl refl
    value_alike _ _ null_reference rest rest' stack = null_alike a rest rest'
    value_alike _ _ (reference x n named) rest rest' stack = object_alike a refl x n rest rest' named stack

    stack_alike : (vs : List Value) (us : List StateValue) → Agree (IsValue name) vs us → f.stack ≡ us → ActsAlike vs us
    stack_alike [] [] h stack = no_object a [] [] refl refl
    stack_alike (v ∷ vs) (u ∷ us) h stack = value_alike v u h.0 vs us stack
    stack_alike [] (u ∷ us) h stack = elim h [ ]
    stack_alike (v ∷ vs) [] h stack = elim h [ ]

  -- ---- a frame, and a thread

  frame_alike : (m : Frames) (f : StateFrame) (below : List StateFrame) → AreTypedFrames c.tree s (f ∷ below) → IsFrame c.tree name m.running f → AreWaitsAlike (wait_in c t m) (state_wait_in c.tree s t f)
  frame_alike m f below typed frame =
      subst (λ l. AreWaitsAlike (option_and_then (λ a. wait_by c t a m.running.stack) (option_and_then (λ (x : Line). called_action c.tree x.instruction) l)) (state_wait_in c.tree s t f)) (sym same_line)
      (by_line (slice_get (lines_of f.method) f.pc) refl)
    where
      same_line : line_at c.tree m ≡ slice_get (lines_of f.method) f.pc
      same_line = ap (option_and_then (λ (x : ClassName × Method). slice_get (lines_of x.1) m.running.pc)) frame.method ∙ ap (slice_get (lines_of f.method)) frame.pc

      by_action : (l : Line) → slice_get (lines_of f.method) f.pc ≡ Some l → (a : Option Action) → called_action c.tree l.instruction ≡ a →
          AreWaitsAlike (option_and_then (λ b. wait_by c t b m.running.stack) a) (option_and_then (λ b. state_wait_by s t b f.stack) a)
      by_action l is None acts = tt
      by_action l is (Some a) acts = stack_alike f below typed l.instruction (ap (option_map (λ (x : Line). x.instruction)) is) a acts m.running.stack f.stack frame.stack refl

      by_line : (l : Option Line) → slice_get (lines_of f.method) f.pc ≡ l →
          AreWaitsAlike (option_and_then (λ a. wait_by c t a m.running.stack) (option_and_then (λ (x : Line). called_action c.tree x.instruction) l)) (state_wait_in c.tree s t f)
      by_line l is =
          subst (λ k. AreWaitsAlike (option_and_then (λ a. wait_by c t a m.running.stack) (option_and_then (λ (x : Line). called_action c.tree x.instruction) l))
          (option_and_then (λ i. option_and_then (λ a. state_wait_by s t a f.stack) (called_action c.tree i)) (option_map (λ (x : Line). x.instruction) k))) (sym is) (by_entry l is)
        where
          by_entry : (k : Option Line) → slice_get (lines_of f.method) f.pc ≡ k →
              AreWaitsAlike (option_and_then (λ a. wait_by c t a m.running.stack) (option_and_then (λ (x : Line). called_action c.tree x.instruction) k))
              (option_and_then (λ i. option_and_then (λ a. state_wait_by s t a f.stack) (called_action c.tree i)) (option_map (λ (x : Line). x.instruction) k))
          by_entry None e = tt
          by_entry (Some k) e = by_action k e (called_action c.tree k.instruction) refl

  thread_alike : (x : Thread) (u : StateThread) → slice_get s.threads t ≡ Some u → IsThread c.tree c.limits name x u → AreWaitsAlike (status_wait c t x.thread_status) (wait_of_thread c.tree s t u)
  thread_alike x u there alike = by_thread_status x.thread_status u.ended refl alike.thread_status
    where
      by_frames : (m : Frames) → u.ended ≡ None → (fs : List StateFrame) → u.frames ≡ fs → AreFrames c.tree c.limits name m fs → AreWaitsAlike (wait_in c t m) (option_and_then (state_wait_in c.tree s t) (slice_get fs 0))
      by_frames m is [] are h = elim h.frames [ ]
      by_frames m is (f ∷ below) are h = frame_alike m f below (subst (AreTypedFrames c.tree s) are (r.typed.threads t u there is)) h.frames.0

      by_thread_status : (thread_status : ThreadStatus) (ended : Option End) → u.ended ≡ ended → StatusRefines c.tree c.limits name thread_status u.frames ended →
          AreWaitsAlike (status_wait c t thread_status) (if is_none ended then option_and_then (state_wait_in c.tree s t) (slice_get u.frames 0) else None)
      by_thread_status (Live m) None is h = by_frames m is u.frames refl h
      by_thread_status (Ended e) (Some e') is h = tt
      by_thread_status (Live m) (Some e') is h = elim h [ ]
      by_thread_status (Ended e) None is h = elim h [ ]

  -- what the thread of a number waits for
  pub waits_alike : AreWaitsAlike (wait_at c t) (wait_of c.tree s t)
  waits_alike = by_thread (slice_get s.threads t) refl
    where
      by_thread : (u : Option StateThread) → slice_get s.threads t ≡ u → AreWaitsAlike (wait_at c t) (option_and_then (wait_of_thread c.tree s t) u)
      by_thread None is =
          subst (λ x. AreWaitsAlike (option_and_then (λ (y : Thread). status_wait c t y.thread_status) x) None) (sym (agree_beyond (IsThread c.tree c.limits name) c.threads s.threads r.refines.by.threads t is)) tt
      by_thread (Some u) is =
          let x = agree_get (IsThread c.tree c.limits name) c.threads s.threads r.refines.by.threads t u is in
          subst (λ y. AreWaitsAlike (option_and_then (λ (z : Thread). status_wait c t z.thread_status) y) (wait_of_thread c.tree s t u)) (sym x.1) (thread_alike x.0 u is x.2)
