-- The built-in members leave typed states.
use Rattle.std.proofs.Common.{◌≡◌, ℕ, ◌==◌, ◌-◌, ◌+◌, Bool, true, false, if◌then◌else◌, nat_le, IsTrue, List, [], ◌∷◌, ◌++◌, length, Option, Some, None, is_some, refl, inl, inr, sym, ◌∙◌, subst}
use Rattle.std.specs.Prelude.{IsSome, codes}
use Rattle.std.specs.Option.{option_map_or}
use Rattle.cil_model.specs.declared.types.ClassName.{ClassName}
use Rattle.cil_model.specs.declared.types.DeclaredType.{DeclaredType}
use Rattle.cil_model.specs.declared.types.Element.TheVariants.{Class}
use Rattle.cil_model.specs.declared.instructions.Instruction.{Instruction}
use Rattle.cil_model.specs.declared.trees.Method.{Method}
use Rattle.cil_model.specs.declared.limits.TheConstants.{MOST_THREADS}
use Rattle.cil_model.specs.declared.reports.Fault.TheVariants.{NullReference, ArgumentNull, SynchronizationLock, ThreadState, TooManyThreads}
use Rattle.cil_model.specs.Declarations.{plain, thread_name, run_method}
use Rattle.cil_model.specs.Chains.{is_thread_class}
use Rattle.cil_model.specs.Slots.{target}
use Rattle.cil_model.specs.Assignable.{is_reference, type_of_class}
use Rattle.cil_model.specs.Bodies.{argument_types, falls_through}
use Rattle.cil_model.proofs.Lists.{none_is_some}
use Rattle.cil_model.proofs.SameLaws.{never, both_first}
use Rattle.reference_machine.specs.Values.{ObjectName, Born, Literal, Value, Native, Reference}
use Rattle.reference_machine.specs.States.{Monitor, Free, Held, HeapObject, Frame, Thread, State, object_at, with_object, class_of, monitor_of, with_monitor, is_live}
use Rattle.reference_machine.specs.Effects.{StepContext, Effect, Blocks, Raises, Sticks, when_some, new_frame, onward}
use Rattle.reference_machine.specs.BuiltIn.{Action, Construct, Write, Enter, Exit, Start, Join, action_of, line_of, enter, exit, with_thread, begin, start, join, thread_object, act}
use Rattle.reference_machine.specs.Growth.{Follows}
use Rattle.reference_machine.proofs.Runs.StateChanges.{follows_monitor, follows_object_at, follows_more}
use Rattle.reference_machine.proofs.Programs.MethodTypings.{IsDeclared, target_is_declared, framed_has_typing}
use Rattle.reference_machine.specs.TypedStates.{IsObjectOf, HasType, HaveTypes, HaveStackTypes, IsTypedFrame, IsTyped}
use Rattle.reference_machine.proofs.TypedStates.ValueTypes.{stack_keeps, frame_keeps}
use Rattle.reference_machine.proofs.TypedStates.RunningFrames.{IsTypedEffect, IsRunning, onward_typed, next_typed}
use Rattle.reference_machine.proofs.TypedStates.InitialStates.{new_frame_typed}
use Rattle.reference_machine.proofs.TypedStates.StackOperands.{object_is_reference}
use Rattle.reference_machine.proofs.TypedSteps.CallOperands.{not_null_typed}
use Rattle.reference_machine.proofs.Programs.VirtualTargets.{targets_run}
use Rattle.reference_machine.proofs.Programs.TargetNames.{target_named, run_does_not_act}
use Rattle.reference_machine.proofs.TypedStates.StateChanges.{typed_monitor, typed_printed, follows_printed, follows_threads, typed_thread_mark, typed_thread_more}
use Rattle.reference_machine.proofs.Programs.FoundMethods.{arguments_of_instance}
use Rattle.reference_machine.proofs.Programs.BuiltInMembers.{IsOperandOf}
use Rattle.reference_machine.proofs.TypedStates.Instances.{IsInstanceOf, instance_of, instance_typed, string_is_literal, thread_is_neither, assignable_is_thread}

module _ (here : StepContext) (s : State) (f : Frame) (below : List Frame) (i : Instruction) (running : IsRunning here s f below i) (falls : IsTrue (falls_through i)) (rest : List Value) (values : HaveStackTypes here.tree s rest running.result) where
  -- on in a state that follows
  onward_in : (s' : State) → IsTyped here.tree s' → Follows s s' → IsTypedEffect here.tree (onward f below s' rest)
  onward_in s' typed follows = onward_typed here s f below i running falls s' typed follows rest (stack_keeps here.tree s s' follows rest running.result values)

  -- ---- WriteLine

  -- what it takes can be printed: no object is a string but a literal
  line_is_there : (t : DeclaredType) → IsOperandOf Write t → (v : Value) → HasType here.tree s v t → (line : List ℕ) × (line_of v ≡ Some line)
  line_is_there t operand (Native z) h = elim h [ ]
  line_is_there t (inl integer) (Reference (Born n)) h = never (sym integer ∙ object_is_reference here.tree running.accepted.legal s (Born n) t h)
  line_is_there t (inr string) (Reference (Born n)) h = absurd (string_is_literal here.tree s running.typed n (subst (λ x. IsObjectOf here.tree s (Born n) x) string h))
  line_is_there t operand _ h = (_, refl)

  -- one line more is printed
  write_typed : (t : DeclaredType) → IsOperandOf Write t → (v : Value) → HasType here.tree s v t → IsTypedEffect here.tree (act here s f below Write (v ∷ []) rest)
  write_typed t operand v h =
      let line : (line : List ℕ) × (line_of v ≡ Some line) = line_is_there t operand v h in
      subst (λ o. IsTypedEffect here.tree (when_some o (λ l. onward f below (record s { printed = s.printed ++ l }) rest))) (sym line.1)
      (onward_in (record s { printed = s.printed ++ line.0 }) (typed_printed here.tree s running.typed line.0) (follows_printed here.tree s running.typed line.0))

  -- ---- Enter and Exit

  -- another monitor of an object
  monitor_typed : (n : ObjectName) (m : Monitor) → IsTypedEffect here.tree (onward f below (with_monitor s n m) rest)
  monitor_typed n m = onward_in (with_monitor s n m) (typed_monitor here.tree s running.typed n m) (follows_monitor s n m)

  -- entered, or blocked
  enter_typed : (n : ObjectName) (m : Monitor) → IsTypedEffect here.tree (enter here s f below n rest m)
  enter_typed n Free = monitor_typed n (Held here.thread 1)
  enter_typed n (Held owner count) = by_owner (owner == here.thread)
    where
      by_owner : (b : Bool) → IsTypedEffect here.tree (if b then onward f below (with_monitor s n (Held here.thread (count + 1))) rest else Blocks)
      by_owner true = monitor_typed n (Held here.thread (count + 1))
      by_owner false = tt

  -- left, or a fault
  exit_typed : (n : ObjectName) (m : Monitor) → IsTypedEffect here.tree (exit here s f below n rest m)
  exit_typed n Free = tt
  exit_typed n (Held owner count) = by_owner (owner == here.thread)
    where
      left : Monitor
      left = if nat_le count 1 then Free else Held here.thread (count - 1)

      by_owner : (b : Bool) → IsTypedEffect here.tree (if b then onward f below (with_monitor s n left) rest else Raises SynchronizationLock)
      by_owner true = monitor_typed n left
      by_owner false = tt

  -- each object has a monitor
  with_monitor_typed : (o : Option Monitor) (go : Monitor → Effect) → IsSome o → ((m : Monitor) → IsTypedEffect here.tree (go m)) → IsTypedEffect here.tree (when_some o go)
  with_monitor_typed None go there each = absurd cc
  with_monitor_typed (Some m) go there each = each m

  -- ---- Join

  -- the object of a thread is of a class of threads
  thread_object_typed : (t : DeclaredType) → t ≡ plain (Class thread_name) → (n : ObjectName) (go : HeapObject → Effect) → IsObjectOf here.tree s n t →
      ((o : HeapObject) → IsInstanceOf here.tree s n (plain (Class thread_name)) → object_at s n ≡ Some o → IsTypedEffect here.tree (go o)) → IsTypedEffect here.tree (thread_object here s f below n go)
  thread_object_typed t operand n go h each =
      let thread : IsInstanceOf here.tree s n (plain (Class thread_name)) = instance_of here.tree s running.typed n (plain (Class thread_name)) (subst (IsObjectOf here.tree s n) operand h) (thread_is_neither here.tree) in
      let is : IsTrue (is_thread_class here.tree thread.own) = assignable_is_thread here.tree running.accepted.legal thread.own thread.fits in
      subst (λ o. IsTypedEffect here.tree (when_some o (λ c. if is_thread_class here.tree c then when_some (object_at s n) go else Sticks))) (sym thread.is) (
      subst (λ b. IsTypedEffect here.tree (if b then when_some (object_at s n) go else Sticks)) (sym is) (
      subst (λ o. IsTypedEffect here.tree (when_some o go)) (sym thread.there) (each thread.object thread thread.there)))

  -- on once the thread has ended
  join_typed : (o : HeapObject) → IsTypedEffect here.tree (join here s f below rest o)
  join_typed o = by_thread o.thread
    where
      by_life : (b : Bool) → IsTypedEffect here.tree (if b then Blocks else onward f below s rest)
      by_life true = tt
      by_life false = next_typed here s f below i running falls rest values

      by_thread : (t : Option ℕ) → IsTypedEffect here.tree (option_map_or (λ k. if is_live s k then Blocks else onward f below s rest) t (Raises ThreadState))
      by_thread None = tt
      by_thread (Some k) = by_life (is_live s k)

  -- ---- Start

  -- one thread more, which is noted at its object and is at the beginning of a method
  started_typed : (n : ObjectName) (o : HeapObject) (first : Frame) → object_at s n ≡ Some o → IsTypedFrame here.tree s None first → IsTypedEffect here.tree (onward f below (with_thread here s f below n o first) rest)
  started_typed (Literal characters) o first there frame = none_is_some o there
  started_typed (Born n) o first there frame =
      let marked : State = with_object s (Born n) (record o { thread = Some (length s.threads) }) in
      let noted : IsTyped here.tree marked = typed_thread_mark here.tree s running.typed (Born n) o (Some (length s.threads)) there in
      let follows : Follows s marked = follows_object_at s (Born n) o (record o { thread = Some (length s.threads) }) there refl in
      let thread : Thread = record { frames = first ∷ []; steps_left = here.limits.budget; ended = None } in
      onward_in (record marked { threads = s.threads ++ thread ∷ [] })
      (typed_thread_more here.tree marked noted thread (λ live. (frame_keeps here.tree s marked follows None first frame, tt)))
      (follows_more s marked (record marked { threads = s.threads ++ thread ∷ [] }) follows (follows_threads here.tree marked noted (s.threads ++ thread ∷ [])))

  -- Run of the object's class begins
  begin_typed : (n : ObjectName) (o : HeapObject) → object_at s n ≡ Some o → (thread : IsInstanceOf here.tree s n (plain (Class thread_name))) →
      IsTypedEffect here.tree (begin here s f below n rest o (target here.tree thread.own thread_name run_method))
  begin_typed n o there thread =
      let run = targets_run here.tree running.accepted.legal thread.own thread_name (codes "Run") run_method.signature thread_name run_method (both_first _ _ thread.has) thread.no_interface refl refl thread.fits in
      let k : ClassName = run.0 in
      let m : Method = run.1 in
      let declared : IsDeclared here.tree k m = target_is_declared here.tree thread.own thread_name run_method k m run.3 (1, refl) in
      let plain_method : action_of k m ≡ None = run_does_not_act k m (target_named here.tree thread.own thread_name run_method k m run.3) in
      let arguments : HaveTypes here.tree s (Reference n ∷ []) (argument_types m k) =
      arguments_of_instance here.tree running.accepted.legal s (Reference n) [] (type_of_class thread.own) k m run.6 (instance_typed here.tree running.accepted.legal s n thread) run.7 (subst (λ x. HaveTypes here.tree s [] x.parameters) (sym run.5) tt) in
      let frame : IsTypedFrame here.tree s None (new_frame k m run.2 (Reference n ∷ []) None) =
      new_frame_typed here.tree s k m run.2 (Reference n ∷ []) None declared run.4 (framed_has_typing here.tree running.accepted k declared.0 m declared.1 plain_method) arguments (λ name e. none_is_some name e) in
      subst (λ x. IsTypedEffect here.tree (begin here s f below n rest o x)) (sym run.3) (
      subst (λ x. IsTypedEffect here.tree (when_some x (λ code. onward f below (with_thread here s f below n o (new_frame k m code (Reference n ∷ []) None)) rest))) (sym run.4)
      (started_typed n o (new_frame k m run.2 (Reference n ∷ []) None) there frame))

  -- a fault, or one thread more
  start_typed : (n : ObjectName) (o : HeapObject) → object_at s n ≡ Some o → IsInstanceOf here.tree s n (plain (Class thread_name)) →
      IsTypedEffect here.tree (start here s f below n rest o)
  start_typed n o there thread = by_tests (is_some o.thread) (nat_le MOST_THREADS (length s.threads))
    where
      begun : IsTypedEffect here.tree (when_some (class_of s n) (λ c. begin here s f below n rest o (target here.tree c thread_name run_method)))
      begun = subst (λ x. IsTypedEffect here.tree (when_some x (λ c. begin here s f below n rest o (target here.tree c thread_name run_method)))) (sym thread.is) (begin_typed n o there thread)

      by_tests : (a b : Bool) → IsTypedEffect here.tree (if a then Raises ThreadState else if b then Raises TooManyThreads else when_some (class_of s n) (λ c. begin here s f below n rest o (target here.tree c thread_name run_method)))
      by_tests false false = begun
      by_tests _ _ = tt

  -- ---- all

  -- what an action does with an operand of its type
  pub act_typed : (a : Action) (t : DeclaredType) → IsOperandOf a t → (v : Value) → HasType here.tree s v t → IsTypedEffect here.tree (act here s f below a (v ∷ []) rest)
  act_typed Construct t operand v h = next_typed here s f below i running falls rest values
  act_typed Write t operand v h = write_typed t operand v h
  act_typed Enter t operand v h = not_null_typed here.tree s t v ArgumentNull _ operand h (λ n object. with_monitor_typed (monitor_of s n) (enter here s f below n rest) object.monitor (enter_typed n))
  act_typed Exit t operand v h = not_null_typed here.tree s t v ArgumentNull _ operand h (λ n object. with_monitor_typed (monitor_of s n) (exit here s f below n rest) object.monitor (exit_typed n))
  act_typed Start t operand v h = not_null_typed here.tree s t v NullReference _ (subst (λ x. IsTrue (is_reference x)) (sym operand) refl) h (λ n object. thread_object_typed t operand n (start here s f below n rest) object (λ o thread there. start_typed n o there thread))
  act_typed Join t operand v h = not_null_typed here.tree s t v NullReference _ (subst (λ x. IsTrue (is_reference x)) (sym operand) refl) h (λ n object. thread_object_typed t operand n (join here s f below rest) object (λ o thread there. join_typed o))
