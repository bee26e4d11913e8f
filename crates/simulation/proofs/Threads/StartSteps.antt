-- The step of a thread that starts another does the same on both machines.
use Rattle.std.proofs.Common.{◌≡◌, ◌≢◌, ◌<◌, ◌+◌, if◌then◌else◌, ℕ, suc, true, false, List, [], ◌∷◌, ◌++◌, length, Some, None, option_map, slice_get, slice_set, refl, inl, inr, sym, ap, ◌∙◌, subst, arith, ◌==◌, Bool, is_some, Option, option_and_then}
use Rattle.std.specs.Prelude.{IsSome, nat_le}
use Rattle.std.specs.Option.{option_map_or}
use Rattle.std.proofs.lemmas.Option.{same_Some}
use Rattle.interpreter.specs.cil_model.declared.reports.Fault.{Fault}
use Rattle.interpreter.specs.cil_model.declared.reports.Fault.TheVariants.{NullReference, ThreadState, TooManyThreads}
use Rattle.interpreter.specs.cil_model.declared.reports.Report.{Report}
use Rattle.interpreter.specs.reference_machine.Values.{Born, Value as StateValue, Reference}
use Rattle.interpreter.specs.reference_machine.States.{HeapObject, State, Thread as StateThread, with_object, class_of}
use Rattle.interpreter.specs.reference_machine.Effects.{Raises as StateRaises, new_frame, after, Effect as StateEffect, Sticks, when_some, onward}
use Rattle.interpreter.specs.reference_machine.BuiltIn.{Start, start, with_thread, begin}
use Rattle.collector.specs.phase_handshake.Handshakes.{join_thread}
use Rattle.interpreter.specs.resolved_code.declared.operations.Operation.{Operation}
use Rattle.interpreter.specs.object_memory.declared.addresses.Addr.{Addr}
use Rattle.interpreter.specs.object_memory.declared.kinds.Kind.TheVariants.{Instance}
use Rattle.interpreter.specs.object_memory.declared.values.Value.TheVariants.{Ref}
use Rattle.interpreter.specs.object_memory.Cells.{null, store_slot}
use Rattle.interpreter.specs.object_memory.Objects.{Objects}
use Rattle.interpreter.specs.instructions.barriers.Barriers.{is_word_storable, stored_int}
use Rattle.interpreter.specs.threads_monitors.Frames.{Frames, new_frame as new_machine_frame}
use Rattle.interpreter.specs.threads_monitors.Threads.{start_fault, with_start, thread_on}
use Rattle.interpreter.specs.threads_monitors.declared.effects.Effect.{Effect}
use Rattle.interpreter.specs.threads_monitors.declared.effects.Effect.TheVariants.{Continues, Raises}
use Rattle.interpreter.specs.threads_monitors.declared.threads.ThreadStatus.TheVariants.{Live}
use Rattle.interpreter.specs.threads_monitors.declared.threads.Thread.{Thread}
use Rattle.interpreter.specs.Instructions.{HasSmallConstant, IsAt, Answer, answer_of}
use Rattle.interpreter.specs.declared.outcomes.InstructionOutcome.TheVariants.{OwnEffect, Starts}
use Rattle.simulation.specs.MachineStates.{MachineState, mutator_of, frame_room}
use Rattle.simulation.specs.Refines.{Names, reference, thread_word, IsCell, IsOfContents, IsThread, RefinesUnder, Represents}
use Rattle.simulation.specs.Transitions.{after_request, count_step, start_thread, thread_at, thread_for, seat_thread, run_member}
use Rattle.simulation.proofs.ListLaws.AgreeingLists.{agree_append, agree_length, agree_weaken}
use Rattle.simulation.proofs.Instructions.Correspondence.{is_refused_fault}
use Rattle.simulation.proofs.ProgramSizes.LimitRanges.{depth_is_some}
use Rattle.simulation.proofs.Threads.StepResults.{Follows, done, finish, frames_pass, charged_pass, frames_whole, gives, FramesPass, beside_more}
use Rattle.simulation.proofs.Representation.MoreNames.{beginning_refines, thread_extends}
use Rattle.simulation.proofs.Memory.ThreadObjects.{IsThreadObject, thread_on_is, class_at_is, own_class_is}
use Rattle.simulation.proofs.Threads.Requests.{here, running, below, Asks, IsAskedOf, asked_of, popped_frames, done_typed}
use Rattle.interpreter.proofs.cil_model.Lists.{none_is_some, last_is_there}
use Rattle.collector.specs.References.{holds_reference}
use Rattle.simulation.proofs.Memory.MemoryModels.{IsModelled}
use Rattle.simulation.proofs.Memory.ReferenceSlots.{IsLinked, hidden_says, typed_is_linked}
use Rattle.simulation.proofs.Threads.LiveThreads.{FitsOwn, KeepsOwnNames, fits_of, names_of, normally, own_memory, own_model, own_names, own_passes, own_phase_is, room_of, seat}
use Rattle.simulation.proofs.CollectedHeap.VisibleNames.{own_extends}
use Rattle.collector.specs.Soundness.{IsListed}
use Rattle.interpreter.specs.loaded_program.LocalKinds.{local_kinds}
use Rattle.interpreter.specs.threads_monitors.Roots.{roots}
use Rattle.interpreter.specs.cil_model.declared.limits.TheConstants.{MOST_THREADS}
use Rattle.interpreter.specs.cil_model.declared.trees.Method.{Method}
use Rattle.interpreter.specs.cil_model.declared.trees.Code.{Code}
use Rattle.interpreter.specs.cil_model.declared.types.ClassName.{ClassName}
use Rattle.interpreter.specs.cil_model.Bodies.{code_of}
use Rattle.interpreter.specs.cil_model.Chains.{methods_declared}
use Rattle.interpreter.specs.cil_model.Declarations.{thread_name, run_method}
use Rattle.interpreter.specs.cil_model.Slots.{target}
use Rattle.interpreter.specs.name_tables.Numbers.{method_at}
use Rattle.interpreter.specs.reference_machine.TypedStates.{AreTypedFrames}
use Rattle.interpreter.proofs.reference_machine.TypedStates.RunningFrames.{IsTypedEffect}
use Rattle.interpreter.specs.loaded_program.AllMethods.{all_methods}
use Rattle.interpreter.specs.loaded_program.MethodNumbers.{number_of}
use Rattle.interpreter.proofs.loaded_program.NumberLaws.{declared_has_id}
use Rattle.interpreter.specs.Calls.{chosen_method, chosen_at, chosen_by}

-- ---- A thread starts another alike on both machines.

module _ (c : MachineState) (s : State) (r : Represents c s) (t left : ℕ) (m : Frames) (there : slice_get c.threads t ≡ Some (record { thread_status = Live m; steps_left = left })) where
  module _ (rest : List StateValue) (object : Addr) (number : ℕ) (x : IsThreadObject c.tree (own_names c s r t left m there) c.objects s object number) where
    -- the state once a thread was started at the beginning of a method
    abbrev pub state_with : ClassName × Method → Code → State
    state_with found code = with_thread (here c s r t left m there) s (running c s r t left m there) (below c s r t left m there) (Born number) x.object (new_frame found.0 found.1 code (Reference (Born number) ∷ []) None)

    -- where the thread of the object begins, on both
    pub record IsBegun : Type 0 where
      pub found : ClassName × Method
      pub code : Code
      pub has_code : code_of found.1.kind ≡ Some code
      pub first : ℕ
      pub refines : slice_get (all_methods c.tree) first ≡ Some found
      pub does : done c s r t left m there false ≡ onward (running c s r t left m there) (below c s r t left m there) (state_with found code) rest
      pub thread : thread_for c.tree c.limits c.objects object ≡ Some (thread_at c.limits found (Ref object ∷ []) first)

    -- what begins is Run of the object's class
    abbrev begins : Option (ClassName × Method) → StateEffect
    begins o = begin (here c s r t left m there) s (running c s r t left m there) (below c s r t left m there) (Born number) rest x.object o

    typed_as_done : (e : StateEffect) → done c s r t left m there false ≡ e → IsTypedEffect c.tree e
    typed_as_done e is = subst (IsTypedEffect c.tree) is (done_typed c s r t left m there)

    chosen_is : (found : ClassName × Method) → target c.tree x.own thread_name run_method ≡ Some found → chosen_at c.tree c.objects object run_member ≡ Some found
    chosen_is found runs =
        let first : method_at c.tree (4, 1) ≡ Some (thread_name, run_method) = refl in
        ap (option_and_then (chosen_method c.tree c.objects object)) first ∙
        ap (option_and_then (chosen_by c.tree (thread_name, run_method))) (class_at_is c.tree (own_names c s r t left m there) c.objects s object number x) ∙
        ap (option_and_then (λ d. target c.tree d thread_name run_method)) x.class_is ∙ runs

    is_begun : done c s r t left m there false ≡ begins (target c.tree x.own thread_name run_method) → IsBegun
    is_begun e = by_target (target c.tree x.own thread_name run_method) refl e
      where
        by_code : (found : ClassName × Method) → target c.tree x.own thread_name run_method ≡ Some found → (o : Option Code) → code_of found.1.kind ≡ o →
            done c s r t left m there false ≡ when_some o (λ code. onward (running c s r t left m there) (below c s r t left m there) (state_with found code) rest) → IsBegun
        by_code found runs None is e' = elim (typed_as_done Sticks e') [ ]
        by_code found runs (Some code) is e' =
            let typed = typed_as_done (onward (running c s r t left m there) (below c s r t left m there) (state_with found code) rest) e' in
            let thread : StateThread = record { frames = new_frame found.0 found.1 code (Reference (Born number) ∷ []) None ∷ []; steps_left = c.limits.budget; ended = None } in
            let frames : AreTypedFrames c.tree (state_with found code) thread.frames = typed.0.threads (length s.threads) thread (last_is_there s.threads thread) refl in
            let declared : (n : ℕ) × (slice_get (methods_declared c.tree found.0) n ≡ Some found.1) = frames.0.is_declared in
            let has_id : (n : ℕ) × (number_of c.tree found ≡ Some n) × (slice_get (all_methods c.tree) n ≡ Some found) = declared_has_id c.tree r.accepted.legal declared.0 found declared.1 in
            record {
              found = found;
              code = code;
              has_code = is;
              first = has_id.0;
              refines = has_id.2;
              does = e';
              thread = ap (option_and_then (λ (y : ClassName × Method). option_map (thread_at c.limits y (Ref object ∷ [])) (number_of c.tree y))) (chosen_is found runs) ∙ ap (option_map (thread_at c.limits found (Ref object ∷ []))) has_id.1;
            }

        by_target : (o : Option (ClassName × Method)) → target c.tree x.own thread_name run_method ≡ o → done c s r t left m there false ≡ begins o → IsBegun
        by_target None runs e' = elim (typed_as_done Sticks e') [ ]
        by_target (Some found) runs e' = by_code found runs (code_of found.1.kind) refl e'

    -- ---- faults

    -- why none can be started
    pub fault_is : (object.number == 0) ≡ false →
        start_fault c.threads c.objects object ≡ (if is_some x.object.thread then Some ThreadState else if nat_le MOST_THREADS (length s.threads) then Some TooManyThreads else None)
    fault_is apart =
        ap (λ b. if b then Some NullReference else if is_some (thread_on c.objects object) then Some ThreadState else if nat_le MOST_THREADS (length c.threads) then Some TooManyThreads else None) apart ∙
        ap (λ k. if is_some k then Some ThreadState else if nat_le MOST_THREADS (length c.threads) then Some TooManyThreads else None) (thread_on_is c.tree (own_names c s r t left m there) c.objects s object number x) ∙
        ap (λ n. if is_some x.object.thread then Some ThreadState else if nat_le MOST_THREADS n then Some TooManyThreads else None) (agree_length (IsThread c.tree c.limits r.refines.name) c.threads s.threads r.refines.by.threads)

    -- the same on both: a fault, or what begins
    pub data IsStarted : Type 0 where
      faulted : (fault : Fault) → false ≡ is_refused_fault fault → start_fault c.threads c.objects object ≡ Some fault → done c s r t left m there false ≡ StateRaises fault → IsStarted
      begun : start_fault c.threads c.objects object ≡ None → IsBegun → IsStarted

    pub is_started : (object.number == 0) ≡ false → done c s r t left m there false ≡ start (here c s r t left m there) s (running c s r t left m there) (below c s r t left m there) (Born number) rest x.object → IsStarted
    is_started apart e = by_tests (is_some x.object.thread) (nat_le MOST_THREADS (length s.threads)) (fault_is apart) e
      where
        by_tests : (b d : Bool) → start_fault c.threads c.objects object ≡ (if b then Some ThreadState else if d then Some TooManyThreads else None) →
            done c s r t left m there false ≡ (if b then StateRaises ThreadState else if d then StateRaises TooManyThreads else when_some (class_of s (Born number)) (λ k. begins (target c.tree k thread_name run_method))) → IsStarted
        by_tests true d is e' = faulted ThreadState refl is e'
        by_tests false true is e' = faulted TooManyThreads refl is e'
        by_tests false false is e' = begun is (is_begun (e' ∙ ap (λ k. when_some k (λ y. begins (target c.tree y thread_name run_method))) (own_class_is c.tree (own_names c s r t left m there) c.objects s object number x)))

-- ---- The step of a thread that starts another does the same on both machines.

module _ (c : MachineState) (s : State) (r : Represents c s) (t left : ℕ) (m : Frames) (there : slice_get c.threads t ≡ Some (record { thread_status = Live m; steps_left = left })) where
  -- what is asked of the one operand
  pub start_asked : (object : Addr) (a : Answer) → (asks : Asks c s r t left m there Start object a) →
      IsAskedOf c s r t left m there (done c s r t left m there false) (λ n. start (here c s r t left m there) s (running c s r t left m there) (below c s r t left m there) n asks.rest) object
  start_asked object a asks = asked_of c s r t left m there Start (λ rest n. start (here c s r t left m there) s (running c s r t left m there) (below c s r t left m there) n rest) (λ v rest. refl) object a asks

  -- the threads and objects once a step is counted
  abbrev pub counted_with : List Thread → List Thread × Objects × Effect → MachineState × Report
  counted_with threads y = count_step (record c { threads = y.0; posts = seat_thread y.2 c.posts (length threads) t; objects = y.1 }) t left y.2 (after_request y.2 m)

  -- a step that ends by a fault
  fault_follows : (fault : Fault) → false ≡ is_refused_fault fault → done c s r t left m there false ≡ StateRaises fault → Follows c s r t (counted_with c.threads (c.threads, c.objects, Raises fault))
  fault_follows fault refuses e = gives c s r t left m there c.threads (λ x. refl) false (Raises fault) refuses (answer_of m c.objects c.statics c.printed (OwnEffect (Raises fault))) (e, (refl, refl, refl))

  module _ (rest : List StateValue) (object : Addr) (number : ℕ) (x : IsThreadObject c.tree (own_names c s r t left m there) c.objects s object number) (named : (own_names c s r t left m there) object.number ≡ Some (Born number)) where
    -- the object identifies its thread
    abbrev marked : HeapObject
    marked = record x.object { thread = Some (length s.threads) }

    abbrev decoded_word : ℕ
    decoded_word = length c.threads + 1

    decoded_is : decoded_word ≡ suc (length s.threads)
    decoded_is = let same : length c.threads ≡ length s.threads = agree_length (IsThread c.tree c.limits r.refines.name) c.threads s.threads r.refines.by.threads in omega (arith, same)

    marked_cell : IsCell c.tree (own_names c s r t left m there) (store_slot 0 decoded_word x.cell) marked
    marked_cell = record {
      contents =
          subst (λ k. IsOfContents c.tree (own_names c s r t left m there) k (slice_set x.cell.slots 0 decoded_word) x.object.contents (Some (length s.threads))) (sym x.kind)
          (subst (λ y. IsOfContents c.tree (own_names c s r t left m there) (Instance x.class) (slice_set x.cell.slots 0 decoded_word) y (Some (length s.threads))) (sym x.contents)
          (record {
            class_is = x.class_is;
            words = x.words;
            slots_are = ap (λ l. slice_set l 0 decoded_word) x.slots ∙ ap (λ w. w ∷ x.words) decoded_is ∙ sym (ap (λ b. (if b then thread_word (Some (length s.threads)) ∷ [] else []) ++ x.words) x.is_thread);
            values = x.values;
          }));
      monitor = x.monitor;
    }

    no_reference : holds_reference c.tree x.cell.kind 0 ≡ false
    no_reference = ap (λ k. holds_reference c.tree k 0) x.kind ∙ hidden_says c.tree x.own x.class x.class_is x.is_thread

    slot_there : 0 < length x.cell.slots
    slot_there = subst (λ (l : List ℕ). 0 < length l) (sym x.slots) (omega arith)

    linked : IsLinked c.tree x.cell.kind x.object.contents
    linked =
        typed_is_linked c.tree r.accepted.legal s (own_names c s r t left m there) x.cell.kind (slice_set x.cell.slots 0 decoded_word) x.object.contents (Some (length s.threads)) (r.typed.objects number x.object x.is) marked_cell.contents

    -- the objects with the word
    abbrev decoded : Objects
    decoded = stored_int (mutator_of c t).phase c.objects object 0 decoded_word

    -- they are a memory of the thread
    marked_fits : (own_model c s r t left m there).Fits (own_names c s r t left m there) decoded c.statics (with_object s (Born number) marked)
    marked_fits =
        subst (λ p. (own_model c s r t left m there).Fits (own_names c s r t left m there) (stored_int p c.objects object 0 decoded_word) c.statics (with_object s (Born number) marked)) (own_phase_is c s r t left m there)
        ((own_model c s r t left m there).hidden (own_names c s r t left m there) c.objects c.statics s (own_memory c s r t left m there).fits r.typed object number named x.cell x.lies 0 decoded_word slot_there no_reference marked linked marked_cell)

    -- the word can be stored
    pub decoded_storable : is_word_storable (mutator_of c t).phase c.objects object 0 ≡ true
    decoded_storable =
        subst (λ p. is_word_storable p c.objects object 0 ≡ true) (own_phase_is c s r t left m there)
        ((own_model c s r t left m there).word_storable (own_names c s r t left m there) c.objects c.statics s (own_memory c s r t left m there).fits object number named x.cell x.lies 0 slot_there)

    module _ (b : IsBegun c s r t left m there rest object number x) where
      -- the thread that begins
      abbrev beginning : Thread
      beginning = thread_at c.limits b.found (Ref object ∷ []) b.first

      -- and the same of the reference machine
      abbrev state_beginning : StateThread
      state_beginning = record { frames = new_frame b.found.0 b.found.1 b.code (Reference (Born number) ∷ []) None ∷ []; steps_left = c.limits.budget; ended = None }

      abbrev begun_state : State
      begun_state = state_with c s r t left m there rest object number x b.found b.code

      begun_memory : IsModelled c.tree (own_model c s r t left m there) (own_names c s r t left m there) decoded c.statics c.printed begun_state
      begun_memory = record {
        fits = (own_model c s r t left m there).with_objects (own_names c s r t left m there) decoded c.statics (with_object s (Born number) marked) begun_state marked_fits (record { objects = refl; monitors = refl; statics = refl });
        printed_is = (own_memory c s r t left m there).printed_is;
      }

      begun_fits : FitsOwn c s r t left m there (own_names c s r t left m there) decoded c.statics begun_state
      begun_fits = fits_of c s r t left m there (own_names c s r t left m there) decoded c.statics c.printed begun_state begun_memory

      begun_names : KeepsOwnNames c s r decoded begun_fits.whole
      unfolding begun_fits
      begun_names = names_of c s r t left m there (own_names c s r t left m there) decoded c.statics c.printed begun_state begun_memory

      -- it stands under all names that have the object's
      starting : (names : Names) → names object.number ≡ Some (Born number) → IsThread c.tree c.limits names beginning state_beginning
      starting names is = beginning_refines names c.tree c.limits (depth_is_some c.limits r.limits) b.found b.code b.has_code b.first b.refines (Ref object ∷ []) (Reference (Born number) ∷ []) (reference object (Born number) is, tt)

      -- it holds what its starter may
      beginning_passes : FramesPass (own_passes c s r t left m there decoded) beginning.thread_status
      beginning_passes fs e a listed =
          let same : (record { running = new_machine_frame b.first (Ref object ∷ []) (local_kinds b.found.1) None; below = []; depth = c.limits.depth; room = frame_room }) ≡ fs = cc in
          frames_pass c s r t left m there (own_names c s r t left m there) decoded c.statics begun_state begun_fits
          (record { running = new_machine_frame b.first (Ref object ∷ []) (local_kinds b.found.1) None; below = []; depth = c.limits.depth; room = frame_room }) state_beginning.frames (starting (own_names c s r t left m there) named).thread_status a
          (subst (λ (y : Frames). IsListed (roots y) a) (sym same) listed)

      begun_refines : RefinesUnder begun_fits.whole (record c { threads = c.threads ++ beginning ∷ []; objects = decoded }) begun_state
      begun_refines = record {
        memory = record { heap = begun_fits.heap; static_values = begun_fits.refines; printed_is = begun_memory.printed_is };
        threads = agree_append (IsThread c.tree c.limits begun_fits.whole) c.threads s.threads
            (agree_weaken (IsThread c.tree c.limits (normally c s r).name) (IsThread c.tree c.limits begun_fits.whole) (thread_extends (normally c s r).name begun_fits.whole begun_fits.extends c.tree c.limits) c.threads s.threads (normally c s r).by.threads)
            (beginning ∷ []) (state_beginning ∷ [])
            (starting begun_fits.whole (own_extends c.tree c.limits.max_words c.posts c.progress (seat c s r t left m there) c.objects (normally c s r).name (own_names c s r t left m there) decoded c.statics begun_state begun_fits object.number (Born number) named), tt);
      }

      begun_follows : (operation : Operation) → IsAt c.tree m operation → HasSmallConstant operation → (operand : StateValue) → (running c s r t left m there).stack ≡ operand ∷ rest → Follows c s r t (counted_with c.threads (c.threads ++ beginning ∷ [], decoded, Continues))
      begun_follows operation at constant operand stack =
          let popped = popped_frames c s r t left m there operation at constant operand rest stack in
          finish c s r t left m there (own_names c s r t left m there) (c.threads ++ beginning ∷ []) (c.threads ++ beginning ∷ []) (join_thread c.posts (length c.threads) t) decoded c.statics c.printed begun_state (λ y. refl) begun_fits
          (room_of c s r t left m there (own_names c s r t left m there) decoded c.statics c.printed begun_state begun_memory) begun_names begun_refines
          (beside_more c s r t left m there (own_names c s r t left m there) decoded c.statics begun_state begun_fits beginning beginning_passes) false Continues refl (after_request Continues m) (
            after (running c s r t left m there) rest,
            below c s r t left m there,
            b.does,
            frames_whole c s r t left m there (own_names c s r t left m there) decoded c.statics begun_state begun_fits (after_request Continues m) (after (running c s r t left m there) rest ∷ below c s r t left m there) popped,
          )
          (charged_pass c s r t left m there (own_names c s r t left m there) decoded c.statics begun_state begun_fits (after_request Continues m) (after (running c s r t left m there) rest ∷ below c s r t left m there) popped Continues)

  -- ---- Start

  module _ (operation : Operation) (at : IsAt c.tree m operation) (constant : HasSmallConstant operation) where
    start_follows : (object : Addr) → (asks : Asks c s r t left m there Start object (answer_of m c.objects c.statics c.printed (Starts object))) → (after' : MachineState × Report) →
        option_map (counted_with c.threads) (start_thread (mutator_of c t).phase c.tree c.limits c.threads c.objects object) ≡ Some after' → Follows c s r t after'
    start_follows object asks after' h = by_object (start_asked object (answer_of m c.objects c.statics c.printed (Starts object)) asks)
      where
        leads : (y : List Thread × Objects × Effect) → start_thread (mutator_of c t).phase c.tree c.limits c.threads c.objects object ≡ Some y → Follows c s r t (counted_with c.threads y) → Follows c s r t after'
        leads y is f = subst (Follows c s r t) (same_Some (counted_with c.threads y) after' (sym (ap (option_map (counted_with c.threads)) is) ∙ h)) f

        fault_starts : (fault : Fault) → start_fault c.threads c.objects object ≡ Some fault → start_thread (mutator_of c t).phase c.tree c.limits c.threads c.objects object ≡ Some (c.threads, c.objects, Raises fault)
        fault_starts fault is = ap (λ o. option_map_or (λ y. Some (c.threads, c.objects, Raises y)) o (option_map (with_start (mutator_of c t).phase c.threads c.objects object) (thread_for c.tree c.limits c.objects object))) is

        thread_starts : (thread : Thread) → start_fault c.threads c.objects object ≡ None → thread_for c.tree c.limits c.objects object ≡ Some thread →
            start_thread (mutator_of c t).phase c.tree c.limits c.threads c.objects object ≡ Some (c.threads ++ thread ∷ [], stored_int (mutator_of c t).phase c.objects object 0 (length c.threads + 1), Continues)
        thread_starts thread is found =
            ap (λ o. option_map_or (λ y. Some (c.threads, c.objects, Raises y)) o (option_map (with_start (mutator_of c t).phase c.threads c.objects object) (thread_for c.tree c.limits c.objects object))) is ∙
            ap (option_map (with_start (mutator_of c t).phase c.threads c.objects object)) found ∙
            ap (λ o. Some (option_map_or (λ f. (c.threads, c.objects, Raises f)) o (c.threads ++ thread ∷ [], stored_int (mutator_of c t).phase c.objects object 0 (length c.threads + 1), Continues))) is

        by_object : IsAskedOf c s r t left m there (done c s r t left m there false) (λ n. start (here c s r t left m there) s (running c s r t left m there) (below c s r t left m there) n asks.rest) object → Follows c s r t after'
        by_object (inl (is, e)) = leads (c.threads, c.objects, Raises NullReference) (fault_starts NullReference (ap (start_fault c.threads c.objects) is)) (fault_follows NullReference refl e)
        by_object (inr (number, x, e, apart, named)) = by_start (is_started c s r t left m there asks.rest object number x apart e)
          where
            by_start : IsStarted c s r t left m there asks.rest object number x → Follows c s r t after'
            by_start (faulted fault refuses is e') = leads (c.threads, c.objects, Raises fault) (fault_starts fault is) (fault_follows fault refuses e')
            by_start (begun is b) =
                leads (c.threads ++ thread_at c.limits b.found (Ref object ∷ []) b.first ∷ [], stored_int (mutator_of c t).phase c.objects object 0 (length c.threads + 1), Continues)
                (thread_starts (thread_at c.limits b.found (Ref object ∷ []) b.first) is b.thread)
                (begun_follows asks.rest object number x named b operation at constant asks.operand asks.stack)

    -- a step that asks for a start
    pub starts : (threads : List Thread) → threads ≡ c.threads → (object : Addr) → Asks c s r t left m there Start object (answer_of m c.objects c.statics c.printed (Starts object)) → (after' : MachineState × Report) →
        option_map (counted_with threads) (start_thread (mutator_of c t).phase c.tree c.limits threads c.objects object) ≡ Some after' → Follows c s r t after'
    starts threads same object asks after' h = start_follows object asks after' (subst (λ ts. option_map (counted_with ts) (start_thread (mutator_of c t).phase c.tree c.limits ts c.objects object) ≡ Some after') same h)

  -- ---- that it can be answered

  -- the word that identifies the thread can be stored
  pub start_storable : (object : Addr) → Asks c s r t left m there Start object (answer_of m c.objects c.statics c.printed (Starts object)) → object ≢ null → is_word_storable (mutator_of c t).phase c.objects object 0 ≡ true
  start_storable object asks apart = elim (start_asked object (answer_of m c.objects c.statics c.printed (Starts object)) asks) [
    | inl none ↦ absurd (apart none.0)
    | inr found ↦ decoded_storable asks.rest object found.0 found.1 found.4
  ]

  -- where there is no fault a thread begins
  pub start_has_thread : (threads : List Thread) → threads ≡ c.threads → (object : Addr) → Asks c s r t left m there Start object (answer_of m c.objects c.statics c.printed (Starts object)) →
      start_fault threads c.objects object ≡ None → IsSome (thread_for c.tree c.limits c.objects object)
  start_has_thread threads same object asks none = by_object (start_asked object (answer_of m c.objects c.statics c.printed (Starts object)) asks)
    where
      no_fault : start_fault c.threads c.objects object ≡ None
      no_fault = subst (λ ts. start_fault ts c.objects object ≡ None) same none

      by_object : IsAskedOf c s r t left m there (done c s r t left m there false) (λ n. start (here c s r t left m there) s (running c s r t left m there) (below c s r t left m there) n asks.rest) object →
          IsSome (thread_for c.tree c.limits c.objects object)
      by_object (inl (is, e)) = none_is_some NullReference (sym no_fault ∙ ap (start_fault c.threads c.objects) is)
      by_object (inr (number, x, e, apart, named)) = by_start (is_started c s r t left m there asks.rest object number x apart e)
        where
          by_start : IsStarted c s r t left m there asks.rest object number x → IsSome (thread_for c.tree c.limits c.objects object)
          by_start (faulted fault refuses is e') = none_is_some fault (sym no_fault ∙ is)
          by_start (begun is b) = subst IsSome (sym b.thread) refl
