-- What the step of a thread leaves, by the effect of its instruction.
use Rattle.std.proofs.Common.{◌≡◌, ◌⊎◌, ◌<◌, ◌≤◌, ◌+◌, ◌==◌, ℕ, Bool, true, false, nat_le, if◌then◌else◌, is_some, List, [], ◌∷◌, ◌++◌, length, Option, Some, None, option_map, option_and_then, slice_get, refl, inl, inr, sym, ap, ◌∙◌, subst, arith, ◌-◌}
use Rattle.std.proofs.lemmas.Bool.Decides.{nat_tests}
use Rattle.std.proofs.lemmas.List.{length-append, length-set}
use Rattle.std.specs.Option.{option_map_or}
use Rattle.std.proofs.lemmas.Option.{same_Some}
use Rattle.interpreter.specs.cil_model.declared.events.Event.{Event}
use Rattle.interpreter.specs.cil_model.declared.events.Event.TheVariants.{Step, Ack, Gc}
use Rattle.interpreter.specs.cil_model.declared.limits.TheConstants.{MOST_THREADS}
use Rattle.interpreter.specs.cil_model.declared.reports.Fault.{Fault}
use Rattle.interpreter.specs.cil_model.declared.reports.Fault.TheVariants.{NullReference, ThreadState, TooManyThreads}
use Rattle.interpreter.specs.cil_model.declared.reports.Report.{Report}
use Rattle.interpreter.specs.cil_model.declared.trees.Method.{Method}
use Rattle.interpreter.specs.cil_model.declared.types.ClassName.{ClassName}
use Rattle.interpreter.specs.object_memory.declared.addresses.Addr.{Addr}
use Rattle.interpreter.specs.object_memory.declared.values.Value.TheVariants.{Ref}
use Rattle.interpreter.specs.object_memory.Objects.{Objects}
use Rattle.interpreter.specs.instructions.barriers.Barriers.{stored_int}
use Rattle.collector.specs.phase_handshake.Handshakes.{Handshakes, join_thread}
use Rattle.interpreter.specs.loaded_program.MethodNumbers.{number_of}
use Rattle.interpreter.specs.threads_monitors.Frames.{Frames}
use Rattle.interpreter.specs.threads_monitors.Threads.{join_effect, start_fault, thread_on, with_start, is_live_at, wait_for, is_live}
use Rattle.interpreter.specs.threads_monitors.declared.effects.Effect.{Effect}
use Rattle.interpreter.specs.threads_monitors.declared.effects.Effect.TheVariants.{Continues, Raises, Blocks}
use Rattle.interpreter.specs.threads_monitors.declared.threads.ThreadStatus.{ThreadStatus}
use Rattle.interpreter.specs.threads_monitors.declared.threads.ThreadStatus.TheVariants.{Live, Ended}
use Rattle.interpreter.specs.threads_monitors.declared.threads.Thread.{Thread}
use Rattle.interpreter.specs.Calls.{chosen_at}
use Rattle.interpreter.specs.Instructions.{IsDone, Answer}
use Rattle.interpreter.specs.declared.outcomes.InstructionOutcome.{InstructionOutcome}
use Rattle.interpreter.specs.declared.outcomes.InstructionOutcome.TheVariants.{OwnEffect, Starts, Joins}
use Rattle.simulation.specs.MachineStates.{MachineState, mutator_of}
use Rattle.simulation.specs.CollectorSteps.{flips_frames, thread_flipped, threads_after, with_flipped}
use Rattle.simulation.proofs.CollectorEvents.UnchangedState.{collected_keeps}
use Rattle.simulation.specs.Sound.{AreSeated}
use Rattle.simulation.specs.Transitions.{IsStatusTransition, IsThreadTransition, IsTransition, after_request, count_step, finish_step, left_by, run_member, start_thread, thread_at, thread_for, live_thread, seat_thread}
use Rattle.simulation.proofs.Threads.Seats.{begun_fits, counted_fits, live_fits, live_more, live_set}
use Rattle.interpreter.specs.reference_machine.Runs.{is_refusal}
use Rattle.simulation.proofs.Instructions.Correspondence.{is_refused_effect, is_refused_fault, is_refused_outcome}
use Rattle.simulation.proofs.Threads.StepResults.{refusal_of}
use Rattle.interpreter.proofs.cil_model.Lists.{none_is_some}

-- a thread that has begun beside these has its whole budget, and there was room for its number
pub record HasBegun (budget : ℕ) (before threads : List Thread) : Type 0 where
  pub new : Thread
  pub are : threads ≡ before ++ new ∷ []
  pub whole : new.steps_left ≡ budget
  pub lives : is_live new ≡ true
  pub room : length before < MOST_THREADS

-- a step was counted beside these threads and objects, with one thread more or none; memory was refused to it where it was to its instruction
pub record IsFinished (c : MachineState) (t left : ℕ) (a : Answer) (o : InstructionOutcome) (after : MachineState × Report) : Type 0 where
  pub threads : List Thread
  pub posts : Handshakes
  pub objects : Objects
  pub effect : Effect
  pub frames : Frames
  pub is : count_step (record (left_by c t left a) { threads = threads; posts = posts; objects = objects }) t left effect frames ≡ after
  pub refused : is_refused_effect effect ≡ is_refused_outcome o
  pub are :
      ((threads ≡ (left_by c t left a).threads) × (posts ≡ c.posts))
      ⊎ (HasBegun c.limits.budget (left_by c t left a).threads threads × (posts ≡ join_thread c.posts (length (left_by c t left a).threads) t))

module _ (c : MachineState) (t left : ℕ) (a : Answer) (after : MachineState × Report) where
  abbrev threads : List Thread
  threads = (left_by c t left a).threads

  -- no other thread begins
  alone : (o : InstructionOutcome) (e : Effect) (m : Frames) → is_refused_effect e ≡ is_refused_outcome o → count_step (left_by c t left a) t left e m ≡ after → IsFinished c t left a o after
  alone o e m refused is = record { threads = threads; posts = c.posts; objects = a.objects; effect = e; frames = m; is = is; refused = refused; are = inl (refl, refl) }

  module _ (object : Addr) where
    -- what begins is what the rule says
    begins_as : {X : Type 0} (look : Thread → X) (value : X) → ((found : ClassName × Method) (k : ℕ) → look (thread_at c.limits found (Ref object ∷ []) k) ≡ value) → (new : Thread) → thread_for c.tree c.limits a.objects object ≡ Some new → look new ≡ value
    begins_as look value each new is = by_found (chosen_at c.tree a.objects object run_member) is
      where
        by_number : (found : ClassName × Method) (k : Option ℕ) → option_map (thread_at c.limits found (Ref object ∷ [])) k ≡ Some new → look new ≡ value
        by_number found None e = none_is_some new e
        by_number found (Some k) e = sym (ap look (same_Some (thread_at c.limits found (Ref object ∷ []) k) new e)) ∙ each found k

        by_found : (o : Option (ClassName × Method)) → option_and_then (λ (found : ClassName × Method). option_map (thread_at c.limits found (Ref object ∷ [])) (number_of c.tree found)) o ≡ Some new → look new ≡ value
        by_found None e = none_is_some new e
        by_found (Some found) e = by_number found (number_of c.tree found) e

    -- without a fault there was room
    room_left : start_fault threads a.objects object ≡ None → length threads < MOST_THREADS
    room_left free = by_tests (object.number == 0) (is_some (thread_on a.objects object)) (nat_le MOST_THREADS (length threads)) refl free
      where
        by_tests : (null decoded full : Bool) → nat_le MOST_THREADS (length threads) ≡ full →
            ◌≡◌ {A = Option Fault} (if null then Some NullReference else if decoded then Some ThreadState else if full then Some TooManyThreads else None) None → length threads < MOST_THREADS
        by_tests true decoded full is e = none_is_some NullReference (sym e)
        by_tests false true full is e = none_is_some ThreadState (sym e)
        by_tests false false true is e = none_is_some TooManyThreads (sym e)
        by_tests false false false is e = grind (arith, nat_tests)

    -- no start is refused memory
    fault_plain : (x : Fault) → start_fault threads a.objects object ≡ Some x → is_refused_fault x ≡ false
    fault_plain x fault = by_tests (object.number == 0) (is_some (thread_on a.objects object)) (nat_le MOST_THREADS (length threads)) fault
      where
        same : (y : Fault) → is_refused_fault y ≡ false → Some y ≡ Some x → is_refused_fault x ≡ false
        same y plain e = ap is_refused_fault (sym (same_Some y x e)) ∙ plain

        by_tests : (null decoded full : Bool) → ◌≡◌ {A = Option Fault} (if null then Some NullReference else if decoded then Some ThreadState else if full then Some TooManyThreads else None) (Some x) → is_refused_fault x ≡ false
        by_tests true decoded full e = same NullReference refl e
        by_tests false true full e = same ThreadState refl e
        by_tests false false true e = same TooManyThreads refl e
        by_tests false false false e = none_is_some x e

    abbrev started_in : List Thread × Objects × Effect → MachineState × Report
    started_in x = count_step (record (left_by c t left a) { threads = x.0; posts = seat_thread x.2 c.posts (length threads) t; objects = x.1 }) t left x.2 (after_request x.2 a.frames)

    begins : option_map started_in (start_thread (mutator_of c t).phase c.tree c.limits threads a.objects object) ≡ Some after → IsFinished c t left a (Starts object) after
    begins is = by_fault (start_fault threads a.objects object) refl (thread_for c.tree c.limits a.objects object) refl is
      where
        by_fault : (f : Option Fault) → start_fault threads a.objects object ≡ f → (new : Option Thread) → thread_for c.tree c.limits a.objects object ≡ new →
            option_map started_in (option_map_or {U = Option (List Thread × Objects × Effect)} (λ x. Some (threads, a.objects, Raises x)) f (option_map (with_start (mutator_of c t).phase threads a.objects object) new)) ≡ Some after → IsFinished c t left a (Starts object) after
        by_fault (Some x) fault new decoded e = alone (Starts object) (Raises x) a.frames (fault_plain x fault) (same_Some (started_in (threads, a.objects, Raises x)) after e)
        by_fault None fault None decoded e = none_is_some after e
        by_fault None fault (Some new) decoded e =
            let plain : with_start (mutator_of c t).phase threads a.objects object new ≡ (threads ++ new ∷ [], stored_int (mutator_of c t).phase a.objects object 0 (length threads + 1), Continues) =
            ap (λ (f : Option Fault). option_map_or {U = List Thread × Objects × Effect} (λ x. (threads, a.objects, Raises x)) f (threads ++ new ∷ [], stored_int (mutator_of c t).phase a.objects object 0 (length threads + 1), Continues)) fault in
            record {
              threads = threads ++ new ∷ [];
              posts = join_thread c.posts (length threads) t;
              objects = stored_int (mutator_of c t).phase a.objects object 0 (length threads + 1);
              effect = Continues;
              frames = after_request Continues a.frames;
              is = ap started_in (sym plain) ∙ same_Some (started_in (with_start (mutator_of c t).phase threads a.objects object new)) after e;
              refused = refl;
              are = inr (
                record {
                  new = new;
                  are = refl;
                  whole = begins_as (λ (x : Thread). x.steps_left) c.limits.budget (λ found k. refl) new decoded;
                  lives = begins_as is_live true (λ found k. refl) new decoded;
                  room = room_left fault;
                },
                refl,
              );
            }

  -- nor is a join
  join_plain : (object : Addr) → is_refused_effect (join_effect threads a.objects object) ≡ false
  join_plain object = by_null (object.number == 0)
    where
      by_live : (live : Bool) → is_refused_effect (if live then Blocks else Continues) ≡ false
      by_live true = refl
      by_live false = refl

      by_thread : (n : Option ℕ) → is_refused_effect (wait_for threads n) ≡ false
      by_thread None = refl
      by_thread (Some n) = by_live (is_live_at threads n)

      by_null : (null : Bool) → is_refused_effect (if null then Raises NullReference else wait_for threads (thread_on a.objects object)) ≡ false
      by_null true = refl
      by_null false = by_thread (thread_on a.objects object)

  pub finished_by : (o : InstructionOutcome) → finish_step c t left a o ≡ Some after → IsFinished c t left a o after
  finished_by (OwnEffect e) is = alone (OwnEffect e) e a.frames refl (same_Some (count_step (left_by c t left a) t left e a.frames) after is)
  finished_by (Joins object) is =
      let effect = join_effect threads a.objects object in alone (Joins object) effect (after_request effect a.frames) (join_plain object) (same_Some (count_step (left_by c t left a) t left effect (after_request effect a.frames)) after is)
  finished_by (Starts object) is = begins object is

  module _ (o : InstructionOutcome) (done : finish_step c t left a o ≡ Some after) where
    way : IsFinished c t left a o after
    way = finished_by o done

    -- what the instruction printed is there
    pub finished_printed : after.0.printed ≡ a.printed
    finished_printed = sym (ap (λ (x : MachineState × Report). x.0.printed) way.is)

    -- its report is a refusal where memory was refused to the instruction
    pub finished_refusal : is_refusal after.1 ≡ is_refused_outcome o
    finished_refusal = sym (ap (λ (x : MachineState × Report). is_refusal x.1) way.is) ∙ refusal_of way.effect way.frames (left - 1) ∙ way.refused

    -- the program and its limits stay
    pub finished_program : (after.0.tree ≡ c.tree) × (after.0.limits ≡ c.limits)
    finished_program = (sym (ap (λ (x : MachineState × Report). x.0.tree) way.is), sym (ap (λ (x : MachineState × Report). x.0.limits) way.is))

    -- there are no more threads than there may be
    pub finished_few : length c.threads ≤ MOST_THREADS → length after.0.threads ≤ MOST_THREADS
    finished_few few =
        let counted_length : length after.0.threads ≡ length way.threads = ap (λ (x : MachineState × Report). length x.0.threads) (sym way.is) ∙ length-set way.threads t _ in
        let same : length threads ≡ length c.threads = length-set c.threads t _ in
        by_way counted_length same way.are
      where
        by_way : length after.0.threads ≡ length way.threads → length threads ≡ length c.threads → ((way.threads ≡ threads) × (way.posts ≡ c.posts)) ⊎ (HasBegun c.limits.budget threads way.threads × (way.posts ≡ join_thread c.posts (length threads) t)) → length after.0.threads ≤ MOST_THREADS
        by_way e same (inl (is, seats)) = let as_before : length way.threads ≡ length threads = ap length is in omega (arith, e, same, as_before, few)
        by_way e same (inr (more, seats)) =
            let one : length way.threads ≡ length threads + 1 = ap length more.are ∙ length-append threads (more.new ∷ []) in
            omega (arith, e, one, more.room)

    -- posts and seats fit the threads
    pub finished_fitting : AreSeated c.posts c.threads → is_live_at c.threads t ≡ true → AreSeated after.0.posts after.0.threads
    finished_fitting fit there =
        subst (λ (x : MachineState × Report). AreSeated x.0.posts x.0.threads) way.is (counted_fits way.posts way.threads (begun way.are).0 t way.effect way.frames left (begun way.are).1)
      where
        same : AreSeated c.posts threads
        same = live_fits c.posts c.threads fit t (live_thread left a.frames) refl there

        lives : is_live_at threads t ≡ true
        lives = live_set c.threads t t (live_thread left a.frames) refl there ∙ there

        begun : ((way.threads ≡ threads) × (way.posts ≡ c.posts)) ⊎ (HasBegun c.limits.budget threads way.threads × (way.posts ≡ join_thread c.posts (length threads) t)) → AreSeated way.posts way.threads × (is_live_at way.threads t ≡ true)
        begun (inl (is, seats)) = (
          subst (λ h. AreSeated h way.threads) (sym seats) (subst (AreSeated c.posts) (sym is) same),
          ap (λ ts. is_live_at ts t) is ∙ lives,
        )
        begun (inr (more, seats)) = (
          subst (λ h. AreSeated h way.threads) (sym seats) (subst (AreSeated (join_thread c.posts (length threads) t)) (sym more.are) (begun_fits c.posts threads same t more.new more.lives more.room lives)),
          ap (λ ts. is_live_at ts t) more.are ∙ live_more threads t more.new lives,
        )

-- ---- any event

-- an acknowledgement leaves the number of threads as it was
acknowledged_threads : (c : MachineState) (t : ℕ) → length (threads_after c t) ≡ length c.threads
acknowledged_threads c t = by_flip (flips_frames c t) (slice_get c.threads t)
  where
    by_flip : (b : Bool) (o : Option Thread) → length (if b then with_flipped c.objects c.threads t o else c.threads) ≡ length c.threads
    by_flip true (Some x) = length-set c.threads t (thread_flipped c.objects x)
    by_flip _ _ = refl

module _ (c : MachineState) (after : MachineState × Report) where
  -- what holds where nothing changes, and after each step of a live thread
  module _ (P : MachineState × Report → Type 0) (unchanged : (r : Report) → P (c, r))
      (stepped : (t left : ℕ) (m : Frames) (a : Answer) → slice_get c.threads t ≡ Some (live_thread left m) → IsDone c.tree (mutator_of c t) m c.objects c.statics c.printed a → finish_step c t left a a.outcome ≡ Some after → P after) where
    pub step_by : (t : ℕ) → IsTransition c (Step t) after → P after
    step_by t h = by_thread (slice_get c.threads t) refl h
      where
        by_thread_status : (left : ℕ) (thread_status : ThreadStatus) → slice_get c.threads t ≡ Some (record { thread_status = thread_status; steps_left = left }) → IsStatusTransition c t left thread_status after → P after
        by_thread_status left (Live m) there k = stepped t left m k.0 there k.1 k.2
        by_thread_status left (Ended x) there k = subst P (sym k) (unchanged _)

        by_thread : (o : Option Thread) → slice_get c.threads t ≡ o → IsThreadTransition c t o after → P after
        by_thread None is k = subst P (sym k) (unchanged _)
        by_thread (Some thread) is k = by_thread_status thread.steps_left thread.thread_status is k

  -- the program and its limits stay
  pub same_program : (e : Event) → IsTransition c e after → (after.0.tree ≡ c.tree) × (after.0.limits ≡ c.limits)
  same_program (Step t) h = step_by (λ x. (x.0.tree ≡ c.tree) × (x.0.limits ≡ c.limits)) (λ r. (refl, refl)) (λ t left m a there done is. finished_program c t left a after a.outcome is) t h
  same_program (Ack t) h = subst (λ (x : MachineState × Report). (x.0.tree ≡ c.tree) × (x.0.limits ≡ c.limits)) (sym h) (refl, refl)
  same_program Gc h = let keeps = collected_keeps c in subst (λ (x : MachineState × Report). (x.0.tree ≡ c.tree) × (x.0.limits ≡ c.limits)) (sym h) (keeps.tree, keeps.limits)

  pub transition_few : (e : Event) → IsTransition c e after → length c.threads ≤ MOST_THREADS → length after.0.threads ≤ MOST_THREADS
  transition_few (Step t) h few = step_by (λ x. length x.0.threads ≤ MOST_THREADS) (λ r. few) (λ t left m a there done is. finished_few c t left a after a.outcome is few) t h
  transition_few (Ack t) h few = subst (λ (x : MachineState × Report). length x.0.threads ≤ MOST_THREADS) (sym h) (subst (λ n. n ≤ MOST_THREADS) (sym (acknowledged_threads c t)) few)
  transition_few Gc h few = let keeps = collected_keeps c in subst (λ (x : MachineState × Report). length x.0.threads ≤ MOST_THREADS) (sym h) (subst (λ (ts : List Thread). length ts ≤ MOST_THREADS) (sym keeps.threads) few)

  -- posts and seats fit the threads after each step
  pub step_keeps_fitting : (t : ℕ) → IsTransition c (Step t) after → AreSeated c.posts c.threads → AreSeated after.0.posts after.0.threads
  step_keeps_fitting t transition fit =
      step_by (λ x. AreSeated x.0.posts x.0.threads) (λ r. fit) (λ t left m a there done is. finished_fitting c t left a after a.outcome is fit (ap (λ o. option_map_or is_live o false) there)) t transition
