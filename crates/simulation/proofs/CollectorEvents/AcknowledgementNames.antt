-- A machine represents its state after an acknowledgement too: marks change no object, and a forward has the name of what it forwards.
use Rattle.std.proofs.Common.{◌≡◌, ◌⊎◌, ◌≤◌, ℕ, true, List, ◌∷◌, map, Option, Some, None, slice_get, refl, inl, inr, sym, ap, ◌∙◌, subst, Bool, false, ◌&&◌, not, if◌then◌else◌}
use Rattle.std.specs.Prelude.{option_map, is_some, All}
use Rattle.std.proofs.lemmas.List.{length-map}
use Rattle.interpreter.specs.cil_model.declared.limits.Limits.{Limits}
use Rattle.interpreter.specs.cil_model.declared.phases.Phase.TheVariants.{ThreadFlip, Mark, HeapFlip}
use Rattle.interpreter.specs.cil_model.declared.reports.End.{End}
use Rattle.interpreter.specs.cil_model.declared.trees.Tree.{Tree}
use Rattle.interpreter.specs.reference_machine.Values.{ObjectName, Value as StateValue}
use Rattle.interpreter.specs.reference_machine.States.{Frame as StateFrame, State}
use Rattle.interpreter.specs.object_memory.declared.addresses.Addr.{Addr}
use Rattle.interpreter.specs.object_memory.declared.values.Value.{Value}
use Rattle.interpreter.specs.object_memory.declared.values.Value.TheVariants.{Ref}
use Rattle.interpreter.specs.object_memory.Cells.{null}
use Rattle.interpreter.specs.object_memory.Objects.{Objects}
use Rattle.interpreter.specs.object_memory.Spaces.{Spaces, forward}
use Rattle.interpreter.proofs.object_memory.TwoSpaces.TwoBlocks.{forward_null}
use Rattle.interpreter.specs.threads_monitors.Frames.{Frame, Frames}
use Rattle.interpreter.specs.threads_monitors.Roots.{frame_with_references, with_reference, with_references, roots}
use Rattle.interpreter.specs.threads_monitors.declared.threads.ThreadStatus.{ThreadStatus}
use Rattle.interpreter.specs.threads_monitors.declared.threads.ThreadStatus.TheVariants.{Live, Ended}
use Rattle.interpreter.specs.threads_monitors.declared.threads.Thread.{Thread}
use Rattle.interpreter.proofs.cil_model.Lists.{none_is_some, set_is_there}
use Rattle.collector.specs.MarkSteps.{with_all_marked}
use Rattle.collector.specs.phase_handshake.Handshakes.{Handshakes, is_phase, IsClose, is_open_to, phase_number, seat_after, seat_of}
use Rattle.collector.proofs.phase_handshake.Closeness.{same_phase, answered_close}
use Rattle.collector.proofs.Copies.VisibleCopies.{has_words, forward_is_new, has_copies}
use Rattle.collector.proofs.Marks.MarkChanges.{AreDarker, AreDarker-same}
use Rattle.collector.proofs.Marks.MarkedHeaps.{AreDarker-with_all_marked, HasNotBegun-with_all_marked, IsSoundHeap-with_all_marked, with_all_marked-noted, with_all_marked-pass, with_all_marked-literals}
use Rattle.simulation.specs.Agreement.{Agree}
use Rattle.simulation.specs.CollectorSteps.{status_flipped, thread_flipped, with_acknowledgement, with_flipped, with_thread_marked}
use Rattle.simulation.specs.MachineStates.{MachineState}
use Rattle.simulation.specs.Sound.{IsSound, AreSeated}
use Rattle.simulation.specs.Refines.{Names, IsValue, int32, int64, native, null_reference, reference, IsObject, IsFrame, AreFrames, StatusRefines, IsThread, Represents, RefinesUnder}
use Rattle.simulation.proofs.ListLaws.AgreeingLists.{agree_changed}
use Rattle.simulation.proofs.CollectorEvents.AcknowledgementCases.{after_acknowledgement, posts_after}
use Rattle.simulation.proofs.Representation.NormalContents.{normal_names, sound_is_held, thread_is_live}
use Rattle.simulation.proofs.Representation.NormalNames.{IsNormal}
use Rattle.simulation.proofs.CollectorEvents.RootMarks.{thread_marked, thread_values, all_of_listed, listed_of_all}
use Rattle.std.specs.Option.{option_map_or}
use Rattle.std.proofs.lemmas.Bool.{eq-eqb, cases_eq}
use Rattle.std.proofs.lemmas.Option.{same_Some}
use Rattle.interpreter.specs.cil_model.declared.phases.Phase.{Phase}
use Rattle.interpreter.specs.reference_machine.Cycles.{phase_after}
use Rattle.interpreter.specs.threads_monitors.Threads.{is_live, is_live_at}
use Rattle.interpreter.proofs.cil_model.SameLaws.{never}
use Rattle.collector.specs.References.{ValuePasses}
use Rattle.collector.specs.Phases.{is_live as is_live_address, is_marked_address, is_new_address}
use Rattle.collector.specs.Soundness.{IsListed, IsSoundHeap}
use Rattle.collector.specs.Holds.{HasNotBegun, IsOnTime, is_flipping, is_marking, may_hold, static_may_hold}
use Rattle.collector.specs.phase_handshake.declared.posts.Seat.{Seat}
use Rattle.collector.proofs.ThreadReferences.MarkingPhases.{held_again, may_hold_marked, phase_held, stays_held, stays_held-static}
use Rattle.collector.proofs.Addresses.Tests.{value_weakens}
use Rattle.simulation.proofs.Representation.FrameReferences.{frames_replaced, roots_pass, roots_passed}
use Rattle.simulation.proofs.Threads.Seats.{other_seat, own_seat, seat_cases, set_other}
use Rattle.simulation.proofs.CollectorEvents.RepresentedObjects.{refines_shown, darker_shows}
use Rattle.simulation.proofs.CollectedHeap.TwoCopies.{forward_named}

-- ---- An acknowledgement keeps a machine sound, in each phase that is posted.

-- ---- phases

marking_is_mark : (posted_phase : Phase) → is_marking posted_phase ≡ true → posted_phase ≡ Mark
marking_is_mark Mark h = refl
marking_is_mark _ h = never h

-- beyond ThreadFlip the phase before is one of flips too
flipping_before : (p : Phase) → is_flipping (phase_after p) ≡ true → is_phase (phase_after p) ThreadFlip ≡ false → is_flipping p ≡ true
flipping_before HeapFlip flipping later = never (sym later)
flipping_before ThreadFlip flipping later = refl
flipping_before _ flipping later = never flipping

-- what a thread may hold that is flipped is new
new_by : (h : Handshakes) (m : Spaces) (seat : Seat) (a : Addr) → is_flipping seat.phase ≡ true → is_flipping h.posted_phase ≡ true → may_hold h m seat a ≡ is_new_address m a
new_by h m seat a own posted_phase = rw (own, posted_phase) refl

-- ---- the new seat

module _ (posted_phase : Phase) (seat : Seat) where
  seen_after : is_phase seat.phase posted_phase ≡ true → seat_after posted_phase seat ≡ record seat { answered = true }
  seen_after seen = ap (λ b. if b then record seat { answered = true } else record seat { phase = posted_phase }) seen

  late_after : is_phase seat.phase posted_phase ≡ false → seat_after posted_phase seat ≡ record seat { phase = posted_phase }
  late_after late = ap (λ b. if b then record seat { answered = true } else record seat { phase = posted_phase }) late

  -- it is in the posted phase
  posted_after : (seat_after posted_phase seat).phase ≡ posted_phase
  posted_after = by_test (is_phase seat.phase posted_phase) refl
    where
      by_test : (b : Bool) → is_phase seat.phase posted_phase ≡ b → (seat_after posted_phase seat).phase ≡ posted_phase
      by_test true seen = ap (λ (x : Seat). x.phase) (seen_after seen) ∙ same_phase seat.phase posted_phase seen
      by_test false late = ap (λ (x : Seat). x.phase) (late_after late)

module _ (c : MachineState) (sound : IsSound c) (t : ℕ) (seat : Seat) (here : seat_of c.posts t ≡ Some seat) (opened : is_open_to c.posts.posted_phase c.posts.has_round seat ≡ true) where
  abbrev next : Seat
  next = seat_after c.posts.posted_phase seat

  abbrev posts : Handshakes
  posts = posts_after c t seat

  abbrev m : Spaces
  m = c.objects.spaces

  cases_of : (n : ℕ) (x : Seat) → seat_of posts n ≡ Some x → ((n ≡ t) × (x ≡ next)) ⊎ ((n ≡ t → ⊥) × (seat_of c.posts n ≡ Some x))
  cases_of = seat_cases c.posts t next seat here

  -- the same threads are live
  seated_then : (threads : List Thread) → ((n : ℕ) → is_live_at threads n ≡ is_live_at c.threads n) → AreSeated posts threads
  seated_then threads same = record { close = answered_close c.posts sound.seated.close t seat here opened; live = λ n. same n ∙ sound.seated.live n ∙ seats n (cases_eq n t) }
    where
      seats : (n : ℕ) → (n ≡ t) ⊎ (n ≡ t → ⊥) → is_some (seat_of c.posts n) ≡ is_some (seat_of posts n)
      seats n (inl is) =
          ap (λ k. is_some (seat_of c.posts k)) is ∙ ap is_some here ∙ ap is_some (sym (own_seat c.posts t next seat here)) ∙ ap (λ k. is_some (seat_of posts k)) (sym is)
      seats n (inr other) = ap is_some (sym (other_seat c.posts t n (Some next) other))

  -- the machine is sound with these threads and objects, where it holds in them what it may
  sound_then : (threads : List Thread) (o : Objects) → ((n : ℕ) → is_live_at threads n ≡ is_live_at c.threads n) →
      IsSoundHeap c.tree c.posts.posted_phase c.posts.has_round c.limits.max_words c.progress o.spaces →
      ((n : ℕ) (x : Seat) → seat_of c.posts n ≡ Some x → IsOnTime x.phase c.posts.posted_phase c.posts.has_round c.progress o.spaces) →
      ((n left : ℕ) (fs : Frames) (x : Seat) → (n ≡ t → ⊥) → slice_get threads n ≡ Some (record { thread_status = Live fs; steps_left = left }) → seat_of c.posts n ≡ Some x → (a : Addr) → IsListed (roots fs) a → may_hold c.posts o.spaces x a ≡ true) →
      ((left : ℕ) (fs : Frames) → slice_get threads t ≡ Some (record { thread_status = Live fs; steps_left = left }) → (a : Addr) → IsListed (roots fs) a → may_hold c.posts o.spaces next a ≡ true) →
      ((number : ℕ) (v : Value) → slice_get c.statics number ≡ Some v → ValuePasses (static_may_hold c.posts.posted_phase o.spaces c.progress number) v) →
      IsSound (record c { threads = threads; posts = posts; objects = o })
  sound_then threads o same heap on_time others own statics = record {
    seated = seated_then threads same;
    heap = heap;
    rounds = sound.rounds;
    on_time = λ n x is. on_time_then n x (cases_of n x is);
    threads = λ n left fs x there is. threads_then n left fs x there (cases_of n x is);
    statics = statics;
  }
    where
      on_time_then : (n : ℕ) (x : Seat) → ((n ≡ t) × (x ≡ next)) ⊎ ((n ≡ t → ⊥) × (seat_of c.posts n ≡ Some x)) → IsOnTime x.phase c.posts.posted_phase c.posts.has_round c.progress o.spaces
      on_time_then n x (inl (is, new)) late = absurd (late (ap (λ (y : Seat). y.phase) new ∙ posted_after c.posts.posted_phase seat))
      on_time_then n x (inr (other, was)) late = on_time n x was late

      threads_then : (n left : ℕ) (fs : Frames) (x : Seat) → slice_get threads n ≡ Some (record { thread_status = Live fs; steps_left = left }) → ((n ≡ t) × (x ≡ next)) ⊎ ((n ≡ t → ⊥) × (seat_of c.posts n ≡ Some x)) →
          (a : Addr) → IsListed (roots fs) a → may_hold c.posts o.spaces x a ≡ true
      threads_then n left fs x there (inl (is, new)) a listed =
          subst (λ y. may_hold c.posts o.spaces y a ≡ true) (sym new) (own left fs (subst (λ k. slice_get threads k ≡ Some (record { thread_status = Live fs; steps_left = left })) is there) a listed)
      threads_then n left fs x there (inr (other, was)) a listed = others n left fs x other there was a listed

  -- with the same threads and objects, where the thread may hold what it might
  same_then : ((a : Addr) → may_hold c.posts m seat a ≡ true → may_hold c.posts m next a ≡ true) → IsSound (record c { posts = posts })
  same_then keep = sound_then c.threads c.objects (λ n. refl) sound.heap sound.on_time
      (λ n left fs x other there was. sound.threads n left fs x there was)
      (λ left fs there a listed. keep a (sound.threads t left fs seat there here a listed))
      sound.statics

  -- ---- a round is answered

  module _ (seen : is_phase seat.phase c.posts.posted_phase ≡ true) where
    same_own : next.phase ≡ seat.phase
    same_own = ap (λ (x : Seat). x.phase) (seen_after c.posts.posted_phase seat seen)

    -- in Mark
    module _ (marking : is_marking c.posts.posted_phase ≡ true) where
      abbrev vs : List Value
      vs = thread_values (slice_get c.threads t)

      abbrev marked : Objects
      marked = with_all_marked c.objects vs

      in_mark : c.posts.posted_phase ≡ Mark
      in_mark = marking_is_mark c.posts.posted_phase marking

      darker : AreDarker m marked.spaces
      darker = AreDarker-with_all_marked vs c.objects sound.heap.blocks.spaces

      noted : m.has_marked ≡ true → marked.spaces.has_marked ≡ true
      noted = with_all_marked-noted vs c.objects

      heap_then : IsSoundHeap c.tree c.posts.posted_phase c.posts.has_round c.limits.max_words c.progress marked.spaces
      heap_then = subst (λ q. IsSoundHeap c.tree q c.posts.has_round c.limits.max_words c.progress marked.spaces) (sym in_mark)
          (IsSoundHeap-with_all_marked c.tree c.posts.has_round c.limits.max_words c.progress vs c.objects (subst (λ q. IsSoundHeap c.tree q c.posts.has_round c.limits.max_words c.progress m) in_mark sound.heap))

      on_time_then : (n : ℕ) (x : Seat) → seat_of c.posts n ≡ Some x → IsOnTime x.phase c.posts.posted_phase c.posts.has_round c.progress marked.spaces
      on_time_then n x is late =
          let was : HasNotBegun Mark c.posts.has_round c.progress m = subst (λ q. HasNotBegun q c.posts.has_round c.progress m) in_mark (sound.on_time n x is late) in
          subst (λ q. HasNotBegun q c.posts.has_round c.progress marked.spaces) (sym in_mark) (HasNotBegun-with_all_marked vs c.objects sound.heap.blocks.spaces c.posts.has_round c.progress was)

      -- all that the thread's frames hold is marked
      own_then : (left : ℕ) (fs : Frames) → slice_get c.threads t ≡ Some (record { thread_status = Live fs; steps_left = left }) → (a : Addr) → IsListed (roots fs) a → may_hold c.posts marked.spaces next a ≡ true
      own_then left fs there a listed =
          may_hold_marked c.posts marked.spaces next a in_mark
          (listed_of_all (is_marked_address marked.spaces) (roots fs) (subst (All (ValuePasses (is_marked_address marked.spaces))) held (with_all_marked-pass vs c.objects sound.heap.blocks.spaces live)) a listed)
        where
          held : vs ≡ map Ref (roots fs)
          held = ap thread_values there

          live : All (ValuePasses (is_live_address Mark m)) vs
          live = subst (All (ValuePasses (is_live_address Mark m))) (sym held)
              (all_of_listed (is_live_address Mark m) (roots fs) (λ b is. subst (λ q. is_live_address q m b ≡ true) in_mark (thread_is_live c (sound_is_held c sound) t left fs there b is)))

      marks_sound : IsSound (record c { posts = posts; objects = with_thread_marked c.objects (slice_get c.threads t) })
      marks_sound = subst (λ o. IsSound (record c { posts = posts; objects = o })) (sym (thread_marked c.objects (slice_get c.threads t)))
          (sound_then c.threads marked (λ n. refl) heap_then on_time_then
          (λ n left fs x other there was a listed. stays_held c.posts m marked.spaces x darker noted a (sound.threads n left fs x there was a listed))
          own_then
          (λ number v there. value_weakens (static_may_hold c.posts.posted_phase m c.progress number) (static_may_hold c.posts.posted_phase marked.spaces c.progress number) (stays_held-static c.posts.posted_phase m marked.spaces c.progress number darker) v (sound.statics number v there)))

    -- in other phases it says nothing of what the thread holds
    answers_sound : is_marking c.posts.posted_phase ≡ false → IsSound (record c { posts = posts })
    answers_sound other = same_then (held_again c.posts c.posts m m seat next (AreDarker-same m m refl refl refl) refl same_own (ap (λ b. b && (c.posts.has_round && (next.answered && not m.has_marked))) other))

  -- ---- a phase is acknowledged

  module _ (late : is_phase seat.phase c.posts.posted_phase ≡ false) where
    before : phase_after seat.phase ≡ c.posts.posted_phase
    before = by_case (sound.seated.close.phases t seat here)
      where
        by_case : IsClose c.posts seat → phase_after seat.phase ≡ c.posts.posted_phase
        by_case (inl same) = never (sym late ∙ eq-eqb (phase_number seat.phase) (phase_number c.posts.posted_phase) (ap phase_number same))
        by_case (inr (is, open_to)) = is

    same_answer : next.answered ≡ seat.answered
    same_answer = ap (λ (x : Seat). x.answered) (late_after c.posts.posted_phase seat late)

    -- but for ThreadFlip
    continues_sound : is_phase c.posts.posted_phase ThreadFlip ≡ false → IsSound (record c { posts = posts })
    continues_sound later = same_then (λ a held. by_flips a held (is_flipping c.posts.posted_phase) refl)
      where
        by_flips : (a : Addr) → may_hold c.posts m seat a ≡ true → (b : Bool) → is_flipping c.posts.posted_phase ≡ b → may_hold c.posts m next a ≡ true
        by_flips a held false early = phase_held c.posts c.posts m seat next refl refl same_answer early a held
        by_flips a held true flipping =
            let was : is_flipping seat.phase ≡ true = flipping_before seat.phase (ap is_flipping before ∙ flipping) (ap (λ q. is_phase q ThreadFlip) before ∙ later) in
            new_by c.posts m next a (ap is_flipping (posted_after c.posts.posted_phase seat) ∙ flipping) flipping ∙ sym (new_by c.posts m seat a was flipping) ∙ held

    -- where the frames are flipped
    module _ (flip : is_phase c.posts.posted_phase ThreadFlip ≡ true) where
      in_flip : c.posts.posted_phase ≡ ThreadFlip
      in_flip = same_phase c.posts.posted_phase ThreadFlip flip

      abbrev flipped : List Thread
      flipped = with_flipped c.objects c.threads t (slice_get c.threads t)

      -- another thread is as it was
      others_stay : (n : ℕ) → (n ≡ t → ⊥) → slice_get flipped n ≡ slice_get c.threads n
      others_stay n other = by_thread (slice_get c.threads t)
        where
          by_thread : (x : Option Thread) → slice_get (with_flipped c.objects c.threads t x) n ≡ slice_get c.threads n
          by_thread None = refl
          by_thread (Some x) = set_other c.threads t n (thread_flipped c.objects x) other

      -- and this one is flipped
      own_is : (x : Thread) → slice_get c.threads t ≡ Some x → slice_get flipped t ≡ Some (thread_flipped c.objects x)
      own_is x there = ap (λ o. slice_get (with_flipped c.objects c.threads t o) t) there ∙ set_is_there c.threads t (thread_flipped c.objects x) x there

      own_gone : slice_get c.threads t ≡ None → slice_get flipped t ≡ None
      own_gone none = ap (λ o. slice_get (with_flipped c.objects c.threads t o) t) none ∙ none

      live_then : (n : ℕ) → is_live_at flipped n ≡ is_live_at c.threads n
      live_then n = by_index (cases_eq n t)
        where
          same_status : (s : ThreadStatus) (left : ℕ) → is_live (thread_flipped c.objects (record { thread_status = s; steps_left = left })) ≡ is_live (record { thread_status = s; steps_left = left })
          same_status (Live fs) left = refl
          same_status (Ended e) left = refl

          here_then : (o : Option Thread) → slice_get c.threads t ≡ o → is_live_at flipped t ≡ is_live_at c.threads t
          here_then None none = ap (λ o. option_map_or is_live o false) (own_gone none ∙ sym none)
          here_then (Some x) there = ap (λ o. option_map_or is_live o false) (own_is x there) ∙ same_status x.thread_status x.steps_left ∙ ap (λ o. option_map_or is_live o false) (sym there)

          by_index : (n ≡ t) ⊎ (n ≡ t → ⊥) → is_live_at flipped n ≡ is_live_at c.threads n
          by_index (inl is) = ap (is_live_at flipped) is ∙ here_then (slice_get c.threads t) refl ∙ ap (is_live_at c.threads) (sym is)
          by_index (inr other) = ap (λ o. option_map_or is_live o false) (others_stay n other)

      -- all that the thread's frames hold is new then
      new_after : (left : ℕ) (fs : Frames) → slice_get c.threads t ≡ Some (record { thread_status = Live fs; steps_left = left }) → (a : Addr) → IsListed (roots (with_references (forward m) fs)) a → is_new_address m a ≡ true
      new_after left fs there =
          roots_pass (is_new_address m) (with_references (forward m) fs)
          (frames_replaced (is_live_address c.posts.posted_phase m) (is_new_address m) (forward m)
          (forward_is_new c.tree c.posts.posted_phase c.progress m sound.heap.blocks.spaces sound.heap.copies (ap has_copies in_flip))
          (fs.running ∷ fs.below)
          (roots_passed (is_live_address c.posts.posted_phase m) fs (thread_is_live c (sound_is_held c sound) t left fs there)))

      new_then : (left : ℕ) (fs : Frames) → slice_get flipped t ≡ Some (record { thread_status = Live fs; steps_left = left }) → (a : Addr) → IsListed (roots fs) a → is_new_address m a ≡ true
      new_then left fs there a listed = by_thread (slice_get c.threads t) refl
        where
          by_thread_status : (s : ThreadStatus) (n : ℕ) → slice_get c.threads t ≡ Some (record { thread_status = s; steps_left = n }) → status_flipped c.objects s ≡ Live fs → is_new_address m a ≡ true
          by_thread_status (Live gs) n was is = new_after n gs was a (subst (λ x. IsListed (roots x) a) (sym frames_are) listed)
            where
              frames_are : with_references (forward m) gs ≡ fs
              frames_are = cc
          by_thread_status (Ended e) n was is = absurd cc

          by_thread : (o : Option Thread) → slice_get c.threads t ≡ o → is_new_address m a ≡ true
          by_thread None none = none_is_some _ (sym (own_gone none) ∙ there)
          by_thread (Some x) was = by_thread_status x.thread_status x.steps_left was (ap (λ (y : Thread). y.thread_status) (same_Some (thread_flipped c.objects x) (record { thread_status = Live fs; steps_left = left }) (sym (own_is x was) ∙ there)))

      flips_sound : IsSound (record c { threads = flipped; posts = posts })
      flips_sound = sound_then flipped c.objects live_then sound.heap sound.on_time
          (λ n left fs x other there was. sound.threads n left fs x (sym (others_stay n other) ∙ there) was)
          (λ left fs there a listed. new_by c.posts m next a (ap is_flipping (posted_after c.posts.posted_phase seat) ∙ ap is_flipping in_flip) (ap is_flipping in_flip) ∙ new_then left fs there a listed)
          sound.statics

-- an acknowledgement keeps a machine sound
pub acknowledgement_sound : (c : MachineState) (t : ℕ) → IsSound c → IsSound (with_acknowledgement c t).0
acknowledgement_sound c t sound =
    after_acknowledgement c t IsSound
    (record {
      nothing = sound;
      marks = λ seat here opened seen marking. marks_sound c sound t seat here opened seen marking;
      answers = λ seat here opened seen other. answers_sound c sound t seat here opened seen other;
      continues = λ seat here opened late later. continues_sound c sound t seat here opened late later;
      flips = λ seat here opened late flip. flips_sound c sound t seat here opened late flip;
    })

-- ---- flips

module _ (name : Names) (g : Addr → Addr) (null_stays : g null ≡ null) (named : (a : Addr) (n : ObjectName) → name a.number ≡ Some n → name (g a).number ≡ Some n) where
  value_flipped : (v : Value) (u : StateValue) → IsValue name v u → IsValue name (with_reference g v) u
  value_flipped v u (int32 z fits) = int32 z fits
  value_flipped v u (int64 z fits) = int64 z fits
  value_flipped v u (native z fits) = native z fits
  value_flipped v u null_reference = subst (λ a. IsValue name a u) (ap Ref (sym null_stays)) null_reference
  value_flipped v u (reference a n is) = reference (g a) n (named a n is)

  values_flipped : (vs : List Value) (us : List StateValue) → Agree (IsValue name) vs us → Agree (IsValue name) (map (with_reference g) vs) us
  values_flipped (v ∷ vs) (u ∷ us) h = (value_flipped v u h.0, values_flipped vs us h.1)
  values_flipped _ _ h = h

  object_flipped : (o : Option Addr) (n : Option ObjectName) → IsObject name o n → IsObject name (option_map g o) n
  object_flipped (Some a) (Some n) h = named a n h
  object_flipped _ _ h = h

  module _ (tree : Tree) where
    frame_flipped : (f : Frame) (x : StateFrame) → IsFrame tree name f x → IsFrame tree name (frame_with_references g f) x
    frame_flipped f x h = record {
      method = h.method;
      pc = h.pc;
      arguments = values_flipped f.arguments x.arguments h.arguments;
      locals = values_flipped f.locals x.locals h.locals;
      stack = values_flipped f.stack x.stack h.stack;
      constructed = object_flipped f.constructed x.constructed h.constructed;
    }

    frames_flipped : (fs : List Frame) (xs : List StateFrame) → Agree (IsFrame tree name) fs xs → Agree (IsFrame tree name) (map (frame_with_references g) fs) xs
    frames_flipped (f ∷ fs) (x ∷ xs) h = (frame_flipped f x h.0, frames_flipped fs xs h.1)
    frames_flipped _ _ h = h

    -- the frames of a thread with other references of the same names
    pub live_flipped : (limits : Limits) (m : Frames) (xs : List StateFrame) → AreFrames tree limits name m xs → AreFrames tree limits name (with_references g m) xs
    live_flipped limits m xs h = record {
      frames = frames_flipped (m.running ∷ m.below) xs h.frames;
      depth = h.depth;
      few = subst (λ n. n ≤ limits.depth) (sym (length-map (m.running ∷ m.below) (frame_with_references g))) h.few;
      room = h.room;
    }

-- ---- the whole

module _ (c : MachineState) (s : State) (name : Names) (sound : IsSound c) (refines : RefinesUnder name c s) where
  -- other posts change nothing
  beside_posts : (new_posts : Handshakes) → RefinesUnder name (record c { posts = new_posts }) s
  beside_posts new_posts = record { memory = refines.memory; threads = refines.threads }

  marks_refine : (new_posts : Handshakes) (thread : Option Thread) → RefinesUnder name (record c { posts = new_posts; objects = with_thread_marked c.objects thread }) s
  marks_refine new_posts thread = subst (λ o. RefinesUnder name (record c { posts = new_posts; objects = o }) s) (sym (thread_marked c.objects thread))
      (let spaces = sound.heap.blocks.spaces in
      let darker = AreDarker-with_all_marked (thread_values thread) c.objects spaces in
      let marks = refines_shown name c s refines (with_all_marked c.objects (thread_values thread)) (darker_shows name c.objects (with_all_marked c.objects (thread_values thread)) spaces (with_all_marked-literals (thread_values thread) c.objects) darker) in
      record { memory = marks.memory; threads = marks.threads })

  module _ (normal : IsNormal c.posts.posted_phase c.objects.spaces name) (flip : is_phase c.posts.posted_phase ThreadFlip ≡ true) where
    status_refines : (x : ThreadStatus) (xs : List StateFrame) (e : Option End) → StatusRefines c.tree c.limits name x xs e → StatusRefines c.tree c.limits name (status_flipped c.objects x) xs e
    status_refines (Live fs) xs None h = live_flipped name (forward c.objects.spaces) (forward_null c.objects.spaces sound.heap.blocks.spaces)
        (forward_named c.tree c.posts.posted_phase c.posts.has_round c.limits.max_words c.progress c.objects.spaces sound.heap (ap has_words (same_phase c.posts.posted_phase ThreadFlip flip)) name normal.filled) c.tree c.limits fs xs h
    status_refines _ xs _ h = h

    flips_refine : (new_posts : Handshakes) (t : ℕ) (o : Option Thread) → slice_get c.threads t ≡ o → RefinesUnder name (record c { threads = with_flipped c.objects c.threads t o; posts = new_posts }) s
    flips_refine new_posts t None is = beside_posts new_posts
    flips_refine new_posts t (Some x) is = record {
      memory = refines.memory;
      threads = agree_changed (IsThread c.tree c.limits name) c.threads s.threads t x (thread_flipped c.objects x) is (λ u h. record { thread_status = status_refines x.thread_status u.frames u.ended h.thread_status; steps_left = h.steps_left }) refines.threads;
    }

-- what stands under normal names stands under them after an acknowledgement
pub acknowledgement_refines : (c : MachineState) (t : ℕ) (s : State) (name : Names) → IsNormal c.posts.posted_phase c.objects.spaces name → RefinesUnder name c s → IsSound c → RefinesUnder name (with_acknowledgement c t).0 s
acknowledgement_refines c t s name normal refines sound =
    after_acknowledgement c t (λ x. RefinesUnder name x s)
    (record {
      nothing = refines;
      marks = λ seat here opened seen marking. marks_refine c s name sound refines (posts_after c t seat) (slice_get c.threads t);
      answers = λ seat here opened seen other. beside_posts c s name sound refines (posts_after c t seat);
      continues = λ seat here opened late later. beside_posts c s name sound refines (posts_after c t seat);
      flips = λ seat here opened late flip. flips_refine c s name sound refines normal flip (posts_after c t seat) t (slice_get c.threads t) refl;
    })

-- so a machine that represents a state represents it after an acknowledgement
pub acknowledgement_represents : (c : MachineState) (t : ℕ) (s : State) → Represents c s → Represents (with_acknowledgement c t).0 s
acknowledgement_represents c t s r =
    let normal = normal_names c (sound_is_held c r.sound) r.accepted.legal s r.typed r.refines.name r.refines.by in
    record {
      accepted = r.accepted;
      limits = r.limits;
      typed = r.typed;
      counted = r.counted;
      sound = acknowledgement_sound c t r.sound;
      refines = record { name = normal.name; by = acknowledgement_refines c t s normal.name normal.normal normal.by r.sound };
    }
