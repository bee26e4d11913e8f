-- Events of the collector keep a machine sound, in each phase that is posted.
use Rattle.std.proofs.Common.{◌≤◌, ◌≡◌, ◌≢◌, ℕ, Bool, true, false, List, [], ◌∷◌, map, Option, Some, None, is_some, option_map, slice_get, refl, sym, ap, ◌∙◌, subst}
use Rattle.std.specs.Prelude.{not, option_and_then}
use Rattle.std.proofs.lemmas.Option.{same_Some, slice_get-map}
use Rattle.interpreter.specs.cil_model.declared.trees.Tree.{Tree}
use Rattle.interpreter.specs.cil_model.declared.phases.Phase.{Phase}
use Rattle.interpreter.specs.cil_model.declared.phases.Phase.TheVariants.{Idle, Mark, Allocate, Copy, PreFlip, HeapFlip, ThreadFlip, Reclaim}
use Rattle.interpreter.specs.cil_model.declared.reports.Report.{Report}
use Rattle.interpreter.specs.reference_machine.Cycles.{phase_after}
use Rattle.interpreter.specs.object_memory.declared.addresses.Addr.{Addr}
use Rattle.interpreter.specs.object_memory.declared.values.Value.{Value}
use Rattle.interpreter.specs.object_memory.Cells.{cell_in, used_words}
use Rattle.interpreter.specs.object_memory.Objects.{Objects}
use Rattle.interpreter.specs.object_memory.Spaces.{Spaces}
use Rattle.collector.specs.Phases.{is_live, is_marked_cell, no_progress}
use Rattle.collector.specs.References.{ValuePasses}
use Rattle.collector.specs.Soundness.{IsSoundHeap}
use Rattle.collector.specs.MarkSteps.{is_closed, is_none_grey, next_mark_step, statics_scanned}
use Rattle.collector.specs.CopySteps.{next_copy_step, next_shell_step}
use Rattle.collector.specs.Flips.{next_clear_step, next_flip_step, retire_old}
use Rattle.collector.specs.Holds.{hold_of, is_flipping, is_marking, may_hold, static_may_hold}
use Rattle.collector.specs.declared.progress.Progress.{Progress}
use Rattle.collector.specs.phase_handshake.Handshakes.{Handshakes, all_seen, has_seen, posted_round, seat_of, clear_answer}
use Rattle.collector.specs.phase_handshake.declared.posts.Seat.{Seat}
use Rattle.simulation.specs.MachineStates.{MachineState}
use Rattle.simulation.specs.Sound.{IsSound}
use Rattle.simulation.proofs.CollectorEvents.NextBlockSize.{next_grows, next_within}
use Rattle.simulation.specs.CollectorSteps.{collect, cycle_ended, cycle_opened, next_posted, initial_words, round_posted, rounds, work}
use Rattle.interpreter.proofs.cil_model.Lists.{none_is_some}
use Rattle.collector.proofs.phase_handshake.Closeness.{cycle_close, passes_at, phase_close, round_close, same_phase, seat_here, seat_there}
use Rattle.collector.proofs.Addresses.Tests.{marked_cell, may_hold_live, never, new_cell, old_cell, value_weakens}
use Rattle.collector.proofs.Marks.MarkChanges.{AreDarker-same}
use Rattle.collector.proofs.Marks.MarkedHeaps.{AreDarker-with_all_marked, with_all_marked-noted}
use Rattle.collector.proofs.Marks.MarkWork.{AreDarker-next_mark_step, IsSoundHeap-next_mark_step, IsSoundHeap-statics_scanned, next_mark_step-noted, next_mark_step-progress, next_mark_step-works, statics_scanned-pass}
use Rattle.collector.proofs.PhaseChanges.Rounds.{HasNotBegun-opened, HasNotBegun-posted, IsSoundHeap-closed, IsSoundHeap-opened, IsSoundHeap-round}
use Rattle.collector.proofs.ThreadReferences.MarkingPhases.{allocate_held, allocate_held-static, closed_held, closed_held-static, may_hold_any, opened_held, round_held, stays_held, stays_held-static}
use Rattle.collector.proofs.Addresses.GrowingBlocks.{TestsStay, passes_stays}
use Rattle.collector.proofs.PhaseChanges.StaticFlips.{StaticsPass, all_flipped, flipped_sound, flipped_statics_pass, statics_stay, statics_to_heap_flip, statics_to_idle, statics_to_reclaim}
use Rattle.collector.proofs.Copies.AllocateWork.{copy_posted, looked_sound}
use Rattle.collector.proofs.Copies.UnchangedReads.{copied_new, copied_old, looked_new, looked_old}
use Rattle.collector.proofs.Copies.CopyWork.{copied_sound, pre_flip_live, pre_flip_posted}
use Rattle.collector.proofs.PhaseChanges.FlipPhases.{flip_posted}
use Rattle.collector.proofs.PhaseChanges.ReclaimWork.{cleared_sound, cleared_tests, retired_sound}
use Rattle.collector.proofs.ThreadReferences.FlipPhases.{end_keeps_held, flip_keeps_held}
use Rattle.simulation.proofs.CollectorEvents.EventCases.{IsWork, allocates_copy, by_cases, clears_object, copies_word, ends_allocation, ends_copying, ends_cycle, ends_heap_flip, ends_marking, flips_static, marks_object, opens_cycle, posting, posts_heap_flip, posts_reclaim, posts_round, scans_statics, waits_for_round}
use Rattle.std.proofs.Math.Bool.{and-false}

-- ---- seats

-- where all have seen the posted phase, each is in it
pub seen_phase : (h : Handshakes) → all_seen h ≡ true → (t : ℕ) (seat : Seat) → seat_of h t ≡ Some seat → seat.phase ≡ h.posted_phase
seen_phase h seen t seat there = same_phase seat.phase h.posted_phase (passes_at (has_seen h.posted_phase) h.seats t seat seen (seat_there h t seat there))

module _ (h k : Handshakes) (asked : k.seats ≡ map clear_answer h.seats) (t : ℕ) where
  -- a seat without its acknowledgement was there before
  was_seat : (seat : Seat) → seat_of k t ≡ Some seat → (was : Seat) × (seat_of h t ≡ Some was) × (seat ≡ record was { answered = false })
  was_seat seat there = by_index (slice_get h.seats t) refl
    where
      found : option_map clear_answer (slice_get h.seats t) ≡ Some (Some seat)
      found = sym (slice_get-map clear_answer h.seats t) ∙ (ap (λ l. slice_get l t) (sym asked) ∙ seat_there k t seat there)

      by_index : (o : Option (Option Seat)) → slice_get h.seats t ≡ o → (was : Seat) × (seat_of h t ≡ Some was) × (seat ≡ record was { answered = false })
      by_index None is = none_is_some (Some seat) (sym (ap (option_map clear_answer) is) ∙ found)
      by_index (Some None) is = none_is_some seat (same_Some None (Some seat) (sym (ap (option_map clear_answer) is) ∙ found))
      by_index (Some (Some was)) is =
          (was, seat_here h t was is, sym (same_Some (record was { answered = false }) seat (same_Some (Some (record was { answered = false })) (Some seat) (sym (ap (option_map clear_answer) is) ∙ found))))

  -- the same threads have one
  same_seats : is_some (seat_of h t) ≡ is_some (seat_of k t)
  same_seats = sym (ap (λ l. is_some (option_and_then (λ (s : Option Seat). s) (slice_get l t))) asked
      ∙ (ap (λ o. is_some (option_and_then (λ (s : Option Seat). s) o)) (slice_get-map clear_answer h.seats t) ∙ by_index (slice_get h.seats t)))
    where
      by_index : (o : Option (Option Seat)) → is_some (option_and_then (λ (s : Option Seat). s) (option_map clear_answer o)) ≡ is_some (option_and_then (λ (s : Option Seat). s) o)
      by_index None = refl
      by_index (Some None) = refl
      by_index (Some (Some seat)) = refl

-- ---- what is to be shown of a step

-- the next phase is posted, with these objects
abbrev after_post : MachineState → Objects → MachineState
after_post c o = record c { posts = record c.posts { posted_phase = phase_after c.posts.posted_phase }; progress = no_progress; objects = o }

module _ (c : MachineState) (sound : IsSound c) (seen : all_seen c.posts ≡ true) where
  -- a step posts nothing
  works_soundly : (p : Progress) (o : Objects) (statics : List Value)
      → IsSoundHeap c.tree c.posts.posted_phase c.posts.has_round c.limits.max_words p o.spaces
      → (c.posts.posted_phase ≡ Mark → c.posts.has_round ≡ true → p.scanned_statics ≡ true)
      → ((seat : Seat) (a : Addr) → may_hold c.posts c.objects.spaces seat a ≡ true → may_hold c.posts o.spaces seat a ≡ true)
      → StaticsPass c.posts.posted_phase o.spaces p statics
      → IsSound (record c { progress = p; objects = o; statics = statics })
  works_soundly p o statics heap scanned held pass = record {
    seated = sound.seated;
    heap = heap;
    rounds = scanned;
    on_time = λ t seat there late. absurd (late (seen_phase c.posts seen t seat there));
    threads = λ t left fs seat at there a listed. held seat a (sound.threads t left fs seat at there a listed);
    statics = pass;
  }

  -- a step posts the next phase, which isn't Mark
  posts_soundly : (o : Objects) → phase_after c.posts.posted_phase ≢ Mark
      → IsSoundHeap c.tree (phase_after c.posts.posted_phase) c.posts.has_round c.limits.max_words no_progress o.spaces
      → ((t : ℕ) (seat : Seat) (a : Addr) → seat_of c.posts t ≡ Some seat → may_hold c.posts c.objects.spaces seat a ≡ true
      → may_hold (record c.posts { posted_phase = phase_after c.posts.posted_phase }) o.spaces seat a ≡ true)
      → StaticsPass (phase_after c.posts.posted_phase) o.spaces no_progress c.statics
      → IsSound (after_post c o)
  posts_soundly o other heap held pass = record {
    seated = record { close = phase_close c.posts sound.seated.close seen; live = sound.seated.live };
    heap = heap;
    rounds = λ mark round. absurd (other mark);
    on_time = λ t seat there late. HasNotBegun-posted (phase_after c.posts.posted_phase) c.posts.has_round o.spaces other;
    threads = λ t left fs seat at there a listed. held t seat a there (sound.threads t left fs seat at there a listed);
    statics = pass;
  }

-- until a thread flips its frames it may hold what is live
live_held : (h : Handshakes) (m : Spaces) (seat : Seat) (a : Addr) → is_flipping h.posted_phase ≡ false → is_marking h.posted_phase ≡ false → is_live h.posted_phase m a ≡ true → may_hold h m seat a ≡ true
live_held h m seat a early other live = may_hold_any h m seat a (rw early (and-false (is_flipping seat.phase))) (rw other refl) live

-- ---- Idle: a cycle opens

module _ (c : MachineState) (sound : IsSound (posting Idle c)) (seen : all_seen (posting Idle c).posts ≡ true) where
  -- what it holds then
  abbrev opened : MachineState
  opened = cycle_opened (posting Idle c)

  -- each seat was there, with or without an acknowledgement
  before_cycle : (t : ℕ) (seat : Seat) → seat_of opened.posts t ≡ Some seat → (was : Seat) × (seat_of (posting Idle c).posts t ≡ Some was) × (seat ≡ record was { answered = false })
  before_cycle t seat there = was_seat (posting Idle c).posts opened.posts refl t seat there

  -- the second block has at least the same number of words, and no more than the most
  grows : c.objects.spaces.old.words ≤ initial_words c
  grows = next_grows c.objects.spaces.old.words (used_words c.objects.spaces.old.cells) c.limits.max_words sound.heap.blocks.old_words

  within : initial_words c ≤ c.limits.max_words
  within = next_within c.objects.spaces.old.words (used_words c.objects.spaces.old.cells) c.limits.max_words sound.heap.blocks.old_words

  -- a cycle opens
  pub opens_soundly : IsSound (work Idle (posting Idle c)).0
  opens_soundly = record {
    seated = record {
      close = cycle_close (posting Idle c).posts sound.seated.close seen;
      live = λ t. sound.seated.live t ∙ same_seats (posting Idle c).posts opened.posts refl t;
    };
    heap = IsSoundHeap-opened c.tree c.posts.has_round c.limits.max_words c.progress c.objects.spaces sound.heap (initial_words c) grows within;
    rounds = λ mark round. never round;
    on_time = λ t seat there late. HasNotBegun-opened c.tree c.posts.has_round c.limits.max_words c.progress c.objects.spaces sound.heap (initial_words c) grows within;
    threads = λ t left fs seat at there a listed.
        (let was = before_cycle t seat there in
        opened_held (posting Idle c).posts opened.posts c.objects.spaces (initial_words c) was.0 seat refl refl refl a (sound.threads t left fs was.0 at was.1 a listed));
    statics = sound.statics;
  }

-- ---- Mark

-- a list without a first address has none
none_grey : (list : List Addr) → not (is_none_grey list) ≡ false → list ≡ []
none_grey [] e = refl
none_grey (a ∷ rest) e = never (sym e)

module _ (c : MachineState) (sound : IsSound (posting Mark c)) (seen : all_seen (posting Mark c).posts ≡ true) where
  -- what it holds
  abbrev marking : MachineState
  marking = posting Mark c

  -- the static fields are scanned
  pub scans_soundly : IsSound (record marking { progress = (statics_scanned c.progress c.objects c.statics).0; objects = (statics_scanned c.progress c.objects c.statics).1 })
  scans_soundly =
      let spaces = sound.heap.blocks.spaces in
      works_soundly marking sound seen (statics_scanned c.progress c.objects c.statics).0 (statics_scanned c.progress c.objects c.statics).1 c.statics
      (IsSoundHeap-statics_scanned c.tree c.posts.has_round c.limits.max_words c.progress c.objects c.statics sound.heap)
      (λ mark round. refl)
      (λ seat a held. stays_held marking.posts c.objects.spaces (statics_scanned c.progress c.objects c.statics).1.spaces seat (AreDarker-with_all_marked c.statics c.objects spaces) (with_all_marked-noted c.statics c.objects) a held)
      (statics_scanned-pass c.progress c.objects c.statics spaces sound.statics)

  -- after a step
  abbrev after_mark : Progress × Objects × Bool
  after_mark = next_mark_step c.tree c.progress c.objects

  -- a slot of a grey object is scanned
  pub marks_soundly : IsSound (record marking { progress = after_mark.0; objects = after_mark.1 })
  marks_soundly =
      let darker = AreDarker-next_mark_step c.tree c.posts.has_round c.limits.max_words c.progress c.objects sound.heap in
      let same = next_mark_step-progress c.tree c.progress c.objects in
      works_soundly marking sound seen after_mark.0 after_mark.1 c.statics
      (IsSoundHeap-next_mark_step c.tree c.posts.has_round c.limits.max_words c.progress c.objects sound.heap)
      (λ mark round. ap (λ (q : Progress). q.scanned_statics) same ∙ sound.rounds mark round)
      (λ seat a held. stays_held marking.posts c.objects.spaces after_mark.1.spaces seat darker (next_mark_step-noted c.tree c.progress c.objects) a held)
      (λ number v there. subst (λ q. ValuePasses (static_may_hold Mark after_mark.1.spaces q number) v) (sym same)
      (value_weakens (static_may_hold Mark c.objects.spaces c.progress number) (static_may_hold Mark after_mark.1.spaces c.progress number)
      (stays_held-static Mark c.objects.spaces after_mark.1.spaces c.progress number darker) v (sound.statics number v there)))

  -- each seat was there, with or without an acknowledgement
  before_round : (t : ℕ) (seat : Seat) → seat_of (round_posted marking).posts t ≡ Some seat → (was : Seat) × (seat_of marking.posts t ≡ Some was) × (seat ≡ record was { answered = false })
  before_round t seat there = was_seat marking.posts (round_posted marking).posts refl t seat there

  -- a round is posted
  pub round_soundly : after_mark.2 ≡ false → c.progress.scanned_statics ≡ true → IsSound (round_posted marking)
  round_soundly over scanned = record {
    seated = record {
      close = round_close marking.posts sound.seated.close;
      live = λ t. sound.seated.live t ∙ same_seats marking.posts (round_posted marking).posts refl t;
    };
    heap = IsSoundHeap-round c.tree c.posts.has_round c.limits.max_words c.progress c.objects.spaces sound.heap (none_grey c.objects.spaces.grey (sym (next_mark_step-works c.tree c.posts.has_round c.limits.max_words c.progress c.objects sound.heap) ∙ over));
    rounds = λ mark round. scanned;
    on_time = λ t seat there late.
        (let was = before_round t seat there in
        absurd (late (ap (λ (s : Seat). s.phase) was.2 ∙ seen_phase marking.posts seen t was.0 was.1)));
    threads = λ t left fs seat at there a listed.
        (let was = before_round t seat there in
        subst (λ s. may_hold (posted_round marking.posts) (record c.objects.spaces { has_marked = false }) s a ≡ true) (sym was.2)
        (round_held marking.posts c.objects.spaces was.0 a (sound.threads t left fs was.0 at was.1 a listed)));
    statics = λ number v there.
        value_weakens (static_may_hold Mark c.objects.spaces c.progress number) (static_may_hold Mark (record c.objects.spaces { has_marked = false }) c.progress number)
        (stays_held-static Mark c.objects.spaces (record c.objects.spaces { has_marked = false }) c.progress number
        (AreDarker-same c.objects.spaces (record c.objects.spaces { has_marked = false }) refl refl refl)) v (sound.statics number v there);
  }

  -- marking is over
  pub closes_soundly : is_closed c.progress c.objects marking.posts ≡ true → IsSound (next_posted marking).0
  closes_soundly closed = posts_soundly marking sound seen c.objects (λ e. absurd cc)
      (IsSoundHeap-closed c.tree c.limits.max_words c.progress c.objects marking.posts sound.heap closed)
      (λ t seat a there held. allocate_held (record marking.posts { posted_phase = Allocate }) c.objects.spaces seat refl a (closed_held c.progress c.objects marking.posts closed t seat there refl a held))
      (λ number v there. value_weakens (static_may_hold Mark c.objects.spaces c.progress number) (static_may_hold Allocate c.objects.spaces no_progress number)
      (λ a held. allocate_held-static c.objects.spaces no_progress number a (closed_held-static c.progress c.objects marking.posts closed number a held)) v (sound.statics number v there))

-- ---- Allocate

-- what is old, marked or new stays so where an object gets its copy
looked_tests : (tree : Tree) (has_round : Bool) (words : ℕ) (p : Progress) (o : Objects) → IsSoundHeap tree Allocate has_round words p o.spaces → TestsStay o.spaces (next_shell_step p o).1.spaces
looked_tests tree has_round words p o sound = record {
  old = λ a e. (let c = old_cell o.spaces a e in let d = looked_old p o a c.0 c.1 in ap is_some d.1);
  marked = λ a e. (let c = marked_cell o.spaces a e in let d = looked_old p o a c.0 c.1 in ap is_marked_cell d.1 ∙ (d.2.marked ∙ c.2));
  new = λ a e. (let c = new_cell o.spaces a e in ap is_some (looked_new p o tree has_round words sound a c.0 c.1));
}

module _ (c : MachineState) (sound : IsSound (posting Allocate c)) (seen : all_seen (posting Allocate c).posts ≡ true) where
  -- after a step
  abbrev after_look : Progress × Objects × Bool
  after_look = next_shell_step c.progress c.objects

  -- an object gets its copy
  pub looks_soundly : IsSound (record (posting Allocate c) { progress = after_look.0; objects = after_look.1 })
  looks_soundly =
      let stay = looked_tests c.tree c.posts.has_round c.limits.max_words c.progress c.objects sound.heap in
      works_soundly (posting Allocate c) sound seen after_look.0 after_look.1 c.statics
      (looked_sound c.tree c.posts.has_round c.limits.max_words c.progress c.objects sound.heap)
      (λ mark round. absurd cc)
      (λ seat a held. passes_stays c.objects.spaces after_look.1.spaces stay a (hold_of (posting Allocate c).posts c.objects.spaces.has_marked seat) Allocate held)
      (statics_stay Allocate c.objects.spaces after_look.1.spaces c.progress c.statics stay sound.statics)

  -- all copies are made
  pub copies_soundly : after_look.2 ≡ false → IsSound (next_posted (posting Allocate c)).0
  copies_soundly over = posts_soundly (posting Allocate c) sound seen c.objects (λ e. absurd cc)
      (copy_posted c.tree c.posts.has_round c.limits.max_words c.progress c.objects sound.heap over)
      (λ t seat a there held. live_held (record c.posts { posted_phase = Copy }) c.objects.spaces seat a refl refl (may_hold_live (posting Allocate c).posts c.objects.spaces seat a held))
      sound.statics

-- ---- Copy

-- what is old, marked or new stays so where a word is copied
copied_tests : (tree : Tree) (has_round : Bool) (words : ℕ) (p : Progress) (o : Objects) → IsSoundHeap tree Copy has_round words p o.spaces → TestsStay o.spaces (next_copy_step tree p o).1.spaces
copied_tests tree has_round words p o sound =
    let old = copied_old tree p o has_round words sound in
    record {
      old = λ a e. ap (λ s. is_some (cell_in s a)) old ∙ e;
      marked = λ a e. ap (λ s. is_marked_cell (cell_in s a)) old ∙ e;
      new = λ a e. (let c = new_cell o.spaces a e in let d = copied_new tree p o a c.0 c.1 in ap is_some d.1);
    }

module _ (c : MachineState) (sound : IsSound (posting Copy c)) (seen : all_seen (posting Copy c).posts ≡ true) where
  -- after a step
  abbrev after_copy : Progress × Objects × Bool
  after_copy = next_copy_step c.tree c.progress c.objects

  -- a word is copied
  pub fills_soundly : IsSound (record (posting Copy c) { progress = after_copy.0; objects = after_copy.1 })
  fills_soundly =
      let stay = copied_tests c.tree c.posts.has_round c.limits.max_words c.progress c.objects sound.heap in
      works_soundly (posting Copy c) sound seen after_copy.0 after_copy.1 c.statics
      (copied_sound c.tree c.posts.has_round c.limits.max_words c.progress c.objects sound.heap)
      (λ mark round. absurd cc)
      (λ seat a held. passes_stays c.objects.spaces after_copy.1.spaces stay a (hold_of (posting Copy c).posts c.objects.spaces.has_marked seat) Copy held)
      (statics_stay Copy c.objects.spaces after_copy.1.spaces c.progress c.statics stay sound.statics)

  -- all words are copied
  pub filled_soundly : after_copy.2 ≡ false → IsSound (next_posted (posting Copy c)).0
  filled_soundly over =
      let live = pre_flip_live c.tree c.posts.has_round c.limits.max_words c.progress c.objects sound.heap in
      posts_soundly (posting Copy c) sound seen c.objects (λ e. absurd cc)
      (pre_flip_posted c.tree c.posts.has_round c.limits.max_words c.progress c.objects sound.heap over)
      (λ t seat a there held. live_held (record c.posts { posted_phase = PreFlip }) c.objects.spaces seat a refl refl (live a (may_hold_live (posting Copy c).posts c.objects.spaces seat a held)))
      (λ number v there. value_weakens (is_live Copy c.objects.spaces) (is_live PreFlip c.objects.spaces) live v (sound.statics number v there))

-- ---- PreFlip, HeapFlip and ThreadFlip

module _ (c : MachineState) where
  -- HeapFlip is posted
  pub pre_flip_work_soundly : IsSound (posting PreFlip c) → all_seen (posting PreFlip c).posts ≡ true → IsSound (work PreFlip (posting PreFlip c)).0
  pre_flip_work_soundly sound seen = posts_soundly (posting PreFlip c) sound seen c.objects (λ e. absurd cc)
      (flip_posted c.tree c.posts.has_round c.limits.max_words c.progress c.objects.spaces PreFlip refl sound.heap)
      (λ t seat a there held. flip_keeps_held (posting PreFlip c).posts seat (seen_phase (posting PreFlip c).posts seen t seat there) c.objects.spaces a refl held)
      (statics_to_heap_flip c.objects.spaces c.progress c.statics sound.statics)

  -- Reclaim is posted
  pub thread_flip_work_soundly : IsSound (posting ThreadFlip c) → all_seen (posting ThreadFlip c).posts ≡ true → IsSound (work ThreadFlip (posting ThreadFlip c)).0
  thread_flip_work_soundly sound seen = posts_soundly (posting ThreadFlip c) sound seen c.objects (λ e. absurd cc)
      (flip_posted c.tree c.posts.has_round c.limits.max_words c.progress c.objects.spaces ThreadFlip refl sound.heap)
      (λ t seat a there held. flip_keeps_held (posting ThreadFlip c).posts seat (seen_phase (posting ThreadFlip c).posts seen t seat there) c.objects.spaces a refl held)
      (statics_to_reclaim c.objects.spaces c.progress no_progress c.statics sound.statics)

module _ (c : MachineState) (sound : IsSound (posting HeapFlip c)) (seen : all_seen (posting HeapFlip c).posts ≡ true) where
  -- after a step
  abbrev after_flip : Progress × List Value × Bool
  after_flip = next_flip_step c.progress c.objects c.statics

  -- a static field is flipped
  pub flips_soundly : IsSound (record (posting HeapFlip c) { progress = after_flip.0; statics = after_flip.1 })
  flips_soundly = works_soundly (posting HeapFlip c) sound seen after_flip.0 c.objects after_flip.1
      (flipped_sound c.tree c.posts.has_round c.limits.max_words c.progress c.objects sound.heap c.statics sound.statics)
      (λ mark round. absurd cc)
      (λ seat a held. held)
      (flipped_statics_pass c.tree c.posts.has_round c.limits.max_words c.progress c.objects sound.heap c.statics sound.statics)

  -- all of them are
  pub flipped_soundly : after_flip.2 ≡ false → IsSound (next_posted (posting HeapFlip c)).0
  flipped_soundly over = posts_soundly (posting HeapFlip c) sound seen c.objects (λ e. absurd cc)
      (flip_posted c.tree c.posts.has_round c.limits.max_words c.progress c.objects.spaces HeapFlip refl sound.heap)
      (λ t seat a there held. flip_keeps_held (posting HeapFlip c).posts seat (seen_phase (posting HeapFlip c).posts seen t seat there) c.objects.spaces a refl held)
      (all_flipped c.tree c.posts.has_round c.limits.max_words c.progress c.objects sound.heap c.statics sound.statics over no_progress)

-- ---- Reclaim

module _ (c : MachineState) (sound : IsSound (posting Reclaim c)) (seen : all_seen (posting Reclaim c).posts ≡ true) where
  -- after a step
  abbrev after_clear : Progress × Objects × Bool
  after_clear = next_clear_step c.progress c.objects

  -- a new object is cleared
  pub clears_soundly : IsSound (record (posting Reclaim c) { progress = after_clear.0; objects = after_clear.1 })
  clears_soundly =
      let stay = cleared_tests c.tree c.posts.has_round c.limits.max_words c.progress c.objects sound.heap in
      works_soundly (posting Reclaim c) sound seen after_clear.0 after_clear.1 c.statics
      (cleared_sound c.tree c.posts.has_round c.limits.max_words c.progress c.objects sound.heap)
      (λ mark round. absurd cc)
      (λ seat a held. passes_stays c.objects.spaces after_clear.1.spaces stay a (hold_of (posting Reclaim c).posts c.objects.spaces.has_marked seat) Reclaim held)
      (statics_stay Reclaim c.objects.spaces after_clear.1.spaces c.progress c.statics stay sound.statics)

  -- all of them are, and the cycle ends
  pub ends_soundly : after_clear.2 ≡ false → IsSound (cycle_ended (posting Reclaim c))
  ends_soundly over = posts_soundly (posting Reclaim c) sound seen (retire_old c.objects) (λ e. absurd cc)
      (retired_sound c.tree c.posts.has_round c.limits.max_words c.progress c.objects sound.heap over)
      (λ t seat a there held. end_keeps_held (posting Reclaim c).posts seat (seen_phase (posting Reclaim c).posts seen t seat there) c.objects.spaces a refl held)
      (statics_to_idle c.objects.spaces c.progress no_progress c.statics sound.statics)

-- ---- each phase

-- the work of a phase keeps a machine sound
work_soundly : (c : MachineState) (x : Phase) (after : MachineState × Report) → IsWork c x after → IsSound (posting x c) → all_seen (posting x c).posts ≡ true → IsSound after.0
work_soundly c _ _ opens_cycle sound seen = opens_soundly c sound seen
work_soundly c _ _ (scans_statics early) sound seen = scans_soundly c sound seen
work_soundly c _ _ (marks_object scanned step) sound seen = marks_soundly c sound seen
work_soundly c _ _ (ends_marking scanned over closed) sound seen = closes_soundly c sound seen closed
work_soundly c _ _ (waits_for_round late) sound seen = sound
work_soundly c _ _ (posts_round scanned over more answered) sound seen = round_soundly c sound seen over scanned
work_soundly c _ _ (allocates_copy step) sound seen = looks_soundly c sound seen
work_soundly c _ _ (ends_allocation over) sound seen = copies_soundly c sound seen over
work_soundly c _ _ (copies_word step) sound seen = fills_soundly c sound seen
work_soundly c _ _ (ends_copying over) sound seen = filled_soundly c sound seen over
work_soundly c _ _ posts_heap_flip sound seen = pre_flip_work_soundly c sound seen
work_soundly c _ _ (flips_static step) sound seen = flips_soundly c sound seen
work_soundly c _ _ (ends_heap_flip over) sound seen = flipped_soundly c sound seen over
work_soundly c _ _ posts_reclaim sound seen = thread_flip_work_soundly c sound seen
work_soundly c _ _ (clears_object step) sound seen = clears_soundly c sound seen
work_soundly c _ _ (ends_cycle over) sound seen = ends_soundly c sound seen over

-- an event of the collector keeps a machine sound
pub collected_soundly : (c : MachineState) → IsSound c → IsSound (collect c).0
collected_soundly c sound = by_cases c (λ x. IsSound x.0) (λ seen after is. work_soundly c c.posts.posted_phase after is sound seen) (λ late. sound)
