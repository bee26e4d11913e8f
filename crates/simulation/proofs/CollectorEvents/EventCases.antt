-- What an event of the collector does, case by case, in each phase that is posted.
use Rattle.std.proofs.Common.{◌≡◌, Bool, true, false, List, refl}
use Rattle.std.specs.Prelude.{◌&&◌, not, if◌then◌else◌}
use Rattle.std.proofs.lemmas.Bool.{cond_both}
use Rattle.interpreter.specs.cil_model.declared.phases.Phase.{Phase}
use Rattle.interpreter.specs.cil_model.declared.phases.Phase.TheVariants.{Idle, Mark, Allocate, Copy, PreFlip, HeapFlip, ThreadFlip, Reclaim}
use Rattle.interpreter.specs.cil_model.declared.reports.Report.{Report}
use Rattle.interpreter.specs.cil_model.declared.reports.Report.TheVariants.{CycleDone, Waiting, Worked}
use Rattle.interpreter.specs.object_memory.declared.values.Value.{Value}
use Rattle.interpreter.specs.object_memory.Objects.{Objects}
use Rattle.collector.specs.CopySteps.{next_copy_step, next_shell_step}
use Rattle.collector.specs.Flips.{next_clear_step, next_flip_step}
use Rattle.collector.specs.MarkSteps.{is_closed, next_mark_step, statics_scanned}
use Rattle.collector.specs.declared.progress.Progress.{Progress}
use Rattle.collector.specs.phase_handshake.Handshakes.{all_answered, all_seen}
use Rattle.simulation.specs.CollectorSteps.{clear_object, collect, cycle_ended, cycle_opened, do_work, flip_values, mark_object, mark_work, next_posted, round_posted, work}
use Rattle.simulation.specs.MachineStates.{MachineState}

-- what a machine holds where a phase is posted
abbrev pub posting : Phase → MachineState → MachineState
posting x c = record c { posts = record c.posts { posted_phase = x } }

-- with other progress and objects
abbrev pub with_work : MachineState → Progress × Objects × Bool → MachineState
with_work c x = record c { progress = x.0; objects = x.1 }

-- with other progress and static fields
abbrev pub with_flips : MachineState → Progress × List Value × Bool → MachineState
with_flips c x = record c { progress = x.0; statics = x.1 }

-- with the static fields scanned
abbrev pub with_scan : MachineState → MachineState
with_scan c = record c { progress = (statics_scanned c.progress c.objects c.statics).0; objects = (statics_scanned c.progress c.objects c.statics).1 }

module _ (c : MachineState) where
  -- a step of Mark
  abbrev pub marked : Progress × Objects × Bool
  marked = next_mark_step c.tree c.progress c.objects

  -- a step of Allocate
  abbrev pub allocated : Progress × Objects × Bool
  allocated = next_shell_step c.progress c.objects

  -- a step of Copy
  abbrev pub copied : Progress × Objects × Bool
  copied = next_copy_step c.tree c.progress c.objects

  -- a step of HeapFlip
  abbrev pub flipped : Progress × List Value × Bool
  flipped = next_flip_step c.progress c.objects c.statics

  -- a step of Reclaim
  abbrev pub cleared : Progress × Objects × Bool
  cleared = next_clear_step c.progress c.objects

-- a round waits for its answers
abbrev pub round_waits : MachineState → Bool
round_waits c = c.posts.has_round && not (all_answered c.posts)

-- the transitions of the collector where a phase is posted
pub data IsWork (c : MachineState) : Phase → MachineState × Report → Type 0 where
  opens_cycle : IsWork c Idle (cycle_opened (posting Idle c), Worked)
  scans_statics : c.progress.scanned_statics ≡ false → IsWork c Mark (with_scan (posting Mark c), Worked)
  marks_object : c.progress.scanned_statics ≡ true → (marked c).2 ≡ true → IsWork c Mark (with_work (posting Mark c) (marked c), Worked)
  ends_marking : c.progress.scanned_statics ≡ true → (marked c).2 ≡ false → is_closed c.progress c.objects (posting Mark c).posts ≡ true → IsWork c Mark (next_posted (posting Mark c))
  waits_for_round : round_waits (posting Mark c) ≡ true → IsWork c Mark (posting Mark c, Waiting)
  posts_round : c.progress.scanned_statics ≡ true → (marked c).2 ≡ false → is_closed c.progress c.objects (posting Mark c).posts ≡ false → round_waits (posting Mark c) ≡ false → IsWork c Mark (round_posted (posting Mark c), Worked)
  allocates_copy : (allocated c).2 ≡ true → IsWork c Allocate (with_work (posting Allocate c) (allocated c), Worked)
  ends_allocation : (allocated c).2 ≡ false → IsWork c Allocate (next_posted (posting Allocate c))
  copies_word : (copied c).2 ≡ true → IsWork c Copy (with_work (posting Copy c) (copied c), Worked)
  ends_copying : (copied c).2 ≡ false → IsWork c Copy (next_posted (posting Copy c))
  posts_heap_flip : IsWork c PreFlip (next_posted (posting PreFlip c))
  flips_static : (flipped c).2 ≡ true → IsWork c HeapFlip (with_flips (posting HeapFlip c) (flipped c), Worked)
  ends_heap_flip : (flipped c).2 ≡ false → IsWork c HeapFlip (next_posted (posting HeapFlip c))
  posts_reclaim : IsWork c ThreadFlip (next_posted (posting ThreadFlip c))
  clears_object : (cleared c).2 ≡ true → IsWork c Reclaim (with_work (posting Reclaim c) (cleared c), Worked)
  ends_cycle : (cleared c).2 ≡ false → IsWork c Reclaim (cycle_ended (posting Reclaim c), CycleDone)

-- a step was done, or none was left
by_step : {X : Type 0} (f : Progress × X × Bool → MachineState × Report) (P : MachineState × Report → Type 0) (x : Progress × X × Bool) → (x.2 ≡ true → P (f (x.0, x.1, true))) → (x.2 ≡ false → P (f (x.0, x.1, false))) → P (f x)
by_step f P (p, y, true) step over = step refl
by_step f P (p, y, false) step over = over refl

module _ (c : MachineState) where
  -- the work of Mark is one of them
  mark_is : IsWork c Mark (mark_work (posting Mark c))
  mark_is =
      let here : MachineState = posting Mark c in
      cond_both c.progress.scanned_statics (mark_object here (marked c)) (with_scan here, Worked) (IsWork c Mark)
      (λ scanned. by_step (mark_object here) (IsWork c Mark) (marked c) (marks_object scanned) (λ over.
      cond_both (is_closed c.progress c.objects here.posts) (next_posted here) (if◌then◌else◌ {A = MachineState × Report} (round_waits here) (here, Waiting) (round_posted here, Worked)) (IsWork c Mark)
      (ends_marking scanned over)
      (λ more. cond_both (round_waits here) (here, Waiting) (round_posted here, Worked) (IsWork c Mark) waits_for_round (posts_round scanned over more))))
      scans_statics

  -- and that of each phase
  pub work_is : (x : Phase) → IsWork c x (work x (posting x c))
  work_is Idle = opens_cycle
  work_is Mark = mark_is
  work_is Allocate = by_step (do_work (posting Allocate c)) (IsWork c Allocate) (allocated c) allocates_copy ends_allocation
  work_is Copy = by_step (do_work (posting Copy c)) (IsWork c Copy) (copied c) copies_word ends_copying
  work_is PreFlip = posts_heap_flip
  work_is HeapFlip = by_step (flip_values (posting HeapFlip c)) (IsWork c HeapFlip) (flipped c) flips_static ends_heap_flip
  work_is ThreadFlip = posts_reclaim
  work_is Reclaim = by_step (clear_object (posting Reclaim c)) (IsWork c Reclaim) (cleared c) clears_object ends_cycle

  -- an event works once all threads have seen the posted phase, and waits until then
  pub by_cases : (P : MachineState × Report → Type 0) → (all_seen c.posts ≡ true → (x : MachineState × Report) → IsWork c c.posts.posted_phase x → P x) → (all_seen c.posts ≡ false → P (c, Waiting)) → P (collect c)
  by_cases P works late = cond_both (all_seen c.posts) (work c.posts.posted_phase c) (c, Waiting) P (λ seen. works seen (work c.posts.posted_phase c) (work_is c.posts.posted_phase)) late
