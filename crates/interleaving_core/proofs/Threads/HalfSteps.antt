-- The two halves of a step of a thread make one transition of its machine.
use Rattle.std.proofs.Common.{◌≡◌, ◌+◌, ℕ, true, false, List, [], ◌∷◌, ◌++◌, length, Option, Some, None, option_map, option_and_then, slice_get, refl, sym, ap, ◌∙◌, subst}
use Rattle.std.specs.Option.{option_map_or}
use Rattle.std.proofs.lemmas.Option.{same_Some}
use Rattle.cil_model.specs.declared.phases.Phase.{Phase}
use Rattle.cil_model.specs.declared.events.Event.TheVariants.{Step}
use Rattle.cil_model.specs.declared.limits.Limits.{Limits}
use Rattle.cil_model.specs.declared.reports.Fault.{Fault}
use Rattle.cil_model.specs.declared.reports.Report.{Report}
use Rattle.cil_model.specs.declared.trees.Tree.{Tree}
use Rattle.object_memory.specs.declared.addresses.Addr.{Addr}
use Rattle.object_memory.specs.Objects.{Objects}
use Rattle.simulation.specs.instructions.barriers.Barriers.{stored_int}
use Rattle.threads_monitors.specs.Frames.{Frames}
use Rattle.threads_monitors.specs.Threads.{is_live, is_live_at, start_fault, with_start}
use Rattle.threads_monitors.specs.declared.effects.Effect.{Effect}
use Rattle.threads_monitors.specs.declared.effects.Effect.TheVariants.{Continues, Raises}
use Rattle.threads_monitors.specs.declared.threads.ThreadStatus.{ThreadStatus}
use Rattle.threads_monitors.specs.declared.threads.ThreadStatus.TheVariants.{Live, Ended}
use Rattle.threads_monitors.specs.declared.threads.Thread.{Thread}
use Rattle.simulation.specs.interpreter.declared.outcomes.InstructionOutcome.{InstructionOutcome}
use Rattle.simulation.specs.interpreter.declared.outcomes.InstructionOutcome.TheVariants.{Starts}
use Rattle.simulation.specs.MachineStates.{MachineState, mutator_of}
use Rattle.simulation.specs.Transitions.{IsStatusTransition, IsThreadTransition, IsTransition, finish, finish_step, left_by, live_thread, start_thread, thread_for}
use Rattle.simulation.specs.ReadySteps.{CanFinish, IsAnswerable}
use Rattle.interleaving_core.specs.FinishedSteps.{IsInstructed}
use Rattle.interleaving_core.proofs.Threads.StartRequests.{start_changes_nothing}
use Rattle.cil_model.proofs.Lists.{none_is_some, get_before, set_is_there, set_itself}

-- ---- live threads

pub thread_is : (thread : Thread) (m : Frames) → thread.thread_status ≡ Live m → thread ≡ live_thread thread.steps_left m
thread_is thread m e = ap (λ (s : ThreadStatus). record { thread_status = s; steps_left = thread.steps_left }) e

pub live_at : (threads : List Thread) (n : ℕ) (thread : Thread) (m : Frames) → slice_get threads n ≡ Some thread → thread.thread_status ≡ Live m → slice_get threads n ≡ Some (live_thread thread.steps_left m)
live_at threads n thread m there is = there ∙ ap Some (thread_is thread m is)

-- what follows from a thread's status
pub by_status : {X : Type 0} (of : ThreadStatus → Option X) (threads : List Thread) (n : ℕ) (thread : Thread) (s : ThreadStatus) → slice_get threads n ≡ Some thread → thread.thread_status ≡ s →
    option_and_then (λ (t : Thread). of t.thread_status) (slice_get threads n) ≡ of s
by_status of threads n thread s there is = ap (option_and_then (λ (t : Thread). of t.thread_status)) there ∙ ap of is

pub live_there : (threads : List Thread) (n : ℕ) → is_live_at threads n ≡ true → (left : ℕ) × (m : Frames) × (slice_get threads n ≡ Some (live_thread left m))
live_there threads n live = by_thread (slice_get threads n) refl live
  where
    by_thread_status : (s : ThreadStatus) (left : ℕ) → slice_get threads n ≡ Some (record { thread_status = s; steps_left = left }) → is_live (record { thread_status = s; steps_left = left }) ≡ true
        → (l : ℕ) × (m : Frames) × (slice_get threads n ≡ Some (live_thread l m))
    by_thread_status (Live m) left is h = (left, m, is)
    by_thread_status (Ended e) left is h = absurd cc

    by_thread : (o : Option Thread) → slice_get threads n ≡ o → option_map_or is_live o false ≡ true → (l : ℕ) × (m : Frames) × (slice_get threads n ≡ Some (live_thread l m))
    by_thread None is h = absurd cc
    by_thread (Some t) is h = by_thread_status t.thread_status t.steps_left is h

-- a thread that is live is so by the list too
pub live_by : (threads : List Thread) (n left : ℕ) (m : Frames) → slice_get threads n ≡ Some (live_thread left m) → is_live_at threads n ≡ true
live_by threads n left m is = ap (λ o. option_map_or is_live o false) is

-- ---- a start keeps the threads that there are

with_start_keeps : (phase : Phase) (threads : List Thread) (o : Objects) (a : Addr) (new : Thread) (n : ℕ) (t : Thread) → slice_get threads n ≡ Some t → slice_get (with_start phase threads o a new).0 n ≡ Some t
with_start_keeps phase threads o a new n t is = by_fault (start_fault threads o a)
  where
    by_fault : (f : Option Fault) → slice_get (option_map_or {U = List Thread × Objects × Effect} (λ x. (threads, o, Raises x)) f (threads ++ new ∷ [], stored_int phase o a 0 (length threads + 1), Continues)).0 n ≡ Some t
    by_fault None = get_before threads (new ∷ []) n t is
    by_fault (Some x) = is

pub started_keeps : (phase : Phase) (tree : Tree) (limits : Limits) (threads : List Thread) (o : Objects) (a : Addr) (n : ℕ) (t : Thread) (after : List Thread × Objects × Effect) → slice_get threads n ≡ Some t
    → Some after ≡ start_thread phase tree limits threads o a → slice_get after.0 n ≡ Some t
started_keeps phase tree limits threads o a n t after is done = by_fault (start_fault threads o a) (thread_for tree limits o a) done
  where
    by_fault : (f : Option Fault) (new : Option Thread) → Some after ≡ option_map_or (λ x. Some (threads, o, Raises x)) f (option_map (with_start phase threads o a) new) → slice_get after.0 n ≡ Some t
    by_fault (Some x) new e = ap (λ (r : List Thread × Objects × Effect). slice_get r.0 n) (same_Some after (threads, o, Raises x) e) ∙ is
    by_fault None None e = none_is_some after (sym e)
    by_fault None (Some new) e = ap (λ (r : List Thread × Objects × Effect). slice_get r.0 n) (same_Some after (with_start phase threads o a new) e) ∙ with_start_keeps phase threads o a new n t is

-- ---- both halves

module _ (c : MachineState) (t : ℕ) (outcome : InstructionOutcome) (after : MachineState) (half : IsInstructed c t outcome after) where
  pub thread_left : slice_get after.threads t ≡ Some (live_thread half.left half.answer.frames)
  thread_left = ap (λ (x : MachineState). slice_get x.threads t) half.is ∙ set_is_there c.threads t (live_thread half.left half.answer.frames) (live_thread half.left half.frames) half.there

  pub live_left : is_live_at after.threads t ≡ true
  live_left = live_by after.threads t half.left half.answer.frames thread_left

  -- a thread whose instruction was done and whose step was counted made a step
  pub transition_of_halves : (final : MachineState) (report : Report) → ((left : ℕ) (m : Frames) → slice_get after.threads t ≡ Some (live_thread left m) → finish after t left m outcome ≡ Some (final, report)) → IsTransition c (Step t) (final, report)
  transition_of_halves final report counts =
      let second : finish (left_by c t half.left half.answer) t half.left half.answer.frames outcome ≡ Some (final, report) =
      subst (λ (x : MachineState). finish x t half.left half.answer.frames outcome ≡ Some (final, report)) half.is (counts half.left half.answer.frames thread_left) in
      let whole : finish_step c t half.left half.answer half.answer.outcome ≡ Some (final, report) =
      subst (λ (x : InstructionOutcome). finish_step c t half.left half.answer x ≡ Some (final, report)) (sym half.gives) second in
      let transition : IsStatusTransition c t half.left (Live half.frames) (final, report) = (half.answer, half.done, whole) in
      subst (λ (x : Option Thread). IsThreadTransition c t x (final, report)) (sym half.there) transition

  -- where the rest is refused all is as it was
  pub refused_back : (object : Addr) → outcome ≡ Starts object → after ≡ c
  refused_back object starts =
      let same = start_changes_nothing half.frames c.objects c.statics c.printed c.tree (mutator_of c t) half.answer object half.done (half.gives ∙ starts) in
      half.is ∙ ap (left_by c t half.left) same ∙ ap (λ (x : List Thread). record c { threads = x }) (set_itself c.threads t (live_thread half.left half.frames) half.there)

-- ---- what was asked for can be answered

pub same_frames : (left l : ℕ) (m n : Frames) → live_thread left m ≡ live_thread l n → m ≡ n
same_frames left l m n e = same_live m n (ap (λ (x : Thread). x.thread_status) e)
  where
    same_live : (x y : Frames) → Live x ≡ Live y → x ≡ y
    same_live x y h = cc

module _ (c : MachineState) (t : ℕ) (outcome : InstructionOutcome) (after : MachineState) (half : IsInstructed c t outcome after) (answerable : IsAnswerable c t half.left half.answer half.answer.outcome) where
  pub can_finish : (left : ℕ) (m : Frames) → slice_get after.threads t ≡ Some (live_thread left m) → CanFinish after t m outcome
  can_finish left m is =
      let asked : CanFinish (left_by c t half.left half.answer) t half.answer.frames outcome = subst (IsAnswerable c t half.left half.answer) half.gives answerable in
      let there : CanFinish after t half.answer.frames outcome = subst (λ (x : MachineState). CanFinish x t half.answer.frames outcome) (sym half.is) asked in
      let same : half.answer.frames ≡ m =
      same_frames half.left left half.answer.frames m (same_Some (live_thread half.left half.answer.frames) (live_thread left m) (sym (thread_left c t outcome after half) ∙ is)) in
      subst (λ (x : Frames). CanFinish after t x outcome) same there
