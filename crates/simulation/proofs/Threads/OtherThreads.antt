-- An event that is neither a step nor an acknowledgement of a thread leaves that thread as it is.
use Rattle.std.proofs.Common.{◌≡◌, ◌≢◌, ◌⊎◌, length, if◌then◌else◌, ℕ, Bool, true, List, [], ◌∷◌, Option, Some, None, slice_get, inl, inr, sym, ap, ◌∙◌, subst}
use Rattle.interpreter.specs.cil_model.declared.events.Event.{Event}
use Rattle.interpreter.specs.cil_model.declared.events.Event.TheVariants.{Step, Ack, Gc}
use Rattle.interpreter.specs.cil_model.declared.reports.Report.{Report}
use Rattle.collector.specs.phase_handshake.Handshakes.{Handshakes, join_thread}
use Rattle.interpreter.specs.threads_monitors.Threads.{charge}
use Rattle.interpreter.specs.threads_monitors.declared.threads.ThreadStatus.{ThreadStatus}
use Rattle.interpreter.specs.threads_monitors.declared.threads.ThreadStatus.TheVariants.{Ended, Live}
use Rattle.interpreter.specs.threads_monitors.declared.threads.Thread.{Thread}
use Rattle.interpreter.specs.Instructions.{Answer}
use Rattle.interpreter.specs.declared.outcomes.InstructionOutcome.{InstructionOutcome}
use Rattle.simulation.specs.CollectorSteps.{flips_frames, thread_flipped, with_flipped}
use Rattle.simulation.specs.MachineStates.{MachineState}
use Rattle.simulation.specs.Transitions.{IsStatusTransition, IsThreadTransition, IsTransition, finish_step, left_by, live_thread}
use Rattle.simulation.proofs.CollectorEvents.UnchangedState.{collected_keeps}
use Rattle.simulation.proofs.Threads.StepEffects.{HasBegun, finished_by}
use Rattle.interpreter.proofs.cil_model.Lists.{get_before}
use Rattle.simulation.proofs.Threads.Seats.{set_other}

module _ (c : MachineState) (after : MachineState × Report) (t : ℕ) (x : Thread) (there : slice_get c.threads t ≡ Some x) where
  abbrev Stays : MachineState × Report → Type 0
  Stays y = slice_get y.0.threads t ≡ Some x

  -- a step of another thread
  stepped : (n left : ℕ) (a : Answer) (o : InstructionOutcome) → n ≢ t → finish_step c n left a o ≡ Some after → Stays after
  stepped n left a o apart is =
      let way = finished_by c n left a after o is in
      let left_there : slice_get (left_by c n left a).threads t ≡ Some x = set_other c.threads n t (live_thread left a.frames) (λ same. apart (sym same)) ∙ there in
      let with_objects : slice_get way.threads t ≡ Some x = by_way way.threads way.posts left_there way.are in
      subst Stays way.is (set_other way.threads n t (charge way.effect (live_thread left way.frames)).0 (λ same. apart (sym same)) ∙ with_objects)
    where
      by_way : (threads : List Thread) (posts : Handshakes) → slice_get (left_by c n left a).threads t ≡ Some x
          → ((threads ≡ (left_by c n left a).threads) × (posts ≡ c.posts)) ⊎ (HasBegun c.limits.budget (left_by c n left a).threads threads × (posts ≡ join_thread c.posts (length (left_by c n left a).threads) n)) → slice_get threads t ≡ Some x
      by_way threads posts e (inl (is, seats)) = ap (λ (l : List Thread). slice_get l t) is ∙ e
      by_way threads posts e (inr (more, seats)) = ap (λ (l : List Thread). slice_get l t) more.are ∙ get_before (left_by c n left a).threads (more.new ∷ []) t x e

  flipped : (n : ℕ) → n ≢ t → (b : Bool) (o : Option Thread) → slice_get (if b then with_flipped c.objects c.threads n o else c.threads) t ≡ Some x
  flipped n apart true (Some y) = set_other c.threads n t (thread_flipped c.objects y) (λ same. apart (sym same)) ∙ there
  flipped n apart _ _ = there

  by_thread_status : (n left : ℕ) → n ≢ t → (thread_status : ThreadStatus) → IsStatusTransition c n left thread_status after → Stays after
  by_thread_status n left apart (Live m) k = stepped n left k.0 k.0.outcome apart k.2
  by_thread_status n left apart (Ended e) k = subst Stays (sym k) there

  by_thread : (n : ℕ) → n ≢ t → (thread : Option Thread) → IsThreadTransition c n thread after → Stays after
  by_thread n apart None k = subst Stays (sym k) there
  by_thread n apart (Some thread) k = by_thread_status n thread.steps_left apart thread.thread_status k

  pub thread_stays : (e : Event) → IsTransition c e after → e ≢ Step t → e ≢ Ack t → Stays after
  thread_stays (Step n) h step ack = by_thread n (λ same. step (ap Step same)) (slice_get c.threads n) h
  thread_stays (Ack n) h step ack = subst Stays (sym h) (flipped n (λ same. ack (ap Ack same)) (flips_frames c n) (slice_get c.threads n))
  thread_stays Gc h step ack = subst Stays (sym h) (ap (λ (l : List Thread). slice_get l t) (collected_keeps c).threads ∙ there)
