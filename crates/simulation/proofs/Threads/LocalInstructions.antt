-- Local instructions on the top frame of a live thread are steps of the thread, which report Ran, whatever else the machine holds.
use Rattle.std.proofs.Common.{◌≡◌, ◌<◌, ◌-◌, ◌==◌, if◌then◌else◌, ℕ, zero, suc, Bool, false, List, [], ◌∷◌, ◌++◌, Some, None, slice_set, replicate, refl, sym, ap, ◌∙◌, subst, arith}
use Rattle.std.proofs.lemmas.Bool.Decides.{nat_tests}
use Rattle.interpreter.specs.cil_model.declared.events.Event.{Event}
use Rattle.interpreter.specs.cil_model.declared.events.Event.TheVariants.{Step}
use Rattle.interpreter.specs.cil_model.declared.reports.End.TheVariants.{Budget}
use Rattle.interpreter.specs.cil_model.declared.reports.Report.{Report}
use Rattle.interpreter.specs.cil_model.declared.reports.Report.TheVariants.{Ran}
use Rattle.interpreter.specs.reference_machine.States.{State}
use Rattle.interpreter.specs.threads_monitors.Frames.{Frame, Frames}
use Rattle.interpreter.specs.threads_monitors.Threads.{charge, status_after}
use Rattle.interpreter.specs.threads_monitors.declared.effects.Effect.TheVariants.{Continues}
use Rattle.interpreter.specs.threads_monitors.declared.threads.Thread.{Thread}
use Rattle.interpreter.specs.Instructions.{Answer, answer_of}
use Rattle.interpreter.specs.Local.{AreLocalSteps, IsLocalStep, IsReadySomewhere, frames_over}
use Rattle.interpreter.specs.declared.outcomes.InstructionOutcome.TheVariants.{OwnEffect}
use Rattle.simulation.specs.LentFrames.{RunsFrame, with_live}
use Rattle.simulation.specs.MachineStates.{MachineState, frame_room, mutator_of}
use Rattle.simulation.specs.Runs.{AreTransitions}
use Rattle.simulation.specs.Refines.{Represents}
use Rattle.simulation.specs.Transitions.{IsThreadTransition, IsTransition, finish_step, left_by, live_thread, seats_after}
use Rattle.simulation.proofs.Runs.EventCorrespondence.{step_is_followed, thread_is_ready}
use Rattle.interpreter.proofs.cil_model.Lists.{set_is_there, set_itself}

-- one index set twice
pub set_twice : {X : Type 0} (xs : List X) (n : ℕ) (x y : X) → slice_set (slice_set xs n x) n y ≡ slice_set xs n y
set_twice (z ∷ zs) (suc n) x y = ap (λ l. z ∷ l) (set_twice zs n x y)
set_twice _ _ x y = refl

-- a step after which the thread continues, with another step left after it
step_charged_goes : (left : ℕ) (m : Frames) → 1 < left → charge Continues (live_thread left m) ≡ (live_thread (left - 1) m, Ran)
step_charged_goes left m more =
    let some : (left - 1 == 0) ≡ false = grind (arith, nat_tests) in
    ap (λ (b : Bool). status_after (if b then Some Budget else None) m (left - 1) Continues) some

module _ (c : MachineState) (t left : ℕ) (f : Frame) (at : RunsFrame c t left f) where
  -- the machine state once other frames run there
  abbrev pub after : ℕ → Frame → MachineState
  after n g = with_live c t (left - n) (frames_over g at.below at.depth frame_room)

  abbrev pub runs_after : (n : ℕ) (g : Frame) → RunsFrame (after n g) t (left - n) g
  runs_after n g = record { below = at.below; depth = at.depth; there = set_is_there c.threads t (live_thread (left - n) (frames_over g at.below at.depth frame_room)) (live_thread left (frames_over f at.below at.depth frame_room)) at.there }

  pub nothing_done : after 0 f ≡ c
  nothing_done =
      let all : left - 0 ≡ left = omega arith in
      ap (λ n. with_live c t n (frames_over f at.below at.depth frame_room)) all
      ∙ ap (λ (threads : List Thread). record c { threads = threads }) (set_itself c.threads t (live_thread left (frames_over f at.below at.depth frame_room)) at.there)

  -- one instruction
  pub local_transition : (g : Frame) → 1 < left → IsLocalStep c.tree frame_room f g → IsTransition c (Step t) (after 1 g, Ran)
  local_transition g more step =
      let m = frames_over g at.below at.depth frame_room in
      let a : Answer = answer_of m c.objects c.statics c.printed (OwnEffect Continues) in
      let ends : finish_step c t left a (OwnEffect Continues) ≡ Some (after 1 g, Ran) =
      ap (λ (x : Thread × Report). Some (record (left_by c t left a) { threads = slice_set (slice_set c.threads t (live_thread left m)) t x.0; posts = seats_after c.posts t x.1 }, x.1)) (step_charged_goes left m more)
      ∙ ap (λ (threads : List Thread). Some (record c { threads = threads }, Ran)) (set_twice c.threads t (live_thread left m) (live_thread (left - 1) m)) in
      subst (λ o. IsThreadTransition c t o (after 1 g, Ran)) (sym at.there) (a, step.done at.below at.depth (mutator_of c t) c.objects c.statics c.printed, ends)

-- transitions with one more
pub transitions_then : (c d n : MachineState) (es : List Event) (rs : List Report) (e : Event) (r : Report) → AreTransitions c es d rs → IsTransition d e (n, r) → AreTransitions c (es ++ e ∷ []) n (rs ++ r ∷ [])
transitions_then c d n [] rs e r h k = subst (λ x. AreTransitions c (e ∷ []) n (x ++ r ∷ [])) (sym h.1) (n, subst (λ x. IsTransition x e (n, r)) h.0 k, (refl, refl))
transitions_then c d n (x ∷ es) (y ∷ ys) e r h k = (h.0, h.1, transitions_then h.0 d n es ys e r h.2 k)
transitions_then c d n (x ∷ es) [] e r h k = elim h [ ]

pub replicate_then : {X : Type 0} (n : ℕ) (x : X) → replicate n x ++ x ∷ [] ≡ replicate (suc n) x
replicate_then zero x = refl
replicate_then (suc n) x = ap (λ l. x ∷ l) (replicate_then n x)

module _ (c : MachineState) (t left : ℕ) (f : Frame) (at : RunsFrame c t left f) where
  -- one more of them
  one_more : (n : ℕ) (g h : Frame) → suc n < left → IsLocalStep c.tree frame_room g h → IsTransition (after c t left f at n g) (Step t) (after c t left f at (suc n) h, Ran)
  one_more n g h more step =
      let here = after c t left f at n g in
      let transition = local_transition here t (left - n) g (runs_after c t left f at n g) h (omega (arith, more)) step in
      let fewer : left - n - 1 ≡ left - suc n = omega arith in
      subst (λ (x : MachineState). IsTransition here (Step t) (x, Ran))
      (ap (λ (threads : List Thread). record c { threads = threads }) (set_twice c.threads t (live_thread (left - n) (frames_over g at.below at.depth frame_room)) (live_thread (left - n - 1) (frames_over h at.below at.depth frame_room)))
      ∙ ap (λ k. with_live c t k (frames_over h at.below at.depth frame_room)) fewer)
      transition

  -- n of them
  pub local_transitions : (n : ℕ) (g : Frame) → n < left → AreLocalSteps c.tree frame_room n f g → AreTransitions c (replicate n (Step t)) (after c t left f at n g) (replicate n Ran)
  local_transitions zero g less steps = (ap (after c t left f at 0) steps ∙ nothing_done c t left f at, refl)
  local_transitions (suc n) g less (next, before, step) =
      subst (λ (x : List Event × List Report). AreTransitions c x.0 (after c t left f at (suc n) g) x.1) (λ i. (replicate_then n (Step t) i, replicate_then n Ran i))
      (transitions_then c (after c t left f at n next) (after c t left f at (suc n) g) (replicate n (Step t)) (replicate n Ran) (Step t) Ran
      (local_transitions n next (omega (arith, less)) before) (one_more n next g less step))

  -- a machine that represents a state does so after them
  pub local_represents : (s : State) → Represents c s → (n : ℕ) (g : Frame) → n < left → AreLocalSteps c.tree frame_room n f g → (s' : State) × Represents (after c t left f at n g) s'
  local_represents s r zero g less steps = (s, subst (λ (x : MachineState). Represents x s) (sym (ap (after c t left f at 0) steps ∙ nothing_done c t left f at)) r)
  local_represents s r (suc n) g less (next, before, step) =
      let one = local_represents s r n next (omega (arith, less)) before in
      let more = step_is_followed (after c t left f at n next) one.0 one.1 t (after c t left f at (suc n) g, Ran) (one_more n next g less step) in
      (more.0, more.2)

  -- and the frame is ready for the next one
  pub local_ready : (s : State) → Represents c s → (n : ℕ) (g : Frame) → n < left → AreLocalSteps c.tree frame_room n f g → IsReadySomewhere c.tree frame_room g
  local_ready s r n g less steps =
      let here = after c t left f at n g in
      let one = local_represents s r n g less steps in
      let ready = thread_is_ready here one.0 one.1 t (left - n) (frames_over g at.below at.depth frame_room) (runs_after c t left f at n g).there in
      record {
        below = at.below;
        depth = at.depth;
        mutator = mutator_of here t;
        objects = c.objects;
        statics = c.statics;
        printed = c.printed;
        pc = ready.pc;
        there = ready.there;
      }
