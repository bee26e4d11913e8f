-- A machine whose thread did local instructions on a lent frame is further.
use Rattle.std.proofs.Common.{◌≡◌, ◌<◌, ◌+◌, ◌-◌, ℕ, zero, suc, List, [], ◌∷◌, Some, slice_get, slice_set, replicate, refl, sym, ap, ◌∙◌, subst}
use Rattle.interleaving_core.specs.simulation.LentFrames.{RunsFrame, with_live}
use Rattle.interleaving_core.proofs.simulation.Threads.LocalInstructions.{local_transitions}
use Rattle.interleaving_core.specs.Loans.{Begins, IsAtOrigin, IsLent, Lent, RanLocally}
use Rattle.exploration.proofs.Names.{same_Some, Step, Ran, Tree, AreLocalSteps, frames_over, Frame, Thread, Agree, MachineState, frame_room, AreTransitions, live_thread, IsLagging, IsThreadLagging}
use Rattle.exploration.proofs.LagTransitivity.{threads_itself}
use Rattle.exploration.proofs.LocalProgress.{steps_further}
use Rattle.exploration.proofs.Paths.{IsOneOperation, led_once}
use Rattle.exploration.proofs.ChargedSteps.{thread_itself}

-- one thread of a list is further
further_at : (tree : Tree) (xs : List Thread) (t : ℕ) (x y : Thread) → slice_get xs t ≡ Some x → IsThreadLagging tree x y → Agree (IsThreadLagging tree) xs (slice_set xs t y)
further_at tree [] t x y is h = tt
further_at tree (z ∷ zs) zero x y is h = (subst (λ (w : Thread). IsThreadLagging tree w y) (sym (same_Some z x is)) h, threads_itself tree zs)
further_at tree (z ∷ zs) (suc t) x y is h = (thread_itself tree z, further_at tree zs t x y is h)

module _ (c : MachineState) (t left n : ℕ) (f g : Frame) (at : RunsFrame c t left f) (steps : AreLocalSteps c.tree frame_room n f g) where
  abbrev after : MachineState
  after = with_live c t (left - n) (frames_over g at.below at.depth frame_room)

  lent_lagging : IsLagging c after
  lent_lagging = record {
    rest = refl;
    threads = further_at c.tree c.threads t (live_thread left (frames_over f at.below at.depth frame_room)) (live_thread (left - n) (frames_over g at.below at.depth frame_room)) at.there
        (steps_further c.tree frame_room at.below at.depth n f g steps);
  }

  -- what these steps lead to, by whatever transitions
  pub ran_locally : IsOneOperation c.tree → n < left → (next : MachineState) → AreTransitions c (replicate n (Step t)) next (replicate n Ran) → IsLagging c next
  ran_locally one less next transitions =
      subst (IsLagging c) (led_once c one (replicate n (Step t)) after next (replicate n Ran) (replicate n Ran) (local_transitions c t left f at n g less steps) transitions) lent_lagging

-- a loan that has gone on is at its origin still
pub still_at_origin : (c : MachineState) (t : ℕ) {most : ℕ} (l l' : Lent) → Begins c t l → RanLocally l most l' → (l'.tree ≡ c.tree) × IsAtOrigin c l'
still_at_origin c t {most} l l' begins ran =
    let is : l' ≡ record l { frame = l'.frame; done = l.done + ran.count } = ran.ran.is in (
      ap (λ (x : Lent). x.tree) is ∙ begins.tree,
      subst (λ (x : Lent). IsAtOrigin c x) (sym is) (subst (λ n. RunsFrame c n l.left l.origin) (sym begins.thread) begins.origin),
    )

-- and a machine that takes it back is further
pub taken_back : (c next : MachineState) (l : Lent) → IsOneOperation c.tree → l.tree ≡ c.tree → IsAtOrigin c l → IsLent l → AreTransitions c (replicate l.done (Step l.thread)) next (replicate l.done Ran) → IsLagging c next
taken_back c next l one tree at lent transitions =
    ran_locally c l.thread l.left l.done l.origin l.frame at (subst (λ (x : Tree). AreLocalSteps x frame_room l.done l.origin l.frame) tree lent.steps) one lent.less next transitions
