-- A step of a machine that lags behind another.
use Rattle.std.proofs.Common.{◌≡◌, ◌⊎◌, ◌≢◌, ◌-◌, ◌==◌, ℕ, zero, suc, Bool, true, false, if◌then◌else◌, List, [], ◌∷◌, Option, Some, None, slice_get, slice_set, refl, inl, inr, sym, subst}
use Rattle.interleaving_core.specs.simulation.interpreter.Instructions.{Answer, IsDone, answer_of}
use Rattle.interleaving_core.proofs.Threads.HalfSteps.{live_there}
use Rattle.exploration.proofs.Names.{option_map_or, set-set, same_Some, Step, Budget, Report, Absent, Ran, HasEnded, Frames, is_live, is_live_at, status_after, Continues, ThreadStatus, Live, Ended, Thread, OwnEffect, Agree, MachineState, mutator_of, IsStatusTransition, IsThreadTransition, IsTransition, count_step, left_by, live_thread, seats_after, agree_at, agree_set, IsLagging, IsAhead, here, onward, IsLocalMove, IsStatusLagging, IsThreadLagging}
use Rattle.exploration.proofs.ChargedSteps.{TransitionsAlike, finish_alike}

-- ---- a thread that is not live

-- its step changes nothing
pub absent_transition : (c : MachineState) (t : ℕ) → is_live_at c.threads t ≡ false → IsTransition c (Step t) (c, Absent)
absent_transition c t dead = by_thread (slice_get c.threads t) dead
  where
    by_thread_status : (s : ThreadStatus) (left : ℕ) → is_live (record { thread_status = s; steps_left = left }) ≡ false → IsStatusTransition c t left s (c, Absent)
    by_thread_status (Live m) left h = absurd cc
    by_thread_status (Ended e) left h = refl

    by_thread : (o : Option Thread) → option_map_or is_live o false ≡ false → IsThreadTransition c t o (c, Absent)
    by_thread None h = refl
    by_thread (Some thread) h = by_thread_status thread.thread_status thread.steps_left h

-- ---- agreeing lists

-- replacing an element by one that agrees with the second list's element at that index
pub agree_before : {A B : Type 0} (R : A → B → Type 0) (xs : List A) (ys : List B) → Agree R xs ys → (n : ℕ) (x : A) (y : B) → slice_get ys n ≡ Some y → R x y → Agree R (slice_set xs n x) ys
agree_before R [] [] h n x y is r = h
agree_before R (z ∷ zs) (w ∷ ws) h zero x y is r = (subst (λ v. R x v) (sym (same_Some w y is)) r, h.1)
agree_before R (z ∷ zs) (w ∷ ws) h (suc n) x y is r = (h.0, agree_before R zs ws h.1 n x y is r)
agree_before R [] (w ∷ ws) h n x y is r = elim h [ ]
agree_before R (z ∷ zs) [] h n x y is r = elim h [ ]

-- ---- the step

module _ (c : MachineState) (ts : List Thread) (agree : Agree (IsThreadLagging c.tree) c.threads ts) (t left : ℕ) (m : Frames) (there : slice_get c.threads t ≡ Some (live_thread left m)) (next : MachineState) (r : Report) (within_budget : r ≢ HasEnded Budget) where
  abbrev d : MachineState
  d = record c { threads = ts }

  -- the result of the first machine's step
  abbrev Steps : Type 0
  Steps = (after : MachineState) × (q : Report) × IsTransition c (Step t) (after, q) × ((q ≡ HasEnded Budget) ⊎ (((q ≡ Ran) × IsLagging after d) ⊎ ((q ≡ r) × IsLagging after next)))

  transition_of : (x : MachineState × Report) → IsStatusTransition c t left (Live m) x → IsTransition c (Step t) x
  transition_of x h = subst (λ (o : Option Thread). IsThreadTransition c t o x) (sym there) h

  -- both are at the same frames
  same_step : (left' : ℕ) → IsStatusTransition d t left' (Live m) (next, r) → Steps
  same_step left' (a, done, is) =
      let b : MachineState = left_by c t left a in
      let us : List Thread = slice_set ts t (live_thread left' a.frames) in
      let one = finish_alike b us (agree_set (IsThreadLagging c.tree) c.threads ts agree t (live_thread left a.frames) (live_thread left' a.frames) (here a.frames)) t left left' a.frames (next, r) within_budget a.outcome is in
      (one.0.0, one.0.1, transition_of one.0 (a, done, one.1), by_transitions one.0 one.2)
    where
      by_transitions : (x : MachineState × Report) → TransitionsAlike x (next, r) → (x.1 ≡ HasEnded Budget) ⊎ (((x.1 ≡ Ran) × IsLagging x.0 d) ⊎ ((x.1 ≡ r) × IsLagging x.0 next))
      by_transitions x (inl over) = inl over
      by_transitions x (inr h) = inr (inr h)

  -- the second has gone on already
  module _ (n : Frames) where
    abbrev step_charged_at : Bool → Thread × Report
    step_charged_at b = status_after (if b then Some Budget else None) n (left - 1) Continues

    abbrev machine_state_at : Bool → MachineState
    machine_state_at b = record c { threads = slice_set (slice_set c.threads t (live_thread left n)) t (step_charged_at b).0; posts = seats_after c.posts t (step_charged_at b).1 }

    own_step : (last : Frames) (left' : ℕ) → slice_get ts t ≡ Some (live_thread left' last) → IsLocalMove c.tree m n → IsAhead c.tree n last → Steps
    own_step last left' is move further =
        let a : Answer = answer_of n c.objects c.statics c.printed (OwnEffect Continues) in
        let done : IsDone c.tree (mutator_of c t) m c.objects c.statics c.printed a = move.done (mutator_of c t) c.objects c.statics c.printed in
        let x : MachineState × Report = count_step (left_by c t left a) t left Continues n in
        (x.0, x.1, transition_of x (a, done, refl), by_budget (left - 1 == 0))
      where
        by_budget : (b : Bool) → ((step_charged_at b).1 ≡ HasEnded Budget) ⊎ ((((step_charged_at b).1 ≡ Ran) × IsLagging (machine_state_at b) d) ⊎ (((step_charged_at b).1 ≡ r) × IsLagging (machine_state_at b) next))
        by_budget true = inl refl
        by_budget false = inr (inl (
          refl,
          record {
            rest = refl;
            threads = subst (λ (xs : List Thread). Agree (IsThreadLagging c.tree) xs ts) (sym (set-set c.threads t (live_thread left n) (live_thread (left - 1) n)))
                (agree_before (IsThreadLagging c.tree) c.threads ts agree t (live_thread (left - 1) n) (live_thread left' last) is further);
          },
        ))

  by_thread_status : (s : ThreadStatus) (left' : ℕ) → slice_get ts t ≡ Some (record { thread_status = s; steps_left = left' }) → IsStatusLagging c.tree (Live m) s → IsStatusTransition d t left' s (next, r) → Steps
  by_thread_status (Ended e) left' is h transition = elim h [ ]
  by_thread_status (Live n) left' is h transition = by_frames m n h refl is transition
    where
      by_frames : (k n : Frames) → IsAhead c.tree k n → k ≡ m → slice_get ts t ≡ Some (live_thread left' n) → IsStatusTransition d t left' (Live n) (next, r) → Steps
      by_frames k _ (here _) same at transition' = same_step left' (subst (λ (x : Frames). IsStatusTransition d t left' (Live x) (next, r)) same transition')
      by_frames k _ (onward _ n last move further) same at transition' = own_step n last left' at (subst (λ (x : Frames). IsLocalMove c.tree x n) same move) further

  pub steps_lagging : IsTransition d (Step t) (next, r) → Steps
  steps_lagging transition =
      let found = agree_at (IsThreadLagging c.tree) c.threads ts agree t (live_thread left m) there in
      by_thread_status found.0.thread_status found.0.steps_left found.1 found.2 (subst (λ (o : Option Thread). IsThreadTransition d t o (next, r)) found.1 transition)

-- whatever the second machine is
pub stays_lagging : (c d : MachineState) → IsLagging c d → (t : ℕ) → is_live_at c.threads t ≡ true → (next : MachineState) (r : Report) → IsTransition d (Step t) (next, r) → r ≢ HasEnded Budget →
    (after : MachineState) × (q : Report) × IsTransition c (Step t) (after, q) × ((q ≡ HasEnded Budget) ⊎ (((q ≡ Ran) × IsLagging after d) ⊎ ((q ≡ r) × IsLagging after next)))
stays_lagging c d lagging t live next r transition within_budget =
    let l = live_there c.threads t live in
    subst (λ (x : MachineState). IsTransition x (Step t) (next, r) → (after : MachineState) × (q : Report) × IsTransition c (Step t) (after, q) × ((q ≡ HasEnded Budget) ⊎ (((q ≡ Ran) × IsLagging after x) ⊎ ((q ≡ r) × IsLagging after next))))
    (sym lagging.rest) (steps_lagging c d.threads lagging.threads t l.0 l.1 l.2 next r within_budget) transition
