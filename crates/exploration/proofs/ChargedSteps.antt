-- What a counted step leaves of a thread, on two machines of which one lags behind the other.
use Rattle.std.proofs.Common.{◌≡◌, ◌⊎◌, ◌≢◌, ◌+◌, ◌-◌, ◌==◌, nat_le, ℕ, zero, suc, Bool, true, false, if◌then◌else◌, List, [], ◌∷◌, ◌++◌, length, Option, Some, None, option_map, is_some, slice_set, refl, inl, inr, sym, ap, subst}
use Rattle.interleaving_core.specs.simulation.cil_model.declared.reports.Fault.{Fault}
use Rattle.interleaving_core.specs.simulation.cil_model.declared.reports.Fault.TheVariants.{NullReference, ThreadState, TooManyThreads}
use Rattle.interleaving_core.specs.simulation.object_memory.declared.addresses.Addr.{Addr}
use Rattle.interleaving_core.specs.simulation.object_memory.Objects.{Objects}
use Rattle.interleaving_core.specs.simulation.instructions.barriers.Barriers.{stored_int}
use Rattle.interleaving_core.specs.simulation.threads_monitors.declared.effects.Effect.{Effect}
use Rattle.interleaving_core.specs.simulation.interpreter.declared.outcomes.InstructionOutcome.{InstructionOutcome}
use Rattle.exploration.proofs.Names.{option_map_or, same_Some, MOST_THREADS, Budget, Report, HasEnded, Tree, Frames, is_live, is_live_at, join_effect, charge, status_after, thread_on, wait_for, Continues, Returns, Blocks, Raises, ThreadStatus, Live, Ended, Thread, OwnEffect, Starts, Joins, Agree, MachineState, mutator_of, after_request, answer_step, count_step, finish, live_thread, seat_thread, seats_after, thread_for, agree_append, agree_length, agree_set, none_is_some, IsLagging, here, IsStatusLagging, IsThreadLagging}

-- ---- a thread and itself

pub status_itself : (tree : Tree) (s : ThreadStatus) → IsStatusLagging tree s s
status_itself tree (Live m) = here m
status_itself tree (Ended e) = refl

pub thread_itself : (tree : Tree) (x : Thread) → IsThreadLagging tree x x
thread_itself tree x = status_itself tree x.thread_status

-- ---- one thread

-- a step that is counted uses up the budget, or it has the same effect on both machines
abbrev pub ChargesStepAlike : Tree → Thread × Report → Thread × Report → Type 0
ChargesStepAlike tree x y = (x.1 ≡ HasEnded Budget) ⊎ ((x.1 ≡ y.1) × IsThreadLagging tree x.0 y.0)

by_budget : (tree : Tree) (e : Effect) (m : Frames) (left left' : ℕ) (b b' : Bool) → (status_after (if b' then Some Budget else None) m left' e).1 ≢ HasEnded Budget →
    ChargesStepAlike tree (status_after (if b then Some Budget else None) m left e) (status_after (if b' then Some Budget else None) m left' e)
by_budget tree e m left left' true b' within_budget = inl refl
by_budget tree e m left left' false true within_budget = absurd (within_budget refl)
by_budget tree e m left left' false false within_budget = inr (refl, here m)

pub charges_step_alike : (tree : Tree) (e : Effect) (m : Frames) (left left' : ℕ) → (charge e (live_thread left' m)).1 ≢ HasEnded Budget →
    ChargesStepAlike tree (charge e (live_thread left m)) (charge e (live_thread left' m))
charges_step_alike tree Returns m left left' within_budget = inr (refl, refl)
charges_step_alike tree (Raises f) m left left' within_budget = inr (refl, refl)
charges_step_alike tree Continues m left left' within_budget = by_budget tree Continues m (left - 1) (left' - 1) (left - 1 == 0) (left' - 1 == 0) within_budget
charges_step_alike tree Blocks m left left' within_budget = by_budget tree Blocks m (left - 1) (left' - 1) (left - 1 == 0) (left' - 1 == 0) within_budget

-- ---- the whole machine state

-- a transition uses up the budget, or both have one report and the first machine state lags behind the second
abbrev pub TransitionsAlike : MachineState × Report → MachineState × Report → Type 0
TransitionsAlike x y = (x.1 ≡ HasEnded Budget) ⊎ ((x.1 ≡ y.1) × IsLagging x.0 y.0)

pub counted_alike : (c : MachineState) (ts : List Thread) → Agree (IsThreadLagging c.tree) c.threads ts → (t left left' : ℕ) (e : Effect) (m : Frames) →
    (count_step (record c { threads = ts }) t left' e m).1 ≢ HasEnded Budget → TransitionsAlike (count_step c t left e m) (count_step (record c { threads = ts }) t left' e m)
counted_alike c ts agree t left left' e m within_budget = by_thread (charges_step_alike c.tree e m left left' within_budget)
  where
    by_thread : ChargesStepAlike c.tree (charge e (live_thread left m)) (charge e (live_thread left' m)) → TransitionsAlike (count_step c t left e m) (count_step (record c { threads = ts }) t left' e m)
    by_thread (inl over) = inl over
    by_thread (inr h) = inr (
      h.0,
      record {
        rest = ap (λ (q : Report). record c { threads = slice_set ts t (charge e (live_thread left' m)).0; posts = seats_after c.posts t q }) (sym h.0);
        threads = agree_set (IsThreadLagging c.tree) c.threads ts agree t (charge e (live_thread left m)).0 (charge e (live_thread left' m)).0 h.1;
      },
    )

-- ---- which threads are live

status_lives : (tree : Tree) (left left' : ℕ) (s u : ThreadStatus) → IsStatusLagging tree s u → is_live (record { thread_status = s; steps_left = left }) ≡ is_live (record { thread_status = u; steps_left = left' })
status_lives tree left left' (Live m) (Live n) h = refl
status_lives tree left left' (Ended e) (Ended f) h = refl
status_lives tree left left' (Live m) (Ended f) h = elim h [ ]
status_lives tree left left' (Ended e) (Live n) h = elim h [ ]

pub live_alike : (tree : Tree) (xs ys : List Thread) → Agree (IsThreadLagging tree) xs ys → (n : ℕ) → is_live_at xs n ≡ is_live_at ys n
live_alike tree [] [] h n = refl
live_alike tree (x ∷ xs) (y ∷ ys) h zero = status_lives tree x.steps_left y.steps_left x.thread_status y.thread_status h.0
live_alike tree (x ∷ xs) (y ∷ ys) h (suc n) = live_alike tree xs ys h.1 n
live_alike tree [] (y ∷ ys) h n = elim h [ ]
live_alike tree (x ∷ xs) [] h n = elim h [ ]

-- ---- the outcome of an instruction

module _ (c : MachineState) (ts : List Thread) (agree : Agree (IsThreadLagging c.tree) c.threads ts) (t left left' : ℕ) (m : Frames) (y : MachineState × Report) (within_budget : y.1 ≢ HasEnded Budget) where
  abbrev d : MachineState
  d = record c { threads = ts }

  -- the same transition of the first
  abbrev Reaches' : Option (MachineState × Report) → Type 0
  Reaches' transition = (x : MachineState × Report) × (transition ≡ Some x) × TransitionsAlike x y

  counts : (b : MachineState) (us : List Thread) → Agree (IsThreadLagging b.tree) b.threads us → (e : Effect) (n : Frames) → Some (count_step (record b { threads = us }) t left' e n) ≡ Some y → Reaches' (Some (count_step b t left e n))
  counts b us h e n is =
      let same = same_Some (count_step (record b { threads = us }) t left' e n) y is in (
        count_step b t left e n,
        refl,
        subst (λ z. TransitionsAlike (count_step b t left e n) z) same (counted_alike b us h t left left' e n (subst (λ (z : MachineState × Report). z.1 ≢ HasEnded Budget) (sym same) within_budget)),
      )

  -- ---- a start

  abbrev fault_by : ℕ → Objects → Addr → Option Fault
  fault_by n o a = if a.number == 0 then Some NullReference else if is_some (thread_on o a) then Some ThreadState else if nat_le MOST_THREADS n then Some TooManyThreads else None

  abbrev start_transition : ℕ → ℕ → List Thread → Addr → Option Fault → Option Thread → Option (MachineState × Report)
  start_transition l n threads a fault new =
      option_map (λ (x : List Thread × Objects × Effect). answer_step (record c { threads = x.0; posts = seat_thread x.2 c.posts n t; objects = x.1 }) t l m x.2)
      (option_map_or (λ x. Some (threads, c.objects, Raises x)) fault
      (option_map (λ thread. option_map_or (λ f. (threads, c.objects, Raises f)) fault (threads ++ thread ∷ [], stored_int (mutator_of c t).phase c.objects a 0 (n + 1), Continues)) new))

  by_fault : (n : ℕ) (a : Addr) (fault : Option Fault) (new : Option Thread) → start_transition left' n ts a fault new ≡ Some y → Reaches' (start_transition left n c.threads a fault new)
  by_fault n a (Some f) new h = counts c ts agree (Raises f) m h
  by_fault n a None None h = none_is_some y h
  by_fault n a None (Some thread) h =
      counts (record c { threads = c.threads ++ thread ∷ []; posts = seat_thread Continues c.posts n t; objects = stored_int (mutator_of c t).phase c.objects a 0 (n + 1) }) (ts ++ thread ∷ [])
      (agree_append (IsThreadLagging c.tree) c.threads ts agree (thread ∷ []) (thread ∷ []) (thread_itself c.tree thread, tt)) Continues (after_request Continues m) h

  start_alike : (a : Addr) → finish d t left' m (Starts a) ≡ Some y → Reaches' (finish c t left m (Starts a))
  start_alike a h =
      let new : Option Thread = thread_for c.tree c.limits c.objects a in
      by_fault (length c.threads) a (fault_by (length c.threads) c.objects a) new
      (subst (λ n. start_transition left' n ts a (fault_by n c.objects a) new ≡ Some y) (sym (agree_length (IsThreadLagging c.tree) c.threads ts agree)) h)

  -- ---- a join

  waits_alike : (o : Option ℕ) → wait_for ts o ≡ wait_for c.threads o
  waits_alike None = refl
  waits_alike (Some n) = ap (λ b. if b then Blocks else Continues) (sym (live_alike c.tree c.threads ts agree n))

  join_alike : (a : Addr) → finish d t left' m (Joins a) ≡ Some y → Reaches' (finish c t left m (Joins a))
  join_alike a h =
      let same : join_effect ts c.objects a ≡ join_effect c.threads c.objects a = ap (λ e. if a.number == 0 then Raises NullReference else e) (waits_alike (thread_on c.objects a)) in
      counts c ts agree (join_effect c.threads c.objects a) (after_request (join_effect c.threads c.objects a) m) (subst (λ e. Some (answer_step d t left' m e) ≡ Some y) same h)

  pub finish_alike : (out : InstructionOutcome) → finish d t left' m out ≡ Some y → (x : MachineState × Report) × (finish c t left m out ≡ Some x) × TransitionsAlike x y
  finish_alike (OwnEffect e) h = counts c ts agree e m h
  finish_alike (Starts a) h = start_alike a h
  finish_alike (Joins a) h = join_alike a h
