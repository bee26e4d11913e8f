-- A transition takes one step from what is left to the thread that makes it, none from another, and leaves each live thread some.
use Rattle.std.proofs.Common.{◌≡◌, ◌⊎◌, ◌<◌, ◌+◌, ◌-◌, ◌==◌, if◌then◌else◌, ℕ, zero, suc, Bool, true, false, cond, List, [], ◌∷◌, ◌++◌, Option, Some, None, slice_get, slice_set, refl, inl, inr, sym, ap, ◌∙◌, subst, arith}
use Rattle.std.proofs.lemmas.Bool.Decides.{nat_tests}
use Rattle.std.proofs.lemmas.List.Sums.{sum_by-cons}
use Rattle.std.specs.Option.{option_map_or}
use Rattle.cil_model.specs.declared.events.Event.{Event}
use Rattle.cil_model.specs.declared.events.Event.TheVariants.{Step, Ack, Gc}
use Rattle.cil_model.specs.declared.limits.Limits.{Limits}
use Rattle.cil_model.specs.declared.reports.End.{End}
use Rattle.cil_model.specs.declared.reports.Report.{Report}
use Rattle.cil_model.specs.declared.reports.Report.TheVariants.{Absent}
use Rattle.object_memory.specs.Objects.{Objects}
use Rattle.threads_monitors.specs.Frames.{Frames}
use Rattle.threads_monitors.specs.Threads.{end_after, is_live, is_live_at, report_of, status_after}
use Rattle.threads_monitors.specs.declared.effects.Effect.{Effect}
use Rattle.threads_monitors.specs.declared.effects.Effect.TheVariants.{Continues, Returns, Blocks, Raises}
use Rattle.threads_monitors.specs.declared.threads.ThreadStatus.{ThreadStatus}
use Rattle.threads_monitors.specs.declared.threads.ThreadStatus.TheVariants.{Live, Ended}
use Rattle.threads_monitors.specs.declared.threads.Thread.{Thread}
use Rattle.phase_handshake.specs.Handshakes.{Handshakes, acknowledge_phase, leave_handshakes as without_seat}
use Rattle.simulation.specs.interpreter.declared.outcomes.InstructionOutcome.{InstructionOutcome}
use Rattle.simulation.specs.Budgets.{KeepsBudgets, made_step, steps_left_of, steps_made}
use Rattle.simulation.specs.MachineStates.{MachineState}
use Rattle.simulation.specs.CollectorSteps.{acknowledgement, collect, flips_frames, objects_after, status_flipped, thread_flipped, with_acknowledgement, with_flipped}
use Rattle.simulation.specs.Transitions.{IsStatusTransition, IsThreadTransition, IsTransition, count_step, finish_step, left_by, live_thread, seats_after}
use Rattle.simulation.proofs.CollectorEvents.UnchangedState.{collected_keeps}
use Rattle.simulation.proofs.Threads.StepEffects.{HasBegun, finished_by}
use Rattle.cil_model.proofs.Lists.{none_is_some, get_before, set_is_there}
use Rattle.simulation.specs.interpreter.Instructions.{Answer}

-- ---- one thread among others

-- the steps left to thread t
abbrev left_in : ℕ → List Thread → ℕ → ℕ
left_in budget threads t = option_map_or (λ (thread : Thread). thread.steps_left) (slice_get threads t) budget

-- each live thread has steps left
abbrev pub LiveHaveSteps : ℕ → List Thread → Type 0
LiveHaveSteps budget threads = (t : ℕ) → is_live_at threads t ≡ true → 0 < left_in budget threads t

same_less : (n t : ℕ) → (suc n == suc t) ≡ (n == t)
same_less n t = grind (arith, nat_tests)

zero_itself : (zero == zero) ≡ true
zero_itself = grind (arith, nat_tests)

zero_never : (t : ℕ) → (zero == suc t) ≡ false
zero_never t = grind (arith, nat_tests)

never_zero : (n : ℕ) → (suc n == zero) ≡ false
never_zero n = grind (arith, nat_tests)

-- one step less of a thread
left_set : (budget : ℕ) (threads : List Thread) (n t : ℕ) (x y : Thread) → slice_get threads n ≡ Some y → suc x.steps_left ≡ y.steps_left → cond (n == t) 1 0 + left_in budget (slice_set threads n x) t ≡ left_in budget threads t
left_set budget [] n t x y there less = none_is_some y there
left_set budget (z ∷ zs) zero zero x y there less =
    let same : z.steps_left ≡ y.steps_left = ap (λ (o : Option Thread). option_map_or (λ (thread : Thread). thread.steps_left) o budget) there in
    ap (λ b. cond b 1 0 + x.steps_left) zero_itself ∙ omega (arith, less, same)
left_set budget (z ∷ zs) zero (suc t) x y there less = ap (λ b. cond b 1 0 + left_in budget zs t) (zero_never t) ∙ omega arith
left_set budget (z ∷ zs) (suc n) zero x y there less = ap (λ b. cond b 1 0 + z.steps_left) (never_zero n) ∙ omega arith
left_set budget (z ∷ zs) (suc n) (suc t) x y there less = ap (λ b. cond b 1 0 + left_in budget (slice_set zs n x) t) (same_less n t) ∙ left_set budget zs n t x y there less

-- a thread keeps its number of steps
left_kept : (budget : ℕ) (threads : List Thread) (n t : ℕ) (x y : Thread) → slice_get threads n ≡ Some y → x.steps_left ≡ y.steps_left → left_in budget (slice_set threads n x) t ≡ left_in budget threads t
left_kept budget [] n t x y there same = none_is_some y there
left_kept budget (z ∷ zs) zero zero x y there same = same ∙ sym (ap (λ (o : Option Thread). option_map_or (λ (thread : Thread). thread.steps_left) o budget) there)
left_kept budget (z ∷ zs) zero (suc t) x y there same = refl
left_kept budget (z ∷ zs) (suc n) zero x y there same = refl
left_kept budget (z ∷ zs) (suc n) (suc t) x y there same = left_kept budget zs n t x y there same

-- a new thread has its whole budget, as it had before it began
left_after : (budget : ℕ) (threads : List Thread) (t : ℕ) (new : Thread) → new.steps_left ≡ budget → left_in budget (threads ++ new ∷ []) t ≡ left_in budget threads t
left_after budget [] zero new whole = whole
left_after budget [] (suc t) new whole = refl
left_after budget (z ∷ zs) zero new whole = refl
left_after budget (z ∷ zs) (suc t) new whole = left_after budget zs t new whole

live_set : (budget : ℕ) (threads : List Thread) (n : ℕ) (x : Thread) → (is_live x ≡ true → 0 < x.steps_left) → LiveHaveSteps budget threads → LiveHaveSteps budget (slice_set threads n x)
live_set budget [] n x h live t = live t
live_set budget (z ∷ zs) zero x h live zero = h
live_set budget (z ∷ zs) zero x h live (suc t) = live (suc t)
live_set budget (z ∷ zs) (suc n) x h live zero = live zero
live_set budget (z ∷ zs) (suc n) x h live (suc t) = live_set budget zs n x h (λ k. live (suc k)) t

live_following : (budget : ℕ) (threads : List Thread) (new : Thread) → 0 < new.steps_left → LiveHaveSteps budget threads → LiveHaveSteps budget (threads ++ new ∷ [])
live_following budget [] new some live zero = λ h. some
live_following budget [] new some live (suc t) = live (suc t)
live_following budget (z ∷ zs) new some live zero = live zero
live_following budget (z ∷ zs) new some live (suc t) = live_following budget zs new some (λ k. live (suc k)) t

-- ---- one event

one_made : (t n : ℕ) (r : Report) (leave_handshakes : ℕ) → made_step t (Step n) r ≡ (n == t) → steps_made t ((Step n, r) ∷ []) + leave_handshakes ≡ cond (n == t) 1 0 + leave_handshakes
one_made t n r leave_handshakes e = ap (λ b. 0 + cond b 1 0 + leave_handshakes) e ∙ omega arith

none_made : (t : ℕ) (e : Event) (r : Report) (leave_handshakes : ℕ) → made_step t e r ≡ false → steps_made t ((e, r) ∷ []) + leave_handshakes ≡ leave_handshakes
none_made t e r leave_handshakes h = ap (λ b. 0 + cond b 1 0 + leave_handshakes) h ∙ omega arith

module _ (c : MachineState) (live : LiveHaveSteps c.limits.budget c.threads) (some : 0 < c.limits.budget) where
  -- nothing changes
  unmoved : (e : Event) (r : Report) → ((t : ℕ) → made_step t e r ≡ false) → KeepsBudgets c c ((e, r) ∷ [])
  unmoved e r none = record { counted = λ t. none_made t e r (steps_left_of c t) (none t); live = live }

  unmoved_as : (e : Event) (r : Report) (after : MachineState × Report) → after ≡ (c, r) → ((t : ℕ) → made_step t e r ≡ false) → KeepsBudgets c after.0 ((e, after.1) ∷ [])
  unmoved_as e r after is none = subst (λ (x : MachineState × Report). KeepsBudgets c x.0 ((e, x.1) ∷ [])) (sym is) (unmoved e r none)

  module _ (n leave_handshakes : ℕ) (before : Frames) (there : slice_get c.threads n ≡ Some (live_thread leave_handshakes before)) where
    some_left : 0 < leave_handshakes
    some_left = subst (λ (o : Option Thread). 0 < option_map_or (λ (thread : Thread). thread.steps_left) o c.limits.budget) there (live n (ap (λ (o : Option Thread). option_map_or is_live o false) there))

    -- the threads beside which a step is counted: the same number of steps is left to each, and the thread of the step is there
    record AreAsBefore (threads : List Thread) : Type 0 where
      pub own : Thread
      pub own_there : slice_get threads n ≡ Some own
      pub own_left : own.steps_left ≡ leave_handshakes
      pub same : (t : ℕ) → left_in c.limits.budget threads t ≡ left_in c.limits.budget c.threads t
      pub have_steps : LiveHaveSteps c.limits.budget threads

    module _ (d : MachineState) (as_before : AreAsBefore d.threads) (limits : d.limits ≡ c.limits) where
      -- the thread stands so after the step
      stepped : (x : Thread) (h : Handshakes) (r : Report) → ((t : ℕ) → made_step t (Step n) r ≡ (n == t)) → suc x.steps_left ≡ leave_handshakes → (is_live x ≡ true → 0 < x.steps_left) → KeepsBudgets c (record d { threads = slice_set d.threads n x; posts = h }) ((Step n, r) ∷ [])
      stepped x h r made less goes = record {
        counted = λ t. one_made t n r (left_in d.limits.budget (slice_set d.threads n x) t) (made t)
            ∙ (ap (λ l. cond (n == t) 1 0 + left_in l.budget (slice_set d.threads n x) t) limits
            ∙ (left_set c.limits.budget d.threads n t x as_before.own as_before.own_there (less ∙ sym as_before.own_left) ∙ as_before.same t));
        live = λ t. subst (λ l. is_live_at (slice_set d.threads n x) t ≡ true → 0 < left_in l.budget (slice_set d.threads n x) t) (sym limits) (live_set c.limits.budget d.threads n x goes as_before.have_steps t);
      }

      -- a live thread after its step has steps left
      live_left : (e : Effect) (k : ℕ) → end_after e k ≡ None → 0 < k
      live_left Returns k is = none_is_some _ (sym is)
      live_left (Raises f) k is = none_is_some _ (sym is)
      live_left Continues zero is = absurd (ended is)
        where
          ended : end_after Continues zero ≡ None → ⊥
          ended e = absurd cc
      live_left Continues (suc k) is = omega arith
      live_left Blocks zero is = absurd (ended is)
        where
          ended : end_after Blocks zero ≡ None → ⊥
          ended e = absurd cc
      live_left Blocks (suc k) is = omega arith

      made_by : (e : Effect) (t : ℕ) → made_step t (Step n) (report_of e) ≡ (n == t)
      made_by Returns t = refl
      made_by (Raises f) t = refl
      made_by Continues t = refl
      made_by Blocks t = refl

      less_one : suc (leave_handshakes - 1) ≡ leave_handshakes
      less_one = omega (arith, some_left)

      counts : (e : Effect) (m : Frames) → KeepsBudgets c (count_step d n leave_handshakes e m).0 ((Step n, (count_step d n leave_handshakes e m).1) ∷ [])
      counts e m = by_end (end_after e (leave_handshakes - 1)) refl
        where
          by_end : (end : Option End) → end_after e (leave_handshakes - 1) ≡ end → KeepsBudgets c (record d { threads = slice_set d.threads n (status_after end m (leave_handshakes - 1) e).0; posts = seats_after d.posts n (status_after end m (leave_handshakes - 1) e).1 }) ((Step n, (status_after end m (leave_handshakes - 1) e).1) ∷ [])
          by_end None is = stepped (record { thread_status = Live m; steps_left = leave_handshakes - 1 }) (seats_after d.posts n (report_of e)) (report_of e) (made_by e) less_one (λ h. live_left e (leave_handshakes - 1) is)
          by_end (Some x) is = stepped (record { thread_status = Ended x; steps_left = leave_handshakes - 1 }) (without_seat d.posts n) _ (λ t. refl) less_one (λ h. absurd cc)

    -- the thread has other frames
    module _ (a : Answer) where
      own_is : slice_get (left_by c n leave_handshakes a).threads n ≡ Some (live_thread leave_handshakes a.frames)
      own_is = set_is_there c.threads n (live_thread leave_handshakes a.frames) (live_thread leave_handshakes before) there

      replaced : AreAsBefore (left_by c n leave_handshakes a).threads
      replaced = record {
        own = live_thread leave_handshakes a.frames;
        own_there = own_is;
        own_left = refl;
        same = λ t. left_kept c.limits.budget c.threads n t (live_thread leave_handshakes a.frames) (live_thread leave_handshakes before) there refl;
        have_steps = live_set c.limits.budget c.threads n (live_thread leave_handshakes a.frames) (λ h. some_left) live;
      }

      -- and a thread has begun beside it
      joined_by : (threads : List Thread) → HasBegun c.limits.budget (left_by c n leave_handshakes a).threads threads → AreAsBefore threads
      joined_by threads more = subst AreAsBefore (sym more.are) (record {
        own = live_thread leave_handshakes a.frames;
        own_there = get_before (left_by c n leave_handshakes a).threads (more.new ∷ []) n (live_thread leave_handshakes a.frames) own_is;
        own_left = refl;
        same = λ t. left_after c.limits.budget (left_by c n leave_handshakes a).threads t more.new more.whole ∙ replaced.same t;
        have_steps = live_following c.limits.budget (left_by c n leave_handshakes a).threads more.new (subst (λ k. 0 < k) (sym more.whole) some) replaced.have_steps;
      })

      outcome_keeps : (o : InstructionOutcome) (after : MachineState × Report) → finish_step c n leave_handshakes a o ≡ Some after → KeepsBudgets c after.0 ((Step n, after.1) ∷ [])
      outcome_keeps o after done =
          let way = finished_by c n leave_handshakes a after o done in
          subst (λ (x : MachineState × Report). KeepsBudgets c x.0 ((Step n, x.1) ∷ [])) way.is
          (counts (record (left_by c n leave_handshakes a) { threads = way.threads; posts = way.posts; objects = way.objects }) (by_way way.threads way.are) refl way.effect way.frames)
        where
          by_way : {P Q : Type 0} (threads : List Thread) → ((threads ≡ (left_by c n leave_handshakes a).threads) × P) ⊎ (HasBegun c.limits.budget (left_by c n leave_handshakes a).threads threads × Q) → AreAsBefore threads
          by_way threads (inl (is, seats)) = subst AreAsBefore (sym is) replaced
          by_way threads (inr (more, seats)) = joined_by threads more

  -- ---- events that are no steps

  -- where the threads and the limits stay
  rest_keeps : (d : MachineState) (r : Report) → d.threads ≡ c.threads → d.limits ≡ c.limits → KeepsBudgets c d ((Gc, r) ∷ [])
  rest_keeps d r threads limits = record {
    counted = λ t. none_made t Gc r (steps_left_of d t) refl ∙ (ap (λ ts. left_in d.limits.budget ts t) threads ∙ ap (λ (l : Limits). left_in l.budget c.threads t) limits);
    live = λ t. subst (λ ts. is_live_at ts t ≡ true → 0 < left_in d.limits.budget ts t) (sym threads) (subst (λ (l : Limits). is_live_at c.threads t ≡ true → 0 < left_in l.budget c.threads t) (sym limits) (live t));
  }

  -- a thread whose frames are flipped is as live as it was
  flipped_live : (o : Objects) (x : Thread) → is_live (thread_flipped o x) ≡ true → is_live x ≡ true
  flipped_live o x = by_thread_status x.thread_status
    where
      by_thread_status : (s : ThreadStatus) → is_live (record x { thread_status = status_flipped o s }) ≡ true → is_live (record x { thread_status = s }) ≡ true
      by_thread_status (Live m) h = refl
      by_thread_status (Ended e) h = h

  -- an acknowledgement
  module _ (n : ℕ) where
    abbrev acknowledged_with : List Thread → MachineState
    acknowledged_with threads = record c { threads = threads; posts = acknowledge_phase c.posts n; objects = objects_after c n }

    kept_with : (threads : List Thread) → ((t : ℕ) → left_in c.limits.budget threads t ≡ left_in c.limits.budget c.threads t) → LiveHaveSteps c.limits.budget threads →
        KeepsBudgets c (acknowledged_with threads) ((Ack n, acknowledgement c n) ∷ [])
    kept_with threads same have = record { counted = λ t. none_made t (Ack n) (acknowledgement c n) (left_in c.limits.budget threads t) refl ∙ same t; live = have }

    flipped_keeps : (o : Option Thread) → slice_get c.threads n ≡ o → KeepsBudgets c (acknowledged_with (with_flipped c.objects c.threads n o)) ((Ack n, acknowledgement c n) ∷ [])
    flipped_keeps None is = kept_with c.threads (λ t. refl) live
    flipped_keeps (Some x) is =
        kept_with (slice_set c.threads n (thread_flipped c.objects x))
        (λ t. left_kept c.limits.budget c.threads n t (thread_flipped c.objects x) x is refl)
        (live_set c.limits.budget c.threads n (thread_flipped c.objects x) (λ h. has_steps (flipped_live c.objects x h)) live)
      where
        has_steps : is_live x ≡ true → 0 < x.steps_left
        has_steps lives =
            subst (λ (o : Option Thread). 0 < option_map_or (λ (thread : Thread). thread.steps_left) o c.limits.budget) is
            (live n (ap (λ (o : Option Thread). option_map_or is_live o false) is ∙ lives))

    by_flip : (b : Bool) → KeepsBudgets c (acknowledged_with (if b then with_flipped c.objects c.threads n (slice_get c.threads n) else c.threads)) ((Ack n, acknowledgement c n) ∷ [])
    by_flip true = flipped_keeps (slice_get c.threads n) refl
    by_flip false = kept_with c.threads (λ t. refl) live

    acknowledged_keeps : KeepsBudgets c (with_acknowledgement c n).0 ((Ack n, (with_acknowledgement c n).1) ∷ [])
    acknowledged_keeps = by_flip (flips_frames c n)

  -- an event keeps the budgets
  pub transition_keeps : (e : Event) (after : MachineState × Report) → IsTransition c e after → KeepsBudgets c after.0 ((e, after.1) ∷ [])
  transition_keeps (Ack n) after h = subst (λ (x : MachineState × Report). KeepsBudgets c x.0 ((Ack n, x.1) ∷ [])) (sym h) (acknowledged_keeps n)
  transition_keeps Gc after h =
      subst (λ (x : MachineState × Report). KeepsBudgets c x.0 ((Gc, x.1) ∷ [])) (sym h) (rest_keeps (collect c).0 (collect c).1 (collected_keeps c).threads (collected_keeps c).limits)
  transition_keeps (Step n) after h = by_thread (slice_get c.threads n) refl h
    where
      by_thread_status : (leave_handshakes : ℕ) (thread_status : ThreadStatus) → slice_get c.threads n ≡ Some (record { thread_status = thread_status; steps_left = leave_handshakes }) → IsStatusTransition c n leave_handshakes thread_status after → KeepsBudgets c after.0 ((Step n, after.1) ∷ [])
      by_thread_status leave_handshakes (Live m) there k = outcome_keeps n leave_handshakes m there k.0 k.0.outcome after k.2
      by_thread_status leave_handshakes (Ended e) there k = unmoved_as (Step n) Absent after k (λ t. refl)

      by_thread : (o : Option Thread) → slice_get c.threads n ≡ o → IsThreadTransition c n o after → KeepsBudgets c after.0 ((Step n, after.1) ∷ [])
      by_thread None there k = unmoved_as (Step n) Absent after k (λ t. refl)
      by_thread (Some thread) there k = by_thread_status thread.steps_left thread.thread_status there k

-- ---- one list after another

-- the steps of both lists
made_by_both : (t : ℕ) (es fs : List (Event × Report)) → steps_made t (es ++ fs) ≡ steps_made t es + steps_made t fs
made_by_both t [] fs = let none : steps_made t [] ≡ 0 = refl in omega (arith, none)
made_by_both t (e ∷ es) fs =
    let whole : steps_made t (e ∷ es ++ fs) ≡ cond (made_step t e.0 e.1) 1 0 + steps_made t (es ++ fs) = sum_by-cons (λ (x : Event × Report). cond (made_step t x.0 x.1) 1 0) e (es ++ fs) in
    let first : steps_made t (e ∷ es) ≡ cond (made_step t e.0 e.1) 1 0 + steps_made t es = sum_by-cons (λ (x : Event × Report). cond (made_step t x.0 x.1) 1 0) e es in
    omega (arith, whole, first, made_by_both t es fs)

pub keeps_after : (a b d : MachineState) (es fs : List (Event × Report)) → KeepsBudgets a b es → KeepsBudgets b d fs → KeepsBudgets a d (es ++ fs)
keeps_after a b d es fs h k = record { counted = λ t. omega (arith, made_by_both t es fs, h.counted t, k.counted t); live = k.live }
