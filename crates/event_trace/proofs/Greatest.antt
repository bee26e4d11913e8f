-- More rounds than there are threads leave the greatest set of threads that wait for one another.
use Rattle.std.proofs.Common.{◌≡◌, ◌≤◌, ◌<◌, ◌+◌, ◌⊎◌, ◌&&◌, ◌||◌, not, ℕ, zero, suc, Bool, true, false, List, length, replicate, Option, Some, None, option_map, slice_get, unwrap_or, refl, inl, inr, sym, ap, ◌∙◌, subst, arith}
use Rattle.std.specs.Option.{option_map_or}
use Rattle.std.proofs.lemmas.Bool.{not-true, or_cases}
use Rattle.cil_model.proofs.Lists.{none_is_some}
use Rattle.interleaving_core.specs.simulation.reference_machine.Blocking.{HasEnded, HoldersWereStarted, IsBlockedSet, IsHeldUp, IsIn}
use Rattle.interleaving_core.specs.simulation.Counts.{IsCountedMonitor}
use Rattle.event_trace.proofs.Names.{length-replicate, same_Some, slice_get_within, not_both, Held, HeapObject, StateThread, State, is_live_thread, Born, Literal, StateWait, ForMonitor, ForEnd, wait_of, IsTrueWait, waits_truly, waiting_lives, is_live_at, MachineState, IsThread, Represents, wait_at, Wait, Monitor, Join, agree_length, lives_alike, after_round, is_held_up, is_in, stays}
use Rattle.event_trace.specs.Deadlocks.{IsDeadlockOf}
use Rattle.event_trace.proofs.WaitsAlike.{AreWaitsAlike, IsWaitAlike, waits_alike}
use Rattle.event_trace.proofs.RoundLaws.{count, count_within, in_is, is_in_truly, restrict_at, restrict_length, same_or_less}

no_start : (t : ℕ) → 0 + t ≡ t
no_start t = omega arith

-- the items of a list of truths
all_true : (n t : ℕ) → t < n → slice_get (replicate n true) t ≡ Some true
all_true zero t below = absurd (omega (arith, below))
all_true (suc n) zero below = refl
all_true (suc n) (suc t) below = all_true n t (omega (arith, below))

module _ (c : MachineState) (s : State) (r : Represents c s) where
  -- who holds a monitor was started
  pub holders_started : HoldersWereStarted s
  holders_started (Literal characters) owner count held = let h = r.counted.literals characters (Held owner count) held in (h.0, h.1)
  holders_started (Born n) owner count held = by_object (slice_get s.objects n) refl held
    where
      by_object : (o : Option HeapObject) → slice_get s.objects n ≡ o → option_map (λ (x : HeapObject). x.monitor) o ≡ Some (Held owner count) → (thread : StateThread) × (slice_get s.threads owner ≡ Some thread)
      by_object None is e = none_is_some (Held owner count) e
      by_object (Some o) is e =
          let counted = r.counted.objects n o is in
          let own = subst (IsCountedMonitor c.limits s) (same_Some o.monitor (Held owner count) e) counted in
          (own.0, own.1)

  -- one that is not live has ended
  ended : (owner : ℕ) → ((thread : StateThread) × (slice_get s.threads owner ≡ Some thread)) → is_live_at c.threads owner ≡ false → HasEnded s owner
  ended owner (x, there) h = (x, there, sym (ap (λ o. unwrap_or (option_map is_live_thread o) false) there) ∙ (sym (lives_alike c s r owner) ∙ h))

  -- and conversely
  not_live : (owner : ℕ) → HasEnded s owner → is_live_at c.threads owner ≡ false
  not_live owner (x, there, over) = lives_alike c s r owner ∙ (ap (λ o. unwrap_or (option_map is_live_thread o) false) there ∙ over)

  -- ---- a set that a round leaves as it is

  module _ (set : List Bool) where
    held_truly : (w : Wait) (v : StateWait) → IsWaitAlike w v → IsTrueWait s v → is_held_up c set w ≡ true → IsHeldUp s set v
    held_truly (Monitor class owner) (ForMonitor n other) same (count, held) h = by_either (or_cases (is_in set owner) (not (is_live_at c.threads owner)) h)
      where
        by_either : (is_in set owner ≡ true) ⊎ (not (is_live_at c.threads owner) ≡ true) → IsIn set other ⊎ HasEnded s other
        by_either (inl inside) = inl (subst (IsIn set) same (is_in_truly set owner inside))
        by_either (inr over) =
            inr (ended other (holders_started n other count held) (subst (λ k. is_live_at c.threads k ≡ false) same (not-true (is_live_at c.threads owner) over)))
    held_truly (Join thread) (ForEnd other) same lives h = subst (IsIn set) same (is_in_truly set thread h)
    held_truly (Monitor class owner) (ForEnd other) same truly h = elim same [ ]
    held_truly (Join thread) (ForMonitor n other) same truly h = elim same [ ]

    pub unchanged_is_blocked : after_round c set ≡ set → IsBlockedSet c.tree s set
    unchanged_is_blocked same t inside =
        by_waits (wait_at c t) (wait_of c.tree s t) refl refl (waits_alike c s r t) (ap (λ k. stays c set k) (sym (no_start t)) ∙ kept)
      where
        kept : stays c set (0 + t) ≡ true
        kept =
            same_Some (stays c set (0 + t)) true
            (sym (restrict_at (stays c set) 0 t set ∙ ap (option_map (λ x. x && stays c set (0 + t))) inside) ∙ (ap (λ l. slice_get l t) same ∙ inside))

        by_waits : (w : Option Wait) (v : Option StateWait) → wait_at c t ≡ w → wait_of c.tree s t ≡ v → AreWaitsAlike (wait_at c t) (wait_of c.tree s t) → stays c set t ≡ true → (x : StateWait) × (wait_of c.tree s t ≡ Some x) × IsHeldUp s set x
        by_waits None v is are alike h = not_both false refl (sym (ap (λ o. option_map_or (is_held_up c set) o false) is) ∙ h)
        by_waits (Some w) None is are alike h = elim (subst (λ o. AreWaitsAlike (Some w) o) are (subst (λ o. AreWaitsAlike o (wait_of c.tree s t)) is alike)) [ ]
        by_waits (Some w) (Some v) is are alike h = (
          v,
          are,
          held_truly w v (subst (λ o. AreWaitsAlike (Some w) o) are (subst (λ o. AreWaitsAlike o (wait_of c.tree s t)) is alike)) (waits_truly s t v c.tree are) (sym (ap (λ o. option_map_or (is_held_up c set) o false) is) ∙ h),
        )

  -- ---- every blocked set is a part

  abbrev pub IsAbove : List Bool → Type 0
  IsAbove set = (other : List Bool) → IsBlockedSet c.tree s other → (t : ℕ) → IsIn other t → IsIn set t

  pub all_is_above : IsAbove (replicate (length c.threads) true)
  all_is_above other blocked t inside =
      let waits = blocked t inside in
      let live = waiting_lives c.tree s t waits.0 waits.1 in
      let below : t < length s.threads = slice_get_within s.threads t live.0 live.1 in
      let same : length c.threads ≡ length s.threads = agree_length (IsThread c.tree c.limits r.refines.name) c.threads s.threads r.refines.by.threads in
      all_true (length c.threads) t (omega (arith, below, same))

  pub round_is_above : (set : List Bool) → IsAbove set → IsAbove (after_round c set)
  round_is_above set above other blocked t inside =
      let waits = blocked t inside in
      restrict_at (stays c set) 0 t set ∙ (ap (option_map (λ x. x && stays c set (0 + t))) (above other blocked t inside) ∙ ap Some (ap (stays c set) (no_start t) ∙ by_waits (wait_at c t) refl waits.0 waits.1 waits.2 (waits_alike c s r t)))
    where
      or_true : (b : Bool) → (b || true) ≡ true
      or_true true = refl
      or_true false = refl

      held : (w : Wait) (v : StateWait) → IsWaitAlike w v → IsHeldUp s other v → is_held_up c set w ≡ true
      held (Monitor class owner) (ForMonitor n k) same (inl h) = ap (λ b. b || not (is_live_at c.threads owner)) (in_is set owner (subst (IsIn set) (sym same) (above other blocked k h)))
      held (Monitor class owner) (ForMonitor n k) same (inr h) = ap (λ b. is_in set owner || not b) (subst (λ x. is_live_at c.threads x ≡ false) (sym same) (not_live k h)) ∙ or_true (is_in set owner)
      held (Join thread) (ForEnd k) same h = in_is set thread (subst (IsIn set) (sym same) (above other blocked k h))
      held (Monitor class owner) (ForEnd k) same h = elim same [ ]
      held (Join thread) (ForMonitor n k) same h = elim same [ ]

      by_waits : (w : Option Wait) → wait_at c t ≡ w → (v : StateWait) → wait_of c.tree s t ≡ Some v → IsHeldUp s other v → AreWaitsAlike (wait_at c t) (wait_of c.tree s t) → stays c set t ≡ true
      by_waits None is v are up alike = elim (subst (λ o. AreWaitsAlike None o) are (subst (λ o. AreWaitsAlike o (wait_of c.tree s t)) is alike)) [ ]
      by_waits (Some w) is v are up alike =
          ap (λ o. option_map_or (is_held_up c set) o false) is ∙ held w v (subst (λ o. AreWaitsAlike (Some w) o) are (subst (λ o. AreWaitsAlike o (wait_of c.tree s t)) is alike)) up

-- ---- rounds

-- after some rounds: the deadlocked threads are in the set, which no round changes any more, or at least one thread for each round is out of it
pub record RoundsSoFar (c : MachineState) (rounds : ℕ) (set : List Bool) : Type 0 where
  pub each : length set ≡ length c.threads
  pub above : (s : State) → (r : Represents c s) → IsAbove c s r set
  pub less : (after_round c set ≡ set) ⊎ (count set + rounds ≤ length c.threads)

pub rounds_begun : (c : MachineState) (set : List Bool) → set ≡ replicate (length c.threads) true → RoundsSoFar c 0 set
rounds_begun c set is = record {
  each = ap length is ∙ length-replicate (length c.threads) true;
  above = λ s r. subst (IsAbove c s r) (sym is) (all_is_above c s r);
  less = inr (let few = count_within set in let many : length set ≡ length c.threads = ap length is ∙ length-replicate (length c.threads) true in omega (arith, few, many));
}

pub one_round_more : (c : MachineState) (rounds : ℕ) (set : List Bool) → RoundsSoFar c rounds set → RoundsSoFar c (rounds + 1) (after_round c set)
one_round_more c rounds set h = record {
  each = restrict_length (stays c set) 0 set ∙ h.each;
  above = λ s r. round_is_above c s r set (h.above s r);
  less = by_less h.less (same_or_less (stays c set) 0 set);
}
  where
    by_less : (after_round c set ≡ set) ⊎ (count set + rounds ≤ length c.threads) → (after_round c set ≡ set) ⊎ (count (after_round c set) + 1 ≤ count set) →
        (after_round c (after_round c set) ≡ after_round c set) ⊎ (count (after_round c set) + (rounds + 1) ≤ length c.threads)
    by_less (inl same) other = inl (ap (after_round c) same)
    by_less (inr few) (inl same) = inl (ap (after_round c) same)
    by_less (inr few) (inr less) = inr (omega (arith, few, less))

pub rounds_done : (c : MachineState) (rounds : ℕ) (set : List Bool) → length c.threads < rounds → RoundsSoFar c rounds set → IsDeadlockOf c set
rounds_done c rounds set many h = record { each = h.each; deadlocked = λ s r. record { blocked = unchanged_is_blocked c s r set unchanged; greatest = h.above s r } }
  where
    by_less : (after_round c set ≡ set) ⊎ (count set + rounds ≤ length c.threads) → after_round c set ≡ set
    by_less (inl same) = same
    by_less (inr few) = absurd (omega (arith, few, many))

    unchanged : after_round c set ≡ set
    unchanged = by_less h.less
