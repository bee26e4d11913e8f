-- Where not all live threads are deadlocked, one of them can make progress; and what a thread's step reports says whether it waits.
use Rattle.std.proofs.Common.{◌≡◌, ◌⊎◌, ◌==◌, ◌<◌, ℕ, zero, suc, Bool, true, false, if◌then◌else◌, List, length, map, Option, Some, None, option_map, option_and_then, unwrap_or, slice_get, refl, inl, inr, sym, ap, ◌∙◌, subst, arith}
use Rattle.std.proofs.lemmas.Bool.{eqb-true}
use Rattle.std.proofs.lemmas.Bool.Decides.{nat_tests}
use Rattle.std.proofs.lemmas.Option.{option_and_then_some, same_Some, slice_get-map, slice_get_within}
use Rattle.cil_model.specs.declared.trees.Tree.{Tree}
use Rattle.cil_model.proofs.Lists.{none_is_some}
use Rattle.cil_model.proofs.SameLaws.{not_both}
use Rattle.reference_machine.specs.BuiltIn.{Action, Enter, Join}
use Rattle.reference_machine.specs.States.{Monitor, Held, HeapObject, Thread, State, is_live, is_live_thread, monitor_of, object_at}
use Rattle.reference_machine.specs.Steps.{instruction_at}
use Rattle.reference_machine.specs.Values.{ObjectName, Value}
use Rattle.reference_machine.specs.Waits.{Wait, ForMonitor, ForEnd, called_action, end_awaited, held_by_another, top_object, wait_by, wait_in, wait_of}
use Rattle.reference_machine.specs.Blocking.{AreDeadlocked, ContinuesUnlessAll, HasEnded, HoldersWereStarted, IsBlockedSet, IsHeldUp, IsIn}

-- ---- waits that are true of a state

-- the owner holds the monitor; the thread is live
abbrev pub IsTrueWait : State → Wait → Type 0
IsTrueWait s (ForMonitor n owner) = (count : ℕ) × (monitor_of s n ≡ Some (Held owner count))
IsTrueWait s (ForEnd v) = is_live s v ≡ true

module _ (s : State) (u : ℕ) (w : Wait) where
  enters_truly : (stack : List Value) → wait_by s u Enter stack ≡ Some w → IsTrueWait s w
  enters_truly stack h = by_object (top_object stack) h
    where
      by_owner : (n : ObjectName) (owner count : ℕ) → monitor_of s n ≡ Some (Held owner count) → (b : Bool) → (if b then None else Some (ForMonitor n owner)) ≡ Some w → IsTrueWait s w
      by_owner n owner count is true e = none_is_some w e
      by_owner n owner count is false e = subst (IsTrueWait s) (same_Some (ForMonitor n owner) w e) (count, is)

      by_monitor : (n : ObjectName) (m : Option Monitor) → monitor_of s n ≡ m → option_and_then (held_by_another n u) m ≡ Some w → IsTrueWait s w
      by_monitor n (Some (Held owner count)) is e = by_owner n owner count is (owner == u) e
      by_monitor n _ is e = none_is_some w e

      by_object : (o : Option ObjectName) → option_and_then (λ n. option_and_then (held_by_another n u) (monitor_of s n)) o ≡ Some w → IsTrueWait s w
      by_object None e = none_is_some w e
      by_object (Some n) e = by_monitor n (monitor_of s n) refl e

  joins_truly : (stack : List Value) → wait_by s u Join stack ≡ Some w → IsTrueWait s w
  joins_truly stack h = by_name (top_object stack) h
    where
      by_life : (v : ℕ) (b : Bool) → is_live s v ≡ b → (if b then Some (ForEnd v) else None) ≡ Some w → IsTrueWait s w
      by_life v false is e = none_is_some w e
      by_life v true is e = subst (IsTrueWait s) (same_Some (ForEnd v) w e) is

      by_thread : (v : Option ℕ) → option_and_then (end_awaited s) v ≡ Some w → IsTrueWait s w
      by_thread None e = none_is_some w e
      by_thread (Some v) e = by_life v (is_live s v) refl e

      by_object : (o : Option HeapObject) → option_and_then (λ (x : HeapObject). option_and_then (end_awaited s) x.thread) o ≡ Some w → IsTrueWait s w
      by_object None e = none_is_some w e
      by_object (Some o) e = by_thread o.thread e

      by_name : (o : Option ObjectName) → option_and_then (λ n. option_and_then (λ (x : HeapObject). option_and_then (end_awaited s) x.thread) (object_at s n)) o ≡ Some w → IsTrueWait s w
      by_name None e = none_is_some w e
      by_name (Some n) e = by_object (object_at s n) e

  acts_truly : (a : Action) (stack : List Value) → wait_by s u a stack ≡ Some w → IsTrueWait s w
  acts_truly Enter stack h = enters_truly stack h
  acts_truly Join stack h = joins_truly stack h
  acts_truly _ stack h = none_is_some w h

  pub waits_truly : (tree : Tree) → wait_of tree s u ≡ Some w → IsTrueWait s w
  waits_truly tree h = option_and_then_some _ (slice_get s.threads u) w h (λ x there e. by_life x (is_live_thread x) e)
    where
      by_life : (x : Thread) (b : Bool) → (if b then option_and_then (wait_in tree s u) (slice_get x.frames 0) else None) ≡ Some w → IsTrueWait s w
      by_life x false e = none_is_some w e
      by_life x true e =
          option_and_then_some (wait_in tree s u) (slice_get x.frames 0) w e (λ f is k.
          option_and_then_some (λ i. option_and_then (λ a. wait_by s u a f.stack) (called_action tree i)) (instruction_at f) w k (λ i at l.
          option_and_then_some (λ a. wait_by s u a f.stack) (called_action tree i) w l (λ a acts m. acts_truly a f.stack m)))

-- ---- some live thread waits for nothing, or all live threads are deadlocked

module _ (tree : Tree) (s : State) (started : HoldersWereStarted s) where
  -- among the first threads, a live one waits for nothing, or each live one waits
  abbrev SomeContinues : Type 0
  SomeContinues = (t : ℕ) × (is_live s t ≡ true) × (wait_of tree s t ≡ None)

  abbrev AllWait : ℕ → Type 0
  AllWait k = (t : ℕ) → t < k → is_live s t ≡ true → (w : Wait) × (wait_of tree s t ≡ Some w)

  searched : (k : ℕ) → SomeContinues ⊎ AllWait k
  searched zero = inr (λ t below lives. absurd (omega (arith, below)))
  searched (suc k) = by_rest (searched k)
    where
      last : AllWait k → (is_live s k ≡ true → (w : Wait) × (wait_of tree s k ≡ Some w)) → AllWait (suc k)
      last all own t below lives = by_index (t == k) refl
        where
          by_index : (b : Bool) → (t == k) ≡ b → (w : Wait) × (wait_of tree s t ≡ Some w)
          by_index true e =
              let same : t ≡ k = eqb-true t k e in
              subst (λ n. (w : Wait) × (wait_of tree s n ≡ Some w)) (sym same) (own (ap (is_live s) (sym same) ∙ lives))
          by_index false e = all t (grind (arith, nat_tests, below, e)) lives

      by_wait : AllWait k → (b : Bool) → is_live s k ≡ b → (w : Option Wait) → wait_of tree s k ≡ w → SomeContinues ⊎ AllWait (suc k)
      by_wait all false ended w is = inr (last all (λ lives. not_both (is_live s k) ended lives))
      by_wait all true lives None is = inl (k, lives, is)
      by_wait all true lives (Some w) is = inr (last all (λ lives'. (w, is)))

      by_rest : SomeContinues ⊎ AllWait k → SomeContinues ⊎ AllWait (suc k)
      by_rest (inl one) = inl one
      by_rest (inr all) = by_wait all (is_live s k) refl (wait_of tree s k) refl

  -- the set of all live threads
  abbrev live_set : List Bool
  live_set = map is_live_thread s.threads

  in_live_set : (t : ℕ) → is_live s t ≡ true → IsIn live_set t
  in_live_set t lives = by_thread (slice_get s.threads t) refl lives
    where
      by_thread : (x : Option Thread) → slice_get s.threads t ≡ x → unwrap_or (option_map is_live_thread x) false ≡ true → IsIn live_set t
      by_thread None is e = not_both false refl e
      by_thread (Some x) is e = slice_get-map is_live_thread s.threads t ∙ (ap (option_map is_live_thread) is ∙ ap Some e)

  lives_in_set : (t : ℕ) → IsIn live_set t → (t < length s.threads) × (is_live s t ≡ true)
  lives_in_set t inside = by_thread (slice_get s.threads t) refl (sym (slice_get-map is_live_thread s.threads t) ∙ inside)
    where
      by_thread : (x : Option Thread) → slice_get s.threads t ≡ x → option_map is_live_thread x ≡ Some true → (t < length s.threads) × (is_live s t ≡ true)
      by_thread None is e = none_is_some true e
      by_thread (Some x) is e = (slice_get_within s.threads t x is, ap (λ o. unwrap_or (option_map is_live_thread o) false) is ∙ same_Some (is_live_thread x) true e)

  -- it is blocked where each of them waits
  live_set_blocked : AllWait (length s.threads) → IsBlockedSet tree s live_set
  live_set_blocked all t inside =
      let lives = lives_in_set t inside in
      let waits = all t lives.0 lives.1 in
      (waits.0, waits.1, held_up waits.0 (waits_truly s t waits.0 tree waits.1))
    where
      by_life : (owner : ℕ) (x : Thread) → slice_get s.threads owner ≡ Some x → (b : Bool) → is_live_thread x ≡ b → IsIn live_set owner ⊎ HasEnded s owner
      by_life owner x is true lives = inl (in_live_set owner (ap (λ o. unwrap_or (option_map is_live_thread o) false) is ∙ lives))
      by_life owner x is false ended = inr (x, is, ended)

      held_up : (w : Wait) → IsTrueWait s w → IsHeldUp s live_set w
      held_up (ForMonitor n owner) (count, held) = let x = started n owner count held in by_life owner x.0 x.1 (is_live_thread x.0) refl
      held_up (ForEnd v) lives = in_live_set v lives

  pub continues_unless_all : (set : List Bool) → AreDeadlocked tree s set → ContinuesUnlessAll tree s set
  continues_unless_all set dead = by_search (searched (length s.threads))
    where
      by_search : SomeContinues ⊎ AllWait (length s.threads) → ContinuesUnlessAll tree s set
      by_search (inl one) = inl one
      by_search (inr all) = inr (λ t lives. dead.greatest live_set (live_set_blocked all) t (in_live_set t lives))
