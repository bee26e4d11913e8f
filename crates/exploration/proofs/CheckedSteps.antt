-- Entries of checked steps, and what they say together.
use Rattle.std.proofs.Common.{◌≡◌, ◌≢◌, ◌⊎◌, ◌<◌, ◌≤◌, ◌+◌, ◌*◌, ◌||◌, ℕ, zero, suc, Bool, true, false, List, Option, Some, None, length, map, replicate, slice_get, slice_set, refl, inl, inr, sym, ap, ◌∙◌, subst, arith}
use Rattle.interleaving_core.proofs.simulation.collector.PhaseChanges.StaticFlips.{set_here_or_there}
use Rattle.exploration.proofs.Names.{none-some, same_Some, Event, MOST_THREADS, is_live_at, MachineState, AreAllChecked, AreEntries, IsLedToBy, IsStepChecked, IsStepInto, AreStepsChecked, IsNotTerminalAt, LeadsTo, events_of, Path, IsLedTo, LeadsInto}
use Rattle.exploration.proofs.Paths.{IsOneOperation, beyond_dead, events_there, led_together, moves_on, nat_cases}

-- no entry says anything at first
abbrev no_entry : Option Bool
no_entry = None

none_set : (k i : ℕ) (can : Bool) → slice_get (replicate k no_entry) i ≡ Some (Some can) → ⊥
none_set zero i can is = none-some (Some can) is
none_set (suc k) zero can is = none-some can (same_Some no_entry (Some can) is)
none_set (suc k) (suc i) can is = none_set k i can is

pub either_true : {P : Type 0} (a b : Bool) → (a || b) ≡ true → (a ≡ true → P) → (b ≡ true → P) → P
either_true true b is p q = p refl
either_true false b is p q = q is

module _ (first : MachineState) (paths : List (List Event)) where
  pub none_noted : (entries : List (Option Bool)) (k : ℕ) → entries ≡ replicate k None → AreEntries first paths entries
  none_noted entries k is n t few can at events there = absurd (none_set k (n * MOST_THREADS + t) can (subst (λ (xs : List (Option Bool)). slice_get xs (n * MOST_THREADS + t) ≡ Some (Some can)) is at))

  -- a further entry
  pub noted : (entries : List (Option Bool)) → AreEntries first paths entries → (n t : ℕ) → t < MOST_THREADS → (can : Bool)
      → ((events : List Event) → slice_get paths n ≡ Some events → IsStepChecked first paths events t can) → AreEntries first paths (slice_set entries (n * MOST_THREADS + t) (Some can))
  noted entries are n t less can here m u few b at events there = by_index (set_here_or_there entries (n * MOST_THREADS + t) (m * MOST_THREADS + u) (Some can) (Some b) at)
    where
      by_index : ((m * MOST_THREADS + u ≡ n * MOST_THREADS + t) × (Some b ≡ Some can)) ⊎ ((m * MOST_THREADS + u ≢ n * MOST_THREADS + t) × (slice_get entries (m * MOST_THREADS + u) ≡ Some (Some b)))
          → IsStepChecked first paths events u b
      by_index (inr old) = are m u few b old.1 events there
      by_index (inl same) =
          let path_index = same.0 in
          let list : m ≡ n = omega (arith, path_index, few, less) in
          let thread : u ≡ t = omega (arith, path_index, few, less) in
          subst (IsStepChecked first paths events u) (sym (same_Some b can same.1))
          (subst (λ k. IsStepChecked first paths events k can) (sym thread) (here events (subst (λ k. slice_get paths k ≡ Some events) list there)))

  -- a thread that is not live
  pub ended : (n t : ℕ) (c : MachineState) → IsLedToBy first paths n c → length c.threads ≤ MOST_THREADS → is_live_at c.threads t ≡ false
      → (events : List Event) → slice_get paths n ≡ Some events → IsStepChecked first paths events t false
  ended n t c led few dead events there =
      let same : led.0 ≡ events = same_Some led.0 events (sym led.1 ∙ there) in
      (c, subst (λ (es : List Event). LeadsTo first es c) same led.2, few, λ live. let no : true ≡ false = sym live ∙ dead in absurd (cc no), λ yes. absurd (cc yes))

  -- a machine state to which a list leads is one of the set
  pub led_among : (n : ℕ) (c : MachineState) → IsLedToBy first paths n c → IsLedTo first paths c
  led_among n c led = record { path_index = n; path = led.0; there = led.1; reports = led.2.reports; transitions = led.2.transitions }

  module _ (one : IsOneOperation first.tree) where
    -- a step that leads to a machine state of the set
    pub stepped : (events : List Event) (t : ℕ) (target : MachineState) (can : Bool) → IsStepInto first events t target can → IsLedTo first paths target → IsStepChecked first paths events t can
    stepped events t target can h among = (
      h.machine_state,
      h.leads,
      h.few,
      λ live. record {
        next = h.into.next;
        report = h.into.report;
        transition = h.into.transition;
        within_budget = h.into.within_budget;
        not_refused = h.into.not_refused;
        covered = record {
          machine_state = h.into.covered.machine_state;
          among = subst (IsLedTo first paths) (sym h.into.covered.among) among;
          lagging = h.into.covered.lagging;
        };
      },
      λ yes. moves_on first one events h.machine_state h.leads t h.live h.into.next h.into.report h.into.transition (h.not_blocked yes),
    )

    module _ (entries : List (Option Bool)) (are : AreEntries first paths entries) (n : ℕ) (events : List Event) (there : slice_get paths n ≡ Some events) where
      -- all steps after a list of events
      pub all_steps : AreAllChecked entries n → AreStepsChecked first paths events
      all_steps all =
          let first_entry = all 0 (omega arith) in
          let at = are n 0 (omega arith) first_entry.0 first_entry.1 events there in
          (at.0, at.1, λ t live. by_order at.0 at.1 at.2 t live (nat_cases t MOST_THREADS))
        where
          by_order : (c : MachineState) → LeadsTo first events c → length c.threads ≤ MOST_THREADS → (t : ℕ) → is_live_at c.threads t ≡ true → (t < MOST_THREADS) ⊎ (MOST_THREADS ≤ t) → LeadsInto (IsLedTo first paths) c t
          by_order c led few t live (inl below) =
              let entry = all t below in
              let at = are n t below entry.0 entry.1 events there in
              let same : at.0 ≡ c = led_together first one events at.0 c at.1 led in
              subst (λ (x : MachineState). LeadsInto (IsLedTo first paths) x t) same (at.3 (ap (λ (x : MachineState). is_live_at x.threads t) same ∙ live))
          by_order c led few t live (inr beyond) = let no : true ≡ false = sym live ∙ beyond_dead c.threads t (omega (arith, few, beyond)) in absurd (cc no)

      -- some thread can make a step
      pub some_step : (t : ℕ) → t < MOST_THREADS → slice_get entries (n * MOST_THREADS + t) ≡ Some (Some true) → IsNotTerminalAt first events
      some_step t less is = let at = are n t less true is events there in (at.0, at.1, λ terminal. at.4 refl (terminal t))

-- where a path leads
pub led_by : (first : MachineState) (paths : List Path) (n : ℕ) (p : Path) → slice_get paths n ≡ Some p → (events : List Event) → events ≡ events_of p → (c : MachineState) → LeadsTo first events c → IsLedToBy first (map events_of paths) n c
led_by first paths n p is events same c led = (events_of p, events_there paths n p is, subst (λ (es : List Event). LeadsTo first es c) same led)
