-- Where lists of events lead.
use Rattle.std.proofs.Common.{Contains, ◌≡◌, ◌≢◌, ◌⊎◌, ◌<◌, ◌≤◌, ℕ, zero, suc, true, false, List, [], ◌∷◌, Some, length, map, option_map, slice_get, Result, Ok, Err, refl, inl, inr, sym, ap, ◌∙◌, subst, arith}
use Rattle.std.specs.Prelude.{IfOk}
use Rattle.interleaving_core.specs.simulation.cil_model.declared.instructions.Instruction.{Instruction}
use Rattle.interleaving_core.specs.simulation.cil_model.declared.trees.Line.{Line}
use Rattle.interleaving_core.specs.simulation.resolved_code.ResolvedPrograms.{IsOperation}
use Rattle.interleaving_core.specs.simulation.resolved_code.declared.operations.Operation.{Operation}
use Rattle.exploration.proofs.Names.{get_or_from_slice_get, slice_get-map, slice_get_within, Event, Step, Report, Blocked, Tree, MachineState, AreTransitions, IsTransition, Thread, one_transition, same_program, is_live_at, IsNotTerminalAt, IsReal, IsTerminalAt, CanStepAt, CannotStepAt, AreStepsChecked, LeadsTo, ShowsOneOf, events_of, outcome_found, FoundOutcome, IsClosed, IsLedTo, LeadsInto, CannotStep, IsTerminal, ShownOutcome, ShowOnly, outcome_shown, Path}

-- the events of a path at an index
pub events_there : (paths : List Path) (n : ℕ) (p : Path) → slice_get paths n ≡ Some p → slice_get (map events_of paths) n ≡ Some p.events.items
events_there paths n p is = slice_get-map events_of paths n ∙ ap (option_map events_of) is

-- each instruction of a line is one operation
abbrev pub IsOneOperation : Tree → Type 0
IsOneOperation tree = (lines : List Line) (i : Instruction) (o p : Operation) → IsOperation tree lines i o → IsOperation tree lines i p → o ≡ p

-- so a list of events leads to one machine state
pub led_once : (c : MachineState) → IsOneOperation c.tree → (events : List Event) (x y : MachineState) (rs qs : List Report) → AreTransitions c events x rs → AreTransitions c events y qs → x ≡ y
led_once c one [] x y rs qs h k = h.0 ∙ sym k.0
led_once c one (e ∷ es) x y [] qs h k = elim h [ ]
led_once c one (e ∷ es) x y (r ∷ rs) [] h k = elim k [ ]
led_once c one (e ∷ es) x y (r ∷ rs) (q ∷ qs) h k =
    let same : h.0 ≡ k.0 = ap (λ (z : MachineState × Report). z.0) (one_transition c one e (h.0, r) (k.0, q) h.1 k.1) in
    let kept = same_program c (h.0, r) e h.1 in
    led_once h.0 (subst IsOneOperation (sym kept.0) one) es x y rs qs h.2 (subst (λ (d : MachineState). AreTransitions d es y qs) (sym same) k.2)

-- a number is below another or not
pub nat_cases : (m n : ℕ) → (m < n) ⊎ (n ≤ m)
nat_cases m zero = inr (omega arith)
nat_cases zero (suc n) = inl (omega arith)
nat_cases (suc m) (suc n) = by_case (nat_cases m n)
  where
    by_case : (m < n) ⊎ (n ≤ m) → (suc m < suc n) ⊎ (suc n ≤ suc m)
    by_case (inl below) = inl (omega (arith, below))
    by_case (inr beyond) = inr (omega (arith, beyond))

-- no thread of a number beyond all is live
pub beyond_dead : (threads : List Thread) (t : ℕ) → length threads ≤ t → is_live_at threads t ≡ false
beyond_dead [] t beyond = refl
beyond_dead (x ∷ xs) zero beyond = absurd (omega (arith, beyond))
beyond_dead (x ∷ xs) (suc t) beyond = beyond_dead xs t (omega (arith, beyond))

-- events keep the program
pub transitions_program : (c : MachineState) (events : List Event) (x : MachineState) (rs : List Report) → AreTransitions c events x rs → x.tree ≡ c.tree
transitions_program c [] x rs h = ap (λ (y : MachineState). y.tree) h.0
transitions_program c (e ∷ es) x [] h = elim h [ ]
transitions_program c (e ∷ es) x (r ∷ rs) h = transitions_program h.0 es x rs h.2 ∙ (same_program c (h.0, r) e h.1).0

-- ---- what a list of events leads to

module _ (first : MachineState) (one : IsOneOperation first.tree) where
  pub led_together : (events : List Event) (c d : MachineState) → LeadsTo first events c → LeadsTo first events d → c ≡ d
  led_together events c d h k = led_once first one events c d h.reports k.reports h.transitions k.transitions

  -- a live thread whose step was not blocked
  pub moves_on : (events : List Event) (c : MachineState) → LeadsTo first events c → (t : ℕ) → is_live_at c.threads t ≡ true → (next : MachineState) (r : Report) → IsTransition c (Step t) (next, r) → r ≢ Blocked → CannotStep c t → ⊥
  moves_on events c led t live next r transition moves = refuted
    where
      one_here : IsOneOperation c.tree
      one_here = subst IsOneOperation (sym (transitions_program first events c led.reports led.transitions)) one

      refuted : CannotStep c t → ⊥
      refuted (inl dead) = let no : true ≡ false = sym live ∙ dead in absurd (cc no)
      refuted (inr (after, blocked)) = moves (ap (λ (x : MachineState × Report). x.1) (one_transition c one_here (Step t) (next, r) (after, Blocked) transition blocked))

  pub continues_at : (events : List Event) (c : MachineState) → LeadsTo first events c → (t : ℕ) → is_live_at c.threads t ≡ true → (next : MachineState) (r : Report) → IsTransition c (Step t) (next, r) → r ≢ Blocked → CanStepAt first events t
  continues_at events c led t live next r transition moves = (c, led, moves_on events c led t live next r transition moves)

  -- each thread by itself
  pub ends_at : (events : List Event) (c : MachineState) → LeadsTo first events c → ((t : ℕ) → t < length c.threads → CannotStepAt first events t) → IsTerminalAt first events
  ends_at events c led each = (c, led, stuck)
    where
      stuck : IsTerminal c
      stuck t = by_order (nat_cases t (length c.threads))
        where
          by_order : (t < length c.threads) ⊎ (length c.threads ≤ t) → CannotStep c t
          by_order (inl below) = let h = each t below in subst (λ (x : MachineState). CannotStep x t) (led_together events h.0 c h.1 led) h.2
          by_order (inr beyond) = inl (beyond_dead c.threads t beyond)

  pub does_not_end_at : (events : List Event) (t : ℕ) → CanStepAt first events t → IsNotTerminalAt first events
  does_not_end_at events t h = (h.0, h.1, λ ends. h.2 (ends t))

-- ---- the outcomes

-- where some thread can make a step, nothing has to be shown
pub not_terminal_shown : (first : MachineState) (outcomes : List ShownOutcome) (events : List Event) → IsNotTerminalAt first events → ShowsOneOf first outcomes events
not_terminal_shown first outcomes events h = (h.0, h.1, λ terminal. absurd (h.2 terminal))

-- the outcome of a machine state in which no thread can make a step
pub is_real : (first : MachineState) (found : FoundOutcome) (c : MachineState) → LeadsTo first found.events.items c → IsOneOperation first.tree → IsTerminalAt first found.events.items → outcome_shown c ≡ outcome_found found → IsReal first found
is_real first found c led one h shows = record {
  machine_state = c;
  leads = led;
  terminal = subst IsTerminal (led_together first one found.events.items h.0 c h.1 led) h.2;
  outcome = shows;
}

-- an outcome of a list
pub contains_at : (found : List FoundOutcome) (n : ℕ) (f : FoundOutcome) (o : ShownOutcome) → slice_get found n ≡ Some f → o ≡ outcome_found f → Contains (map outcome_found found) o
contains_at found n f o at is =
    let there : slice_get (map outcome_found found) n ≡ Some o = slice_get-map outcome_found found n ∙ (ap (option_map outcome_found) at ∙ ap Some (sym is)) in
    (n, slice_get_within (map outcome_found found) n o there, get_or_from_slice_get (map outcome_found found) n o o there)

pub if_ok : {T E : Type 0} {P Q : T → Type 0} (r : Result T E) → IfOk r P → ((x : T) → P x → Q x) → IfOk r Q
if_ok (Ok x) p f = f x p
if_ok (Err e) p f = tt

pub both_ok : {T E : Type 0} {P Q R : T → Type 0} (r : Result T E) → IfOk r P → IfOk r Q → ((x : T) → P x → Q x → R x) → IfOk r R
both_ok (Ok x) p q f = f x p q
both_ok (Err e) p q f = tt

-- ---- a closed set

module _ (first : MachineState) (one : IsOneOperation first.tree) (paths : List (List Event)) where
  pub all_closed : ((n : ℕ) (events : List Event) → slice_get paths n ≡ Some events → AreStepsChecked first paths events) → IsClosed (IsLedTo first paths)
  all_closed each c led t live =
      let on : AreStepsChecked first paths led.path = each led.path_index led.path led.there in
      let same : on.0 ≡ c = led_once first one led.path on.0 c on.1.reports led.reports on.1.transitions led.transitions in
      subst (λ (x : MachineState). LeadsInto (IsLedTo first paths) x t) same (on.2 t (ap (λ (x : MachineState). is_live_at x.threads t) same ∙ live))

  pub shows_only : (outcomes : List ShownOutcome) → ((n : ℕ) (events : List Event) → slice_get paths n ≡ Some events → ShowsOneOf first outcomes events) → ShowOnly (IsLedTo first paths) outcomes
  shows_only outcomes each c led ends =
      let at : ShowsOneOf first outcomes led.path = each led.path_index led.path led.there in
      let same : at.0 ≡ c = led_once first one led.path at.0 c at.1.reports led.reports at.1.transitions led.transitions in
      subst (λ (x : MachineState). Contains outcomes (outcome_shown x)) same (at.2 (subst IsTerminal (sym same) ends))
