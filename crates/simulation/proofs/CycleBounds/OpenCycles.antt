-- Whether a cycle of the collector is open after some events: exactly where a phase of a cycle is posted.
use Rattle.std.proofs.Common.{◌≡◌, ◌+◌, ℕ, Bool, true, false, if◌then◌else◌, List, [], ◌∷◌, ◌++◌, Some, reverse, refl, sym, ap, ◌∙◌, subst, arith, append_assoc}
use Rattle.std.specs.Prelude.{◌||◌, nat_lt}
use Rattle.std.proofs.lemmas.Bool.Decides.{nat_tests}
use Rattle.std.proofs.lemmas.List.{reverse-append, same_from_push}
use Rattle.interpreter.specs.cil_model.declared.events.Event.{Event}
use Rattle.interpreter.specs.cil_model.declared.events.Event.TheVariants.{Step, Ack, Gc}
use Rattle.interpreter.specs.cil_model.declared.limits.Limits.{Limits}
use Rattle.interpreter.specs.cil_model.declared.phases.Phase.{Phase}
use Rattle.interpreter.specs.cil_model.declared.phases.Phase.TheVariants.{Idle}
use Rattle.interpreter.specs.cil_model.declared.reports.Report.{Report}
use Rattle.interpreter.specs.cil_model.declared.trees.Tree.{Tree}
use Rattle.interpreter.specs.reference_machine.Cycles.{begins_cycle, ends_cycle, is_cycle_open, is_working, work_since}
use Rattle.interpreter.specs.reference_machine.States.{State}
use Rattle.interpreter.proofs.reference_machine.Runs.InstructionEffects.{same_after}
use Rattle.interpreter.proofs.cil_model.SameLaws.{never}
use Rattle.collector.specs.Phases.{is_of_cycle}
use Rattle.simulation.specs.MachineStates.{MachineState}
use Rattle.simulation.specs.Runs.{IsNext}
use Rattle.simulation.specs.Refines.{Represents}
use Rattle.simulation.specs.Transitions.{IsTransition, initial_machine_state}
use Rattle.simulation.proofs.CollectorEvents.Reports.{IsCollected, collected_is, ends, waits, works}
use Rattle.simulation.proofs.Instructions.Correspondence.{InstructionsAreAlike}
use Rattle.simulation.proofs.Threads.UnchangedPosts.{step_posted}
use Rattle.simulation.proofs.Threads.Steps.{step_follows}
use Rattle.simulation.proofs.Runs.EventCorrespondence.{acknowledgement_keeps, collection_keeps}
use Rattle.simulation.proofs.Representation.InitialContents.{initially}
use Rattle.simulation.proofs.CollectorEvents.AcknowledgementCases.{acknowledged_posted}

-- ---- whether a cycle is open

-- by the work since the last one, after one event more
abbrev pub then_open : Bool → Bool → Bool → Bool
then_open done worked before = if done then false else (worked || before)

open_by : (done worked : Bool) (n : ℕ) → nat_lt 0 (if done then 0 else (if worked then 1 else 0) + n) ≡ then_open done worked (nat_lt 0 n)
open_by false false n = let same : 0 + n ≡ n = omega arith in ap (nat_lt 0) same
open_by _ _ n = grind (arith, nat_tests)

pub open_then : (xs : List (Event × Report)) (e : Event) (r : Report) → is_cycle_open (xs ++ (e, r) ∷ []) ≡ then_open (ends_cycle e r) (is_working e r) (is_cycle_open xs)
open_then xs e r = ap (λ l. nat_lt 0 (work_since l)) (reverse-append xs ((e, r) ∷ [])) ∙ open_by (ends_cycle e r) (is_working e r) (work_since (reverse xs))

-- a phase of a cycle is posted then too
posted_then : (c : MachineState) (x : MachineState × Report) → IsCollected c x → (b : Bool) → is_of_cycle c.posts.posted_phase ≡ b → is_of_cycle x.0.posts.posted_phase ≡ then_open (ends_cycle Gc x.1) (is_working Gc x.1) b
posted_then c _ waits b is = is
posted_then c _ (works d of) b is = of
posted_then c _ (ends d last idle spaces) b is = ap is_of_cycle idle

-- the outcome of an event of the collector
pub gc_is : (c : MachineState) (x : MachineState × Report) → IsTransition c Gc x → IsCollected c x
gc_is c x transition = subst (IsCollected c) (sym transition) (collected_is c)

-- ---- before the cycle

-- a machine represents the state, and a phase of a cycle is posted where the events leave one open
pub record IsBefore (done : List (Event × Report)) (c : MachineState) (s : State) : Type 0 where
  pub represents : Represents c s
  pub posted_phase : is_of_cycle c.posts.posted_phase ≡ is_cycle_open done

module _ (each : InstructionsAreAlike) where
  pub before_goes : (done : List (Event × Report)) (e : Event) (r : Report) (c next : MachineState) (s after : State) → IsBefore done c s → IsTransition c e (next, r) → IsNext c.tree c.limits s e r after → IsBefore (done ++ (e, r) ∷ []) next after
  before_goes done (Step t) r c next s after h transition is =
      let f = step_follows each c s h.represents t (next, r) transition in
      record {
        represents = subst (λ (u : State). Represents next u) (same_after r r f.0 after (sym f.1 ∙ is)) f.2;
        posted_phase = ap is_of_cycle (step_posted c t (next, r) transition) ∙ (h.posted_phase ∙ sym (open_then done (Step t) r));
      }
  before_goes done (Ack t) r c next s after h transition is = record {
    represents = subst (λ (u : State). Represents next u) (sym is) (acknowledgement_keeps c s h.represents t (next, r) transition);
    posted_phase = ap (λ (x : MachineState × Report). is_of_cycle x.0.posts.posted_phase) transition ∙ (ap is_of_cycle (acknowledged_posted c t) ∙ (h.posted_phase ∙ sym (open_then done (Ack t) r)));
  }
  before_goes done Gc r c next s after h transition is = record {
    represents = subst (λ (u : State). Represents next u) (sym is) (collection_keeps c s h.represents (next, r) transition);
    posted_phase = posted_then c (next, r) (gc_is c (next, r) transition) (is_cycle_open done) h.posted_phase ∙ sym (open_then done Gc r);
  }

-- ---- the initial state

-- it is of this program, and no cycle is open
pub record IsOpened (tree : Tree) (limits : Limits) (c : MachineState) : Type 0 where
  pub tree_is : c.tree ≡ tree
  pub limits_are : c.limits ≡ limits
  pub idle : c.posts.posted_phase ≡ Idle

pub opened_is : (tree : Tree) (limits : Limits) (c : MachineState) → initial_machine_state tree limits ≡ Some c → IsOpened tree limits c
opened_is tree limits = initially tree limits (IsOpened tree limits) (λ entry n. record { tree_is = refl; limits_are = refl; idle = refl })

-- a phase that is of no cycle
pub idle_of : (x : Phase) → is_of_cycle x ≡ false → x ≡ Idle
idle_of Idle e = refl
idle_of _ e = absurd cc

-- ---- lists

-- the last of a list
pub last_split : {X : Type 0} (x : X) (xs : List X) → (front : List X) × (y : X) × (x ∷ xs ≡ front ++ y ∷ [])
last_split x [] = ([], x, refl)
last_split x (z ∷ zs) = let later = last_split z zs in (x ∷ later.0, later.1, ap (λ l. x ∷ l) later.2)

-- what begins a cycle has a last event
pub split_at_last : (xs ys most : List (Event × Report)) (e : Event × Report) → begins_cycle ys ≡ true → xs ++ ys ≡ most ++ e ∷ [] → (front : List (Event × Report)) × (ys ≡ front ++ e ∷ [])
split_at_last xs [] most e begins split = never begins
split_at_last xs (y ∷ ys) most e begins split =
    let last = last_split y ys in
    let whole : (xs ++ last.0) ++ last.1 ∷ [] ≡ most ++ e ∷ [] = append_assoc xs last.0 (last.1 ∷ []) ∙ (ap (λ l. xs ++ l) (sym last.2) ∙ split) in
    (last.0, last.2 ∙ ap (λ z. last.0 ++ z ∷ []) (same_from_push (xs ++ last.0) most last.1 e whole).1)
