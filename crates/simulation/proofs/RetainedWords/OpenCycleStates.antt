-- While a cycle is open, each object that it keeps has the name of one that is retained; so where it ends, no more words are in use than are retained.
use Rattle.std.proofs.Common.{◌≡◌, ℕ, Bool, true, if◌then◌else◌, length, Some, None, inl, inr, sym, ap, ◌∙◌, subst}
use Rattle.interpreter.specs.cil_model.declared.events.Event.TheVariants.{Step}
use Rattle.interpreter.specs.cil_model.declared.phases.Phase.TheVariants.{Idle}
use Rattle.interpreter.specs.cil_model.declared.reports.Report.{Report}
use Rattle.interpreter.specs.reference_machine.Runs.{is_refusal}
use Rattle.interpreter.specs.reference_machine.States.{State}
use Rattle.interpreter.specs.reference_machine.Steps.{Answers, step}
use Rattle.interpreter.specs.reference_machine.Values.{Born, ObjectName}
use Rattle.interpreter.proofs.reference_machine.Runs.InstructionEffects.{same_after}
use Rattle.interpreter.proofs.cil_model.SameLaws.{never}
use Rattle.interpreter.proofs.reference_machine.ReachableObjects.Runs.{step_within}
use Rattle.interpreter.proofs.reference_machine.ReachableObjects.States.{IsClosed}
use Rattle.interpreter.specs.object_memory.declared.addresses.Addr.{Addr}
use Rattle.simulation.specs.MachineStates.{MachineState}
use Rattle.simulation.specs.CollectorSteps.{collect, with_acknowledgement}
use Rattle.simulation.specs.Refines.{Names, Represents, RefinesUnder}
use Rattle.simulation.specs.Transitions.{IsTransition}
use Rattle.simulation.proofs.CollectorEvents.AcknowledgementNames.{acknowledgement_represents, acknowledgement_refines}
use Rattle.simulation.proofs.CollectorEvents.UnchangedState.{collected_represents}
use Rattle.simulation.proofs.CollectorEvents.RepresentedObjects.{collected_refines}
use Rattle.simulation.proofs.Instructions.Correspondence.{InstructionsAreAlike}
use Rattle.simulation.proofs.RetainedWords.NamesAfterEvents.{HasNames, Renames, acknowledged_has, collected_has, renamed}
use Rattle.simulation.proofs.RetainedWords.CycleNames.{AreCopiesOfMarked, IsNamed, is_copying, is_kept}
use Rattle.simulation.proofs.RetainedWords.ThreadNames.{IsKnown}
use Rattle.simulation.proofs.RetainedWords.NamesInSets.{cut_inside, inside_is, is_cut_inside, name_inside, refines_inside}
use Rattle.simulation.proofs.Threads.UnchangedPosts.{step_posted}
use Rattle.simulation.proofs.Threads.LiveThreads.{KeepsOwnNames, normally, normally_from, normally_keeps}
use Rattle.simulation.proofs.Threads.StepResults.{KeepsOwnRoom}
use Rattle.simulation.proofs.Threads.Steps.{step_names}

-- ---- names of what is retained

module _ (Inside : ℕ → Type 0) (is_inside : ℕ → Bool) (decoded : (n : ℕ) → Inside n → is_inside n ≡ true) (inside : (n : ℕ) → is_inside n ≡ true → Inside n) where
  -- The machine represents the state, in which the set has all that its objects and the roots refer to; under normal names, each of them of an object of
  -- the set, what a cycle keeps has a name.
  pub record IsRetainedBy (c : MachineState) (s : State) : Type 0 where
    pub represents : Represents c s
    pub closed_set : IsClosed Inside s
    pub known : (a : ℕ) (n : ObjectName) → (normally c s represents).name a ≡ Some n → name_inside is_inside n ≡ Some n
    pub has : HasNames (normally c s represents).name c

  -- the same under other names, of which these are the normal ones
  module _ (c : MachineState) (s : State) (r : Represents c s) (set : IsClosed Inside s) (name : Names) (by : RefinesUnder name c s) (known : (a : ℕ) (n : ObjectName) → name a ≡ Some n → name_inside is_inside n ≡ Some n) where
    abbrev renamed_representation : Represents c s
    renamed_representation = record r { refines = record { name = name; by = by } }

    abbrev own : Names
    own = (normally c s renamed_representation).name

    renames : Renames name c own
    renames = record { live = λ a n live is. normally_keeps c s renamed_representation a n live is; normal = (normally c s renamed_representation).normal }

    retained_by : HasNames own c → IsRetainedBy c s
    retained_by has = record {
      represents = renamed_representation;
      closed_set = set;
      known = λ a n is. (let b = normally_from c s renamed_representation a n is in known b.0 n b.1);
      has = has;
    }

  -- where a machine begins that has no cycle open
  pub begins_retained : (c : MachineState) (s : State) → Represents c s → IsClosed Inside s → c.posts.posted_phase ≡ Idle → IsRetainedBy c s
  begins_retained c s r set idle =
      retained_by c s r set (cut_inside is_inside r.refines.name) (refines_inside is_inside Inside decoded r.refines.name c s set inside r.refines.by) (λ a n is. inside_is is_inside r.refines.name a n is)
      (record {
        kept = λ a h. never (ap (λ x. is_kept x c.objects.spaces a) (sym idle) ∙ h);
        copies = λ copying. never (ap is_copying (sym idle) ∙ copying);
      })

  -- ---- acknowledgements and events of the collector

  pub acknowledged_retained : (c : MachineState) (s : State) (t : ℕ) → IsRetainedBy c s → IsRetainedBy (with_acknowledgement c t).0 s
  acknowledged_retained c s t h =
      let own = normally c s h.represents in
      let r' = acknowledgement_represents c t s h.represents in
      let by = acknowledgement_refines c t s own.name own.normal own.by h.represents.sound in
      let has = acknowledged_has c s own.name own.by h.represents.sound.heap.blocks.spaces h.has t in
      retained_by (with_acknowledgement c t).0 s r' h.closed_set own.name by h.known
      (renamed own.name (with_acknowledgement c t).0 (normally (with_acknowledgement c t).0 s (record r' { refines = record { name = own.name; by = by } })).name
      (renames (with_acknowledgement c t).0 s r' h.closed_set own.name by h.known) has)

  pub collected_retained : (c : MachineState) (s : State) → IsRetainedBy c s → IsRetainedBy (collect c).0 s
  collected_retained c s h =
      let own = normally c s h.represents in
      let r' = collected_represents c s h.represents own.name own.normal own.by in
      let by = collected_refines own.name c s h.represents.sound own.normal own.by in
      retained_by (collect c).0 s r' h.closed_set own.name by h.known
      (collected_has c s h.represents.accepted.legal h.represents.typed own.name (normally (collect c).0 s (record r' { refines = record { name = own.name; by = by } })).name own.by h.represents.sound h.has
      (renames (collect c).0 s r' h.closed_set own.name by h.known))

  -- ---- steps

  module _ (each : InstructionsAreAlike) (c : MachineState) (s : State) (t : ℕ) (next : MachineState) (r : Report) (h : IsRetainedBy c s) (transition : IsTransition c (Step t) (next, r)) where
    -- what the reference machine reaches by the same step
    abbrev follows : (u : State) × (step c.tree c.limits s t (is_refusal r) ≡ Answers r u) × (r' : Represents next u) × KeepsOwnRoom c s t next.objects u × KeepsOwnNames c s h.represents next.objects r'.refines.name
    follows = step_names each c s h.represents t (next, r) transition

    abbrev after : State
    after = follows.0

    -- the names that the step left, and those of the set among them
    abbrev all : Names
    all = follows.2.refines.name

    abbrev cut : Names
    cut = cut_inside is_inside all

    set_then : IsClosed Inside after
    set_then = step_within Inside c.tree c.limits s after t (is_refusal r) r h.closed_set follows.1

    by_then : RefinesUnder cut next after
    by_then = refines_inside is_inside Inside decoded all next after set_then inside follows.2.refines.by

    known_then : (a : ℕ) (n : ObjectName) → cut a ≡ Some n → name_inside is_inside n ≡ Some n
    known_then a n is = inside_is is_inside all a n is

    new_known : (n : ObjectName) → IsKnown (normally c s h.represents).name (length s.objects) n → name_inside is_inside n ≡ Some n
    new_known n (inl was) = h.known was.0 n was.1
    new_known n (inr (k, same, more)) =
        let new : name_inside is_inside (Born k) ≡ Some (Born k) = ap (λ t. if t then Some (Born k) else None) (decoded k (h.closed_set.unborn k more)) in
        subst (λ (x : ObjectName). name_inside is_inside x ≡ Some x) same new

    kept_then : (a : Addr) → is_kept c.posts.posted_phase next.objects.spaces a ≡ true → IsNamed cut a
    kept_then a kept = elim (follows.4.kept a kept) [
      | inl was ↦ (let n = h.has.kept a was in (n.0, is_cut_inside is_inside all a.number n.0 (h.known a.number n.0 n.1) (follows.4.extends a.number n.0 n.1)))
      | inr new ↦ (new.0, is_cut_inside is_inside all a.number new.0 (new_known new.0 new.2) new.1)
    ]

    same : next.posts.posted_phase ≡ c.posts.posted_phase
    same = step_posted c t (next, r) transition

    has_then : HasNames cut next
    has_then = record {
      kept = λ a kept. kept_then a (subst (λ x. is_kept x next.objects.spaces a ≡ true) same kept);
      copies = subst (λ x. AreCopiesOfMarked x next.objects.spaces) (sym same) (follows.4.copies h.has.copies);
    }

    -- so they are retained after a step
    stepped_retained : IsRetainedBy next after
    stepped_retained = retained_by next after follows.2 set_then cut by_then known_then
        (renamed cut next (normally next after (record follows.2 { refines = record { name = cut; by = by_then } })).name (renames next after follows.2 set_then cut by_then known_then) has_then)

    pub stepped_retained_as : (s' : State) → step c.tree c.limits s t (is_refusal r) ≡ Answers r s' → IsRetainedBy next s'
    stepped_retained_as s' is = subst (λ (u : State). IsRetainedBy next u) (same_after r r after s' (sym follows.1 ∙ is)) stepped_retained
