-- A run from a machine state that a closed list covers.
use Rattle.std.proofs.Common.{◌≡◌, ◌⊎◌, ◌≢◌, IsTrue, ℕ, Bool, true, false, List, [], ◌∷◌, Option, Some, None, option_map, option_and_then, length, slice_get, refl, inl, inr, sym, ap, ◌∙◌, subst, arith}
use Rattle.std.specs.List.{zip}
use Rattle.interleaving_core.specs.simulation.cil_model.Bodies.{entry_points}
use Rattle.interleaving_core.specs.simulation.cil_model.Ranges.{are_in_range}
use Rattle.interleaving_core.specs.simulation.cil_model.Typings.{IsAccepted}
use Rattle.interleaving_core.specs.simulation.cil_model.declared.trees.Method.{Method}
use Rattle.interleaving_core.specs.simulation.cil_model.declared.types.ClassName.{ClassName}
use Rattle.interleaving_core.specs.simulation.loaded_program.MethodNumbers.{number_of}
use Rattle.interleaving_core.specs.simulation.Rooms.{HasNoRoom}
use Rattle.interleaving_core.specs.simulation.reference_machine.Rooms.{ExceedsRoom, words_of_all}
use Rattle.interleaving_core.specs.simulation.Refines.{Represents}
use Rattle.interleaving_core.proofs.simulation.reference_machine.Runs.JoinedRuns.{first_of, same_state}
use Rattle.interleaving_core.proofs.simulation.RetainedWords.BornWords.{AreWithin, IsWithinBirths, acknowledgement_granted, acknowledgement_within, collection_granted, collection_within, exceeds_one_space, opened_within, step_within}
use Rattle.interleaving_core.proofs.simulation.Runs.RunsWithoutCollection.{HasWhole, beyond_own, opened_whole, whole_stepped}
use Rattle.exploration.proofs.Names.{same_Some, AreSteps, AreTransitions, IsRunOf, RefusesBeyondRoom, none_is_some, Event, Step, Ack, Gc, Limits, Budget, Report, Absent, Ran, HasEnded, Tree, RunsTo, is_refusal, initial_state, run, step_reports, thread_part, State, Answers, step, is_live_at, MachineState, IsTransition, machine_state_at, initial_machine_state, same_program, one_transition, acknowledgement_keeps, collection_keeps, each_alike, step_is_refused, IsLagging, AreOrdinary, IsClosed, IsCovered, IsCoveredState, KeepBudgets, LeadsInto}
use Rattle.exploration.proofs.LagTransitivity.{covered_more, one_covers}
use Rattle.exploration.proofs.Paths.{IsOneOperation}
use Rattle.exploration.proofs.ChargedSteps.{live_alike}
use Rattle.exploration.proofs.LaggingSteps.{absent_transition, stays_lagging}

pub same_answer : (r q : Report) (s t : State) → Answers r s ≡ Answers q t → (r ≡ q) × (s ≡ t)
same_answer r q s t e = (cc, cc)

head_of : (a b : Report) (as' bs : List Report) → a ∷ as' ≡ b ∷ bs → a ≡ b
head_of a b as' bs e = cc

tail_of : (a b : Report) (as' bs : List Report) → a ∷ as' ≡ b ∷ bs → as' ≡ bs
tail_of a b as' bs e = cc

module _ (known : MachineState → Type 0) (closed : IsClosed known) where
  -- a step of a covered machine: it uses up the budget or leads to a covered one, and is refused nothing
  record IsNext (c : MachineState) (t : ℕ) : Type 0 where
    pub after : MachineState
    pub report : Report
    pub transition : IsTransition c (Step t) (after, report)
    pub over : (report ≡ HasEnded Budget) ⊎ IsCovered known after
    pub not_refused : is_refusal report ≡ false

  next_of : (c : MachineState) → IsCovered known c → (t : ℕ) → IsNext c t
  next_of c covered t = by_life (is_live_at c.threads t) refl
    where
      by_life : (b : Bool) → is_live_at c.threads t ≡ b → IsNext c t
      by_life false dead = record { after = c; report = Absent; transition = absent_transition c t dead; over = inr covered; not_refused = refl }
      by_life true live =
          let d : MachineState = covered.machine_state in
          let leads : LeadsInto known d t = closed d covered.among t (sym (live_alike c.tree c.threads d.threads covered.lagging.threads t) ∙ live) in
          let one = stays_lagging c d covered.lagging t live leads.next leads.report leads.transition leads.within_budget in
          by_step leads one.0 one.1 one.2 one.3
        where
          by_step : (leads : LeadsInto known covered.machine_state t) (after : MachineState) (q : Report) → IsTransition c (Step t) (after, q) →
              (q ≡ HasEnded Budget) ⊎ (((q ≡ Ran) × IsLagging after covered.machine_state) ⊎ ((q ≡ leads.report) × IsLagging after leads.next)) → IsNext c t
          by_step leads after q transition (inl over) = record { after = after; report = q; transition = transition; over = inl over; not_refused = ap is_refusal over }
          by_step leads after q transition (inr (inl own)) =
              record { after = after; report = q; transition = transition; over = inr (covered_more known after covered.machine_state own.1 (one_covers known covered.machine_state covered.among)); not_refused = ap is_refusal own.0 }
          by_step leads after q transition (inr (inr both)) =
              record { after = after; report = q; transition = transition; over = inr (covered_more known after leads.next both.1 leads.covered); not_refused = ap is_refusal both.0 ∙ leads.not_refused }

  -- a step that uses up no budget leads to a covered machine state
  still : (d : MachineState) (q : Report) → (q ≡ HasEnded Budget) ⊎ IsCovered known d → ((q ≡ HasEnded Budget) → ⊥) → IsCovered known d
  still d q (inl over) not = absurd (not over)
  still d q (inr covered') not = covered'

  -- ---- a run

  module _ (tree : Tree) (limits : Limits) where
    -- a machine that collects nothing is at a covered machine state
    record IsAlone (c : MachineState) (s : State) : Type 0 where
      pub program : c.tree ≡ tree
      pub within : c.limits ≡ limits
      pub whole : HasWhole each_alike c s
      pub covered : IsCovered known c

    -- a machine with a collector is at the same state
    record IsBeside (d : MachineState) (s : State) : Type 0 where
      pub program : d.tree ≡ tree
      pub within : d.limits ≡ limits
      pub represents : Represents d s
      pub births : IsWithinBirths d s

    beside_next : (d next : MachineState) (s : State) → (next.tree ≡ d.tree) × (next.limits ≡ d.limits) → (d.tree ≡ tree) × (d.limits ≡ limits) → Represents next s → AreWithin d.limits.words (words_of_all d.tree s.objects) next.objects.spaces → IsBeside next s
    beside_next d next s same of represents births = record {
      program = same.0 ∙ of.0;
      within = same.1 ∙ of.1;
      represents = represents;
      births = subst (λ (l : Limits). AreWithin l.words (words_of_all next.tree s.objects) next.objects.spaces) (sym same.1) (subst (λ (u : Tree). AreWithin d.limits.words (words_of_all u s.objects) next.objects.spaces) (sym same.0) births);
    }

    -- what the machine that collects nothing is granted, the other one is granted too
    granted_beside : (c d : MachineState) (s : State) (t : ℕ) (r : Report) → IsAlone c s → IsBeside d s → (IsTrue (is_refusal r) → HasNoRoom d s t) → (next : MachineState × Report) → IsTransition c (Step t) next → is_refusal next.1 ≡ false → is_refusal r ≡ false
    granted_beside c d s t r alone beside refused next transition not_refused = by_refusal (is_refusal r) refl
      where
        by_refusal : (b : Bool) → is_refusal r ≡ b → is_refusal r ≡ false
        by_refusal false is = is
        by_refusal true is =
            let one : ExceedsRoom d.tree d.limits s t = exceeds_one_space d s beside.represents beside.births t (refused is) in
            let here : ExceedsRoom c.tree c.limits s t =
            subst (λ (u : Tree). ExceedsRoom u c.limits s t) (beside.program ∙ sym alone.program) (subst (λ (l : Limits). ExceedsRoom d.tree l s t) (beside.within ∙ sym alone.within) one) in
            let is_refused : is_refusal next.1 ≡ true = (step_is_refused c s alone.whole.represents t next transition).1 (beyond_own each_alike c s alone.whole t here) in
            let no : false ≡ true = sym not_refused ∙ is_refused in
            absurd (cc no)

    -- the two machines after a step with this report
    record AreNext (r : Report) (after : State) (next : MachineState) : Type 0 where
      pub machine_state : MachineState
      pub not_refused : is_refusal r ≡ false
      pub alone : IsAlone machine_state after
      pub beside : IsBeside next after

    step_beside : (c d : MachineState) (s : State) (t : ℕ) (r : Report) (after : State) → IsAlone c s → IsBeside d s → step tree limits s t (is_refusal r) ≡ Answers r after → r ≢ HasEnded Budget →
        (next : MachineState) → IsTransition d (Step t) (next, r) → (IsTrue (is_refusal r) → HasNoRoom d s t) → AreNext r after next
    step_beside c d s t r after alone beside answers within_budget next transition refused =
        let own : IsNext c t = next_of c alone.covered t in
        let stepped = whole_stepped each_alike c s alone.whole t (own.after, own.report) own.transition in
        let none : is_refusal r ≡ false = granted_beside c d s t r alone beside refused (own.after, own.report) own.transition own.not_refused in
        let asked : step tree limits s t false ≡ Answers r after = ap (step tree limits s t) (sym none) ∙ answers in
        let here : step tree limits s t false ≡ Answers own.report stepped.0 =
        ap (λ (u : Tree). step u limits s t false) (sym alone.program) ∙ (ap (λ (l : Limits). step c.tree l s t false) (sym alone.within) ∙ (ap (step c.tree c.limits s t) (sym own.not_refused) ∙ stepped.1)) in
        let same = same_answer own.report r stepped.0 after (sym here ∙ asked) in
        let kept = same_program c (own.after, own.report) (Step t) own.transition in
        let other = step_within each_alike d s beside.represents t (next, r) transition beside.births in
        let there : step tree limits s t (is_refusal r) ≡ Answers r other.0 =
        ap (λ (u : Tree). step u limits s t (is_refusal r)) (sym beside.program) ∙ (ap (λ (l : Limits). step d.tree l s t (is_refusal r)) (sym beside.within) ∙ other.1) in
        let state : other.0 ≡ after = (same_answer r r other.0 after (sym there ∙ answers)).1 in
        record {
          machine_state = own.after;
          not_refused = none;
          alone = record {
            program = kept.0 ∙ alone.program;
            within = kept.1 ∙ alone.within;
            whole = subst (HasWhole each_alike own.after) same.1 stepped.2;
            covered = still own.after own.report own.over (λ over. within_budget (sym same.0 ∙ over));
          };
          beside = subst (IsBeside next) state (beside_next d next other.0 (same_program d (next, r) (Step t) transition) (beside.program, beside.within) other.2 other.3);
        }

    runs_are_covered : (last : State) (events : List Event) (reports : List Report) → length reports ≡ length events → (c : MachineState) (s : State) → IsAlone c s → (d end : MachineState) → IsBeside d s → RefusesBeyondRoom d s (zip events reports) end →
        run tree limits s (thread_part (zip events reports)) ≡ RunsTo (step_reports (zip events reports)) last → KeepBudgets reports → IsCoveredState tree limits known last × AreOrdinary reports
    runs_are_covered last [] [] each c s alone d end beside refuses gives keep =
        (record { machine_state = c; program = alone.program; within = alone.within; represents = subst (Represents c) (same_state [] [] s last gives) alone.whole.represents; covered = alone.covered }, tt)
    runs_are_covered last [] (r ∷ rs) each c s alone d end beside refuses gives keep = absurd (omega (arith, each))
    runs_are_covered last (e ∷ es) [] each c s alone d end beside refuses gives keep = absurd (omega (arith, each))
    runs_are_covered last (Ack t ∷ es) (r ∷ rs) each c s alone d end beside (next, transition, any, later) gives keep =
        let kept = acknowledgement_keeps d s beside.represents t (next, r) transition in
        let births = acknowledgement_within d s t beside.births (next, r) transition in
        let seen = runs_are_covered last es rs (omega (arith, each)) c s alone next end (beside_next d next s (same_program d (next, r) (Ack t) transition) (beside.program, beside.within) kept births) (later s refl) gives keep.1 in
        (seen.0, (keep.0, acknowledgement_granted d t (next, r) transition, seen.1))
    runs_are_covered last (Gc ∷ es) (r ∷ rs) each c s alone d end beside (next, transition, any, later) gives keep =
        let kept = collection_keeps d s beside.represents (next, r) transition in
        let births = collection_within d s beside.represents beside.births (next, r) transition in
        let seen = runs_are_covered last es rs (omega (arith, each)) c s alone next end (beside_next d next s (same_program d (next, r) Gc transition) (beside.program, beside.within) kept births) (later s refl) gives keep.1 in
        (seen.0, (keep.0, collection_granted d (next, r) transition, seen.1))
    runs_are_covered last (Step t ∷ es) (r ∷ rs) each c s alone d end beside (next, transition, refused, later) gives keep =
        let first = first_of tree limits s (t, is_refusal r) (thread_part (zip es rs)) (r ∷ step_reports (zip es rs)) last gives in
        let reports : r ≡ first.report = head_of r first.report (step_reports (zip es rs)) first.later first.are in
        let rest : step_reports (zip es rs) ≡ first.later = tail_of r first.report (step_reports (zip es rs)) first.later first.are in
        let answers : step tree limits s t (is_refusal r) ≡ Answers r first.after = first.answers ∙ ap (λ q. Answers q first.after) (sym reports) in
        let there : step d.tree d.limits s t (is_refusal r) ≡ Answers r first.after =
        ap (λ (u : Tree). step u d.limits s t (is_refusal r)) beside.program ∙ (ap (λ (l : Limits). step tree l s t (is_refusal r)) beside.within ∙ answers) in
        let both : AreNext r first.after next = step_beside c d s t r first.after alone beside answers keep.0 next transition refused.0 in
        let seen = runs_are_covered last es rs (omega (arith, each)) both.machine_state first.after both.alone next end both.beside (later first.after there) (first.runs ∙ ap (λ l. RunsTo l last) (sym rest)) keep.1 in
        (seen.0, (keep.0, both.not_refused, seen.1))

  -- ---- the transitions of steps alone

  pub steps_are_covered : (events : List Event) → AreSteps events → (c : MachineState) → IsOneOperation c.tree → IsCovered known c → (after : MachineState) (reports : List Report) → AreTransitions c events after reports → KeepBudgets reports →
      IsCovered known after × AreOrdinary reports
  steps_are_covered [] steps c one covered after reports transitions keep =
      (subst (IsCovered known) (sym transitions.0) covered, subst AreOrdinary (sym transitions.1) tt)
  steps_are_covered (Ack t ∷ es) steps c one covered after reports transitions keep = elim steps [ ]
  steps_are_covered (Gc ∷ es) steps c one covered after reports transitions keep = elim steps [ ]
  steps_are_covered (Step t ∷ es) steps c one covered after [] transitions keep = elim transitions [ ]
  steps_are_covered (Step t ∷ es) steps c one covered after (r ∷ rs) transitions keep =
      let next : IsNext c t = next_of c covered t in
      let same : (next.after, next.report) ≡ (transitions.0, r) = one_transition c one (Step t) (next.after, next.report) (transitions.0, r) next.transition transitions.1 in
      let reports : next.report ≡ r = ap (λ (x : MachineState × Report). x.1) same in
      let contents : next.after ≡ transitions.0 = ap (λ (x : MachineState × Report). x.0) same in
      let program = same_program c (transitions.0, r) (Step t) transitions.1 in
      let later = steps_are_covered es steps transitions.0 (subst IsOneOperation (sym program.0) one) (subst (IsCovered known) contents (still next.after next.report next.over (λ over. keep.0 (sym reports ∙ over)))) after rs transitions.2 keep.1 in
      (later.0, (keep.0, sym (ap is_refusal reports) ∙ next.not_refused, later.1))

-- ---- from the initial state on

module _ (tree : Tree) (limits : Limits) where
  pub opened_of : (c : MachineState) → initial_machine_state tree limits ≡ Some c → (c.tree ≡ tree) × (c.limits ≡ limits)
  opened_of c e = by_entry (slice_get (entry_points tree) 0) e
    where
      by_number : (entry : ClassName × Method) (n : Option ℕ) → option_map (machine_state_at tree limits entry) n ≡ Some c → (c.tree ≡ tree) × (c.limits ≡ limits)
      by_number entry None h = none_is_some c h
      by_number entry (Some n) h =
          let same = same_Some (machine_state_at tree limits entry n) c h in
          (sym (ap (λ (x : MachineState). x.tree) same), sym (ap (λ (x : MachineState). x.limits) same))

      by_entry : (entry : Option (ClassName × Method)) → option_and_then (λ (x : ClassName × Method). option_map (machine_state_at tree limits x) (number_of tree x)) entry ≡ Some c → (c.tree ≡ tree) × (c.limits ≡ limits)
      by_entry None h = none_is_some c h
      by_entry (Some entry) h = by_number entry (number_of tree entry) h

  pub opened_runs_are_covered : (known : MachineState → Type 0) → IsClosed known → (c : MachineState) (s : State) → initial_machine_state tree limits ≡ Some c → initial_state tree limits ≡ Some s → Represents c s → IsCovered known c →
      (events : List Event) (reports : List Report) (last : State) → IsRunOf tree limits events reports last → KeepBudgets reports → IsCoveredState tree limits known last × AreOrdinary reports
  opened_runs_are_covered known closed c s opened begins represents covered events reports last is keep =
      let of = opened_of c opened in
      let machine : is.machine ≡ c = same_Some is.machine c (sym is.opened ∙ opened) in
      let state : is.first ≡ s = same_Some is.first s (sym is.begins ∙ begins) in
      let accepted : IsAccepted tree = subst IsAccepted of.0 represents.accepted in
      let in_range : IsTrue (are_in_range limits) = subst (λ (l : Limits). IsTrue (are_in_range l)) of.1 represents.limits in
      runs_are_covered known closed tree limits last events reports is.each c s
      (record { program = of.0; within = of.1; whole = opened_whole tree limits each_alike accepted in_range c opened s begins; covered = covered })
      c is.last (record { program = of.0; within = of.1; represents = represents; births = opened_within tree limits c opened s })
      (subst (λ (x : MachineState). RefusesBeyondRoom x s (zip events reports) is.last) machine (subst (λ (u : State). RefusesBeyondRoom is.machine u (zip events reports) is.last) state is.refuses))
      (ap (λ u. run tree limits u (thread_part (zip events reports))) (sym state) ∙ is.gives) keep
