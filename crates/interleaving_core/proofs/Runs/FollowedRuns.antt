-- What a machine does on events, the reference machine does on the steps among them.
use Rattle.std.proofs.Common.{◌≡◌, ◌+◌, ◌<◌, ℕ, suc, List, [], ◌∷◌, ◌++◌, length, take, drop, get_or, refl, sym, ap, ◌∙◌, subst, arith}
use Rattle.std.proofs.lemmas.List.{append_assoc, length-append, take_more}
use Rattle.std.proofs.lemmas.List.Elements.{filter_map-append}
use Rattle.std.proofs.Math.Seq.{drop-append_seam, take-append_seam}
use Rattle.std.specs.List.{zip}
use Rattle.cil_model.specs.declared.events.Event.{Event}
use Rattle.cil_model.specs.declared.events.Event.TheVariants.{Step, Ack, Gc}
use Rattle.cil_model.specs.declared.reports.Report.{Report}
use Rattle.reference_machine.specs.Runs.{RunsTo, is_refusal, run, request_of, report_of_step, followed_by, thread_part, step_reports}
use Rattle.reference_machine.specs.States.{State}
use Rattle.reference_machine.specs.Steps.{Answers, step}
use Rattle.reference_machine.proofs.Runs.JoinedRuns.{after_run, runs_on, same_state}
use Rattle.simulation.specs.MachineStates.{MachineState}
use Rattle.simulation.specs.Budgets.{KeepsBudgets, steps_left_of}
use Rattle.simulation.specs.Refines.{Represents}
use Rattle.simulation.specs.Transitions.{IsTransition}
use Rattle.simulation.proofs.Runs.EventCorrespondence.{acknowledgement_keeps, collection_keeps, step_is_followed, step_is_refused}
use Rattle.simulation.specs.Runs.{AreTransitions, FollowsReference, RefusesBeyondRoom, RunsAlike}
use Rattle.simulation.proofs.Threads.StepEffects.{same_program}
use Rattle.interleaving_core.proofs.Threads.Budgets.{keeps_after, transition_keeps}
use Rattle.interleaving_core.proofs.Threads.LiveThreads.{some_budget, live_have_steps}

-- ---- one event

-- the program and its limits stay
abbrev pub SameProgram : MachineState → MachineState → Type 0
SameProgram c d = (d.tree ≡ c.tree) × (d.limits ≡ c.limits)

module _ (c : MachineState) (after : MachineState × Report) where
  pub transition_follows : (e : Event) → IsTransition c e after → FollowsReference c after.0 ((e, after.1) ∷ [])
  transition_follows e h s r = by_event e h
    where
      kept : (e : Event) → IsTransition c e after → KeepsBudgets c after.0 ((e, after.1) ∷ [])
      kept = λ e h. transition_keeps c (live_have_steps c s r) (some_budget c s r) e after h

      itself : (e : Event) (h : IsTransition c e after) → run c.tree c.limits s (thread_part ((e, after.1) ∷ [])) ≡ RunsTo (step_reports ((e, after.1) ∷ [])) s →
          RefusesBeyondRoom c s ((e, after.1) ∷ []) after.0 → Represents after.0 s → RunsAlike c after.0 ((e, after.1) ∷ []) s
      itself e h gives refuses represents = record { state = s; gives = gives; refuses = refuses; represents = represents; budgets = kept e h }

      by_event : (e : Event) → IsTransition c e after → RunsAlike c after.0 ((e, after.1) ∷ []) s
      by_event (Ack t) h = itself (Ack t) h refl (after.0, h, tt, λ next is. refl) (acknowledgement_keeps c s r t after h)
      by_event Gc h = itself Gc h refl (after.0, h, tt, λ next is. refl) (collection_keeps c s r after h)
      by_event (Step t) h =
          let one = step_is_followed c s r t after h in
          record { state = one.0; gives = ap (λ o. followed_by o (λ u. run c.tree c.limits u [])) one.1; refuses = (after.0, h, step_is_refused c s r t after h, λ next is. refl); represents = one.2; budgets = kept (Step t) h }

-- ---- births beyond the room, of one list and then of another

module _ (d n : MachineState) (t : State) (fs : List (Event × Report)) (more : RefusesBeyondRoom d t fs n) where
  -- after an event that keeps the state
  stays_after : (c next : MachineState) (es : List (Event × Report)) (s after : State) (reports : List Report) → SameProgram c next → after ≡ s → run c.tree c.limits s (thread_part es) ≡ RunsTo reports t →
      (run next.tree next.limits after (thread_part es) ≡ RunsTo reports t → RefusesBeyondRoom next after (es ++ fs) n) → RefusesBeyondRoom next after (es ++ fs) n
  stays_after c next es s after reports same is e later =
      later (ap (λ x. run x next.limits after (thread_part es)) same.0 ∙ (ap (λ x. run c.tree x after (thread_part es)) same.1 ∙ (ap (λ x. run c.tree c.limits x (thread_part es)) is ∙ e)))

  -- and after a step
  steps_after : (c next : MachineState) (es : List (Event × Report)) (s after : State) (m : ℕ) (r : Report) (reports : List Report) → SameProgram c next → step c.tree c.limits s m (is_refusal r) ≡ Answers r after →
      run c.tree c.limits s (thread_part ((Step m, r) ∷ es)) ≡ RunsTo reports t →
      ((rs : List Report) → run next.tree next.limits after (thread_part es) ≡ RunsTo rs t → RefusesBeyondRoom next after (es ++ fs) n) → RefusesBeyondRoom next after (es ++ fs) n
  steps_after c next es s after m r reports same is e later =
      after_run r reports t (run c.tree c.limits after (thread_part es)) (subst (λ o. followed_by o (λ x. run c.tree c.limits x (thread_part es)) ≡ RunsTo reports t) is e)
      (λ rs e' are. later rs (ap (λ x. run x next.limits after (thread_part es)) same.0 ∙ (ap (λ x. run c.tree x after (thread_part es)) same.1 ∙ e')))

  pub refuses_after : (es : List (Event × Report)) (c : MachineState) (s : State) (reports : List Report) → run c.tree c.limits s (thread_part es) ≡ RunsTo reports t → RefusesBeyondRoom c s es d → RefusesBeyondRoom c s (es ++ fs) n
  refuses_after [] c s reports e h =
      subst (λ x. RefusesBeyondRoom x s fs n) h (subst (λ x. RefusesBeyondRoom d x fs n) (sym (same_state [] reports s t e)) more)
  refuses_after ((Ack m, r) ∷ es) c s reports e h = (h.0, h.1, h.2, λ after is. stays_after c h.0 es s after reports (same_program c (h.0, r) (Ack m) h.1) is e (λ k. refuses_after es h.0 after reports k (h.3 after is)))
  refuses_after ((Gc, r) ∷ es) c s reports e h = (h.0, h.1, h.2, λ after is. stays_after c h.0 es s after reports (same_program c (h.0, r) Gc h.1) is e (λ k. refuses_after es h.0 after reports k (h.3 after is)))
  refuses_after ((Step m, r) ∷ es) c s reports e h = (h.0, h.1, h.2, λ after is. steps_after c h.0 es s after m r reports (same_program c (h.0, r) (Step m) h.1) is e (λ rs k. refuses_after es h.0 after rs k (h.3 after is)))

-- ---- one list after another

pub joined : (c d n : MachineState) (es fs : List (Event × Report)) → SameProgram c d → FollowsReference c d es → FollowsReference d n fs → FollowsReference c n (es ++ fs)
joined c d n es fs same first more s r =
    let one = first s r in
    let two = more one.state one.represents in
    let later : run c.tree c.limits one.state (thread_part fs) ≡ RunsTo (step_reports fs) two.state =
    ap (λ x. run x c.limits one.state (thread_part fs)) (sym same.0) ∙ (ap (λ x. run d.tree x one.state (thread_part fs)) (sym same.1) ∙ two.gives) in
    record {
      state = two.state;
      refuses = refuses_after d n one.state fs two.refuses es c s (step_reports es) one.gives one.refuses;
      gives = ap (run c.tree c.limits s) (filter_map-append (λ (e : Event × Report). request_of e.0 e.1) es fs)
          ∙ (runs_on c.tree c.limits (thread_part es) (thread_part fs) s one.state two.state (step_reports es) (step_reports fs) one.gives later
          ∙ ap (λ rs. RunsTo rs two.state) (sym (filter_map-append (λ (e : Event × Report). report_of_step e.0 e.1) es fs)));
      represents = two.represents;
      budgets = keeps_after c d n es fs one.budgets two.budgets;
    }

-- ---- a list of events

pub transitions_more : (c d n : MachineState) (es : List Event) (rs : List Report) (e : Event) (r : Report) → AreTransitions c es d rs → IsTransition d e (n, r) → AreTransitions c (es ++ e ∷ []) n (rs ++ r ∷ [])
transitions_more c d n [] rs e r h k =
    subst (λ x. AreTransitions c (e ∷ []) n (x ++ r ∷ [])) (sym h.1) (n, subst (λ x. IsTransition x e (n, r)) h.0 k, (refl, refl))
transitions_more c d n (x ∷ es) (y ∷ ys) e r h k = (h.0, h.1, transitions_more h.0 d n es ys e r h.2 k)
transitions_more c d n (x ∷ es) [] e r h k = elim h [ ]

pub transitions_length : (c d : MachineState) (es : List Event) (rs : List Report) → AreTransitions c es d rs → length rs ≡ length es
transitions_length c d [] rs h = ap length h.1
transitions_length c d (e ∷ es) (r ∷ rs) h = ap suc (transitions_length h.0 d es rs h.2)
transitions_length c d (e ∷ es) [] h = elim h [ ]

-- nothing is added
none_made : (n : ℕ) → 0 + n ≡ n
none_made n = omega arith

-- the program and its limits stay
pub transitions_program : (c d : MachineState) (es : List Event) (rs : List Report) → AreTransitions c es d rs → SameProgram c d
transitions_program c d [] rs h = (ap (λ (x : MachineState). x.tree) h.0, ap (λ (x : MachineState). x.limits) h.0)
transitions_program c d (e ∷ es) (r ∷ rs) h =
    let one = same_program c (h.0, r) e h.1 in
    let more = transitions_program h.0 d es rs h.2 in
    (more.0 ∙ one.0, more.1 ∙ one.1)
transitions_program c d (e ∷ es) [] h = elim h [ ]

-- each list of events is followed
pub transitions_follow : (c d : MachineState) (es : List Event) (rs : List Report) → AreTransitions c es d rs → FollowsReference c d (zip es rs)
transitions_follow c d [] rs h = λ s r. subst (λ x. RunsAlike c x [] s) (sym h.0) (record { state = s; gives = refl; refuses = refl; represents = r; budgets = record { counted = λ t. none_made (steps_left_of c t); live = live_have_steps c s r } })
transitions_follow c d (e ∷ es) (r ∷ rs) h =
    joined c h.0 d ((e, r) ∷ []) (zip es rs) (same_program c (h.0, r) e h.1) (transition_follows c (h.0, r) e h.1) (transitions_follow h.0 d es rs h.2)
transitions_follow c d (e ∷ es) [] h = elim h [ ]

-- the reports before a run, and those of the run so far
pub record RunSoFar (c : MachineState) (before : List Report) (es : List Event) (d : MachineState) (reports : List Report) : Type 0 where
  pub own : List Report
  pub are : reports ≡ before ++ own
  pub transitions : AreTransitions c es d own

pub run_begun : (c : MachineState) (before : List Report) → before ≡ before ++ [] → RunSoFar c before [] c before
run_begun c before is = record { own = []; are = is; transitions = (refl, refl) }

pub run_step : (c d n : MachineState) (before reports : List Report) (es : List Event) (i : ℕ) (x : Event) (r : Report) → i < length es → RunSoFar c before (take i es) d reports → IsTransition d (get_or es i x) (n, r) →
    RunSoFar c before (take (i + 1) es) n (reports ++ r ∷ [])
run_step c d n before reports es i x r below h k = record {
  own = h.own ++ r ∷ [];
  are = ap (λ rs. rs ++ r ∷ []) h.are ∙ append_assoc before h.own (r ∷ []);
  transitions = subst (λ l. AreTransitions c l n (h.own ++ r ∷ [])) (sym (take_more es i x below)) (transitions_more c d n (take i es) h.own (get_or es i x) r h.transitions k);
}

module _ (c d : MachineState) (before reports : List Report) (es : List Event) (h : RunSoFar c before es d reports) where
  pub own_reports : drop (length before) reports ≡ h.own
  own_reports = ap (drop (length before)) h.are ∙ drop-append_seam before h.own

  pub run_transitions : AreTransitions c es d (drop (length before) reports)
  run_transitions = subst (λ rs. AreTransitions c es d rs) (sym own_reports) h.transitions

  pub run_follows : FollowsReference c d (zip es (drop (length before) reports))
  run_follows = transitions_follow c d es (drop (length before) reports) run_transitions

  pub all_reported : length reports ≡ length before + length es
  all_reported = ap length h.are ∙ (length-append before h.own ∙ ap (λ n. length before + n) (transitions_length c d es h.own h.transitions))

  pub run_kept : take (length before) reports ≡ before
  run_kept = ap (take (length before)) h.are ∙ take-append_seam before h.own

  pub run_program : SameProgram c d
  run_program = transitions_program c d es h.own h.transitions
