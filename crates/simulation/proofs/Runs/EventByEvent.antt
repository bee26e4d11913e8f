-- A run of a machine beside the reference machine's, walked through event by event.
use Rattle.std.proofs.Common.{◌≡◌, List, [], ◌∷◌, ◌++◌, refl, sym, ap, ◌∙◌, subst, append_assoc, append-nil}
use Rattle.interpreter.specs.cil_model.declared.events.Event.{Event}
use Rattle.interpreter.specs.cil_model.declared.events.Event.TheVariants.{Step}
use Rattle.interpreter.specs.cil_model.declared.limits.Limits.{Limits}
use Rattle.interpreter.specs.cil_model.declared.reports.Report.{Report}
use Rattle.interpreter.specs.cil_model.declared.trees.Tree.{Tree}
use Rattle.interpreter.specs.reference_machine.Runs.{RunsTo, followed_by, is_refusal, preceded_by, run, step_reports, thread_part}
use Rattle.interpreter.specs.reference_machine.States.{State}
use Rattle.interpreter.specs.reference_machine.Steps.{Answers}
use Rattle.interpreter.proofs.reference_machine.Runs.JoinedRuns.{first_of}
use Rattle.simulation.specs.MachineStates.{MachineState}
use Rattle.simulation.specs.Runs.{IsNext, RefusesBeyondRoom}
use Rattle.simulation.specs.Transitions.{IsTransition}
use Rattle.simulation.proofs.Threads.StepEffects.{same_program}

-- the state after the first event of a run, and the run from there
pub first_next : (tree : Tree) (limits : Limits) (s : State) (e : Event) (r : Report) (rest : List (Event × Report)) (now : State) → run tree limits s (thread_part ((e, r) ∷ rest)) ≡ RunsTo (step_reports ((e, r) ∷ rest)) now →
    (after : State) × IsNext tree limits s e r after × (run tree limits after (thread_part rest) ≡ RunsTo (step_reports rest) now)
first_next tree limits s (Step n) r rest now runs =
    let x = first_of tree limits s (n, is_refusal r) (thread_part rest) (r ∷ step_reports rest) now runs in
    let are : r ∷ step_reports rest ≡ x.report ∷ x.later = x.are in
    let reports : r ≡ x.report = cc in
    let later : step_reports rest ≡ x.later = cc in
    (x.after, x.answers ∙ ap (λ q. Answers q x.after) (sym reports), x.runs ∙ ap (λ l. RunsTo l now) (sym later))
first_next tree limits s _ r rest now runs = (s, refl, runs)

-- it is that of a machine state with the same program and limits
pub next_of_same : (tree : Tree) (limits : Limits) (c : MachineState) (s : State) (e : Event) (r : Report) (after : State) → c.tree ≡ tree → c.limits ≡ limits → IsNext tree limits s e r after → IsNext c.tree c.limits s e r after
next_of_same tree limits c s e r after same_tree same_limits is = subst (λ (l : Limits). IsNext c.tree l s e r after) (sym same_limits) (subst (λ (u : Tree). IsNext u limits s e r after) (sym same_tree) is)

module _ (tree : Tree) (limits : Limits) (all : List (Event × Report)) (now : State) (last : MachineState) where
  -- a run is at a machine state and a state of the reference machine: these events are done, and these are left
  pub record IsAt (done rest : List (Event × Report)) (c : MachineState) (s : State) : Type 0 where
    pub of_tree : c.tree ≡ tree
    pub of_limits : c.limits ≡ limits
    pub split : all ≡ done ++ rest
    pub runs : run tree limits s (thread_part rest) ≡ RunsTo (step_reports rest) now
    pub refuses : RefusesBeyondRoom c s rest last

  -- where it is after the next event
  pub record Continues (done rest : List (Event × Report)) (c : MachineState) (s : State) (e : Event) (r : Report) : Type 0 where
    pub next : MachineState
    pub after : State
    pub transition : IsTransition c e (next, r)
    pub is_next : IsNext c.tree c.limits s e r after
    pub answers : IsNext tree limits s e r after
    pub there : IsAt (done ++ (e, r) ∷ []) rest next after

  module _ (done rest : List (Event × Report)) (c : MachineState) (s : State) (e : Event) (r : Report) (at : IsAt done ((e, r) ∷ rest) c s) where
    -- the same event of the same program
    at_next : (next : MachineState) (after : State) → IsTransition c e (next, r) → run tree limits after (thread_part rest) ≡ RunsTo (step_reports rest) now → RefusesBeyondRoom next after rest last → IsAt (done ++ (e, r) ∷ []) rest next after
    at_next next after transition runs refuses =
        let same = same_program c (next, r) e transition in
        record { of_tree = same.0 ∙ at.of_tree; of_limits = same.1 ∙ at.of_limits; split = at.split ∙ sym (append_assoc done ((e, r) ∷ []) rest); runs = runs; refuses = refuses }

  pub continues : (done rest : List (Event × Report)) (c : MachineState) (s : State) (e : Event) (r : Report) → IsAt done ((e, r) ∷ rest) c s → Continues done rest c s e r
  continues done rest c s e r at =
      let x = first_next tree limits s e r rest now at.runs in
      let here = next_of_same tree limits c s e r x.0 at.of_tree at.of_limits x.1 in
      record {
        next = at.refuses.0;
        after = x.0;
        transition = at.refuses.1;
        is_next = here;
        answers = x.1;
        there = at_next done rest c s e r at at.refuses.0 x.0 at.refuses.1 x.2 (at.refuses.3 x.0 here);
      }

  -- the run of the reference machine after an event
  runs_following : (xs : List (Event × Report)) (e : Event) (r : Report) (s after t : State) → IsNext tree limits s e r after → run tree limits after (thread_part xs) ≡ RunsTo (step_reports xs) t →
      run tree limits s (thread_part ((e, r) ∷ xs)) ≡ RunsTo (step_reports ((e, r) ∷ xs)) t
  runs_following xs (Step n) r s after t is runs = ap (λ o. followed_by o (λ (u : State). run tree limits u (thread_part xs))) is ∙ ap (preceded_by r) runs
  runs_following xs _ r s after t is runs = subst (λ (u : State). run tree limits u (thread_part xs) ≡ RunsTo (step_reports xs) t) is runs

  -- what holds from event to event holds where the run ends
  module _ (Holds : List (Event × Report) → MachineState → State → Type 0)
      (goes : (done rest : List (Event × Report)) (e : Event) (r : Report) (c next : MachineState) (s after : State) → all ≡ done ++ (e, r) ∷ rest → Holds done c s → IsTransition c e (next, r) → IsNext c.tree c.limits s e r after → Holds (done ++ (e, r) ∷ []) next after) where
    pub record OwnEffect (xs ys done : List (Event × Report)) (s : State) : Type 0 where
      pub machine_state : MachineState
      pub state : State
      pub there : IsAt (done ++ xs) ys machine_state state
      pub holds : Holds (done ++ xs) machine_state state
      pub ran : run tree limits s (thread_part xs) ≡ RunsTo (step_reports xs) state

    pub walk : (xs ys done : List (Event × Report)) (c : MachineState) (s : State) → IsAt done (xs ++ ys) c s → Holds done c s → OwnEffect xs ys done s
    walk [] ys done c s at h = record {
      machine_state = c;
      state = s;
      there = subst (λ l. IsAt l ys c s) (sym (append-nil done)) at;
      holds = subst (λ l. Holds l c s) (sym (append-nil done)) h;
      ran = refl;
    }
    walk ((e, r) ∷ xs) ys done c s at h =
        let on = continues done (xs ++ ys) c s e r at in
        let later = walk xs ys (done ++ (e, r) ∷ []) on.next on.after on.there (goes done (xs ++ ys) e r c on.next s on.after at.split h on.transition on.is_next) in
        record {
          machine_state = later.machine_state;
          state = later.state;
          there = subst (λ l. IsAt l ys later.machine_state later.state) (append_assoc done ((e, r) ∷ []) xs) later.there;
          holds = subst (λ l. Holds l later.machine_state later.state) (append_assoc done ((e, r) ∷ []) xs) later.holds;
          ran = runs_following xs e r s on.after later.state on.answers later.ran;
        }
