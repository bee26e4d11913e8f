-- What a covered state shows.
use Rattle.std.proofs.Common.{Contains, ◌≡◌, ◌⊎◌, ℕ, Bool, true, false, List, [], ◌∷◌, map, Some, refl, inl, inr, sym, ap, ◌∙◌, subst}
use Rattle.interleaving_core.proofs.simulation.Threads.Joins.{lives_alike}
use Rattle.interleaving_core.proofs.simulation.Representation.VisibleState.{ends_refine, printed_refines}
use Rattle.exploration.proofs.Names.{Step, Budget, Report, Blocked, Ran, HasEnded, Limits, Tree, is_refusal, State, is_live_state, Answers, step, end_of, is_live_at, ThreadStatus, Live, Ended, Thread, Agree, MachineState, IsTransition, step_is_followed, IsLagging, IsStatusLagging, IsThreadLagging, IsClosed, IsCoveredState, LeadsInto, CannotStep, IsTerminal, IsOver, ShownOutcome, ShowOnly, outcome_of, outcome_shown}
use Rattle.exploration.proofs.CoveredRuns.{same_answer}
use Rattle.exploration.proofs.ChargedSteps.{live_alike}
use Rattle.exploration.proofs.LaggingSteps.{stays_lagging}

-- ---- how threads ended

status_ends : (tree : Tree) (left left' : ℕ) (s u : ThreadStatus) → IsStatusLagging tree s u → end_of (record { thread_status = u; steps_left = left' }) ≡ end_of (record { thread_status = s; steps_left = left })
status_ends tree left left' (Live m) (Live n) h = refl
status_ends tree left left' (Ended e) (Ended f) h = ap Some (sym h)
status_ends tree left left' (Live m) (Ended f) h = elim h [ ]
status_ends tree left left' (Ended e) (Live n) h = elim h [ ]

lagging_ends : (tree : Tree) (xs ys : List Thread) → Agree (IsThreadLagging tree) xs ys → map end_of ys ≡ map end_of xs
lagging_ends tree [] [] h = refl
lagging_ends tree (x ∷ xs) (y ∷ ys) h = let rest = lagging_ends tree xs ys h.1 in λ i. status_ends tree x.steps_left y.steps_left x.thread_status y.thread_status h.0 i ∷ rest i
lagging_ends tree [] (y ∷ ys) h = elim h [ ]
lagging_ends tree (x ∷ xs) [] h = elim h [ ]

-- ---- no thread can continue

module _ (tree : Tree) (limits : Limits) (known : MachineState → Type 0) (closed : IsClosed known) (s : State) (seen : IsCoveredState tree limits known s) where
  abbrev c : MachineState
  c = seen.machine_state

  abbrev d : MachineState
  d = seen.covered.machine_state

  lives_in_both : (t : ℕ) → is_live_at c.threads t ≡ is_live_at d.threads t
  lives_in_both = live_alike c.tree c.threads d.threads seen.covered.lagging.threads

  lives_in_state : (t : ℕ) → is_live_at c.threads t ≡ is_live_state s t
  lives_in_state = lives_alike c s seen.represents

  blocked_is : (q : Report) (after next : State) (refused : Bool) → is_refusal q ≡ refused → refused ≡ false → (t : ℕ) → step c.tree c.limits s t (is_refusal q) ≡ Answers q after → step c.tree c.limits s t false ≡ Answers Blocked next → q ≡ Blocked
  blocked_is q after next refused is not t h k = (same_answer q Blocked after next (sym h ∙ (ap (step c.tree c.limits s t) (is ∙ not) ∙ k))).0

  transition_is : (next : MachineState) (r q : Report) (t : ℕ) → IsTransition d (Step t) (next, r) → q ≡ r → q ≡ Blocked → IsTransition d (Step t) (next, Blocked)
  transition_is next r q t transition same is = subst (λ (x : Report). IsTransition d (Step t) (next, x)) (sym same ∙ is) transition

  -- a thread that is blocked in the state is blocked in the machine state that covers it
  blocked_there : (t : ℕ) → is_live_at d.threads t ≡ true → (next : State) → step c.tree c.limits s t false ≡ Answers Blocked next → (after : MachineState) × IsTransition d (Step t) (after, Blocked)
  blocked_there t live next blocked =
      let live_c : is_live_at c.threads t ≡ true = lives_in_both t ∙ live in
      let leads : LeadsInto known d t = closed d seen.covered.among t live in
      let one = stays_lagging c d seen.covered.lagging t live_c leads.next leads.report leads.transition leads.within_budget in
      let follows = step_is_followed c s seen.represents t (one.0, one.1) one.2 in
      by_step leads one.0 one.1 follows.0 next follows.1 blocked one.3
    where
      by_step : (leads : LeadsInto known d t) (after : MachineState) (q : Report) (u next : State) → step c.tree c.limits s t (is_refusal q) ≡ Answers q u → step c.tree c.limits s t false ≡ Answers Blocked next →
          (q ≡ HasEnded Budget) ⊎ (((q ≡ Ran) × IsLagging after d) ⊎ ((q ≡ leads.report) × IsLagging after leads.next)) → (next : MachineState) × IsTransition d (Step t) (next, Blocked)
      by_step leads after q u next does blocked (inl over) =
          let is : q ≡ Blocked = blocked_is q u next false (ap is_refusal over) refl t does blocked in
          let no : HasEnded Budget ≡ Blocked = sym over ∙ is in
          absurd (cc no)
      by_step leads after q u next does blocked (inr (inl own)) =
          let is : q ≡ Blocked = blocked_is q u next false (ap is_refusal own.0) refl t does blocked in
          let no : Ran ≡ Blocked = sym own.0 ∙ is in
          absurd (cc no)
      by_step leads after q u next does blocked (inr (inr both)) =
          let is : q ≡ Blocked = blocked_is q u next (is_refusal leads.report) (ap is_refusal both.0) leads.not_refused t does blocked in
          (leads.next, transition_is leads.next leads.report q t leads.transition both.0 is)

  over : IsOver tree limits s → IsTerminal d
  over h t = by_life (is_live_at d.threads t) refl
    where
      in_state : (is_live_state s t ≡ false) ⊎ ((next : State) × (step c.tree c.limits s t false ≡ Answers Blocked next)) → is_live_at d.threads t ≡ true → CannotStep d t
      in_state (inl dead) live = inl (sym (lives_in_both t) ∙ (lives_in_state t ∙ dead))
      in_state (inr (next, blocked)) live = inr (blocked_there t live next blocked)

      by_life : (b : Bool) → is_live_at d.threads t ≡ b → CannotStep d t
      by_life false dead = inl dead
      by_life true live =
          in_state (subst (λ (x : Tree). (is_live_state s t ≡ false) ⊎ ((next : State) × (step x c.limits s t false ≡ Answers Blocked next))) (sym seen.program)
          (subst (λ (x : Limits). (is_live_state s t ≡ false) ⊎ ((next : State) × (step tree x s t false ≡ Answers Blocked next))) (sym seen.within) (h t))) live

  same_outcome : outcome_shown d ≡ outcome_of s
  same_outcome =
      let printed : d.printed ≡ s.printed = ap (λ (x : MachineState). x.printed) seen.covered.lagging.rest ∙ printed_refines c s seen.represents in
      let ends = lagging_ends c.tree c.threads d.threads seen.covered.lagging.threads ∙ ends_refine c s seen.represents in
      λ i. record { printed = printed i; ends = ends i }

  pub shown : (b : MachineState) × known b × (outcome_shown b ≡ outcome_of s) × (IsOver tree limits s → IsTerminal b)
  shown = (d, seen.covered.among, same_outcome, over)

  pub outcome_listed : (outcomes : List ShownOutcome) → ShowOnly known outcomes → IsOver tree limits s → Contains outcomes (outcome_of s)
  outcome_listed outcomes only is_over = subst (Contains outcomes) same_outcome (only d seen.covered.among (over is_over))
