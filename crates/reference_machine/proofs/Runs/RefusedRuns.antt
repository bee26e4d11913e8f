-- Refused allocations along runs: where two lists of steps are joined; and the same events have one run.
use Rattle.std.proofs.Common.{◌≡◌, ◌↔◌, ℕ, Bool, true, false, IsTrue, List, [], ◌∷◌, length, refl, sym, ap, ◌∙◌, subst, arith}
use Rattle.std.specs.List.{zip}
use Rattle.std.proofs.lemmas.Option.{same_Some}
use Rattle.cil_model.specs.declared.events.Event.{Event}
use Rattle.cil_model.specs.declared.events.Event.TheVariants.{Step, Ack, Gc}
use Rattle.cil_model.specs.declared.limits.Limits.{Limits}
use Rattle.cil_model.specs.declared.reports.Report.{Report}
use Rattle.cil_model.specs.declared.trees.Tree.{Tree}
use Rattle.reference_machine.specs.Rooms.{RefusesBeyondRoom}
use Rattle.reference_machine.specs.Runs.{IsStateAfter, RunsTo, is_refusal, run, step_reports, thread_part}
use Rattle.reference_machine.specs.States.{State}
use Rattle.reference_machine.specs.Steps.{Answers, step}
use Rattle.reference_machine.proofs.Runs.InstructionEffects.{same_after, same_report}
use Rattle.reference_machine.proofs.Runs.JoinedRuns.{first_of, same_state}

-- two tests of one thing are equal
same_test : {P : Type 0} (b c : Bool) → IsTrue b ↔ P → IsTrue c ↔ P → b ≡ c
same_test true false h k = sym (k.1 (h.0 refl))
same_test false true h k = h.1 (k.0 refl)
same_test _ _ h k = refl

module _ (tree : Tree) (limits : Limits) where
  -- the outcome of a run from a state
  abbrev RunsUpTo : State → List (Event × Report) → State → Type 0
  RunsUpTo s events t = (run tree limits s (thread_part events) ≡ RunsTo (step_reports events) t) × RefusesBeyondRoom tree limits s (thread_part events)

  abbrev IsSame : List (Event × Report) → List (Event × Report) → State → State → Type 0
  IsSame events events' t t' = (step_reports events ≡ step_reports events') × (t ≡ t')

  one_step : (s : State) (n : ℕ) (r r' : Report) (es es' : List (Event × Report)) (t t' : State) → RunsUpTo s ((Step n, r) ∷ es) t → RunsUpTo s ((Step n, r') ∷ es') t' →
      ((u : State) → RunsUpTo u es t → RunsUpTo u es' t' → IsSame es es' t t') → IsSame ((Step n, r) ∷ es) ((Step n, r') ∷ es') t t'
  one_step s n r r' es es' t t' h h' later =
      let refused : is_refusal r ≡ is_refusal r' = same_test (is_refusal r) (is_refusal r') h.1.0 h'.1.0 in
      let x = first_of tree limits s (n, is_refusal r) (thread_part es) (r ∷ step_reports es) t h.0 in
      let x' = first_of tree limits s (n, is_refusal r') (thread_part es') (r' ∷ step_reports es') t' h'.0 in
      let both : Answers x.report x.after ≡ Answers x'.report x'.after = sym x.answers ∙ ap (step tree limits s n) refused ∙ x'.answers in
      let same : x.after ≡ x'.after = same_after x.report x'.report x.after x'.after both in
      let reports : r ≡ r' = same_head r x.report (step_reports es) x.later x.are ∙ same_report x.report x'.report x.after x'.after both ∙ sym (same_head r' x'.report (step_reports es') x'.later x'.are) in
      let one : RunsUpTo x.after es t = (x.runs ∙ ap (λ l. RunsTo l t) (sym (same_tail r x.report (step_reports es) x.later x.are)), h.1.1 x.report x.after x.answers) in
      let other : RunsUpTo x'.after es' t' = (x'.runs ∙ ap (λ l. RunsTo l t') (sym (same_tail r' x'.report (step_reports es') x'.later x'.are)), h'.1.1 x'.report x'.after x'.answers) in
      let more = later x.after one (subst (λ u. RunsUpTo u es' t') (sym same) other) in
      (ap (λ y. y ∷ step_reports es) reports ∙ ap (λ l. r' ∷ l) more.0, more.1)
    where
      same_head : (a b : Report) (as' bs : List Report) → a ∷ as' ≡ b ∷ bs → a ≡ b
      same_head a b as' bs e = cc

      same_tail : (a b : Report) (as' bs : List Report) → a ∷ as' ≡ b ∷ bs → as' ≡ bs
      same_tail a b as' bs e = cc

  -- the same events, from one state
  one_from : (events : List Event) (reports reports' : List Report) → length reports ≡ length events → length reports' ≡ length events → (s t t' : State) →
      RunsUpTo s (zip events reports) t → RunsUpTo s (zip events reports') t' → IsSame (zip events reports) (zip events reports') t t'
  one_from [] rs rs' each each' s t t' h h' = (refl, sym (same_state [] [] s t h.0) ∙ same_state [] [] s t' h'.0)
  one_from (e ∷ es) [] rs' each each' s t t' h h' = absurd (omega (arith, each))
  one_from (e ∷ es) (r ∷ rs) [] each each' s t t' h h' = absurd (omega (arith, each'))
  one_from (Step n ∷ es) (r ∷ rs) (r' ∷ rs') each each' s t t' h h' =
      one_step s n r r' (zip es rs) (zip es rs') t t' h h' (λ u k k'. one_from es rs rs' (omega (arith, each)) (omega (arith, each')) u t t' k k')
  one_from (Ack n ∷ es) (r ∷ rs) (r' ∷ rs') each each' s t t' h h' = one_from es rs rs' (omega (arith, each)) (omega (arith, each')) s t t' h h'
  one_from (Gc ∷ es) (r ∷ rs) (r' ∷ rs') each each' s t t' h h' = one_from es rs rs' (omega (arith, each)) (omega (arith, each')) s t t' h h'

  -- the same events have one run
  pub runs_are_one : (events : List Event) (reports reports' : List Report) → length reports ≡ length events → length reports' ≡ length events → (s s' : State) →
      IsStateAfter tree limits (zip events reports) s → IsStateAfter tree limits (zip events reports') s' → (step_reports (zip events reports) ≡ step_reports (zip events reports')) × (s ≡ s')
  runs_are_one events reports reports' each each' s s' h h' =
      let same : h'.first ≡ h.first = same_Some h'.first h.first (sym h'.begins ∙ h.begins) in
      one_from events reports reports' each each' h.first s s' (h.gives, h.refuses) (subst (λ x. RunsUpTo x (zip events reports') s') same (h'.gives, h'.refuses))
