-- The same events from one machine state have the same reports, and reach the same state of the reference machine.
use Rattle.std.proofs.Common.{◌≡◌, List, [], ◌∷◌, Some, length, refl, sym, ap, ◌∙◌, subst, arith}
use Rattle.std.specs.List.{zip}
use Rattle.std.proofs.lemmas.Option.{same_Some}
use Rattle.interpreter.specs.cil_model.declared.events.Event.{Event}
use Rattle.interpreter.specs.cil_model.declared.events.Event.TheVariants.{Step}
use Rattle.interpreter.specs.cil_model.declared.instructions.Instruction.{Instruction}
use Rattle.interpreter.specs.cil_model.declared.limits.Limits.{Limits}
use Rattle.interpreter.specs.cil_model.declared.reports.Report.{Report}
use Rattle.interpreter.specs.cil_model.declared.trees.Line.{Line}
use Rattle.interpreter.specs.cil_model.declared.trees.Tree.{Tree}
use Rattle.interpreter.specs.resolved_code.ResolvedPrograms.{IsOperation}
use Rattle.interpreter.specs.resolved_code.declared.operations.Operation.{Operation}
use Rattle.interpreter.specs.reference_machine.Runs.{RunsTo, is_refusal, run, step_reports, thread_part}
use Rattle.interpreter.specs.reference_machine.States.{State}
use Rattle.interpreter.specs.reference_machine.Steps.{step}
use Rattle.interpreter.proofs.reference_machine.Runs.JoinedRuns.{same_state}
use Rattle.simulation.specs.MachineStates.{MachineState}
use Rattle.simulation.specs.Runs.{IsNext, IsRunOf, RefusesBeyondRoom}
use Rattle.simulation.specs.Transitions.{IsTransition, initial_machine_state}
use Rattle.simulation.proofs.Runs.UniqueTransitions.{one_transition}
use Rattle.simulation.proofs.Threads.StepEffects.{same_program}
use Rattle.simulation.proofs.Representation.InitialContents.{initially}
use Rattle.std.proofs.lemmas.List.{nil_from_length}
use Rattle.interpreter.proofs.reference_machine.Runs.InstructionEffects.{same_after}
use Rattle.simulation.proofs.Runs.EventByEvent.{first_next, next_of_same}

one_less : {X Y : Type 0} (x : X) (xs : List X) (y : Y) (ys : List Y) → length (x ∷ xs) ≡ length (y ∷ ys) → length xs ≡ length ys
one_less x xs y ys h = omega (arith, h)

module _ (tree : Tree) (limits : Limits) (one : (lines : List Line) (i : Instruction) (o p : Operation) → IsOperation tree lines i o → IsOperation tree lines i p → o ≡ p) where
  -- a machine state of this program within these limits
  abbrev IsOf : MachineState → Type 0
  IsOf c = (c.tree ≡ tree) × (c.limits ≡ limits)

  of_next : (c : MachineState) (e : Event) (x : MachineState × Report) → IsOf c → IsTransition c e x → IsOf x.0
  of_next c e x of transition = let kept = same_program c x e transition in (kept.0 ∙ of.0, kept.1 ∙ of.1)

  transitions_alike : (c : MachineState) (e : Event) (x y : MachineState × Report) → IsOf c → IsTransition c e x → IsTransition c e y → x ≡ y
  transitions_alike c e x y of =
      one_transition c (subst (λ (t : Tree). (lines : List Line) (i : Instruction) (o p : Operation) → IsOperation t lines i o → IsOperation t lines i p → o ≡ p) (sym of.0) one) e x y

  -- what a run from a machine state and a state of the reference machine reaches
  record ResultsIn (c : MachineState) (s : State) (events : List (Event × Report)) (t : State) : Type 0 where
    pub runs : run tree limits s (thread_part events) ≡ RunsTo (step_reports events) t
    pub last : MachineState
    pub refuses : RefusesBeyondRoom c s events last

  -- the state after an event of a run, and the run from there
  record Follows (c next : MachineState) (s : State) (e : Event) (r : Report) (events : List (Event × Report)) (t : State) : Type 0 where
    pub after : State
    pub is_next : IsNext tree limits s e r after
    pub later : ResultsIn next after events t

  follows : (c : MachineState) (s : State) (e : Event) (r : Report) (events : List (Event × Report)) (t : State) → IsOf c → (h : ResultsIn c s ((e, r) ∷ events) t) → Follows c h.refuses.0 s e r events t
  follows c s e r events t of h =
      let x = first_next tree limits s e r events t h.runs in
      record { after = x.0; is_next = x.1; later = record { runs = x.2; last = h.last; refuses = h.refuses.3 x.0 (next_of_same tree limits c s e r x.0 of.0 of.1 x.1) } }

  -- after the same event with the same report the state is the same
  next_once : (s : State) (e : Event) (r r' : Report) (t u : State) → r ≡ r' → IsNext tree limits s e r t → IsNext tree limits s e r' u → t ≡ u
  next_once s (Step n) r r' t u same h k = same_after r r' t u (sym h ∙ (ap (λ q. step tree limits s n (is_refusal q)) same ∙ k))
  next_once s _ r r' t u same h k = h ∙ sym k

  one_from : (events : List Event) (reports reports' : List Report) → length reports ≡ length events → length reports' ≡ length events → (c : MachineState) (s t t' : State) → IsOf c
      → ResultsIn c s (zip events reports) t → ResultsIn c s (zip events reports') t' → (reports ≡ reports') × (t ≡ t')
  one_from [] rs rs' each each' c s t t' of h h' = (nil_from_length rs each ∙ sym (nil_from_length rs' each'), sym (same_state [] [] s t h.runs) ∙ same_state [] [] s t' h'.runs)
  one_from (e ∷ es) [] rs' each each' c s t t' of h h' = absurd (omega (arith, each))
  one_from (e ∷ es) (r ∷ rs) [] each each' c s t t' of h h' = absurd (omega (arith, each'))
  one_from (e ∷ es) (r ∷ rs) (r' ∷ rs') each each' c s t t' of h h' =
      let x = follows c s e r (zip es rs) t of h in
      let y = follows c s e r' (zip es rs') t' of h' in
      let transitions : (h.refuses.0, r) ≡ (h'.refuses.0, r') = transitions_alike c e (h.refuses.0, r) (h'.refuses.0, r') of h.refuses.1 h'.refuses.1 in
      let contents : h.refuses.0 ≡ h'.refuses.0 = ap (λ (z : MachineState × Report). z.0) transitions in
      let reports : r ≡ r' = ap (λ (z : MachineState × Report). z.1) transitions in
      let states : x.after ≡ y.after = next_once s e r r' x.after y.after reports x.is_next y.is_next in
      let other : ResultsIn h.refuses.0 x.after (zip es rs') t' =
      subst (λ (d : MachineState). ResultsIn d x.after (zip es rs') t') (sym contents) (subst (λ (u : State). ResultsIn h'.refuses.0 u (zip es rs') t') (sym states) y.later) in
      let more = one_from es rs rs' (one_less r rs e es each) (one_less r' rs' e es each') h.refuses.0 x.after t t' (of_next c e (h.refuses.0, r) of h.refuses.1) x.later other in
      (ap (λ q. q ∷ rs) reports ∙ ap (λ l. r' ∷ l) more.0, more.1)

  of_opened : (c : MachineState) → initial_machine_state tree limits ≡ Some c → IsOf c
  of_opened = initially tree limits IsOf (λ entry n. (refl, refl))

  -- the same events have one run
  pub runs_are_one : (events : List Event) (reports reports' : List Report) (s s' : State) → IsRunOf tree limits events reports s → IsRunOf tree limits events reports' s' → (reports ≡ reports') × (s ≡ s')
  runs_are_one events reports reports' s s' h h' =
      let states : h'.first ≡ h.first = same_Some h'.first h.first (sym h'.begins ∙ h.begins) in
      let contents : h'.machine ≡ h.machine = same_Some h'.machine h.machine (sym h'.opened ∙ h.opened) in
      let first : ResultsIn h.machine h.first (zip events reports) s = record { runs = h.gives; last = h.last; refuses = h.refuses } in
      let other : ResultsIn h.machine h.first (zip events reports') s' =
      subst (λ (d : MachineState). ResultsIn d h.first (zip events reports') s') contents (subst (λ (u : State). ResultsIn h'.machine u (zip events reports') s') states (record { runs = h'.gives; last = h'.last; refuses = h'.refuses })) in
      one_from events reports reports' h.each h'.each h.machine h.first s s' (of_opened h.machine h.opened) first other
