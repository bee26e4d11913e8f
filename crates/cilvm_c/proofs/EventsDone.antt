-- Events that a machine has done, one after another.
use Rattle.std.proofs.Common.{◌≡◌, ◌+◌, ◌<◌, ◌≤◌, ◌∙◌, ℕ, true, false, List, [], ◌∷◌, ◌++◌, Some, length, take, drop, get_or, replicate, refl, sym, ap, subst, arith, slice_get, inl, inr}
use Rattle.std.proofs.lemmas.Bool.{false≢true}
use Rattle.std.proofs.lemmas.List.{drop_more, get_or-append-add, get_or-replicate, get_or_append_left, length-append, length-replicate, replicate_more, take-append-drop, take-append-le, take-replicate}
use Rattle.std.proofs.lemmas.Option.{get_or_from_slice_get, slice_get-get_or, slice_get_within}
use Rattle.std.proofs.Math.Seq.{take-append-add}
use Rattle.cil_model.specs.declared.events.Event.{Event}
use Rattle.cil_model.specs.declared.events.Event.TheVariants.{Step}
use Rattle.cil_model.specs.declared.reports.End.TheVariants.{Fault as FaultOf}
use Rattle.cil_model.specs.declared.reports.Fault.{Fault}
use Rattle.cil_model.specs.declared.reports.Report.{Report}
use Rattle.cil_model.specs.declared.reports.Report.TheVariants as reports
use Rattle.interleaving_core.specs.simulation.MachineStates.{MachineState}
use Rattle.interleaving_core.specs.simulation.Runs.{AreTransitions}
use Rattle.interleaving_core.specs.simulation.Transitions.{IsTransition}
use Rattle.interleaving_core.proofs.Runs.LongerRuns.{does_more}
use Rattle.interleaving_core.proofs.Runs.FollowedRuns.{transitions_more}
use Rattle.schedule_text.specs.Items.{events_of}
use Rattle.schedule_text.specs.declared.items.Item.{Item}
use Rattle.schedule_text.proofs.SoFar.{events_of-append, so_far_all}
use Rattle.cilvm_c.specs.Codes.{fault_code, has_ran, is_not_done, is_ran, number_of, reason_not_done, report_code}
use Rattle.cilvm_c.specs.Steps.{ActsBy, HasDoneAll, IsDone, IsNotDone, IsRunOn, IsStopped, MakesSteps, MakesStepsBy}
use Rattle.cilvm_c.specs.declared.codes.Code.{Code}
use Rattle.cilvm_c.specs.declared.codes.Code.TheVariants.{Ran}
use Rattle.cilvm_c.specs.declared.running.Stop.{Stop}

-- ---- what a number says of an event

fault_is_done : (f : Fault) → is_not_done (number_of (fault_code f)) ≡ false
fault_is_done f = grind (arith)

fault_is_no_run : (f : Fault) → is_ran (number_of (fault_code f)) ≡ false
fault_is_no_run f = grind (arith)

-- that of a report says that the event was done
report_is_done : (r : Report) → is_not_done (number_of (report_code r)) ≡ false
report_is_done (reports.Ended (FaultOf fault)) = fault_is_done fault
report_is_done r = refl

-- and whether it is a step that ran
report_ran : (r : Report) → is_ran (number_of (report_code r)) ≡ has_ran r
report_ran (reports.Ended (FaultOf fault)) = fault_is_no_run fault
report_ran r = refl

module _ (c now : MachineState) (most : ℕ) (e : Event) (n : ℕ) where
  pub act_done : (acts : ActsBy c most e n now) → is_not_done n ≡ false → IsDone c most e acts.0 now
  act_done (code, is, inl done) not = done
  act_done (code, is, inr (same, inl full)) not = absurd (false≢true (sym not ∙ ap is_not_done (is ∙ ap number_of full.0)))
  act_done (code, is, inr (same, inr memory)) not = absurd (false≢true (sym not ∙ ap is_not_done (is ∙ ap number_of memory.0)))

  pub act_not_done : ActsBy c most e n now → is_not_done n ≡ true → (now ≡ c) × IsNotDone c most e (reason_not_done n)
  act_not_done (code, is, inl (r, within, report, transition, more)) held = absurd (false≢true (sym (report_is_done r) ∙ (ap is_not_done (sym (is ∙ ap number_of report)) ∙ held)))
  act_not_done (code, is, inr (same, inl full)) held = (same, inl (ap reason_not_done (is ∙ ap number_of full.0), full.1))
  act_not_done (code, is, inr (same, inr memory)) held = (same, inr (ap reason_not_done (is ∙ ap number_of memory.0), memory.1, memory.2))

  -- the code of the number
  pub code_not_done : (acts : ActsBy c most e n now) → is_not_done n ≡ true → IsNotDone c most e acts.0
  code_not_done (code, is, inl (r, within, report, transition, more)) held = absurd (false≢true (sym (report_is_done r) ∙ (ap is_not_done (sym (is ∙ ap number_of report)) ∙ held)))
  code_not_done (code, is, inr (same, why)) held = why

-- ---- steps that run

ran_is : (r : Report) → has_ran r ≡ true → r ≡ reports.Ran
ran_is r h = grind (arith, h)

-- n steps of a thread are made, and all ran
abbrev pub HaveRun : MachineState → ℕ → ℕ → MachineState → Type 0
HaveRun c t n now = AreTransitions c (replicate n (Step t)) now (replicate n reports.Ran)

-- and one more, with its report
step_more : (c d now : MachineState) (t n : ℕ) (r : Report) → HaveRun c t n d → IsTransition d (Step t) (now, r) → AreTransitions c (replicate (n + 1) (Step t)) now (replicate n reports.Ran ++ r ∷ [])
step_more c d now t n r h transition =
    subst (λ es. AreTransitions c es now (replicate n reports.Ran ++ r ∷ [])) (replicate_more n (Step t)) (transitions_more c d now (replicate n (Step t)) (replicate n reports.Ran) (Step t) r h transition)

-- which ran too
ran_more : (c d now : MachineState) (t n : ℕ) (r : Report) → has_ran r ≡ true → HaveRun c t n d → IsTransition d (Step t) (now, r) → HaveRun c t (n + 1) now
ran_more c d now t n r ran h transition =
    subst (AreTransitions c (replicate (n + 1) (Step t)) now) (ap (λ x. replicate n reports.Ran ++ x ∷ []) (ran_is r ran) ∙ replicate_more n reports.Ran) (step_more c d now t n r h transition)

-- the steps end by one that reports something else
steps_ended : (c d now : MachineState) (printed t most n : ℕ) (r : Report) → n < most → HaveRun c t n d → IsTransition d (Step t) (now, r) → has_ran r ≡ false →
    MakesSteps c printed t most (n + 1) (report_code r) now
steps_ended c d now printed t most n r few h transition not_ran =
    let transitions = step_more c d now t n r h transition in
    (replicate n reports.Ran ++ r ∷ [], transitions, does_more c now (replicate (n + 1) (Step t)) (replicate n reports.Ran ++ r ∷ []) transitions, inr (inl (n, r, few, refl, refl, not_ran, refl)))

module _ (c d now : MachineState) (printed t n : ℕ) (code : Code) (number : ℕ) (named : number ≡ number_of code) (h : HaveRun c t n d) where
  -- a step ran
  pub step_ran : IsDone d printed (Step t) code now → is_ran number ≡ true → HaveRun c t (n + 1) now
  step_ran (r, within, is, transition, more) ran = ran_more c d now t n r (sym (report_ran r) ∙ (ap is_ran (sym (named ∙ ap number_of is)) ∙ ran)) h transition

  -- a step did something else
  pub step_ended : (most : ℕ) → n < most → IsDone d printed (Step t) code now → is_ran number ≡ false → MakesStepsBy c printed t most (n + 1) number now
  step_ended most few (r, within, is, transition, more) not = (
    code,
    named,
    subst (λ x. MakesSteps c printed t most (n + 1) x now) (sym is) (steps_ended c d now printed t most n r few h transition (sym (report_ran r) ∙ (ap is_ran (sym (named ∙ ap number_of is)) ∙ not))),
  )

-- the next one is not made
pub steps_held : (c d now : MachineState) (printed t most n : ℕ) (code : Code) → n < most → HaveRun c t n d → now ≡ d → IsNotDone d printed (Step t) code → MakesSteps c printed t most n code now
steps_held c d now printed t most n code few h same held =
    let transitions = subst (HaveRun c t n) (sym same) h in
    (replicate n reports.Ran, transitions, does_more c now (replicate n (Step t)) (replicate n reports.Ran) transitions, inr (inr (few, refl, subst (λ x. IsNotDone x printed (Step t) code) (sym same) held)))

-- the most steps allowed are made
pub steps_all : (c now : MachineState) (printed t most n : ℕ) → n ≡ most → HaveRun c t n now → MakesSteps c printed t most most Ran now
steps_all c now printed t most n all h =
    let transitions = subst (λ m. HaveRun c t m now) all h in
    (replicate most reports.Ran, transitions, does_more c now (replicate most (Step t)) (replicate most reports.Ran) transitions, inl (refl, refl, refl))

-- ---- events with any reports

abbrev pub HasTurned : MachineState → List Event → MachineState → Type 0
HasTurned c events after = (rs : List Report) × AreTransitions c events after rs

pub turned_more : (c d now : MachineState) (es : List Event) (e : Event) (r : Report) → HasTurned c es d → IsTransition d e (now, r) → HasTurned c (es ++ e ∷ []) now
turned_more c d now es e r h transition = (h.0 ++ r ∷ [], transitions_more c d now es h.0 e r h.1 transition)

transitions_after : (c d now : MachineState) (es fs : List Event) (rs ss : List Report) → AreTransitions c es d rs → AreTransitions d fs now ss → AreTransitions c (es ++ fs) now (rs ++ ss)
transitions_after c d now [] fs rs ss h more = subst (λ x. AreTransitions x fs now (rs ++ ss)) h.0 (subst (λ l. AreTransitions d fs now (l ++ ss)) (sym h.1) more)
transitions_after c d now (e ∷ es) fs (r ∷ rs) ss h more = (h.0, h.1, transitions_after h.0 d now es fs rs ss h.2 more)
transitions_after c d now (e ∷ es) fs [] ss h more = elim h [ ]

pub turned_after : (c d now : MachineState) (es fs : List Event) → HasTurned c es d → HasTurned d fs now → HasTurned c (es ++ fs) now
turned_after c d now es fs h more = (h.0 ++ more.0, transitions_after c d now es fs h.0 more.0 h.1 more.1)

pub all_done : (c now : MachineState) (es : List Event) → HasTurned c es now → HasDoneAll c es now
all_done c now es h = (h.0, h.1, does_more c now es h.0 h.1)

pub turned_by : (c now : MachineState) (es : List Event) → HasDoneAll c es now → HasTurned c es now
turned_by c now es h = (h.0, h.1)

-- ---- one event, many times

pub turned_again : (c d now : MachineState) (e : Event) (n : ℕ) (r : Report) → HasTurned c (replicate n e) d → IsTransition d e (now, r) → HasTurned c (replicate (n + 1) e) now
turned_again c d now e n r h transition = subst (λ es. HasTurned c es now) (replicate_more n e) (turned_more c d now (replicate n e) e r h transition)

pub stops_again : (c d now : MachineState) (most : ℕ) (e : Event) (n count : ℕ) (code : Code) → n < count → HasTurned c (replicate n e) d → now ≡ d → IsNotDone d most e code →
    IsStopped c most (replicate count e) (record { done = n; code = code }) now
stops_again c d now most e n count code few h same held = (
  subst (λ es. HasDoneAll c es now) (sym (take-replicate n count e (omega (arith, few)))) (all_done c now (replicate n e) (subst (HasTurned c (replicate n e)) (sym same) h)),
  (
    e,
    slice_get-get_or (replicate count e) n e (subst (λ m. n < m) (sym (length-replicate count e)) few) ∙ ap Some (get_or-replicate count n e e few),
    subst (λ x. IsNotDone x most e code) (sym same) held,
  ),
)

-- where one event many times stops, some were left
pub stopped_few : (c : MachineState) (most count : ℕ) (e : Event) (stop : Stop) (now : MachineState) → IsStopped c most (replicate count e) stop now → stop.done < count
stopped_few c most count e stop now stopped = subst (λ n. stop.done < n) (length-replicate count e) (slice_get_within (replicate count e) stop.done stopped.1.0 stopped.1.1)

-- ---- the events of items

-- an item for indices that no list has
abbrev pub no_item : Item
no_item = record { event = Step 0; count = 0 }

module _ (items : List Item) (i : ℕ) (d : Item) (below : i < length items) where
  abbrev item : Item
  item = get_or items i d

  abbrev before : List Event
  before = events_of (take i items)

  abbrev pub own : List Event
  own = replicate item.count item.event

  abbrev rest : List Event
  rest = events_of (drop (i + 1) items)

  split : events_of items ≡ before ++ (own ++ rest)
  split =
      ap events_of (sym (take-append-drop i items)) ∙ events_of-append (take i items) (drop i items)
      ∙ ap (λ is. before ++ events_of is) (drop_more items i d below)

  -- there are no more before an item, and with it, than in all
  pub few_with : length before + item.count ≤ length (events_of items)
  few_with =
      let whole = ap length split ∙ (length-append before (own ++ rest) ∙ ap (λ n. length before + n) (length-append own rest ∙ ap (λ n. n + length rest) (length-replicate item.count item.event))) in
      omega (arith, whole)

  pub length_with : length before + item.count ≡ length (events_of (take (i + 1) items))
  length_with =
      ap (λ n. length before + n) (sym (length-replicate item.count item.event)) ∙ (sym (length-append before own) ∙ ap length (so_far_all items i d below))

  pub turned_with : (c x now : MachineState) → HasTurned c before x → HasTurned x own now → HasTurned c (events_of (take (i + 1) items)) now
  turned_with c x now h more = subst (λ es. HasTurned c es now) (so_far_all items i d below) (turned_after c x now before own h more)

  pub stops_with : (c x now : MachineState) (most done : ℕ) (stop : Stop) → done ≡ length before → HasTurned c before x → IsStopped x most own stop now →
      IsStopped c most (events_of items) (record { done = done + stop.done; code = stop.code }) now
  stops_with c x now most done stop is h stopped =
      let within : stop.done < length own = slice_get_within own stop.done stopped.1.0 stopped.1.1 in (
        subst (λ es. HasDoneAll c es now) (sym (taken within)) (all_done c now (before ++ take stop.done own) (turned_after c x now before (take stop.done own) h (turned_by x now (take stop.done own) stopped.0))),
        (
          stopped.1.0,
          ap (slice_get (events_of items)) (ap (λ n. n + stop.done) is) ∙ (ap (λ es. slice_get es (length before + stop.done)) split ∙ there within stopped.1.1),
          stopped.1.2,
        ),
      )
    where
      taken : stop.done < length own → take (done + stop.done) (events_of items) ≡ before ++ take stop.done own
      taken = λ within.
          ap (λ n. take (n + stop.done) (events_of items)) is ∙ (ap (take (length before + stop.done)) split ∙ (take-append-add before (own ++ rest) stop.done
          ∙ ap (λ es. before ++ es) (take-append-le stop.done own rest (omega (arith, within)))))

      there : {e : Event} → stop.done < length own → slice_get own stop.done ≡ Some e → slice_get (before ++ (own ++ rest)) (length before + stop.done) ≡ Some e
      there {e} = λ within found.
          let whole = length-append before (own ++ rest) ∙ ap (λ n. length before + n) (length-append own rest) in
          slice_get-get_or (before ++ (own ++ rest)) (length before + stop.done) e (omega (arith, whole, within))
          ∙ ap Some (get_or-append-add before (own ++ rest) stop.done e ∙ (get_or_append_left own rest e stop.done within ∙ get_or_from_slice_get own stop.done e e found))

-- a run that stopped, by a list that is the same
pub run_stopped : (c : MachineState) (most : ℕ) (items others : List Item) (stop : Stop) (now : MachineState) → items ≡ others → IsStopped c most (events_of items) stop now →
    IsRunOn c most (events_of others) stop.done stop.code now
run_stopped c most items others stop now same stopped = inr (subst (λ is. IsStopped c most (events_of is) stop now) same stopped)

-- a run that did all
pub run_all : (c : MachineState) (most : ℕ) (items others : List Item) (n : ℕ) (now : MachineState) → items ≡ others → (n ≡ length (events_of items)) × HasDoneAll c (events_of items) now →
    IsRunOn c most (events_of others) n Ran now
run_all c most items others n now same all = inl (all.0 ∙ ap (λ is. length (events_of is)) same, refl, subst (λ is. HasDoneAll c (events_of is) now) same all.1)
