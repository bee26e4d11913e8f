-- Where a run ends a cycle, its events have a newest cycle, and exactly one number of words is retained.
use Rattle.std.proofs.Common.{◌≡◌, ◌⊎◌, ◌≤◌, ◌<◌, ℕ, Bool, true, false, List, [], ◌∷◌, ◌++◌, length, Contains, refl, inl, inr, sym, ap, ◌∙◌, subst, arith, append_assoc, append-nil, length-append}
use Rattle.std.specs.Prelude.{◌&&◌, not, sum_by, slice_get, IsTrue}
use Rattle.std.specs.List.{AllByRecursion, zip}
use Rattle.std.proofs.lemmas.Cmp.{nat_eq_equiv}
use Rattle.std.proofs.lemmas.List.Elements.{All-contains_itself, All-weaker, recursion_from_All}
use Rattle.std.proofs.lemmas.Map.Views.{list_any-from_Contains}
use Rattle.std.proofs.lemmas.Option.{same_Some}
use Rattle.interpreter.specs.cil_model.declared.events.Event.{Event}
use Rattle.interpreter.specs.cil_model.declared.events.Event.TheVariants.{Gc}
use Rattle.interpreter.specs.cil_model.declared.limits.Limits.{Limits}
use Rattle.interpreter.specs.cil_model.declared.reports.Report.{Report}
use Rattle.interpreter.specs.cil_model.declared.reports.Report.TheVariants.{CycleDone}
use Rattle.interpreter.specs.cil_model.declared.trees.Tree.{Tree}
use Rattle.interpreter.specs.cil_model.Ranges.{are_in_range}
use Rattle.interpreter.specs.cil_model.Typings.{IsAccepted}
use Rattle.interpreter.specs.reference_machine.RetainedWords.{RetainsWords, words_of_object}
use Rattle.interpreter.specs.reference_machine.Cycles.{BeginsNewestCycle, begins_cycle, ends_cycle, is_cycle_open, is_working}
use Rattle.interpreter.specs.reference_machine.Runs.{run, step_reports, thread_part}
use Rattle.interpreter.specs.reference_machine.States.{State}
use Rattle.interpreter.proofs.reference_machine.Runs.JoinedRuns.{same_state}
use Rattle.interpreter.proofs.cil_model.SameLaws.{never}
use Rattle.collector.specs.Phases.{is_of_cycle}
use Rattle.simulation.specs.MachineStates.{MachineState}
use Rattle.simulation.specs.RetainedObjects.{RetainsAfter}
use Rattle.simulation.specs.Runs.{IsNext, IsRunOf}
use Rattle.simulation.specs.Transitions.{IsTransition}
use Rattle.interpreter.specs.reference_machine.TypedStates.{IsTyped}
use Rattle.simulation.proofs.CollectorEvents.Reports.{IsCollected, ends}
use Rattle.simulation.proofs.Instructions.Correspondence.{InstructionsAreAlike}
use Rattle.simulation.proofs.RetainedWords.SumsOverNames.{distinct_sum, is_listed}
use Rattle.simulation.proofs.RetainedWords.ReachableObjects.{words_retained}
use Rattle.simulation.proofs.CycleBounds.OpenCycles.{IsBefore, before_goes, gc_is, last_split, open_then, opened_is, then_open}
use Rattle.simulation.proofs.Representation.InitialContents.{opened_represents}
use Rattle.simulation.proofs.Runs.EventByEvent.{OwnEffect, IsAt, continues, walk}
use Rattle.std.proofs.lemmas.List.{same_from_push}

-- ---- the newest cycle of events

abbrev Events : Type 0
Events = List (Event × Report)

-- what begins with an event begins a cycle or not, whatever follows
begins_still : (xs : Events) (e : Event × Report) → begins_cycle xs ≡ true → begins_cycle (xs ++ e ∷ []) ≡ true
begins_still [] e h = never h
begins_still (x ∷ xs) e h = h

module _ (xs earlier later : Events) (split : BeginsNewestCycle xs earlier later) (opened : is_cycle_open xs ≡ true) (e : Event × Report) where
  -- where a cycle is open no further event begins another
  by_front : (between : Events) (x : Event × Report) (rest front : Events) (y : Event × Report) → x ∷ rest ≡ front ++ y ∷ [] → later ≡ between ++ front → 0 < length between → is_cycle_open (earlier ++ between) ≡ false → begins_cycle (x ∷ rest) ≡ false
  by_front between x rest [] y same is some shut =
      let whole : is_cycle_open (earlier ++ between) ≡ true = ap (λ l. is_cycle_open (earlier ++ l)) (sym (is ∙ append-nil between)) ∙ (ap is_cycle_open (sym split.whole) ∙ opened) in
      never (sym shut ∙ whole)
  by_front between x rest (z ∷ zs) y same is some shut = ap begins_cycle same ∙ split.newest between (z ∷ zs) is some shut

  goes_further : (between rest : Events) → later ++ e ∷ [] ≡ between ++ rest → 0 < length between → is_cycle_open (earlier ++ between) ≡ false → begins_cycle rest ≡ false
  goes_further between [] is some shut = refl
  goes_further between (x ∷ rest) is some shut =
      let last = last_split x rest in
      let whole : later ++ e ∷ [] ≡ (between ++ last.0) ++ last.1 ∷ [] = is ∙ (ap (λ l. between ++ l) last.2 ∙ sym (append_assoc between last.0 (last.1 ∷ []))) in
      by_front between x rest last.0 last.1 last.2 (same_from_push later (between ++ last.0) e last.1 whole).0 some shut

  -- so the newest cycle continues
  cycle_continues : BeginsNewestCycle (xs ++ e ∷ []) earlier (later ++ e ∷ [])
  cycle_continues = record {
    whole = ap (λ l. l ++ e ∷ []) split.whole ∙ append_assoc earlier later (e ∷ []);
    none_was_open = split.none_was_open;
    begins = begins_still later e split.begins;
    newest = goes_further;
  }

-- an event after which a cycle is open that wasn't open before begins one
begins_by : (done worked : Bool) → then_open done worked false ≡ true → (worked && not done) ≡ true
begins_by false true e = refl
begins_by _ _ e = never e

cycle_begins : (xs : Events) (e : Event) (r : Report) → is_cycle_open xs ≡ false → is_cycle_open (xs ++ (e, r) ∷ []) ≡ true → BeginsNewestCycle (xs ++ (e, r) ∷ []) xs ((e, r) ∷ [])
cycle_begins xs e r shut opened = record {
  whole = refl;
  none_was_open = shut;
  begins = begins_by (ends_cycle e r) (is_working e r) (ap (then_open (ends_cycle e r) (is_working e r)) (sym shut) ∙ (sym (open_then xs e r) ∙ opened));
  newest = λ between rest is some closed. none_after between rest is some;
}
  where
    none_after : (between rest : Events) → (e, r) ∷ [] ≡ between ++ rest → 0 < length between → begins_cycle rest ≡ false
    none_after [] rest is some = absurd (omega (arith, some))
    none_after (x ∷ xs) [] is some = refl
    none_after (x ∷ xs) (y ∷ ys) is some = let short = ap length is in let long = length-append (x ∷ xs) (y ∷ ys) in absurd (omega (arith, short, long))

-- no cycle is open, or there is the newest one
abbrev Known : Events → Type 0
Known xs = (is_cycle_open xs ≡ false) ⊎ ((earlier : Events) × (later : Events) × BeginsNewestCycle xs earlier later)

known_then : (xs : Events) (e : Event) (r : Report) → Known xs → Known (xs ++ (e, r) ∷ [])
known_then xs e r known = by_test (is_cycle_open (xs ++ (e, r) ∷ [])) refl (is_cycle_open xs) refl known
  where
    by_test : (t : Bool) → is_cycle_open (xs ++ (e, r) ∷ []) ≡ t → (u : Bool) → is_cycle_open xs ≡ u → Known xs → Known (xs ++ (e, r) ∷ [])
    by_test false now u was k = inl now
    by_test true now false was k = inr (xs, (e, r) ∷ [], cycle_begins xs e r was now)
    by_test true now true was (inl shut) = never (sym shut ∙ was)
    by_test true now true was (inr (earlier, later, split)) = inr (earlier, later ++ (e, r) ∷ [], cycle_continues xs earlier later split was (e, r))

known_after : (xs ys : Events) → Known xs → Known (xs ++ ys)
known_after xs [] known = subst Known (sym (append-nil xs)) known
known_after xs ((e, r) ∷ ys) known = subst Known (append_assoc xs ((e, r) ∷ []) ys) (known_after (xs ++ (e, r) ∷ []) ys (known_then xs e r known))

-- where a cycle is open there is the newest one
newest_of : (xs : Events) → is_cycle_open xs ≡ true → (earlier : Events) × (later : Events) × BeginsNewestCycle xs earlier later
newest_of xs opened = by_known (known_after [] xs (inl refl))
  where
    by_known : Known xs → (earlier : Events) × (later : Events) × BeginsNewestCycle xs earlier later
    by_known (inl shut) = never (sym shut ∙ opened)
    by_known (inr there) = there

-- ---- there is one

-- two splits of one list: the first part of one begins with that of the other
split_cases : {X : Type 0} (xs ys zs ws : List X) → xs ++ ys ≡ zs ++ ws → ((m : List X) × (zs ≡ xs ++ m) × (ys ≡ m ++ ws)) ⊎ ((m : List X) × (xs ≡ zs ++ m) × (ws ≡ m ++ ys))
split_cases [] ys zs ws e = inl (zs, refl, e)
split_cases (x ∷ xs) ys [] ws e = inr (x ∷ xs, refl, sym e)
split_cases (x ∷ xs) ys (z ∷ zs) ws e =
    let same : x ≡ z = cc in
    let rest : xs ++ ys ≡ zs ++ ws = cc in
    elim (split_cases xs ys zs ws rest) [
      | inl h ↦ inl (h.0, ap (λ v. v ∷ zs) (sym same) ∙ ap (λ l. x ∷ l) h.1, h.2)
      | inr h ↦ inr (h.0, ap (λ v. v ∷ xs) same ∙ ap (λ l. z ∷ l) h.1, h.2)
    ]

-- a cycle that begins later is a newer one
none_later : (all earlier later earlier' later' between : Events) → BeginsNewestCycle all earlier later → BeginsNewestCycle all earlier' later' → earlier' ≡ earlier ++ between → later ≡ between ++ later' → earlier ≡ earlier'
none_later all earlier later earlier' later' [] split split' is is' = sym (is ∙ append-nil earlier)
none_later all earlier later earlier' later' (x ∷ between) split split' is is' =
    never (sym (split.newest (x ∷ between) later' is' (omega arith) (ap is_cycle_open (sym is) ∙ split'.none_was_open)) ∙ split'.begins)

begins_once : (all earlier later earlier' later' : Events) → BeginsNewestCycle all earlier later → BeginsNewestCycle all earlier' later' → earlier ≡ earlier'
begins_once all earlier later earlier' later' split split' = elim (split_cases earlier later earlier' later' (sym split.whole ∙ split'.whole)) [
  | inl h ↦ none_later all earlier later earlier' later' h.0 split split' h.1 h.2
  | inr h ↦ sym (none_later all earlier' later' earlier later h.0 split' split h.1 h.2)
]

module _ (tree : Tree) (before now : State) (words words' : ℕ) (retains : RetainsWords tree before now words) (retains' : RetainsWords tree before now words') where
  -- each retained object of one list is on the other
  all_listed : AllByRecursion (λ n. is_listed retains'.names n ≡ true) retains.names
  all_listed =
      let listed : (n : ℕ) → Contains retains.names n → is_listed retains'.names n ≡ true = λ n there. list_any-from_Contains nat_eq_equiv n retains'.names ((retains'.retained n).1 ((retains.retained n).0 there)) in
      recursion_from_All (λ n. is_listed retains'.names n ≡ true) retains.names (All-weaker (Contains retains.names) (λ n. is_listed retains'.names n ≡ true) listed retains.names (All-contains_itself retains.names))

  no_more_words : words ≤ words'
  no_more_words =
      let less = distinct_sum (λ n. words_of_object tree (slice_get now.objects n)) retains.names retains'.names retains.distinct all_listed in
      subst (λ k. words ≤ k) retains'.total (subst (λ k. k ≤ sum_by (λ n. words_of_object tree (slice_get now.objects n)) retains'.names) retains.total less)

-- this number of words is retained, and no other number
pub retained_once : (tree : Tree) (limits : Limits) (events : List Event) (reports : List Report) (words words' : ℕ) → RetainsAfter tree limits events reports words → RetainsAfter tree limits events reports words' → words ≡ words'
retained_once tree limits events reports words words' o o' =
    let first : o.first ≡ o'.first = same_Some o.first o'.first (sym o.opens ∙ o'.opens) in
    let earlier : o.earlier ≡ o'.earlier = begins_once (zip events reports) o.earlier o.later o'.earlier o'.later o.split o'.split in
    let before : o.before ≡ o'.before = same_state (step_reports o.earlier) (step_reports o'.earlier) o.before o'.before
    (sym o.began ∙ (ap (λ l. run tree limits o.first (thread_part l)) earlier ∙ (ap (λ (u : State). run tree limits u (thread_part o'.earlier)) first ∙ o'.began))) in
    let now : o.now ≡ o'.now = same_state (step_reports (zip events reports)) (step_reports (zip events reports)) o.now o'.now (sym o.gives ∙ (ap (λ (u : State). run tree limits u (thread_part (zip events reports))) first ∙ o'.gives)) in
    let retains : RetainsWords tree o'.before o'.now words = subst (λ (u : State). RetainsWords tree o'.before u words) now (subst (λ (u : State). RetainsWords tree u o.now words) before o.retains) in
    let less = no_more_words tree o'.before o'.now words words' retains o'.retains in
    let more = no_more_words tree o'.before o'.now words' words o'.retains retains in
    omega (arith, less, more)

-- ---- runs

-- only where a phase of a cycle is posted does a cycle end
was_open : (c : MachineState) (x : MachineState × Report) → IsCollected c x → x.1 ≡ CycleDone → is_of_cycle c.posts.posted_phase ≡ true
was_open c _ (ends d last idle spaces) e = ap is_of_cycle last
was_open c _ _ e = absurd cc

module _ (each : InstructionsAreAlike) (tree : Tree) (accepted : IsAccepted tree) (limits : Limits) (in_range : IsTrue (are_in_range limits)) (events : List Event) (reports : List Report) (s : State) (h : IsRunOf tree limits events reports s) where
  abbrev all : Events
  all = zip events reports

  at_first : (xs ys : Events) → all ≡ xs ++ ys → IsAt tree limits all s h.last [] (xs ++ ys) h.machine h.first
  at_first xs ys split =
      let opened = opened_is tree limits h.machine h.opened in
      subst (λ l. IsAt tree limits all s h.last [] l h.machine h.first) split (record { of_tree = opened.tree_is; of_limits = opened.limits_are; split = refl; runs = h.gives; refuses = h.refuses })

  abbrev goes : (done rest : Events) (e : Event) (r : Report) (d next : MachineState) (u after : State) → all ≡ done ++ (e, r) ∷ rest → IsBefore done d u → IsTransition d e (next, r) → IsNext d.tree d.limits u e r after → IsBefore (done ++ (e, r) ∷ []) next after
  goes = λ done rest e r d next u after split k transition is. before_goes each done e r d next u after k transition is

  -- what the run reaches after the first of its events
  come : (xs ys : Events) → all ≡ xs ++ ys → OwnEffect tree limits all s h.last IsBefore goes xs ys [] h.first
  come xs ys split = walk tree limits all s h.last IsBefore goes xs ys [] h.machine h.first (at_first xs ys split) (record { represents = opened_represents tree limits accepted in_range h.machine h.opened h.first h.begins; posted_phase = ap is_of_cycle (opened_is tree limits h.machine h.opened).idle })

  -- there are words that the newest cycle must keep
  pub cycle_retains : (earlier later : Events) → BeginsNewestCycle all earlier later → (words : ℕ) × RetainsAfter tree limits events reports words
  cycle_retains earlier later split =
      let begun = come earlier later split.whole in
      let retained = words_retained begun.state tree (subst (λ (t : Tree). IsTyped t begun.state) begun.there.of_tree begun.holds.represents.typed) s in (
        retained.0,
        record { earlier = earlier; later = later; split = split; first = h.first; opens = h.begins; before = begun.state; began = begun.ran; now = s; gives = h.gives; retains = retained.1 },
      )

  -- so there are where a cycle ends
  pub end_retains : (most : Events) → all ≡ most ++ (Gc, CycleDone) ∷ [] → (words : ℕ) × RetainsAfter tree limits events reports words
  end_retains most over =
      let begun = come most ((Gc, CycleDone) ∷ []) over in
      let on = continues tree limits all s h.last ([] ++ most) [] begun.machine_state begun.state Gc CycleDone begun.there in
      let opened : is_cycle_open most ≡ true = sym begun.holds.posted_phase ∙ was_open begun.machine_state (on.next, CycleDone) (gc_is begun.machine_state (on.next, CycleDone) on.transition) refl in
      let newest = newest_of most opened in
      cycle_retains newest.0 (newest.1 ++ (Gc, CycleDone) ∷ []) (subst (λ l. BeginsNewestCycle l newest.0 (newest.1 ++ (Gc, CycleDone) ∷ [])) (sym over) (cycle_continues most newest.0 newest.1 newest.2 opened (Gc, CycleDone)))
