-- At the end of a cycle no more words are in use than are retained.
use Rattle.std.proofs.Common.{◌≡◌, ◌⊎◌, ◌≤◌, ◌<◌, ◌+◌, ℕ, Bool, true, false, List, [], ◌∷◌, ◌++◌, length, Contains, refl, inl, inr, sym, ap, ◌∙◌, subst, arith, append_assoc, length-append, slice_get, Option, Some}
use Rattle.std.specs.Prelude.{◌||◌, nat_le, sum_by, IsTrue, ◌==◌}
use Rattle.std.specs.Cmp.{nat_eq_equiv}
use Rattle.std.specs.List.{zip}
use Rattle.std.proofs.lemmas.Bool.{eqb-true, or_cases, or_left, or_right}
use Rattle.std.proofs.lemmas.Bool.Decides.{nat_tests}
use Rattle.std.proofs.lemmas.Map.Views.{Contains-from_any, list_any-from_Contains}
use Rattle.std.proofs.lemmas.Option.{same_Some, slice_get_within}
use Rattle.interpreter.specs.cil_model.declared.events.Event.{Event}
use Rattle.interpreter.specs.cil_model.declared.events.Event.TheVariants.{Step, Ack, Gc}
use Rattle.interpreter.specs.cil_model.declared.limits.Limits.{Limits}
use Rattle.interpreter.specs.cil_model.declared.phases.Phase.TheVariants.{Idle, Reclaim}
use Rattle.interpreter.specs.cil_model.declared.reports.Report.{Report}
use Rattle.interpreter.specs.cil_model.declared.reports.Report.TheVariants.{Worked, Waiting, CycleDone}
use Rattle.interpreter.specs.cil_model.declared.trees.Tree.{Tree}
use Rattle.interpreter.specs.cil_model.Ranges.{are_in_range}
use Rattle.interpreter.specs.cil_model.Typings.{IsAccepted}
use Rattle.interpreter.specs.reference_machine.Cycles.{begins_cycle, ends_cycle, is_cycle_open, is_working}
use Rattle.interpreter.specs.reference_machine.RetainedWords.{IsRetained, RetainsWords, words_of_object}
use Rattle.interpreter.specs.reference_machine.Runs.{step_reports}
use Rattle.interpreter.specs.reference_machine.States.{State}
use Rattle.interpreter.specs.reference_machine.Values.{Born, Literal, ObjectName}
use Rattle.interpreter.proofs.reference_machine.Runs.JoinedRuns.{same_state}
use Rattle.interpreter.proofs.cil_model.SameLaws.{never}
use Rattle.interpreter.proofs.reference_machine.ReachableObjects.ClosedSets.{IsReachedOrUnborn, reached_is_closed}
use Rattle.interpreter.specs.object_memory.Cells.{used_words, Cell, cell_in, size}
use Rattle.interpreter.specs.object_memory.Objects.{used_space, Objects}
use Rattle.interpreter.specs.object_memory.Spaces.{Spaces, close_cycle, AreSpaces, other_of}
use Rattle.collector.specs.Phases.{is_of_cycle, is_new}
use Rattle.simulation.specs.MachineStates.{MachineState}
use Rattle.simulation.specs.CollectorSteps.{collect}
use Rattle.simulation.specs.RetainedObjects.{LeavesOnlyRetained, RetainsAfter}
use Rattle.simulation.specs.Runs.{IsNext, IsRunOf, RefusesBeyondRoom, RefinesAfter}
use Rattle.simulation.specs.Refines.{Represents, IsHeap, Names}
use Rattle.simulation.specs.Transitions.{IsTransition}
use Rattle.simulation.proofs.CollectorEvents.Reports.{IsCollected, ends, waits, works}
use Rattle.simulation.proofs.Instructions.Correspondence.{InstructionsAreAlike}
use Rattle.simulation.proofs.RetainedWords.CycleNames.{is_kept, IsNamed}
use Rattle.simulation.proofs.RetainedWords.SumsOverNames.{is_listed, words_by_id}
use Rattle.simulation.proofs.RetainedWords.NamesInSets.{born_inside}
use Rattle.simulation.proofs.Threads.LiveThreads.{normally}
use Rattle.simulation.proofs.CycleBounds.OpenCycles.{IsBefore, IsOpened, before_goes, gc_is, idle_of, open_then, opened_is, split_at_last, then_open}
use Rattle.simulation.proofs.Representation.InitialContents.{opened_represents}
use Rattle.simulation.proofs.RetainedWords.NewestCycles.{end_retains}
use Rattle.simulation.proofs.Threads.UnchangedPosts.{step_posted}
use Rattle.simulation.proofs.RetainedWords.OpenCycleStates.{IsRetainedBy, acknowledged_retained, begins_retained, collected_retained, stepped_retained_as}
use Rattle.simulation.proofs.Runs.EventByEvent.{OwnEffect, Continues, IsAt, continues, walk}
use Rattle.interpreter.proofs.cil_model.Lists.{none_is_some}
use Rattle.interpreter.specs.object_memory.declared.addresses.Addr.{Addr}
use Rattle.interpreter.proofs.object_memory.TwoSpaces.TwoBlocks.{new_is_cell, no_literal, not_old}
use Rattle.collector.proofs.Addresses.Tests.{new_is}
use Rattle.simulation.proofs.Memory.CellSizes.{cell_size}
use Rattle.simulation.proofs.CollectorEvents.AcknowledgementCases.{acknowledged_posted}

-- ---- Where each object of the new block has a name that is on a list, the block has no more words than the listed objects.

-- the number of a name
abbrev number_of : Option ObjectName → ℕ
number_of (Some (Born n)) = n
number_of _ = 0

module _ (tree : Tree) (name : Names) (o : Objects) (s : State) (spaces : AreSpaces o.spaces) (heap : IsHeap tree name o s) (kept : (a : Addr) → is_new o.spaces a ≡ true → IsNamed name a)
    (names : List ℕ) (listed : (a n : ℕ) → name a ≡ Some (Born n) → is_listed names n ≡ true) where
  abbrev words : ℕ → ℕ
  words n = words_of_object tree (slice_get s.objects n)

  abbrev number : ℕ → ℕ
  number a = number_of (name a)

  -- a new object was born
  record IsBorn (a : ℕ) (c : Cell) : Type 0 where
    born : ℕ
    named : name a ≡ Some (Born born)
    words_are : words born ≡ size c

  is_born : (a : ℕ) (c : Cell) → cell_in o.spaces.new (record { number = a }) ≡ Some c → IsBorn a c
  is_born a c lies = by_name (kept (record { number = a }) (new_is o.spaces (record { number = a }) c lies))
    where
      by_kind : (n : ObjectName) → name a ≡ Some n → IsBorn a c
      by_kind (Born n) is =
          let b = heap.born a n is in
          let same : b.cell ≡ c = same_Some b.cell c (sym b.lies ∙ new_is_cell o.spaces spaces (record { number = a }) c lies) in
          record { born = n; named = is; words_are = ap (words_of_object tree) b.is ∙ (sym (cell_size tree name b.cell b.object b.refines) ∙ ap size same) }
      by_kind (Literal characters) is =
          let l = heap.literals a characters is in
          none_is_some l.number (sym (no_literal o.spaces spaces (record { number = a }) c (new_is_cell o.spaces spaces (record { number = a }) c lies)) ∙ l.has_id)

      by_name : IsNamed name (record { number = a }) → IsBorn a c
      by_name n = by_kind n.0 n.1

  -- two of one name are one
  one_born : (a b : ℕ) (c d : Cell) → cell_in o.spaces.new (record { number = a }) ≡ Some c → cell_in o.spaces.new (record { number = b }) ≡ Some d → number a ≡ number b → a ≡ b
  one_born a b c d lies lies' same =
      let x = is_born a c lies in
      let y = is_born b d lies' in
      let numbers : x.born ≡ y.born = sym (ap number_of x.named) ∙ (same ∙ ap number_of y.named) in
      elim (heap.names.one a b (Born y.born) (x.named ∙ ap (λ n. Some (Born n)) numbers) y.named) [
        | inl equal ↦ equal
        | inr twins ↦ elim twins [
          | inl other ↦ none_is_some (record { number = b }) (sym (ap other_of (not_old o.spaces spaces (record { number = a }) c lies)) ∙ other)
          | inr other ↦ none_is_some (record { number = a }) (sym (ap other_of (not_old o.spaces spaces (record { number = b }) d lies')) ∙ other)
        ]
      ]

  pub new_words : used_words o.spaces.new.cells ≤ sum_by words names
  new_words = words_by_id words number names o.spaces.new.start o.spaces.new.cells (record {
    own = λ a c lies. (let x = is_born a c lies in (
      ap (λ n. words (number_of n)) x.named ∙ x.words_are,
      ap (λ n. is_listed names (number_of n)) x.named ∙ listed a x.born x.named,
    ));
    one = λ a b c d lies lies' same. one_born a b c d lies lies' same;
  })

-- ---- At the end of a cycle no more words are in use than are retained.

module _ (each : InstructionsAreAlike) where
  -- ---- the cycle

  module _ (earlier later : List (Event × Report)) (newest : (between rest : List (Event × Report)) → later ≡ between ++ rest → 0 < length between → is_cycle_open (earlier ++ between) ≡ false → begins_cycle rest ≡ false)
      (Inside : ℕ → Type 0) (is_inside : ℕ → Bool) (decoded : (n : ℕ) → Inside n → is_inside n ≡ true) (inside : (n : ℕ) → is_inside n ≡ true → Inside n) where
    -- the cycle is over, and no other one begins
    record IsOver (done : List (Event × Report)) (c : MachineState) : Type 0 where
      idle : is_of_cycle c.posts.posted_phase ≡ false
      some : 0 < length done
      closed_now : is_cycle_open (earlier ++ done) ≡ false

    -- what is kept is retained, or the cycle is over
    abbrev Within : List (Event × Report) → MachineState → State → Type 0
    Within done c s = IsRetainedBy Inside is_inside decoded inside c s ⊎ IsOver done c

    some_done : (done : List (Event × Report)) (e : Event × Report) → 0 < length (done ++ e ∷ [])
    some_done done e = let one = length-append done (e ∷ []) in omega (arith, one)

    open_after : (done : List (Event × Report)) (e : Event) (r : Report) → is_cycle_open (earlier ++ (done ++ (e, r) ∷ [])) ≡ then_open (ends_cycle e r) (is_working e r) (is_cycle_open (earlier ++ done))
    open_after done e r = ap is_cycle_open (sym (append_assoc earlier done ((e, r) ∷ []))) ∙ open_then (earlier ++ done) e r

    -- an event of the collector
    retained_collected : (done : List (Event × Report)) (c : MachineState) (s : State) (x : MachineState × Report) → x ≡ collect c → IsCollected c x → IsRetainedBy Inside is_inside decoded inside c s → Within (done ++ (Gc, x.1) ∷ []) x.0 s
    retained_collected done c s _ e waits h = inl h
    retained_collected done c s _ e (works d of) h = inl (subst (λ (x : MachineState × Report). IsRetainedBy Inside is_inside decoded inside x.0 s) (sym e) (collected_retained Inside is_inside decoded inside c s h))
    retained_collected done c s _ e (ends d last idle spaces) h = inr (record { idle = ap is_of_cycle idle; some = some_done done (Gc, CycleDone); closed_now = open_after done Gc CycleDone })

    over_collected : (done rest : List (Event × Report)) (c : MachineState) (x : MachineState × Report) → later ≡ done ++ (Gc, x.1) ∷ rest → IsCollected c x → IsOver done c → IsOver (done ++ (Gc, x.1) ∷ []) x.0
    over_collected done rest c _ split waits o = record { idle = o.idle; some = some_done done (Gc, Waiting); closed_now = open_after done Gc Waiting ∙ o.closed_now }
    over_collected done rest c _ split (works d of) o = never (sym (newest done ((Gc, Worked) ∷ rest) split o.some o.closed_now))
    over_collected done rest c _ split (ends d last idle spaces) o = never (sym o.idle ∙ ap is_of_cycle last)

    within_goes : (done rest : List (Event × Report)) (e : Event) (r : Report) (c next : MachineState) (s after : State) → later ≡ done ++ (e, r) ∷ rest → Within done c s → IsTransition c e (next, r) → IsNext c.tree c.limits s e r after → Within (done ++ (e, r) ∷ []) next after
    within_goes done rest (Step t) r c next s after split (inl h) transition is = inl (stepped_retained_as Inside is_inside decoded inside each c s t next r h transition after is)
    within_goes done rest (Ack t) r c next s after split (inl h) transition is =
        inl (subst (λ (u : State). IsRetainedBy Inside is_inside decoded inside next u) (sym is) (subst (λ (x : MachineState × Report). IsRetainedBy Inside is_inside decoded inside x.0 s) (sym transition) (acknowledged_retained Inside is_inside decoded inside c s t h)))
    within_goes done rest Gc r c next s after split (inl h) transition is = subst (λ (u : State). Within (done ++ (Gc, r) ∷ []) next u) (sym is) (retained_collected done c s (next, r) transition (gc_is c (next, r) transition) h)
    within_goes done rest (Step t) r c next s after split (inr o) transition is =
        inr (record { idle = ap is_of_cycle (step_posted c t (next, r) transition) ∙ o.idle; some = some_done done (Step t, r); closed_now = open_after done (Step t) r ∙ o.closed_now })
    within_goes done rest (Ack t) r c next s after split (inr o) transition is = inr (record {
      idle = ap (λ (x : MachineState × Report). is_of_cycle x.0.posts.posted_phase) transition ∙ (ap is_of_cycle (acknowledged_posted c t) ∙ o.idle);
      some = some_done done (Ack t, r);
      closed_now = open_after done (Ack t) r ∙ o.closed_now;
    })
    within_goes done rest Gc r c next s after split (inr o) transition is = inr (over_collected done rest c (next, r) split (gc_is c (next, r) transition) o)

    -- ---- its end

    -- the collector was in its last phase, and the new block is the only one then
    ended : (c : MachineState) (x : MachineState × Report) → IsCollected c x → x.1 ≡ CycleDone → (c.posts.posted_phase ≡ Reclaim) × (x.0.objects.spaces ≡ close_cycle c.objects.spaces)
    ended c _ (ends d last idle spaces) e = (last, spaces)
    ended c _ _ e = absurd cc

    -- each object of the new block has words that are retained
    retained_words : (c : MachineState) (s : State) → c.posts.posted_phase ≡ Reclaim → IsRetainedBy Inside is_inside decoded inside c s → (names : List ℕ) → ((n : ℕ) → n < length s.objects → is_inside n ≡ true → is_listed names n ≡ true) →
        used_words c.objects.spaces.new.cells ≤ sum_by (λ n. words_of_object c.tree (slice_get s.objects n)) names
    retained_words c s last h names listed =
        let own = normally c s h.represents in
        new_words c.tree own.name c.objects s h.represents.sound.heap.blocks.spaces own.by.memory.heap
        (λ a new. h.has.kept a (ap (λ x. is_kept x c.objects.spaces a) last ∙ new))
        names
        (λ a n is. (let b = own.by.memory.heap.born a n is in listed n (slice_get_within s.objects n b.object b.is) (born_inside is_inside n (h.known a (Born n) is))))

-- ---- what is retained

module _ (tree : Tree) (before now : State) (words : ℕ) (retains : RetainsWords tree before now words) where
  abbrev Retained : ℕ → Type 0
  Retained = IsReachedOrUnborn before

  abbrev is_retained : ℕ → Bool
  is_retained n = is_listed retains.names n || nat_le (length before.objects) n

  listed_of : (n : ℕ) → Contains retains.names n → is_listed retains.names n ≡ true
  listed_of n h = list_any-from_Contains nat_eq_equiv n retains.names h

  of_listed : (n : ℕ) → is_listed retains.names n ≡ true → Contains retains.names n
  of_listed n h = Contains-from_any {eq = ◌==◌} eqb-true n retains.names h

  retained_decoded : (n : ℕ) → Retained n → is_retained n ≡ true
  retained_decoded n (inl reached) = or_left (is_listed retains.names n) (nat_le (length before.objects) n) (listed_of n ((retains.retained n).1 (inl reached)))
  retained_decoded n (inr more) = or_right (is_listed retains.names n) (nat_le (length before.objects) n) (let test : nat_le (length before.objects) n ≡ true = grind (arith, nat_tests) in test)

  retained_is : (n : ℕ) → is_retained n ≡ true → Retained n
  retained_is n h = elim (or_cases (is_listed retains.names n) (nat_le (length before.objects) n) h) [
    | inl listed ↦ by_retained ((retains.retained n).0 (of_listed n listed))
    | inr test ↦ inr (let more : length before.objects ≤ n = grind (arith, nat_tests) in more)
  ]
    where
      by_retained : IsRetained before now n → Retained n
      by_retained (inl reached) = inl reached
      by_retained (inr new) = inr new.0

  there_listed : (n : ℕ) → n < length now.objects → is_retained n ≡ true → is_listed retains.names n ≡ true
  there_listed n there h = elim (or_cases (is_listed retains.names n) (nat_le (length before.objects) n) h) [
    | inl listed ↦ listed
    | inr test ↦ listed_of n ((retains.retained n).1 (inr (
      (let more : length before.objects ≤ n = grind (arith, nat_tests) in more),
      (let less : n + 1 ≤ length now.objects = omega (arith, there) in less),
    )))
  ]

-- ---- runs

module _ (each : InstructionsAreAlike) (tree : Tree) (accepted : IsAccepted tree) (limits : Limits) (in_range : IsTrue (are_in_range limits)) (events : List Event) (reports : List Report) (c : MachineState) (refines : RefinesAfter tree limits events reports c)
    (most : List (Event × Report)) (over : zip events reports ≡ most ++ (Gc, CycleDone) ∷ []) (words : ℕ) (o : RetainsAfter tree limits events reports words) where
  abbrev all : List (Event × Report)
  all = zip events reports

  abbrev h : IsRunOf tree limits events reports refines.state
  h = refines.is_run

  -- the machine at the beginning
  first_represents : Represents h.machine o.first
  first_represents = opened_represents tree limits accepted in_range h.machine h.opened o.first o.opens

  abbrev opened : IsOpened tree limits h.machine
  opened = opened_is tree limits h.machine h.opened

  at_first : IsAt tree limits all o.now h.last [] (o.earlier ++ o.later) h.machine o.first
  at_first =
      let first : h.first ≡ o.first = same_Some h.first o.first (sym h.begins ∙ o.opens) in
      subst (λ l. IsAt tree limits all o.now h.last [] l h.machine o.first) o.split.whole
      (record {
        of_tree = opened.tree_is;
        of_limits = opened.limits_are;
        split = refl;
        runs = o.gives;
        refuses = subst (λ (s : State). RefusesBeyondRoom h.machine s all h.last) first h.refuses;
      })

  -- where the newest cycle begins
  abbrev begun : OwnEffect tree limits all o.now h.last IsBefore (λ done rest e r d next s after split k transition is. before_goes each done e r d next s after k transition is) o.earlier o.later [] o.first
  begun =
      walk tree limits all o.now h.last IsBefore (λ done rest e r d next s after split k transition is. before_goes each done e r d next s after k transition is) o.earlier o.later [] h.machine o.first at_first
      (record { represents = first_represents; posted_phase = ap is_of_cycle opened.idle })

  same_before : begun.state ≡ o.before
  same_before = same_state (step_reports o.earlier) (step_reports o.earlier) begun.state o.before (sym begun.ran ∙ o.began)

  none_open : begun.machine_state.posts.posted_phase ≡ Idle
  none_open = idle_of begun.machine_state.posts.posted_phase (begun.holds.posted_phase ∙ o.split.none_was_open)

  abbrev retains : RetainsWords tree begun.state o.now words
  retains = subst (λ (u : State). RetainsWords tree u o.now words) (sym same_before) o.retains

  abbrev retained : ℕ → Bool
  retained = is_retained tree begun.state o.now words retains

  abbrev front : List (Event × Report)
  front = (split_at_last o.earlier o.later most (Gc, CycleDone) o.split.begins (sym o.split.whole ∙ over)).0

  later_is : o.later ≡ front ++ (Gc, CycleDone) ∷ []
  later_is = (split_at_last o.earlier o.later most (Gc, CycleDone) o.split.begins (sym o.split.whole ∙ over)).1

  at_cycle : IsAt tree limits o.later o.now h.last [] (front ++ (Gc, CycleDone) ∷ []) begun.machine_state begun.state
  at_cycle = subst (λ l. IsAt tree limits o.later o.now h.last [] l begun.machine_state begun.state) later_is
      (record { of_tree = begun.there.of_tree; of_limits = begun.there.of_limits; split = refl; runs = begun.there.runs; refuses = begun.there.refuses })

  -- what the cycle keeps is retained
  abbrev Holds : List (Event × Report) → MachineState → State → Type 0
  Holds = Within each o.earlier o.later o.split.newest (IsReachedOrUnborn begun.state) retained (retained_decoded tree begun.state o.now words retains) (retained_is tree begun.state o.now words retains)

  abbrev come : OwnEffect tree limits o.later o.now h.last Holds (within_goes each o.earlier o.later o.split.newest (IsReachedOrUnborn begun.state) retained (retained_decoded tree begun.state o.now words retains) (retained_is tree begun.state o.now words retains)) front ((Gc, CycleDone) ∷ []) [] begun.state
  come =
      walk tree limits o.later o.now h.last Holds (within_goes each o.earlier o.later o.split.newest (IsReachedOrUnborn begun.state) retained (retained_decoded tree begun.state o.now words retains) (retained_is tree begun.state o.now words retains)) front ((Gc, CycleDone) ∷ []) [] begun.machine_state begun.state at_cycle
      (inl (begins_retained (IsReachedOrUnborn begun.state) retained (retained_decoded tree begun.state o.now words retains) (retained_is tree begun.state o.now words retains) begun.machine_state begun.state begun.holds.represents (reached_is_closed begun.state) none_open))

  -- its last event
  abbrev on : Continues tree limits o.later o.now h.last ([] ++ front) [] come.machine_state come.state Gc CycleDone
  on = continues tree limits o.later o.now h.last ([] ++ front) [] come.machine_state come.state Gc CycleDone come.there

  same_now : come.state ≡ o.now
  same_now = sym on.is_next ∙ same_state [] [] on.after o.now on.there.runs

  done : (come.machine_state.posts.posted_phase ≡ Reclaim) × (on.next.objects.spaces ≡ close_cycle come.machine_state.objects.spaces)
  done = ended each o.earlier o.later o.split.newest (IsReachedOrUnborn begun.state) retained (retained_decoded tree begun.state o.now words retains) (retained_is tree begun.state o.now words retains) come.machine_state (on.next, CycleDone) (gc_is come.machine_state (on.next, CycleDone) on.transition) refl

  new_is_retained : used_words come.machine_state.objects.spaces.new.cells ≤ words
  new_is_retained = by_way come.holds
    where
      total : (d : Tree) (u : State) → d ≡ tree → u ≡ o.now → used_words come.machine_state.objects.spaces.new.cells ≤ sum_by (λ n. words_of_object d (slice_get u.objects n)) retains.names → used_words come.machine_state.objects.spaces.new.cells ≤ words
      total d u is same less =
          subst (λ k. used_words come.machine_state.objects.spaces.new.cells ≤ k) retains.total
          (subst (λ (v : State). used_words come.machine_state.objects.spaces.new.cells ≤ sum_by (λ n. words_of_object tree (slice_get v.objects n)) retains.names) same
          (subst (λ (w : Tree). used_words come.machine_state.objects.spaces.new.cells ≤ sum_by (λ n. words_of_object w (slice_get u.objects n)) retains.names) is less))

      by_way : Holds ([] ++ front) come.machine_state come.state → used_words come.machine_state.objects.spaces.new.cells ≤ words
      by_way (inl k) =
          total come.machine_state.tree come.state come.there.of_tree same_now
          (retained_words each o.earlier o.later o.split.newest (IsReachedOrUnborn begun.state) retained (retained_decoded tree begun.state o.now words retains) (retained_is tree begun.state o.now words retains) come.machine_state come.state done.0 k retains.names
          (λ n there is. there_listed tree begun.state o.now words retains n (subst (λ (u : State). n < length u.objects) same_now there) is))
      by_way (inr k) = never (sym k.idle ∙ ap is_of_cycle done.0)

  spaces_are : c.objects.spaces ≡ close_cycle come.machine_state.objects.spaces
  spaces_are = ap (λ (x : MachineState). x.objects.spaces) (sym refines.ends ∙ on.there.refuses) ∙ done.1

  -- no more words are in use at the end of a cycle than are retained
  pub cycle_leaves_retained : (used_space c.objects ≤ words) × (used_words c.objects.spaces.new.cells ≡ 0)
  cycle_leaves_retained = (subst (λ (m : Spaces). used_words m.old.cells ≤ words) (sym spaces_are) new_is_retained, ap (λ (m : Spaces). used_words m.new.cells) spaces_are)

-- and there are such words
pub leaves_retained : InstructionsAreAlike → (tree : Tree) → IsAccepted tree → (limits : Limits) → IsTrue (are_in_range limits) → (events : List Event) (reports : List Report) (c : MachineState) → RefinesAfter tree limits events reports c →
    LeavesOnlyRetained tree limits events reports c
leaves_retained each tree accepted limits in_range events reports c refines most over =
    let retains = end_retains each tree accepted limits in_range events reports refines.state refines.is_run most over in
    let left = cycle_leaves_retained each tree accepted limits in_range events reports c refines most over retains.0 retains.1 in
    (retains.0, retains.1, left.0, left.1)
