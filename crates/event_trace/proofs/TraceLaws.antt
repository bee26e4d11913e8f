-- Traces, event by event.
use Rattle.std.proofs.Common.{◌≡◌, ◌+◌, ◌<◌, ◌≤◌, ◌⊎◌, ℕ, suc, List, [], ◌∷◌, ◌++◌, length, take, get_or, Option, inl, inr, refl, sym, ap, subst, ◌∙◌, arith, append-nil, append_assoc}
use Rattle.std.proofs.KnownBytes.{Appends-nil, Appends-trans}
use Rattle.std.proofs.Math.Seq.{take-append_seam}
use Rattle.schedule_text.specs.declared.items.Item.{Item}
use Rattle.interleaving_core.specs.simulation.Runs.{AreTransitions}
use Rattle.interleaving_core.specs.simulation.Transitions.{IsTransition}
use Rattle.event_trace.proofs.Names.{length-append, take_all, Appends, Event, Report, events_of, so_far, so_far_all, so_far_before, so_far_more, so_far_none, MachineState, SameProgram, transitions_follow, transitions_length, transitions_program, line_of, AppendsBeginning}
use Rattle.event_trace.specs.Pieces.{TakesAllBut}
use Rattle.event_trace.specs.Traces.{AreTraced, IsEventCut, IsTraced, IsTracedInPart}
use Rattle.outputs.proofs.BeginningLaws.{begins_first, begins_nothing, begins_second}

-- ---- bytes after bytes

-- bytes after those that are pending
takes_more : (a b c : Option (List ℕ)) (text line pending more : List ℕ) → TakesAllBut pending a b text → TakesAllBut more b c (pending ++ line) → TakesAllBut more a c (text ++ line)
takes_more a b c text line pending more h k =
    let (first, split, appended) = h in
    let (second, split', appended') = k in (
      first ++ second,
      ap (λ l. l ++ line) split ∙ append_assoc first pending line ∙ ap (λ l. first ++ l) split' ∙ sym (append_assoc first second more),
      Appends-trans a b c first second appended appended',
    )

-- what is pending is written, and more after it
takes_rest : (a b c : Option (List ℕ)) (text pending more : List ℕ) → TakesAllBut pending a b text → Appends b c (pending ++ more) → Appends a c (text ++ more)
takes_rest a b c text pending more h k =
    let (taken, split, appended) = h in
    subst (Appends a c) (sym (append_assoc taken pending more) ∙ ap (λ l. l ++ more) (sym split)) (Appends-trans a b c taken (pending ++ more) appended k)

-- a beginning of that is written
begins_rest : (a b c : Option (List ℕ)) (text pending more : List ℕ) → TakesAllBut pending a b text → AppendsBeginning b c (pending ++ more) → AppendsBeginning a c (text ++ more)
begins_rest a b c text pending more h k =
    let (taken, split, appended) = h in
    subst (AppendsBeginning a c) (sym (append_assoc taken pending more) ∙ ap (λ l. l ++ more) (sym split)) (begins_second a b c taken (pending ++ more) appended k)

-- a beginning of what is pending is written
begins_pending : (a b c : Option (List ℕ)) (text pending : List ℕ) → TakesAllBut pending a b text → AppendsBeginning b c pending → AppendsBeginning a c text
begins_pending a b c text pending h k =
    let (taken, split, appended) = h in
    subst (AppendsBeginning a c) (sym split) (begins_second a b c taken pending appended k)

-- nothing is written
pub takes_none : (a : Option (List ℕ)) (pending : List ℕ) → TakesAllBut pending a a pending
takes_none a pending = ([], refl, Appends-nil a)

-- all is written
pub takes_all : (a b : Option (List ℕ)) (pending none : List ℕ) → none ≡ [] → Appends a b pending → TakesAllBut none a b pending
takes_all a b pending none empty h = (pending, sym (append-nil pending) ∙ ap (λ l. pending ++ l) (sym empty), h)

-- ---- one event more

-- a number and none
nothing_more : (n : ℕ) → n + 0 ≡ n
nothing_more n = omega arith

-- the number of the next line
next_number : (n k : ℕ) → n + 1 + k ≡ n + suc k
next_number n k = omega arith

traced_more : (n : ℕ) (c d after : MachineState) (es : List Event) (rs : List Report) (text : List ℕ) (e : Event) (r : Report) → AreTraced n c es d rs text → IsTransition d e (after, r) →
    AreTraced n c (es ++ e ∷ []) after (rs ++ r ∷ []) (text ++ line_of (n + length es) e r d after)
traced_more n c d after [] rs text e r h k =
    subst (λ reports. AreTraced n c (e ∷ []) after (reports ++ r ∷ []) (text ++ line_of (n + 0) e r d after)) (sym h.1) (
      after,
      [],
      subst (λ x. IsTransition x e (after, r)) h.0 k,
      ap (λ t. t ++ line_of (n + 0) e r d after) h.2
          ∙ (ap (λ m. line_of m e r d after) (nothing_more n) ∙ (ap (λ x. line_of n e r x after) h.0 ∙ sym (append-nil (line_of n e r c after)))),
      (refl, refl, refl),
    )
traced_more n c d after (x ∷ es) (y ∷ ys) text e r h k =
    let line = line_of (n + suc (length es)) e r d after in (
      h.0,
      h.1 ++ line,
      h.2,
      ap (λ t. t ++ line) h.3 ∙ append_assoc (line_of n x y c h.0) h.1 line,
      subst (λ m. AreTraced (n + 1) h.0 (es ++ e ∷ []) after (ys ++ r ∷ []) (h.1 ++ line_of m e r d after)) (next_number n (length es)) (traced_more (n + 1) h.0 d after es ys h.1 e r h.4 k),
    )
traced_more n c d after (x ∷ es) [] text e r h k = absurd h

traced_transitions : (n : ℕ) (c d : MachineState) (es : List Event) (rs : List Report) (text : List ℕ) → AreTraced n c es d rs text → AreTransitions c es d rs
traced_transitions n c d [] rs text h = (h.0, h.1)
traced_transitions n c d (e ∷ es) (r ∷ rs) text h = (h.0, h.2, traced_transitions (n + 1) h.0 d es rs h.1 h.4)
traced_transitions n c d (e ∷ es) [] text h = absurd h

-- ---- the events so far

-- the events are done, and their lines are written but for what is pending
pub record TracedSoFar (c : MachineState) (es : List Event) (d : MachineState) (pending : List ℕ) (out out' : Option (List ℕ)) : Type 0 where
  pub reports : List Report
  pub text : List ℕ
  pub traced : AreTraced 1 c es d reports text
  pub held : TakesAllBut pending out out' text

-- the lines with one more
line_more : (c d after : MachineState) (es : List Event) (n : ℕ) (e : Event) (r : Report) (reports : List Report) (text : List ℕ) → n ≡ length es + 1 → AreTraced 1 c es d reports text → IsTransition d e (after, r) →
    AreTraced 1 c (es ++ e ∷ []) after (reports ++ r ∷ []) (text ++ line_of n e r d after)
line_more c d after es n e r reports text is traced transition =
    let number : 1 + length es ≡ n = omega (arith, is) in
    subst (λ m. AreTraced 1 c (es ++ e ∷ []) after (reports ++ r ∷ []) (text ++ line_of m e r d after)) number (traced_more 1 c d after es reports text e r traced transition)

pub trace_step : (c d after : MachineState) (es : List Event) (n : ℕ) (e : Event) (r : Report) (pending more : List ℕ) (out so_far new : Option (List ℕ)) → n ≡ length es + 1 → TracedSoFar c es d pending out so_far →
    IsTransition d e (after, r) → TakesAllBut more so_far new (pending ++ line_of n e r d after) → TracedSoFar c (es ++ e ∷ []) after more out new
trace_step c d after es n e r pending more out so_far new is h transition wrote =
    let line = line_of n e r d after in
    record {
      reports = h.reports ++ r ∷ [];
      text = h.text ++ line;
      traced = line_more c d after es n e r h.reports h.text is h.traced transition;
      held = takes_more out so_far new h.text line pending more h.held wrote;
    }

-- ---- all events are done

pub all_traced : (c d : MachineState) (es : List Event) (pending : List ℕ) (out so_far new : Option (List ℕ)) → TracedSoFar c es d pending out so_far → Appends so_far new (pending ++ 10 ∷ []) →
    (reports : List Report) × IsTraced c es d reports out new
all_traced c d es pending out so_far new h ended =
    let transitions = traced_transitions 1 c d es h.reports h.text h.traced in (
      h.reports,
      record {
        text = h.text;
        lines = h.traced;
        appended = takes_rest out so_far new h.text pending (10 ∷ []) h.held ended;
        transitions = transitions;
        each = transitions_length c d es h.reports transitions;
        follows = transitions_follow c d es h.reports transitions;
      },
    )

-- a beginning of what was pending, and of the empty line after it, is written
pub end_cut : (c d : MachineState) (es : List Event) (pending : List ℕ) (out so_far new : Option (List ℕ)) → TracedSoFar c es d pending out so_far → AppendsBeginning so_far new (pending ++ 10 ∷ []) → IsTracedInPart c es d out new
end_cut c d es pending out so_far new h begun =
    let lines : AreTraced 1 c (take (length es) es) d h.reports h.text = subst (λ l. AreTraced 1 c l d h.reports h.text) (sym (take_all (length es) es (omega arith))) h.traced in
    record {
      count = length es;
      within = omega arith;
      reports = h.reports;
      transitions = traced_transitions 1 c d (take (length es) es) h.reports h.text lines;
      text = h.text;
      lines = lines;
      prefix = inr (refl, begins_rest out so_far new h.text pending (10 ∷ []) h.held begun);
    }

pub same_so_far : (c d : MachineState) (es : List Event) (pending : List ℕ) (out new : Option (List ℕ)) → TracedSoFar c es d pending out new → SameProgram c d
same_so_far c d es pending out new h = transitions_program c d es h.reports (traced_transitions 1 c d es h.reports h.text h.traced)

-- ---- not all events are done

pub nothing_traced : (c : MachineState) (es : List Event) (out : Option (List ℕ)) → IsTracedInPart c es c out out
nothing_traced c es out = record { count = 0; within = omega arith; reports = []; transitions = (refl, refl); text = []; lines = (refl, refl, refl); prefix = inl (begins_nothing out []) }

-- no more events are done, and a beginning of what was pending is written
pub stopped_before : (c d after : MachineState) (all es rest : List Event) (pending : List ℕ) (out so_far new : Option (List ℕ)) → all ≡ es ++ rest → TracedSoFar c es d pending out so_far → after ≡ d →
    AppendsBeginning so_far new pending → IsTracedInPart c all after out new
stopped_before c d after all es rest pending out so_far new split h same begun =
    let front : es ≡ take (length es) all = sym (ap (take (length es)) split ∙ take-append_seam es rest) in
    let lines = subst (λ l. AreTraced 1 c l after h.reports h.text) front (subst (λ y. AreTraced 1 c es y h.reports h.text) (sym same) h.traced) in
    record {
      count = length es;
      within = omega (arith, ap length split, length-append es rest);
      reports = h.reports;
      transitions = traced_transitions 1 c after (take (length es) all) h.reports h.text lines;
      text = h.text;
      lines = lines;
      prefix = inl (begins_pending out so_far new h.text pending h.held begun);
    }

-- the next event isn't done, or its line is not wholly written
pub stopped_at : (c d after : MachineState) (all es : List Event) (n : ℕ) (e : Event) (rest : List Event) (pending : List ℕ) (out so_far new : Option (List ℕ)) → all ≡ es ++ e ∷ rest → n ≡ length es + 1 →
    TracedSoFar c es d pending out so_far → IsEventCut n e d after pending so_far new → IsTracedInPart c all after out new
stopped_at c d after all es n e rest pending out so_far new split is h (inl kept) =
    stopped_before c d after all es (e ∷ rest) pending out so_far new split h kept.0 kept.1
stopped_at c d after all es n e rest pending out so_far new split is h (inr done) =
    let r = done.0 in
    let line = line_of n e r d after in
    let whole : all ≡ (es ++ e ∷ []) ++ rest = split ∙ sym (append_assoc es (e ∷ []) rest) in
    let front : es ++ e ∷ [] ≡ take (length (es ++ e ∷ [])) all = sym (ap (take (length (es ++ e ∷ []))) whole ∙ take-append_seam (es ++ e ∷ []) rest) in
    let lines = subst (λ l. AreTraced 1 c l after (h.reports ++ r ∷ []) (h.text ++ line)) front (line_more c d after es n e r h.reports h.text is h.traced done.1) in
    record {
      count = length (es ++ e ∷ []);
      within = omega (arith, ap length whole, length-append (es ++ e ∷ []) rest);
      reports = h.reports ++ r ∷ [];
      transitions = traced_transitions 1 c after (take (length (es ++ e ∷ [])) all) (h.reports ++ r ∷ []) (h.text ++ line) lines;
      text = h.text ++ line;
      lines = lines;
      prefix = inl (begins_rest out so_far new h.text pending line h.held done.2);
    }

-- memory runs out for an event, or for its line, and a beginning of what was pending is written
pub event_cut : (n : ℕ) (e : Event) (c after : MachineState) (pending : List ℕ) (out new : Option (List ℕ)) → (after ≡ c) ⊎ ((r : Report) × IsTransition c e (after, r)) → AppendsBeginning out new pending → IsEventCut n e c after pending out new
event_cut n e c after pending out new (inl same) k = inl (same, k)
event_cut n e c after pending out new (inr done) k = inr (done.0, done.1, begins_first out new pending (line_of n e done.0 c after) k)

-- ---- item by item

module _ (c d : MachineState) (items : List Item) (i : ℕ) (pending : List ℕ) (out out' : Option (List ℕ)) where
  -- none of an item's yet
  pub traced_none : (e : Event) → TracedSoFar c (events_of (take i items)) d pending out out' → TracedSoFar c (so_far items i e 0) d pending out out'
  traced_none e h = subst (λ es. TracedSoFar c es d pending out out') (sym (so_far_none items i e)) h

  -- one more of them
  pub traced_time : (e : Event) (k n : ℕ) (r : Report) (after : MachineState) (more : List ℕ) (new : Option (List ℕ)) → n ≡ length (so_far items i e k) + 1 → TracedSoFar c (so_far items i e k) d pending out out' →
      IsTransition d e (after, r) → TakesAllBut more out' new (pending ++ line_of n e r d after) → TracedSoFar c (so_far items i e (k + 1)) after more out new
  traced_time e k n r after more new is h transition wrote =
      subst (λ es. TracedSoFar c es after more out new) (so_far_more items i e k) (trace_step c d after (so_far items i e k) n e r pending more out out' new is h transition wrote)

  -- all of them
  pub traced_item : (x : Item) (k : ℕ) → i < length items → (get_or items i x).count ≤ k → k ≤ (get_or items i x).count → TracedSoFar c (so_far items i (get_or items i x).event k) d pending out out' →
      TracedSoFar c (events_of (take (i + 1) items)) d pending out out'
  traced_item x k below past within h =
      let all : k ≡ (get_or items i x).count = omega (arith, past, within) in
      subst (λ es. TracedSoFar c es d pending out out') (ap (λ m. so_far items i (get_or items i x).event m) all ∙ so_far_all items i x below) h

  -- the item's next event isn't done, or its line is not wholly written
  pub item_cut : (x : Item) (k n : ℕ) (after : MachineState) (new : Option (List ℕ)) → i < length items → k < (get_or items i x).count → n ≡ length (so_far items i (get_or items i x).event k) + 1 →
      TracedSoFar c (so_far items i (get_or items i x).event k) d pending out out' → IsEventCut n (get_or items i x).event d after pending out' new → IsTracedInPart c (events_of items) after out new
  item_cut x k n after new below few is h cut =
      let e = (get_or items i x).event in
      stopped_at c d after (events_of items) (so_far items i e k) n e _ pending out out' new (so_far_before items i x below k few) is h cut

  -- no number is left for it
  pub number_cut : (x : Item) (k : ℕ) → i < length items → k < (get_or items i x).count → TracedSoFar c (so_far items i (get_or items i x).event k) d pending out out' → IsTracedInPart c (events_of items) d out out'
  number_cut x k below few h =
      let e = (get_or items i x).event in
      stopped_before c d d (events_of items) (so_far items i e k) _ pending out out' out' (so_far_before items i x below k few) h refl (begins_nothing out' pending)

-- ---- how many events there are so far

module _ (items : List Item) (i n : ℕ) where
  pub number_none : (e : Event) → n ≡ length (events_of (take i items)) → n ≡ length (so_far items i e 0)
  number_none e is = is ∙ ap length (sym (so_far_none items i e))

  pub number_time : (e : Event) (k next : ℕ) → next ≡ n + 1 → n ≡ length (so_far items i e k) → next ≡ length (so_far items i e (k + 1))
  number_time e k next more is = more ∙ ap (λ m. m + 1) is ∙ sym (length-append (so_far items i e k) (e ∷ [])) ∙ ap length (so_far_more items i e k)

  pub number_item : (x : Item) (k : ℕ) → i < length items → (get_or items i x).count ≤ k → k ≤ (get_or items i x).count → n ≡ length (so_far items i (get_or items i x).event k) → n ≡ length (events_of (take (i + 1) items))
  number_item x k below past within is =
      let all : k ≡ (get_or items i x).count = omega (arith, past, within) in
      is ∙ ap length (ap (λ m. so_far items i (get_or items i x).event m) all ∙ so_far_all items i x below)
