-- Pictures, event by event.
use Rattle.std.proofs.Common.{◌≡◌, ◌+◌, ◌<◌, ◌≤◌, ◌⊎◌, ℕ, Bool, List, [], ◌∷◌, ◌++◌, length, take, get_or, replicate, Option, inl, inr, refl, sym, ap, subst, ◌∙◌, arith, zero-add}
use Rattle.std.proofs.Math.Seq.{take-append_seam}
use Rattle.std.proofs.lemmas.List.{append_assoc, length-append, take_all}
use Rattle.std.specs.Io.KnownBytes.{Appends}
use Rattle.cil_model.specs.declared.events.Event.{Event}
use Rattle.cil_model.specs.declared.reports.Report.{Report}
use Rattle.schedule_text.specs.Items.{events_of}
use Rattle.schedule_text.specs.declared.items.Item.{Item}
use Rattle.schedule_text.proofs.SoFar.{so_far, so_far_all, so_far_before, so_far_more, so_far_none}
use Rattle.event_trace.specs.interleaving_core.simulation.MachineStates.{MachineState}
use Rattle.event_trace.specs.interleaving_core.simulation.Runs.{AreTransitions}
use Rattle.event_trace.specs.interleaving_core.simulation.Transitions.{IsTransition}
use Rattle.event_trace.proofs.interleaving_core.Runs.FollowedRuns.{SameProgram, transitions_length, transitions_more, transitions_program}
use Rattle.outputs.specs.Beginnings.{AppendsBeginning}
use Rattle.event_trace.specs.Deadlocks.{IsDeadlockOf}
use Rattle.run_picture.specs.Pictures.{AreSketched, IsDrawing, IsDrawn, IsPicture, IsPictureInPart}
use Rattle.run_picture.specs.Paths.{HasRow}
use Rattle.run_picture.specs.Sentences.{deadlock_sentence}
use Rattle.run_picture.specs.Rows.{drawn_rows, number_in, numbers_of}
use Rattle.run_picture.specs.Windows.{clamp}
use Rattle.run_picture.specs.declared.rows.TheConstants.{ROWS}
use Rattle.run_picture.specs.declared.windows.Window.{Window}
use Rattle.run_picture.proofs.RowLaws.{many_drawn, numbers_more, row_drawn, rows_empty}

pub sketch_begun : (c : MachineState) (w : Window) (rows : List (List ℕ)) → rows ≡ replicate ROWS [] → length rows ≡ ROWS → AreSketched c [] c w rows
sketch_begun c w rows e many = record { reports = []; transitions = (refl, refl); many = many; drawn = λ row within. rows_empty rows row e within }

pub sketch_step : (c d after : MachineState) (es : List Event) (w : Window) (n : ℕ) (e : Event) (r : Report) (rows more : List (List ℕ)) → n ≡ length es → AreSketched c es d w rows → IsTransition d e (after, r) →
    more ≡ drawn_rows w n e r rows → AreSketched c (es ++ e ∷ []) after w more
sketch_step c d after es w n e r rows more is h transition drew = record {
  reports = h.reports ++ r ∷ [];
  transitions = transitions_more c d after es h.reports e r h.transitions transition;
  many = ap length drew ∙ many_drawn w n e r rows ∙ h.many;
  drawn = λ row within.
      ap (λ (l : List (List ℕ)). get_or l row []) drew ∙ row_drawn w n e r rows row h.many ∙ ap (λ l. l ++ number_in w row n e r) (h.drawn row within)
      ∙ ap (λ m. numbers_of w row 0 es h.reports ++ number_in w row m e r) (is ∙ sym (zero-add (length es)))
      ∙ sym (numbers_more w row 0 es h.reports e r (transitions_length c d es h.reports h.transitions));
}

pub same_so_far : (c d : MachineState) (es : List Event) (w : Window) (rows : List (List ℕ)) → AreSketched c es d w rows → SameProgram c d
same_so_far c d es w rows h = transitions_program c d es h.reports h.transitions

-- ---- all events are done

module _ (c d : MachineState) (es : List Event) (window : Window) (rows : List (List ℕ)) (text : List ℕ) (h : AreSketched c es d (clamp window) rows) (set : List Bool) (deadlocked : IsDeadlockOf d set) (drawn : IsDrawn text rows (deadlock_sentence set)) where
  drawing : IsDrawing window es h.reports d text
  drawing = record {
    formed = drawn.formed;
    rows = λ row within. subst (HasRow text) (h.drawn row within) (drawn.paths row (omega (arith, h.many, within)));
    deadlocked = set;
    are_deadlocked = deadlocked;
    has_sentence = drawn.has_sentence;
  }

  pub all_drawn : (out out' : Option (List ℕ)) → Appends out out' text → (reports : List Report) × IsPicture c es d reports window out out'
  all_drawn out out' k = (h.reports, record { transitions = h.transitions; each = transitions_length c d es h.reports h.transitions; text = text; drawing = drawing; appended = k })

  pub write_cut : (out out' : Option (List ℕ)) → AppendsBeginning out out' text → IsPictureInPart c es d window out out'
  write_cut out out' k = record {
    count = length es;
    within = omega arith;
    reports = h.reports;
    transitions = subst (λ l. AreTransitions c l d h.reports) (sym (take_all (length es) es (omega arith))) h.transitions;
    begun = inr (text, drawing, refl, k);
  }

-- ---- not all events are done

-- no more events are done
pub stopped_before : (c d after : MachineState) (all es rest : List Event) (w window : Window) (rows : List (List ℕ)) (out : Option (List ℕ)) → all ≡ es ++ rest → AreSketched c es d w rows → after ≡ d → IsPictureInPart c all after window out out
stopped_before c d after all es rest w window rows out split h same =
    let front : es ≡ take (length es) all = sym (ap (take (length es)) split ∙ take-append_seam es rest) in
    record {
      count = length es;
      within = omega (arith, ap length split, length-append es rest);
      reports = h.reports;
      transitions = subst (λ l. AreTransitions c l after h.reports) front (subst (λ y. AreTransitions c es y h.reports) (sym same) h.transitions);
      begun = inl refl;
    }

-- the next event isn't done, or it is
pub stopped_at : (c d after : MachineState) (all es : List Event) (e : Event) (rest : List Event) (w window : Window) (rows : List (List ℕ)) (out : Option (List ℕ)) → all ≡ es ++ e ∷ rest → AreSketched c es d w rows →
    (after ≡ d) ⊎ ((r : Report) × IsTransition d e (after, r)) → IsPictureInPart c all after window out out
stopped_at c d after all es e rest w window rows out split h (inl same) = stopped_before c d after all es (e ∷ rest) w window rows out split h same
stopped_at c d after all es e rest w window rows out split h (inr done) =
    let whole : all ≡ (es ++ e ∷ []) ++ rest = split ∙ sym (append_assoc es (e ∷ []) rest) in
    let front : es ++ e ∷ [] ≡ take (length (es ++ e ∷ [])) all = sym (ap (take (length (es ++ e ∷ []))) whole ∙ take-append_seam (es ++ e ∷ []) rest) in
    record {
      count = length (es ++ e ∷ []);
      within = omega (arith, ap length whole, length-append (es ++ e ∷ []) rest);
      reports = h.reports ++ done.0 ∷ [];
      transitions = subst (λ l. AreTransitions c l after (h.reports ++ done.0 ∷ [])) front (transitions_more c d after es h.reports e done.0 h.transitions done.1);
      begun = inl refl;
    }

-- ---- item by item

module _ (c d : MachineState) (items : List Item) (i : ℕ) (w : Window) (rows : List (List ℕ)) where
  pub sketched_none : (e : Event) → AreSketched c (events_of (take i items)) d w rows → AreSketched c (so_far items i e 0) d w rows
  sketched_none e h = subst (λ es. AreSketched c es d w rows) (sym (so_far_none items i e)) h

  pub sketched_time : (e : Event) (k n : ℕ) (r : Report) (after : MachineState) (more : List (List ℕ)) (own : Window) → own ≡ w → n ≡ length (so_far items i e k) → AreSketched c (so_far items i e k) d w rows → IsTransition d e (after, r) →
      more ≡ drawn_rows own n e r rows → AreSketched c (so_far items i e (k + 1)) after w more
  sketched_time e k n r after more own same is h transition drew =
      subst (λ es. AreSketched c es after w more) (so_far_more items i e k)
      (sketch_step c d after (so_far items i e k) w n e r rows more is h transition (drew ∙ ap (λ (v : Window). drawn_rows v n e r rows) same))

  pub sketched_item : (x : Item) (k : ℕ) → i < length items → (get_or items i x).count ≤ k → k ≤ (get_or items i x).count → AreSketched c (so_far items i (get_or items i x).event k) d w rows →
      AreSketched c (events_of (take (i + 1) items)) d w rows
  sketched_item x k below past within h =
      let all : k ≡ (get_or items i x).count = omega (arith, past, within) in
      subst (λ es. AreSketched c es d w rows) (ap (λ m. so_far items i (get_or items i x).event m) all ∙ so_far_all items i x below) h

  pub item_cut : (x : Item) (k : ℕ) (after : MachineState) (window : Window) (out : Option (List ℕ)) → i < length items → k < (get_or items i x).count → AreSketched c (so_far items i (get_or items i x).event k) d w rows →
      (after ≡ d) ⊎ ((r : Report) × IsTransition d (get_or items i x).event (after, r)) → IsPictureInPart c (events_of items) after window out out
  item_cut x k after window out below few h cut =
      let e = (get_or items i x).event in
      stopped_at c d after (events_of items) (so_far items i e k) e _ w window rows out (so_far_before items i x below k few) h cut

-- ---- how many events there are so far

module _ (items : List Item) (i n : ℕ) where
  pub number_none : (e : Event) → n ≡ length (events_of (take i items)) → n ≡ length (so_far items i e 0)
  number_none e is = is ∙ ap length (sym (so_far_none items i e))

  pub number_time : (e : Event) (k next : ℕ) → next ≡ n + 1 → n ≡ length (so_far items i e k) → next ≡ length (so_far items i e (k + 1))
  number_time e k next more is = more ∙ ap (λ m. m + 1) is ∙ sym (length-append (so_far items i e k) (e ∷ [])) ∙ ap length (so_far_more items i e k)

  pub number_item : (x : Item) (k : ℕ) → i < length items → (get_or items i x).count ≤ k → k ≤ (get_or items i x).count → n ≡ length (so_far items i (get_or items i x).event k) → n ≡ length (events_of (take (i + 1) items))
  number_item x k below past within is =
      let all : k ≡ (get_or items i x).count = omega (arith, past, within) in
      is ∙ ap length (ap (λ m. so_far items i (get_or items i x).event m) all ∙ so_far_all items i x below)
