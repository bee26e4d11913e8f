-- Each kind of step keeps the rule of the shared words.
use Rattle.std.proofs.Common.{Bool, true, false, Option, Some, None, ◌≡◌, ◌≢◌, ◌⊎◌, ℕ, ◌+◌, ◌<◌, ◌≤◌, List, [], ◌∷◌, ◌++◌, length, get_or, set, sym, refl, ap, ◌∙◌, subst, ⊎_elim, inl, inr, arith, length-set, get_or-set_other, get_or-set_same}
use Rattle.std.proofs.lemmas.List.Elements.{Contains-append_left, Contains-append_right}
use mathlib.Core.Logic.{dite}
use mathlib.Core.Option.{Option as HomeOption, some, some-injective}
use native.Mathlib.Decide.{ℕ_discrete}
use lib.ListN.{get_elem?}
use lib.Seq.{set-get_or}
use Rattle.atomic_table.specs.Table.{State, keeps, Allows}
use Rattle.atomic_table.proofs.Lists.{at_set, set_here, set_else}
use Rattle.flip_table.specs.declared.slot_table.CopierView.{CopierView}
use Rattle.flip_table.specs.declared.slot_table.PlanView.{PlanView}
use Rattle.flip_table.specs.declared.slot_table.View.{View}
use Rattle.flip_table.specs.declared.slot_table.View.TheVariants.{OfWriter, OfCopier}
use Rattle.flip_table.specs.declared.slot_table.WriterView.{WriterView}
use Rattle.flip_table.specs.Rule.{retired_mark, forward, AllMarked, SaysWritten, IsAmong, IsSlot, IsTwin, IsWriterView, IsCopierView, Knows, KeepsFlip}
use Rattle.epoch_words.specs.Tokens.{FoundAll, IsPostedOrOneLess}
use Rattle.epoch_words.proofs.Views.{at_inside, changed}
use Rattle.flip_table.specs.Steps.{Holder, checking_copier, copier_part, loading_writer, looking_copier, writer_part}

abbrev Table : Type 0
Table = State (Unit {0}) View

abbrev Homes : Type 0
Homes = List (HomeOption (Unit {0}))

-- what was written stays so, once more is written
among_more : (wrote : List (ℕ × ℕ)) (p : ℕ × ℕ) (k x : ℕ) → IsAmong wrote k x → IsAmong (wrote ++ p ∷ []) k x
among_more wrote p k x = ⊎_elim (λ null. inl null) (λ c. inr (Contains-append_left wrote (p ∷ []) (k, x) c))

among_last : (wrote : List (ℕ × ℕ)) (k i x : ℕ) → k ≡ i → IsAmong (wrote ++ (i, x) ∷ []) k x
among_last wrote k i x e = inr (Contains-append_right wrote ((i, x) ∷ []) (k, x) (0, omega arith, ap (λ (z : ℕ). (z, x)) (sym e)))

module _ (plan : PlanView) where
  abbrev pub m : ℕ
  m = length plan.owners

  abbrev n : ℕ
  n = plan.seats

  abbrev pub owner : ℕ → ℕ
  owner k = get_or plan.owners k 0

  abbrev pub first : List ℕ → ℕ → ℕ
  first ws k = get_or ws k 0

  abbrev pub second : List ℕ → ℕ → ℕ
  second ws k = get_or ws (m + k) 0

  abbrev taken : List ℕ → ℕ → ℕ
  taken ws j = get_or ws (m + m + j) 0

  abbrev stage : List ℕ → ℕ
  stage ws = get_or ws (m + m + n) 0

  abbrev pub Twin : List ℕ → ℕ → WriterView → CopierView → Type 0
  Twin ws k q p = IsTwin (first ws k) (second ws k) k q p

  abbrev pub Slot : List ℕ → ℕ → CopierView → Type 0
  Slot ws k p = IsSlot plan.limit (first ws k) (second ws k) k (owner k) p

  abbrev WithinOneStage : List ℕ → Type 0
  WithinOneStage ws = (j : ℕ) → j < n → IsPostedOrOneLess (taken ws j) (stage ws)

  -- what every other view knows continues to hold
  abbrev KeepsOthers : ℕ → List ℕ → List ℕ → ℕ → Type 0
  KeepsOthers positions before after mover = (j : ℕ) (v : View) → j ≢ mover → Knows before plan positions j v → Knows after plan positions j v

  writer_steps : (s : Table) (r : KeepsFlip plan s) (ws : List ℕ) (hs : Homes) (me : ℕ) (q q' : WriterView) → get_elem? s.views me ≡ some (OfWriter q) → length ws ≡ length s.words → WithinOneStage ws → IsWriterView ws plan me q'
      → KeepsOthers (length s.views) s.words ws me → ((k : ℕ) → k < m → Slot s.words k r.copier → Slot ws k r.copier)
      → ((k : ℕ) → k < m → owner k ≡ q.index → Twin s.words k q r.copier → Twin ws k q' r.copier) → ((k : ℕ) (o : WriterView) → k < m → owner k ≢ q.index → Twin s.words k o r.copier → Twin ws k o r.copier)
      → KeepsFlip plan record { words = ws; homes = hs; views = set s.views me (OfWriter q') }
  writer_steps s r ws hs me q q' at same_length within_one_stage own_view others slots mine other = let position : me ≡ q.index + 1 = (r.known me (OfWriter q) at).position_is in record {
    words_are = same_length ∙ r.words_are;
    owned = r.owned;
    within_one_stage = within_one_stage;
    known = λ j v e. subst (λ (positions : ℕ). Knows ws plan positions j v) (sym (length-set s.views me (OfWriter q'))) (changed (Knows ws plan (length s.views)) s.views me (OfWriter q') own_view (λ a b ne h. others a b ne (r.known a b h)) j v e);
    copier = r.copier;
    copier_is = set_else s.views me 0 (OfWriter q') (λ e. omega (arith, e)) ∙ r.copier_is;
    slots = λ k l. slots k l (r.slots k l);
    twins = λ k o l eo. ⊎_elim
        (λ (t : (owner k + 1 ≡ me) × (OfWriter q' ≡ OfWriter o)). let here : owner k ≡ q.index = omega (arith, t.0) in
        subst (λ (x : WriterView). Twin ws k x r.copier) (ap writer_part t.1) (mine k l here (r.twins k q l (ap (λ (x : ℕ). get_elem? s.views x) t.0 ∙ at))))
        (λ (t : (owner k + 1 ≢ me) × (get_elem? s.views (owner k + 1) ≡ some (OfWriter o))). other k o l (λ e. t.0 (omega (arith, e))) (r.twins k o l t.1))
        (at_set s.views me (owner k + 1) (OfWriter q') (OfWriter o) eo);
  }

  pub copier_of : (s : Table) (r : KeepsFlip plan s) (me : ℕ) (p : CopierView) → get_elem? s.views me ≡ some (OfCopier p) → r.copier ≡ p
  copier_of s r me p at = ap copier_part (some-injective (OfCopier r.copier) (OfCopier p) (sym r.copier_is ∙ (ap (λ (x : ℕ). get_elem? s.views x) (sym (r.known me (OfCopier p) at).position_is) ∙ at)))

  copier_steps : (s : Table) (r : KeepsFlip plan s) (ws : List ℕ) (hs : Homes) (me : ℕ) (p p' : CopierView) → get_elem? s.views me ≡ some (OfCopier p) → length ws ≡ length s.words → WithinOneStage ws
      → IsCopierView ws plan (length s.views) me p' → KeepsOthers (length s.views) s.words ws me → ((k : ℕ) → k < m → Slot s.words k p → Slot ws k p')
      → ((k : ℕ) (q : WriterView) → k < m → IsWriterView s.words plan (owner k + 1) q → Twin s.words k q p → Twin ws k q p') → KeepsFlip plan record { words = ws; homes = hs; views = set s.views me (OfCopier p') }
  copier_steps s r ws hs me p p' at same_length within_one_stage own_view others slots step_of = let position : me ≡ 0 = (r.known me (OfCopier p) at).position_is in let is = copier_of s r me p at in record {
    words_are = same_length ∙ r.words_are;
    owned = r.owned;
    within_one_stage = within_one_stage;
    known = λ j v e. subst (λ (positions : ℕ). Knows ws plan positions j v) (sym (length-set s.views me (OfCopier p'))) (changed (Knows ws plan (length s.views)) s.views me (OfCopier p') own_view (λ a b ne h. others a b ne (r.known a b h)) j v e);
    copier = p';
    copier_is = ap (λ (x : ℕ). get_elem? (set s.views me (OfCopier p')) x) (sym position) ∙ set_here s.views me (OfCopier p') (at_inside s.views me (OfCopier p) at);
    slots = λ k l. slots k l (subst (λ (x : CopierView). Slot s.words k x) is (r.slots k l));
    twins = λ k q l eq. ⊎_elim
        (λ (t : (owner k + 1 ≡ me) × (OfCopier p' ≡ OfWriter q)). absurd (omega (arith, t.0)))
        (λ (t : (owner k + 1 ≢ me) × (get_elem? s.views (owner k + 1) ≡ some (OfWriter q))). step_of k q l (r.known (owner k + 1) (OfWriter q) t.1) (subst (λ (x : CopierView). Twin s.words k q x) is (r.twins k q l t.1)))
        (at_set s.views me (owner k + 1) (OfCopier p') (OfWriter q) eq);
  }

  -- a store elsewhere leaves the copies of slot k
  apart : (P : ℕ → ℕ → Type 0) (ws : List ℕ) (i k x : ℕ) → k ≢ i → m + k ≢ i → P (first ws k) (second ws k) → P (first (set ws i x) k) (second (set ws i x) k)
  apart P ws i k x ne ne2 = subst (λ (z : ℕ × ℕ). P z.0 z.1) (λ c. (sym (get_or-set_other ws i k x 0 ne) c, sym (get_or-set_other ws i (m + k) x 0 ne2) c))

  -- a store to a copy of a slot leaves the stages
  paced_apart : (ws : List ℕ) (i x : ℕ) → i < m + m → WithinOneStage ws → WithinOneStage (set ws i x)
  paced_apart ws i x l within_one_stage j lj = subst (λ (z : ℕ × ℕ). IsPostedOrOneLess z.0 z.1) (λ c. (sym (get_or-set_other ws i (m + m + j) x 0 (λ e. omega arith)) c, sym (get_or-set_other ws i (m + m + n) x 0 (λ e. omega arith)) c)) (within_one_stage j lj)

  -- a writer knows the same of other words, where the stage is no less and the word of its seat is the same
  writer_still : {before after : List ℕ} {j : ℕ} {q : WriterView} → taken after q.index ≡ taken before q.index → stage before ≤ stage after → IsWriterView before plan j q → IsWriterView after plan j q
  writer_still same up w = record {
    plan_is = w.plan_is;
    position_is = w.position_is;
    in_range = w.in_range;
    taken_up_is = same ∙ w.taken_up_is;
    taken_up_polled = w.taken_up_polled;
    polled_stage = omega (arith, w.polled_stage, up);
    written_each = w.written_each;
    wrote_written = w.wrote_written;
    none_pending = w.none_pending;
  }

  -- the copier knows the same of other words, where the stage is the same and the word of no seat is less
  copier_still : {before after : List ℕ} {positions j : ℕ} {p : CopierView} → stage after ≡ stage before → ((a : ℕ) → a < n → taken before a ≤ taken after a) → ((a : ℕ) → p.dealt ≤ a → a < n → taken after a ≡ taken before a)
      → IsCopierView before plan positions j p → IsCopierView after plan positions j p
  copier_still same grows undealt o = record {
    plan_is = o.plan_is;
    position_is = o.position_is;
    positions_are = o.positions_are;
    stage_is = same ∙ o.stage_is;
    last = o.last;
    found_each = o.found_each;
    found_since = λ a la. let found = o.found_since a la in let more = grows a la in omega (arith, found, more);
    undealt_is = λ a d la. undealt a d la ∙ o.undealt_is a d la;
    copied_each = o.copied_each;
    retired_each = o.retired_each;
    all_copied = o.all_copied;
    all_found = o.all_found;
  }

  -- a writer with other polls, loads and stores knows the same of the words
  writer_goes : {ws : List ℕ} {j : ℕ} {q : WriterView} {polled polls loads loaded_word loaded : ℕ} {written : List ℕ} {wrote : List (ℕ × ℕ)} {pending : Option ℕ} → IsWriterView ws plan j q → q.taken_up ≤ polled → polled ≤ stage ws
      → length written ≡ m → ((k : ℕ) → k < m → IsAmong wrote k (get_or written k 0)) → (1 < q.taken_up → pending ≡ None)
      → IsWriterView ws plan j record q { polled = polled; polls = polls; loads = loads; loaded_word = loaded_word; loaded = loaded; written = written; wrote = wrote; pending = pending }
  writer_goes w least most each own none = record {
    plan_is = w.plan_is;
    position_is = w.position_is;
    in_range = w.in_range;
    taken_up_is = w.taken_up_is;
    taken_up_polled = least;
    polled_stage = most;
    written_each = each;
    wrote_written = own;
    none_pending = none;
  }

  -- the copier with other copies and checks knows the same of the words
  copier_goes : {ws : List ℕ} {positions j : ℕ} {p : CopierView} {copying : Option ℕ} {value checks checked_slot first_load second_load : ℕ} {stored : Bool} {copied : List Bool} → IsCopierView ws plan positions j p → length copied ≡ m
      → (0 < p.stage → AllMarked copied)
      → IsCopierView ws plan positions j record p { copying = copying; value = value; stored = stored; checks = checks; checked_slot = checked_slot; first_load = first_load; second_load = second_load; copied = copied }
  copier_goes o each all = record {
    plan_is = o.plan_is;
    position_is = o.position_is;
    positions_are = o.positions_are;
    stage_is = o.stage_is;
    last = o.last;
    found_each = o.found_each;
    found_since = o.found_since;
    undealt_is = o.undealt_is;
    copied_each = each;
    retired_each = o.retired_each;
    all_copied = all;
    all_found = o.all_found;
  }

  knows_apart : (positions : ℕ) (ws : List ℕ) (i x : ℕ) → i < m + m → (j : ℕ) (v : View) → Knows ws plan positions j v → Knows (set ws i x) plan positions j v
  knows_apart positions ws i x l j v k = by_view v k
    where
      seat : (a : ℕ) → taken (set ws i x) a ≡ taken ws a
      seat a = get_or-set_other ws i (m + m + a) x 0 (λ e. omega arith)

      by_view : (v : View) → Knows ws plan positions j v → Knows (set ws i x) plan positions j v
      by_view (OfWriter q) w = let top = seat n in writer_still (seat q.index) (omega (arith, top)) w
      by_view (OfCopier p) o = copier_still (seat n) (λ a la. let same = seat a in omega (arith, same)) (λ a d la. seat a) o

  -- no slot is retired while a seat has not taken up stage 2
  unretired : (ws : List ℕ) (positions j c : ℕ) (q : WriterView) (p : CopierView) → IsWriterView ws plan j q → IsCopierView ws plan positions c p → q.taken_up ≤ 1 → (k : ℕ) → get_or p.retired k false ≢ true
  unretired ws positions j c q p w o low k gone = let two : get_or p.found q.index 0 ≡ 2 = o.all_found k gone q.index w.in_range in let least = o.found_since q.index w.in_range in omega (arith, w.taken_up_is)

  -- a load, after which the writer knows what it did before, and what it polled or loaded besides
  writer_loads : (s : Table) (r : KeepsFlip plan s) (i id : ℕ) (q q' : WriterView) → get_elem? s.views id ≡ some (OfWriter q) → IsWriterView s.words plan id q' → ((k : ℕ) → Twin s.words k q r.copier → Twin s.words k q' r.copier)
      → KeepsFlip plan record { words = set s.words i (get_or s.words i 0); homes = s.homes; views = set s.views id (OfWriter q') }
  writer_loads s r i id q q' at knows twin = subst (λ (ws : List ℕ). KeepsFlip plan record { words = ws; homes = s.homes; views = set s.views id (OfWriter q') }) (sym (set-get_or s.words i 0))
      (writer_steps s r s.words s.homes id q q' at refl r.within_one_stage knows (λ j v _ k. k) (λ k _ t. t) (λ k _ _ t. twin k t) (λ k a _ _ t. t))

  slot_loads : (s : Table) (r : KeepsFlip plan s) (i id x : ℕ) (q : WriterView) → get_elem? s.views id ≡ some (OfWriter q)
      → KeepsFlip plan record { words = set s.words i (get_or s.words i 0); homes = s.homes; views = set s.views id (OfWriter (loading_writer q i x)) }
  slot_loads s r i id x q at = let w : IsWriterView s.words plan id q = r.known id (OfWriter q) at in
      writer_loads s r i id q (loading_writer q i x) at (writer_goes w w.taken_up_polled w.polled_stage w.written_each w.wrote_written w.none_pending)
      (λ k t. record { first_is = t.first_is; same = t.same; checked = t.checked; wrote_first = t.wrote_first; wrote_second = t.wrote_second; wrote_value = t.wrote_value })

  own_index : (s : Table) (r : KeepsFlip plan s) (id i : ℕ) (q : WriterView) → get_elem? s.views id ≡ some (OfWriter q) → owner i ≡ q.index → get_elem? s.views (owner i + 1) ≡ some (OfWriter q)
  own_index s r id i q at own = ap (λ (x : ℕ). get_elem? s.views x) (ap (λ (x : ℕ). x + 1) own ∙ sym (r.known id (OfWriter q) at).position_is) ∙ at

  -- a writer was given out
  dealt_before : (s : Table) (r : KeepsFlip plan s) (id : ℕ) (q : WriterView) → get_elem? s.views id ≡ some (OfWriter q) → q.index < r.copier.dealt
  dealt_before s r id q at = let w : IsWriterView s.words plan id q = r.known id (OfWriter q) at in let o : IsCopierView s.words plan (length s.views) 0 r.copier = r.known 0 (OfCopier r.copier) r.copier_is in
      let inside = at_inside s.views id (OfWriter q) at in omega (arith, inside, w.position_is, o.positions_are)

  -- at stage 0 a load of any slot gives no mark, and of an own slot what was written
  pub loads_first : (slots id i : ℕ) (q : WriterView) → i < m → q.taken_up ≡ 0
      → Allows (KeepsFlip plan) slots id (OfWriter q, []) i (λ x. x) (λ x (me : Holder). (me ≡ (OfWriter (loading_writer q i x), [])) × (x < plan.limit) × (owner i ≡ q.index → x ≡ get_or q.written i 0))
  loads_first slots id i q l low s r _ at _ = let w : IsWriterView s.words plan id q = r.known id (OfWriter q) at in let o : IsCopierView s.words plan (length s.views) 0 r.copier = r.known 0 (OfCopier r.copier) r.copier_is in let x : ℕ = first s.words i in
      let live = (r.slots i l).live (unretired s.words (length s.views) id 0 q r.copier w o (omega (arith, low)) i) in
      (OfWriter (loading_writer q i x), keeps, tt, slot_loads s r i id x q at, (refl, live, λ own. (r.twins i q l (own_index s r id i q at own)).first_is (omega (arith, low))))

  -- from stage 1 on a load of any slot gives a forward, and of an own slot that of what was written
  pub loads_second : (slots id i : ℕ) (q : WriterView) → i < m → 0 < q.taken_up → q.pending ≡ None
      → Allows (KeepsFlip plan) slots id (OfWriter q, []) (m + i) (λ x. x)
      (λ y (me : Holder). ((x : ℕ) × (me ≡ (OfWriter (loading_writer q (m + i) x), [])) × (x < plan.limit) × (y ≡ forward x)) × (owner i ≡ q.index → y ≡ forward (get_or q.written i 0)))
  loads_second slots id i q l high calm s r _ at _ = let w : IsWriterView s.words plan id q = r.known id (OfWriter q) at in let o : IsCopierView s.words plan (length s.views) 0 r.copier = r.known 0 (OfCopier r.copier) r.copier_is in
      let small = (r.slots i l).small in let x : ℕ = small.0 in
      let done : get_or r.copier.copied i false ≡ true = o.all_copied (omega (arith, w.taken_up_polled, w.polled_stage, o.stage_is)) i (omega (arith, o.copied_each)) in
      let forwards = λ (own : owner i ≡ q.index). ⊎_elim (λ (b : q.pending ≡ Some i). absurd (cc)) (λ (e : second s.words i ≡ forward (get_or q.written i 0)). e) ((r.twins i q l (own_index s r id i q at own)).same done) in
      (OfWriter (loading_writer q (m + i) x), keeps, tt, slot_loads s r (m + i) id x q at, ((x, refl, small.1, small.2), forwards))

  -- at stages 0 and 1: the first copy of an own slot
  pub stores_first : (slots id i x : ℕ) (q : WriterView) → i < m → owner i ≡ q.index → q.taken_up ≤ 1 → q.pending ≡ None → x < plan.limit
      → Allows (KeepsFlip plan) slots id (OfWriter q, []) i (λ _. x) (λ _ (me : Holder). me ≡ (OfWriter (record q { written = set q.written i x; wrote = q.wrote ++ (i, x) ∷ []; pending = Some i }), []))
  stores_first slots id i x q l own low idle small s r _ at _ = let w : IsWriterView s.words plan id q = r.known id (OfWriter q) at in
      let o : IsCopierView s.words plan (length s.views) 0 r.copier = r.known 0 (OfCopier r.copier) r.copier_is in let dealt = dealt_before s r id q at in
      let ws : List ℕ = set s.words i x in let wide : i < length s.words = omega (arith, r.words_are) in let q' : WriterView = record q { written = set q.written i x; wrote = q.wrote ++ (i, x) ∷ []; pending = Some i } in
      let u : IsWriterView ws plan id q = knows_apart (length s.views) s.words i x (omega arith) id (OfWriter q) w in
      let here : (k : ℕ) → k ≡ i → first ws k ≡ x = λ k e. ap (λ (z : ℕ). get_or ws z 0) e ∙ get_or-set_same s.words i x 0 wide in
      let stays : (k : ℕ) → k < m → second ws k ≡ second s.words k = λ k lk. get_or-set_other s.words i (m + k) x 0 (λ e. omega arith) in
      let wrote : (k : ℕ) → k ≡ i → get_or (set q.written i x) k 0 ≡ x = λ k e. ap (λ (z : ℕ). get_or (set q.written i x) z 0) e ∙ get_or-set_same q.written i x 0 (omega (arith, w.written_each)) in
      let more : (k y : ℕ) → IsAmong q.wrote k y → IsAmong q'.wrote k y = λ k y. among_more q.wrote (i, x) k y in
      let own_written : (k : ℕ) → k < m → IsAmong q'.wrote k (get_or q'.written k 0) = λ k lk. dite (ℕ_discrete k i)
      (λ e. subst (λ (z : ℕ). IsAmong q'.wrote k z) (sym (wrote k e)) (among_last q.wrote k i x e))
      (λ ne. subst (λ (z : ℕ). IsAmong q'.wrote k z) (sym (get_or-set_other q.written i k x 0 ne)) (more k (get_or q.written k 0) (w.wrote_written k lk))) in
      let kept =
      writer_steps s r ws s.homes id q q' at (length-set s.words i x) (paced_apart s.words i x (omega arith) r.within_one_stage)
      (writer_goes u u.taken_up_polled u.polled_stage (length-set q.written i x ∙ u.written_each) own_written (λ high. absurd (omega arith)))
      (λ j v _ k. knows_apart (length s.views) s.words i x (omega arith) j v k)
      (λ k lk t. dite (ℕ_discrete k i)
      (λ e. let mine : owner k ≡ q.index = ap owner e ∙ own in record {
        live = λ _. subst (λ (z : ℕ). z < plan.limit) (sym (here k e)) small;
        dead = λ d. absurd (unretired s.words (length s.views) id 0 q r.copier w o low k d);
        small = (t.small.0, t.small.1, stays k lk ∙ t.small.2);
        unwritten = λ h. absurd (omega (arith, h, mine, dealt));
      })
      (λ ne. apart (λ a b. IsSlot plan.limit a b k (owner k) r.copier) s.words i k x ne (λ e. omega arith) t))
      (λ k lk mine t. dite (ℕ_discrete k i)
      (λ e. record {
        first_is = λ _. here k e ∙ sym (wrote k e);
        same = λ _. inl (ap Some (sym e));
        checked = λ _ _. inr (inl (ap Some (sym e)));
        wrote_first = λ _. subst (λ (z : ℕ). IsAmong q'.wrote k z) (sym (here k e)) (among_last q.wrote k i x e);
        wrote_second = λ y h. more k y (t.wrote_second y (sym (stays k lk) ∙ h));
        wrote_value = λ h. more k r.copier.value (t.wrote_value h);
      })
      (λ ne. let v : Twin ws k q r.copier = apart (λ a b. IsTwin a b k q r.copier) s.words i k x ne (λ e. omega arith) t in
      let kept : get_or q.written k 0 ≡ get_or (set q.written i x) k 0 = sym (get_or-set_other q.written i k x 0 ne) in
      let again : SaysWritten (second ws k) k q → SaysWritten (second ws k) k q' = ⊎_elim (λ b. absurd (cc)) (λ d. inr (d ∙ ap forward kept)) in
      record {
        first_is = λ h. v.first_is h ∙ kept;
        same = λ c. again (v.same c);
        checked = λ a b. ⊎_elim (λ c. inl c) (λ d. inr (again d)) (v.checked a b);
        wrote_first = λ h. more k (first ws k) (v.wrote_first h);
        wrote_second = λ y h. more k y (v.wrote_second y h);
        wrote_value = λ h. more k r.copier.value (v.wrote_value h);
      }))
      (λ k a lk other t. apart (λ y z. IsTwin y z k a r.copier) s.words i k x (λ e. other (ap owner e ∙ own)) (λ e. omega arith) t) in
      (OfWriter q', keeps, tt, kept, refl)

  -- the seat takes up what it polled
  pub takes_up : (slots id : ℕ) (q : WriterView) → q.pending ≡ None
      → Allows (KeepsFlip plan) slots id (OfWriter q, []) (m + m + q.index) (λ _. q.polled) (λ _ (me : Holder). me ≡ (OfWriter (record q { taken_up = q.polled }), []))
  takes_up slots id q idle s r _ at _ = let w : IsWriterView s.words plan id q = r.known id (OfWriter q) at in let i : ℕ = m + m + q.index in let x : ℕ = q.polled in let ws : List ℕ = set s.words i x in let dealt = dealt_before s r id q at in
      let o : IsCopierView s.words plan (length s.views) 0 r.copier = r.known 0 (OfCopier r.copier) r.copier_is in
      let wide : i < length s.words = omega (arith, r.words_are, w.in_range) in let here : get_or ws i 0 ≡ x = get_or-set_same s.words i x 0 wide in let top : stage ws ≡ stage s.words = get_or-set_other s.words i (m + m + n) x 0 (λ e. omega (arith, w.in_range)) in
      let there : (j : ℕ) → j ≢ q.index → taken ws j ≡ taken s.words j = λ j ne. get_or-set_other s.words i (m + m + j) x 0 (λ e. ne (omega arith)) in
      let grows : (j : ℕ) → taken s.words j ≤ taken ws j = λ j. dite (ℕ_discrete j q.index)
      (λ e. let a : taken ws j ≡ x = ap (λ (z : ℕ). taken ws z) e ∙ here in let b : taken s.words j ≡ q.taken_up = ap (λ (z : ℕ). taken s.words z) e ∙ w.taken_up_is in omega (arith, a, b, w.taken_up_polled))
      (λ ne. omega (arith, there j ne)) in
      let below : (j : ℕ) → j < n → taken ws j ≤ stage s.words = λ j lj. dite (ℕ_discrete j q.index)
      (λ e. let a : taken ws j ≡ x = ap (λ (z : ℕ). taken ws z) e ∙ here in omega (arith, a, w.polled_stage)) (λ ne. let c = r.within_one_stage j lj in omega (arith, there j ne, c.0)) in
      let kept =
      writer_steps s r ws s.homes id q (record q { taken_up = x }) at (length-set s.words i x)
      (λ j lj. let c = r.within_one_stage j lj in (omega (arith, below j lj, top), omega (arith, grows j, c.1, top)))
      record {
        plan_is = w.plan_is;
        position_is = w.position_is;
        in_range = w.in_range;
        taken_up_is = here;
        taken_up_polled = omega arith;
        polled_stage = subst (λ (z : ℕ). x ≤ z) (sym top) w.polled_stage;
        written_each = w.written_each;
        wrote_written = w.wrote_written;
        none_pending = λ _. idle;
      }
      (λ j v ne k. others ws i x top there grows (λ a d. there a (λ e. omega (arith, e, d, dealt))) j v ne w.position_is k)
      (λ k lk t. apart (λ a b. IsSlot plan.limit a b k (owner k) r.copier) s.words i k x (λ e. omega arith) (λ e. omega arith) t)
      (λ k lk mine t. let u : Twin ws k q r.copier = apart (λ a b. IsTwin a b k q r.copier) s.words i k x (λ e. omega arith) (λ e. omega arith) t in
      record { first_is = λ h. u.first_is (omega (arith, h, w.taken_up_polled)); same = u.same; checked = u.checked; wrote_first = u.wrote_first; wrote_second = u.wrote_second; wrote_value = u.wrote_value })
      (λ k a lk other t. apart (λ y z. IsTwin y z k a r.copier) s.words i k x (λ e. omega arith) (λ e. omega arith) t) in
      (OfWriter (record q { taken_up = x }), keeps, tt, kept, refl)
    where
      others : (ws : List ℕ) (i x : ℕ) → stage ws ≡ stage s.words → ((j : ℕ) → j ≢ q.index → taken ws j ≡ taken s.words j) → ((j : ℕ) → taken s.words j ≤ taken ws j) → ((j : ℕ) → r.copier.dealt ≤ j → taken ws j ≡ taken s.words j)
          → (j : ℕ) (v : View) → j ≢ id → id ≡ q.index + 1 → Knows s.words plan (length s.views) j v → Knows ws plan (length s.views) j v
      others ws i x top there grows still j (OfWriter a) ne position k =
          writer_still (there a.index (λ e. ne (k.position_is ∙ (ap (λ (z : ℕ). z + 1) e ∙ sym position)))) (omega (arith, top)) k
      others ws i x top there grows still j (OfCopier p) ne position k =
          let c : IsCopierView s.words plan (length s.views) 0 r.copier = r.known 0 (OfCopier r.copier) r.copier_is in
          copier_still top (λ a la. grows a) (λ a d la. still a (omega (arith, d, k.positions_are, c.positions_are))) k

  -- the stage, as a seat polls it
  pub polls : (slots id : ℕ) (q : WriterView)
      → Allows (KeepsFlip plan) slots id (OfWriter q, []) (m + m + n) (λ x. x) (λ x (me : Holder). (me ≡ (OfWriter (record q { polled = x; polls = q.polls + 1 }), [])) × IsPostedOrOneLess q.taken_up x × (q.polled ≤ x) × (x ≤ 2))
  polls slots id q s r _ at _ = let w : IsWriterView s.words plan id q = r.known id (OfWriter q) at in let o : IsCopierView s.words plan (length s.views) 0 r.copier = r.known 0 (OfCopier r.copier) r.copier_is in let x : ℕ = stage s.words in let c = r.within_one_stage q.index w.in_range in let q' : WriterView = record q { polled = x; polls = q.polls + 1 } in
      let kept =
      writer_loads s r (m + m + n) id q q' at (writer_goes w (omega (arith, c.0, w.taken_up_is)) (omega arith) w.written_each w.wrote_written w.none_pending)
      (λ k t. record { first_is = t.first_is; same = t.same; checked = t.checked; wrote_first = t.wrote_first; wrote_second = t.wrote_second; wrote_value = t.wrote_value }) in
      (OfWriter q', keeps, tt, kept, (refl, (omega (arith, c.0, w.taken_up_is), omega (arith, c.1, w.taken_up_is)), w.polled_stage, omega (arith, o.stage_is, o.last)))

  -- a store of `forward y` to the second copy of an own slot, after which slot i says y and nothing is pending
  seconds : (s : Table) (r : KeepsFlip plan s) (id i y : ℕ) (q : WriterView) (written' : List ℕ) (wrote' : List (ℕ × ℕ)) → get_elem? s.views id ≡ some (OfWriter q) → i < m → owner i ≡ q.index → y < plan.limit → length written' ≡ length q.written
      → get_or written' i 0 ≡ y → IsAmong wrote' i y → ((k x : ℕ) → IsAmong q.wrote k x → IsAmong wrote' k x) → (1 < q.taken_up ⊎ (written' ≡ q.written))
      → ((k : ℕ) → k ≢ i → (get_or written' k 0 ≡ get_or q.written k 0) × (q.pending ≢ Some k))
      → KeepsFlip plan record { words = set s.words (m + i) (forward y); homes = s.homes; views = set s.views id (OfWriter (record q { written = written'; wrote = wrote'; pending = None })) }
  seconds s r id i y q written' wrote' at l own small len said among more old else = let w : IsWriterView s.words plan id q = r.known id (OfWriter q) at in let dealt = dealt_before s r id q at in
      let x : ℕ = forward y in let j : ℕ = m + i in let ws : List ℕ = set s.words j x in
      let q' : WriterView = record q { written = written'; wrote = wrote'; pending = None } in let u : IsWriterView ws plan id q = knows_apart (length s.views) s.words j x (omega arith) id (OfWriter q) w in
      let here : (k : ℕ) → k ≡ i → second ws k ≡ x = λ k e. ap (λ (z : ℕ). get_or ws (m + z) 0) e ∙ get_or-set_same s.words j x 0 (omega (arith, r.words_are)) in
      let stays : (k : ℕ) → k < m → first ws k ≡ first s.words k = λ k lk. get_or-set_other s.words j k x 0 (λ e. omega arith) in
      writer_steps s r ws s.homes id q q' at (length-set s.words j x) (paced_apart s.words j x (omega arith) r.within_one_stage)
      (writer_goes u u.taken_up_polled u.polled_stage (len ∙ u.written_each)
      (λ k lk. dite (ℕ_discrete k i)
      (λ e. subst (λ (z : ℕ × ℕ). IsAmong wrote' z.0 z.1) (λ c. (sym e c, sym (ap (λ (z : ℕ). get_or written' z 0) e ∙ said) c)) among)
      (λ ne. subst (λ (z : ℕ). IsAmong wrote' k z) (sym (else k ne).0) (more k (get_or q.written k 0) (w.wrote_written k lk))))
      (λ _. refl))
      (λ a v _ k. knows_apart (length s.views) s.words j x (omega arith) a v k)
      (λ k lk t. dite (ℕ_discrete k i)
      (λ e. let mine : owner k ≡ q.index = ap owner e ∙ own in record {
        live = λ h. subst (λ (z : ℕ). z < plan.limit) (sym (stays k lk)) (t.live h);
        dead = λ d. stays k lk ∙ t.dead d;
        small = (y, small, here k e);
        unwritten = λ h. absurd (omega (arith, h, mine, dealt));
      })
      (λ ne. apart (λ a b. IsSlot plan.limit a b k (owner k) r.copier) s.words j k x (λ e. omega arith) (λ e. ne (omega arith)) t))
      (λ k lk mine t. let wrote : q.taken_up ≤ 1 → first s.words k ≡ get_or written' k 0 = λ h. ⊎_elim (λ a. absurd (omega (arith, a, h))) (λ e. t.first_is h ∙ ap (λ (z : List ℕ). get_or z k 0) (sym e)) old in
      let wrote_first : get_or r.copier.retired k false ≢ true → IsAmong wrote' k (first ws k) = λ h. subst (λ (z : ℕ). IsAmong wrote' k z) (sym (stays k lk)) (more k (first s.words k) (t.wrote_first h)) in
      dite (ℕ_discrete k i)
      (λ e. let is : second ws k ≡ forward (get_or written' k 0) = here k e ∙ ap forward (sym said ∙ ap (λ (z : ℕ). get_or written' z 0) (sym e)) in
      record {
        first_is = λ h. stays k lk ∙ wrote h;
        same = λ _. inr is;
        checked = λ _ _. inr (inr is);
        wrote_first = wrote_first;
        wrote_second = λ z h. let same : y ≡ z = omega (arith, h, here k e) in subst (λ (c : ℕ × ℕ). IsAmong wrote' c.0 c.1) (λ c. (sym e c, same c)) among;
        wrote_value = λ h. more k r.copier.value (t.wrote_value h);
      })
      (λ ne. let v : Twin ws k q r.copier = apart (λ a b. IsTwin a b k q r.copier) s.words j k x (λ e. omega arith) (λ e. ne (omega arith)) t in
      let again : SaysWritten (second ws k) k q → SaysWritten (second ws k) k q' = ⊎_elim (λ b. absurd ((else k ne).1 b)) (λ d. inr (d ∙ ap forward (sym (else k ne).0))) in
      record {
        first_is = λ h. stays k lk ∙ wrote h;
        same = λ c. again (v.same c);
        checked = λ a b. ⊎_elim (λ c. inl c) (λ d. inr (again d)) (v.checked a b);
        wrote_first = wrote_first;
        wrote_second = λ z h. more k z (v.wrote_second z h);
        wrote_value = λ h. more k r.copier.value (v.wrote_value h);
      }))
      (λ k a lk other t. apart (λ b c. IsTwin b c k a r.copier) s.words j k x (λ e. omega arith) (λ e. other (ap owner (let same : k ≡ i = omega arith in same) ∙ own)) t)

  -- at stages 0 and 1: the second copy of the slot whose first copy was stored just before
  pub stores_second : (slots id i y : ℕ) (q : WriterView) → i < m → owner i ≡ q.index → q.pending ≡ Some i → get_or q.written i 0 ≡ y → y < plan.limit
      → Allows (KeepsFlip plan) slots id (OfWriter q, []) (m + i) (λ _. forward y) (λ _ (me : Holder). me ≡ (OfWriter (record q { pending = None }), []))
  stores_second slots id i y q l own busy said small s r _ at _ = let w : IsWriterView s.words plan id q = r.known id (OfWriter q) at in
      let kept = seconds s r id i y q q.written q.wrote at l own small refl said (subst (λ (z : ℕ). IsAmong q.wrote i z) said (w.wrote_written i l)) (λ k x h. h) (inr refl) (λ k ne. (refl, λ e. ne (cc))) in
      (OfWriter (record q { pending = None }), keeps, tt, kept, refl)

  -- at stage 2 a store goes to the second copy alone
  pub stores_alone : (slots id i y : ℕ) (q : WriterView) → i < m → owner i ≡ q.index → 1 < q.taken_up → q.pending ≡ None → y < plan.limit
      → Allows (KeepsFlip plan) slots id (OfWriter q, []) (m + i) (λ _. forward y) (λ _ (me : Holder). me ≡ (OfWriter (record q { written = set q.written i y; wrote = q.wrote ++ (i, y) ∷ []; pending = None }), []))
  stores_alone slots id i y q l own high idle small s r _ at _ = let w : IsWriterView s.words plan id q = r.known id (OfWriter q) at in
      let kept =
      seconds s r id i y q (set q.written i y) (q.wrote ++ (i, y) ∷ []) at l own small (length-set q.written i y) (get_or-set_same q.written i y 0 (omega (arith, w.written_each)))
      (among_last q.wrote i i y refl) (λ k x h. among_more q.wrote (i, y) k x h) (inl high) (λ k ne. (get_or-set_other q.written i k y 0 ne, λ e. cc)) in
      (OfWriter (record q { written = set q.written i y; wrote = q.wrote ++ (i, y) ∷ []; pending = None }), keeps, tt, kept, refl)

  copier_loads : (s : Table) (r : KeepsFlip plan s) (i me : ℕ) (p p' : CopierView) → get_elem? s.views me ≡ some (OfCopier p) → IsCopierView s.words plan (length s.views) me p' → ((k : ℕ) → k < m → Slot s.words k p → Slot s.words k p')
      → ((k : ℕ) (q : WriterView) → k < m → IsWriterView s.words plan (owner k + 1) q → Twin s.words k q p → Twin s.words k q p')
      → KeepsFlip plan record { words = set s.words i (get_or s.words i 0); homes = s.homes; views = set s.views me (OfCopier p') }
  copier_loads s r i me p p' at own_view slots step_of = subst (λ (ws : List ℕ). KeepsFlip plan record { words = ws; homes = s.homes; views = set s.views me (OfCopier p') }) (sym (set-get_or s.words i 0))
      (copier_steps s r s.words s.homes me p p' at refl r.within_one_stage own_view (λ j v _ k. k) slots step_of)

  -- at stage 0 no slot is retired, as there is a seat
  ended : (s : Table) (r : KeepsFlip plan s) (id i : ℕ) (p : CopierView) → i < m → IsCopierView s.words plan (length s.views) id p → p.stage ≡ 0 → get_or p.retired i false ≢ true
  ended s r id i p l o zero_is d = let j : ℕ = owner i in let lj : j < n = r.owned i l in let two : get_or p.found j 0 ≡ 2 = o.all_found i d j lj in let f = o.found_since j lj in let c = r.within_one_stage j lj in omega (arith, two, f, c.0, o.stage_is)

  -- only at stage 0 does the copier load a slot for copying
  pub loads_to_copy : (slots id i : ℕ) (p : CopierView) → i < m → p.stage ≡ 0
      → Allows (KeepsFlip plan) slots id (OfCopier p, []) i (λ x. x) (λ x (me : Holder). (me ≡ (OfCopier (record p { copying = Some i; value = x; stored = false }), [])) × (x < plan.limit))
  loads_to_copy slots id i p l zero_is s r _ at _ = let o : IsCopierView s.words plan (length s.views) id p = r.known id (OfCopier p) at in let x : ℕ = first s.words i in let p' : CopierView = record p { copying = Some i; value = x; stored = false } in
      let slot : Slot s.words i p = subst (λ (z : CopierView). Slot s.words i z) (copier_of s r id p at) (r.slots i l) in
      let kept =
      copier_loads s r i id p p' at (copier_goes o o.copied_each o.all_copied)
      (λ k _ t. record { live = t.live; dead = t.dead; small = t.small; unwritten = λ h. let u = t.unwritten h in (u.0, u.1, λ e. let same : i ≡ k = cc in ap (λ (z : ℕ). first s.words z) same ∙ u.0) })
      (λ k q lk w t. record {
        first_is = t.first_is;
        same = t.same;
        checked = λ _ b. absurd (cc);
        wrote_first = t.wrote_first;
        wrote_second = t.wrote_second;
        wrote_value = λ e. let same : k ≡ i = cc in subst (λ (z : ℕ). IsAmong q.wrote k (first s.words z)) same (t.wrote_first (ended s r id k p lk o zero_is));
      }) in
      (OfCopier p', keeps, tt, kept, (refl, slot.live (ended s r id i p l o zero_is)))

  -- the copier stores the forward of what it loaded
  pub stores_copy : (slots id i x : ℕ) (p : CopierView) → i < m → p.stage ≡ 0 → p.copying ≡ Some i → x ≡ forward p.value → p.value < plan.limit
      → Allows (KeepsFlip plan) slots id (OfCopier p, []) (m + i) (λ _. x) (λ _ (me : Holder). me ≡ (OfCopier (record p { stored = true; copied = set p.copied i false }), []))
  stores_copy slots id i x p l zero_is busy is small s r _ at _ = let o : IsCopierView s.words plan (length s.views) id p = r.known id (OfCopier p) at in let j : ℕ = m + i in let ws : List ℕ = set s.words j x in
      let p' : CopierView = record p { stored = true; copied = set p.copied i false } in let u : IsCopierView ws plan (length s.views) id p = knows_apart (length s.views) s.words j x (omega arith) id (OfCopier p) o in
      let here : (k : ℕ) → k ≡ i → second ws k ≡ x = λ k e. ap (λ (z : ℕ). get_or ws (m + z) 0) e ∙ get_or-set_same s.words j x 0 (omega (arith, r.words_are)) in
      let stays : (k : ℕ) → k < m → first ws k ≡ first s.words k = λ k lk. get_or-set_other s.words j k x 0 (λ e. omega arith) in
      let kept =
      copier_steps s r ws s.homes id p p' at (length-set s.words j x) (paced_apart s.words j x (omega arith) r.within_one_stage)
      (copier_goes u (length-set p.copied i false ∙ u.copied_each) (λ h. absurd (omega arith)))
      (λ a v _ k. knows_apart (length s.views) s.words j x (omega arith) a v k)
      (λ k lk t. dite (ℕ_discrete k i)
      (λ e. record {
        live = λ h. subst (λ (z : ℕ). z < plan.limit) (sym (stays k lk)) (t.live h);
        dead = λ d. stays k lk ∙ t.dead d;
        small = (p.value, small, here k e ∙ is);
        unwritten = λ h. let old = t.unwritten h in let null : p.value ≡ 0 = old.2 (busy ∙ ap Some (sym e)) in (stays k lk ∙ old.0, here k e ∙ (is ∙ ap forward null), old.2);
      })
      (λ ne. let v : Slot ws k p = apart (λ a b. IsSlot plan.limit a b k (owner k) p) s.words j k x (λ e. omega arith) (λ e. ne (omega arith)) t in record { live = v.live; dead = v.dead; small = v.small; unwritten = v.unwritten }))
      (λ k q lk _ t. dite (ℕ_discrete k i)
      (λ e. let unset : get_or (set p.copied i false) k false ≡ false = ap (λ (z : ℕ). get_or (set p.copied i false) z false) e ∙ get_or-set_same p.copied i false false (omega (arith, o.copied_each)) in
      record {
        first_is = λ h. stays k lk ∙ t.first_is h;
        same = λ c. absurd (cc);
        checked = λ _ _. inl (here k e ∙ is);
        wrote_first = λ h. subst (λ (z : ℕ). IsAmong q.wrote k z) (sym (stays k lk)) (t.wrote_first h);
        wrote_second = λ z h. let same : p.value ≡ z = omega (arith, h, here k e, is) in subst (λ (c : ℕ). IsAmong q.wrote k c) same (t.wrote_value (busy ∙ ap Some (sym e)));
        wrote_value = t.wrote_value;
      })
      (λ ne. let v : Twin ws k q p = apart (λ a b. IsTwin a b k q p) s.words j k x (λ e. omega arith) (λ e. ne (omega arith)) t in
      record {
        first_is = v.first_is;
        same = λ c. v.same (sym (get_or-set_other p.copied i k false false ne) ∙ c);
        checked = λ a _. absurd (ne (cc));
        wrote_first = v.wrote_first;
        wrote_second = v.wrote_second;
        wrote_value = v.wrote_value;
      })) in
      (OfCopier p', keeps, tt, kept, refl)

  -- An equal second load: while the owner has stored nothing else, what it wrote is what was stored as the copy.
  pub loads_to_check : (slots id i : ℕ) (p : CopierView) → i < m → p.stage ≡ 0 → p.copying ≡ Some i → p.stored ≡ true
      → Allows (KeepsFlip plan) slots id (OfCopier p, []) i (λ x. x) (λ x (me : Holder). (x ≡ p.value → me ≡ (OfCopier (record (checking_copier p i x) { copied = set p.copied i true }), [])) × (x ≢ p.value → me ≡ (OfCopier (checking_copier p i x), [])))
  loads_to_check slots id i p l zero_is busy done s r _ at _ = let o : IsCopierView s.words plan (length s.views) id p = r.known id (OfCopier p) at in let x : ℕ = first s.words i in dite (ℕ_discrete x p.value)
      (λ found. let p' : CopierView = record (checking_copier p i x) { copied = set p.copied i true } in let kept =
      copier_loads s r i id p p' at (copier_goes o (length-set p.copied i true ∙ o.copied_each) (λ h. absurd (omega arith)))
      (λ k _ t. record { live = t.live; dead = t.dead; small = t.small; unwritten = λ h. let u = t.unwritten h in (u.0, u.1, λ e. absurd (cc)) })
      (λ k q lk w t. record {
        first_is = t.first_is;
        same = λ c. dite (ℕ_discrete k i)
            (λ e. ⊎_elim (λ d. inr (d ∙ ap forward (sym found ∙ (ap (λ (z : ℕ). first s.words z) (sym e) ∙ t.first_is (low q w))))) (λ d. d) (t.checked (busy ∙ ap Some (sym e)) done))
            (λ ne. t.same (sym (get_or-set_other p.copied i k true false ne) ∙ c));
        checked = λ a _. absurd (cc);
        wrote_first = t.wrote_first;
        wrote_second = t.wrote_second;
        wrote_value = λ e. absurd (cc);
      }) in
      (OfCopier p', keeps, tt, kept, ((λ _. refl), λ ne. absurd (ne found))))
      (λ lost. let p' : CopierView = checking_copier p i x in let kept =
      copier_loads s r i id p p' at (copier_goes o o.copied_each o.all_copied)
      (λ k _ t. record { live = t.live; dead = t.dead; small = t.small; unwritten = λ h. let u = t.unwritten h in (u.0, u.1, λ e. absurd (cc)) })
      (λ k q _ _ t. record { first_is = t.first_is; same = t.same; checked = λ a _. absurd (cc); wrote_first = t.wrote_first; wrote_second = t.wrote_second; wrote_value = λ e. absurd (cc) }) in
      (OfCopier p', keeps, tt, kept, ((λ e. absurd (lost e)), λ _. refl)))
    where
      low : (q : WriterView) {j : ℕ} → IsWriterView s.words plan j q → q.taken_up ≤ 1
      low q w = let o : IsCopierView s.words plan (length s.views) id p = r.known id (OfCopier p) at in omega (arith, w.taken_up_polled, w.polled_stage, o.stage_is)

  -- the stage that a seat has taken up
  pub finds : (slots id j : ℕ) (p : CopierView) → j < n
      → Allows (KeepsFlip plan) slots id (OfCopier p, []) (m + m + j) (λ x. x) (λ x (me : Holder). (me ≡ (OfCopier (looking_copier p j x), [])) × IsPostedOrOneLess x p.stage × (get_or p.found j 0 ≤ x))
  finds slots id j p l s r _ at _ = let o : IsCopierView s.words plan (length s.views) id p = r.known id (OfCopier p) at in let x : ℕ = taken s.words j in let c = r.within_one_stage j l in let p' : CopierView = looking_copier p j x in
      let here : (a : ℕ) → a ≡ j → get_or (set p.found j x) a 0 ≡ x = λ a e. ap (λ (z : ℕ). get_or (set p.found j x) z 0) e ∙ get_or-set_same p.found j x 0 (omega (arith, o.found_each)) in
      let kept =
      copier_loads s r (m + m + j) id p p' at
      record {
        plan_is = o.plan_is;
        position_is = o.position_is;
        positions_are = o.positions_are;
        stage_is = o.stage_is;
        last = o.last;
        found_each = length-set p.found j x ∙ o.found_each;
        found_since = λ a la. dite (ℕ_discrete a j)
            (λ e. let g : taken s.words a ≡ x = ap (λ (z : ℕ). taken s.words z) e in omega (arith, here a e, g))
            (λ ne. let h = get_or-set_other p.found j a x 0 ne in let g = o.found_since a la in omega arith);
        undealt_is = o.undealt_is;
        copied_each = o.copied_each;
        retired_each = o.retired_each;
        all_copied = o.all_copied;
        all_found = λ k d a la. let two : get_or p.found a 0 ≡ 2 = o.all_found k d a la in dite (ℕ_discrete a j)
            (λ e. let b = o.found_since j l in let f : get_or p.found j 0 ≡ 2 = ap (λ (z : ℕ). get_or p.found z 0) (sym e) ∙ two in omega (arith, here a e, b, f, c.0, o.stage_is, o.last))
            (λ ne. get_or-set_other p.found j a x 0 ne ∙ two);
      }
      (λ k _ t. record { live = t.live; dead = t.dead; small = t.small; unwritten = t.unwritten })
      (λ k q _ _ t. record { first_is = t.first_is; same = t.same; checked = t.checked; wrote_first = t.wrote_first; wrote_second = t.wrote_second; wrote_value = t.wrote_value }) in
      (OfCopier p', keeps, tt, kept, (refl, (omega (arith, c.0, o.stage_is), omega (arith, c.1, o.stage_is)), o.found_since j l))

  -- the next stage, once every seat was found to have taken up this one and, at stage 0, every slot is copied
  pub posts : (slots id : ℕ) (p : CopierView) → FoundAll n p.stage p.found → p.stage < 2 → (p.stage ≡ 0 → AllMarked p.copied)
      → Allows (KeepsFlip plan) slots id (OfCopier p, []) (m + m + n) (λ _. p.stage + 1) (λ _ (me : Holder). me ≡ (OfCopier (record p { stage = p.stage + 1 }), []))
  posts slots id p all low copied s r _ at _ = let o : IsCopierView s.words plan (length s.views) id p = r.known id (OfCopier p) at in let x : ℕ = p.stage + 1 in let i : ℕ = m + m + n in let ws : List ℕ = set s.words i x in let p' : CopierView = record p { stage = x } in
      let here : stage ws ≡ x = get_or-set_same s.words i x 0 (omega (arith, r.words_are)) in let there : (j : ℕ) → j < n → taken ws j ≡ taken s.words j = λ j lj. get_or-set_other s.words i (m + m + j) x 0 (λ e. omega arith) in
      let kept =
      copier_steps s r ws s.homes id p p' at (length-set s.words i x)
      (λ j lj. let c = r.within_one_stage j lj in let f = o.found_since j lj in let a = all j lj in (omega (arith, c.0, there j lj, here, o.stage_is), omega (arith, f, a, there j lj, here)))
      record {
        plan_is = o.plan_is;
        position_is = o.position_is;
        positions_are = o.positions_are;
        stage_is = here;
        last = omega arith;
        found_each = o.found_each;
        found_since = λ j lj. let f = o.found_since j lj in omega (arith, f, there j lj);
        undealt_is = λ j d lj. there j lj ∙ o.undealt_is j d lj;
        copied_each = o.copied_each;
        retired_each = o.retired_each;
        all_copied = λ _. dite (ℕ_discrete p.stage 0) (λ e. copied e) (λ ne. o.all_copied (omega arith));
        all_found = o.all_found;
      }
      (λ j v ne k. others ws x here there (omega (arith, o.stage_is)) j v (λ e. ne (e ∙ sym o.position_is)) k)
      (λ k lk t. let u : Slot ws k p = apart (λ a b. IsSlot plan.limit a b k (owner k) p) s.words i k x (λ e. omega arith) (λ e. omega arith) t in record { live = u.live; dead = u.dead; small = u.small; unwritten = u.unwritten })
      (λ k q lk w t. let u : Twin ws k q p = apart (λ a b. IsTwin a b k q p) s.words i k x (λ e. omega arith) (λ e. omega arith) t in
      record { first_is = u.first_is; same = u.same; checked = u.checked; wrote_first = u.wrote_first; wrote_second = u.wrote_second; wrote_value = u.wrote_value }) in
      (OfCopier p', keeps, tt, kept, refl)
    where
      others : (ws : List ℕ) (x : ℕ) → stage ws ≡ x → ((j : ℕ) → j < n → taken ws j ≡ taken s.words j) → stage s.words ≤ x → (j : ℕ) (v : View) → j ≢ 0 → Knows s.words plan (length s.views) j v → Knows ws plan (length s.views) j v
      others ws x here there up j (OfWriter a) ne k = writer_still (there a.index k.in_range) (omega (arith, up, here)) k
      others ws x here there up j (OfCopier c) ne k = absurd (ne k.position_is)

  -- the mark over the first copy, once every seat was found at stage 2
  pub retires : (slots id i : ℕ) (p : CopierView) → i < m → FoundAll n 2 p.found
      → Allows (KeepsFlip plan) slots id (OfCopier p, []) i (λ _. retired_mark) (λ _ (me : Holder). me ≡ (OfCopier (record p { retired = set p.retired i true }), []))
  retires slots id i p l all s r _ at _ = let o : IsCopierView s.words plan (length s.views) id p = r.known id (OfCopier p) at in let ws : List ℕ = set s.words i retired_mark in let p' : CopierView = record p { retired = set p.retired i true } in
      let wide : i < length s.words = omega (arith, r.words_are) in let u : IsCopierView ws plan (length s.views) id p = knows_apart (length s.views) s.words i retired_mark (omega arith) id (OfCopier p) o in
      let here : (k : ℕ) → k ≡ i → first ws k ≡ retired_mark = λ k e. ap (λ (z : ℕ). get_or ws z 0) e ∙ get_or-set_same s.words i retired_mark 0 wide in
      let stays : (k : ℕ) → k < m → second ws k ≡ second s.words k = λ k lk. get_or-set_other s.words i (m + k) retired_mark 0 (λ e. omega arith) in
      let two : (j : ℕ) → j < n → 2 ≤ taken s.words j = λ j lj. let a = all j lj in let least = o.found_since j lj in omega arith in
      let retired_is : (k : ℕ) → k ≡ i → get_or (set p.retired i true) k false ≡ true = λ k e. ap (λ (z : ℕ). get_or (set p.retired i true) z false) e ∙ get_or-set_same p.retired i true false (omega (arith, o.retired_each)) in
      let kept =
      copier_steps s r ws s.homes id p p' at (length-set s.words i retired_mark) (paced_apart s.words i retired_mark (omega arith) r.within_one_stage)
      record {
        plan_is = u.plan_is;
        position_is = u.position_is;
        positions_are = u.positions_are;
        stage_is = u.stage_is;
        last = u.last;
        found_each = u.found_each;
        found_since = u.found_since;
        undealt_is = u.undealt_is;
        copied_each = u.copied_each;
        retired_each = length-set p.retired i true ∙ u.retired_each;
        all_copied = u.all_copied;
        all_found = λ _ _. all;
      }
      (λ j v _ k. knows_apart (length s.views) s.words i retired_mark (omega arith) j v k)
      (λ k lk t. dite (ℕ_discrete k i)
      (λ e. record {
        live = λ ne. absurd (ne (retired_is k e));
        dead = λ _. here k e;
        small = (t.small.0, t.small.1, stays k lk ∙ t.small.2);
        unwritten = λ h. let a = two (owner k) (r.owned k lk) in let b = o.undealt_is (owner k) h (r.owned k lk) in absurd (omega (arith, a, b));
      })
      (λ ne. let v : Slot ws k p = apart (λ a b. IsSlot plan.limit a b k (owner k) p) s.words i k retired_mark ne (λ e. omega arith) t in
      let kept : get_or (set p.retired i true) k false ≡ get_or p.retired k false = get_or-set_other p.retired i k true false ne in
      record { live = λ h. v.live (λ e. h (kept ∙ e)); dead = λ h. v.dead (sym kept ∙ h); small = v.small; unwritten = v.unwritten }))
      (λ k q lk w t. let high : q.taken_up ≤ 1 → ⊥ = λ h. let a = two q.index w.in_range in omega (arith, w.taken_up_is, a) in
      record {
        first_is = λ h. absurd (high h);
        same = λ c. subst (λ (z : ℕ). SaysWritten z k q) (sym (stays k lk)) (t.same c);
        checked = λ a b. subst (λ (z : ℕ). (z ≡ forward p.value) ⊎ SaysWritten z k q) (sym (stays k lk)) (t.checked a b);
        wrote_first = λ h. dite (ℕ_discrete k i) (λ e. absurd (h (retired_is k e)))
            (λ ne. subst (λ (z : ℕ). IsAmong q.wrote k z) (sym (get_or-set_other s.words i k retired_mark 0 ne)) (t.wrote_first (λ e. h (get_or-set_other p.retired i k true false ne ∙ e))));
        wrote_second = λ z h. t.wrote_second z (sym (stays k lk) ∙ h);
        wrote_value = t.wrote_value;
      }) in
      (OfCopier p', keeps, tt, kept, refl)
