-- A worker that is alone: its count fixes the history.
use Rattle.std.proofs.Common.{◌≡◌, ℕ, Bool, true, ◌+◌, ◌<◌, List, [], ◌≤◌, ◌∷◌, ◌++◌, get_or, take, length, replicate, refl, sym, ap, ◌∙◌, subst, append_assoc, arith, eq-eqb, All, nat_eq}
use Rattle.std.proofs.lemmas.List.{append-nil, length-append, replicate_more}
use Rattle.std.proofs.lemmas.List.Elements.{All-head, All-nil, All-push, All-tail, All-weaker}
use Rattle.shared_machine.specs.Counts.{Count}
use Rattle.cil_model.specs.declared.events.Event.{Event}
use Rattle.cil_model.specs.declared.reports.Report.{Report}
use Rattle.schedule_text.specs.Items.{events_of as events_in}
use Rattle.schedule_text.specs.declared.items.Item.{Item}
use Rattle.schedule_text.proofs.SoFar.{so_far, so_far_all, so_far_before}
use Rattle.shared_machine.specs.Codes.{add}
use Rattle.shared_machine.specs.Histories.{AreOf, AreSmall, IsSmall, count_of, entry, events_of, pairs_if, pairs_of}
use Rattle.shared_machine.specs.Worlds.{AgreesWith, AreDoneOf, HasCounted, HasCountedFirst, IfDid, add_event}
use Rattle.shared_machine.specs.declared.answer.Answer.{Answer}
use Rattle.shared_machine.specs.declared.answer.Answer.TheVariants.{Did}
use Rattle.shared_machine.specs.declared.history.Entry.{Entry}
use Rattle.shared_machine.proofs.Codes.{fixes}
use Rattle.shared_machine.proofs.Histories.{count_mine, events-more}

-- of this one entry
abbrev IsMine : Entry → Type 0
IsMine e = (e.worker ≡ 0) × IsSmall e.event

-- all entries are of worker 0
abbrev pub AreMine : List Entry → Type 0
AreMine h = All IsMine h

-- they are those of the only worker
pub of_one : (h : List Entry) → AreOf 1 h → AreMine h
of_one h of = All-weaker (λ (e : Entry). (e.worker < 1) × IsSmall e.event) IsMine (λ e k. (omega (arith, k.0), k.1)) h of

-- ---- a history of worker 0 is its events and reports

small_pairs : (h : List Entry) (ps : List (Event × Report)) → AreMine h → AreSmall ps → AreSmall (pairs_of 0 ps h)
small_pairs [] ps mine small = small
small_pairs (e ∷ es) ps mine small =
    let one : IsMine e = All-head IsMine e es mine in
    let here : pairs_if (nat_eq e.worker 0) e ps ≡ (e.event, e.report) ∷ ps = ap (λ b. pairs_if b e ps) (eq-eqb e.worker 0 one.0) in
    small_pairs es (pairs_if (nat_eq e.worker 0) e ps) (All-tail IsMine e es mine) (subst AreSmall (sym here) (one.1, small))

-- events with their reports, the newest first, as entries of worker 0 before those that are given
onto : List (Event × Report) → List Entry → List Entry
onto [] es = es
onto (p ∷ ps) es = onto ps (entry 0 p.0 p.1 ∷ es)

onto_pairs : (h : List Entry) (ps : List (Event × Report)) → AreMine h → onto (pairs_of 0 ps h) [] ≡ onto ps h
unfolding onto
onto_pairs [] ps mine = refl
onto_pairs (e ∷ es) ps mine =
    let one : IsMine e = All-head IsMine e es mine in
    let more = onto_pairs es ((e.event, e.report) ∷ ps) (All-tail IsMine e es mine) in
    let is : entry 0 e.event e.report ≡ e = ap (λ (w : ℕ). entry w e.event e.report) (sym one.0) in
    ap (λ b. onto (pairs_of 0 (pairs_if b e ps) es) []) (eq-eqb e.worker 0 one.0) ∙ more ∙ ap (λ (x : Entry). onto ps (x ∷ es)) is

-- equal counts, equal histories
same_history : (h k : List Entry) → AreMine h → AreMine k → count_of 0 h ≡ count_of 0 k → h ≡ k
unfolding onto
same_history h k mine mine' same =
    let pairs : pairs_of 0 [] h ≡ pairs_of 0 [] k = fixes 0 h k (small_pairs h [] mine tt) (small_pairs k [] mine' tt) same in
    sym (onto_pairs h [] mine) ∙ ap (λ ps. onto ps []) pairs ∙ onto_pairs k [] mine'

-- ---- the only worker's ticket

-- an entry of one worker
abbrev IsOfOne : Entry → Type 0
IsOfOne e = (e.worker < 1) × IsSmall e.event

pub counted_first : (t : Count) → t ≡ record { worker = 0; count = 0 } → HasCounted [] t
counted_first t is = record {
  entries = [];
  are = refl;
  mine = All-nil IsOfOne;
  worker = ap (λ (c : Count). c.worker) is;
  count = ap (λ (c : Count). c.count) is;
}

pub counted_more : (events : List Event) (e : Event) (t next : Count) (x : Answer) (r : Report) → IsSmall e → HasCounted events t → x ≡ Did r
    → IfDid x (λ s. next ≡ add_event t e s) → HasCounted (events ++ e ∷ []) next
counted_more events e t next x r small h reported did' =
    let did : next ≡ add_event t e r = subst (λ (a : Answer). IfDid a (λ s. next ≡ add_event t e s)) reported did' in
    record {
      entries = h.entries ++ entry 0 e r ∷ [];
      are = events-more h.entries (entry 0 e r) ∙ ap (λ (es : List Event). es ++ e ∷ []) h.are;
      mine = All-push IsOfOne h.entries (entry 0 e r) h.mine (omega arith, small);
      worker = ap (λ (c : Count). c.worker) did ∙ h.worker;
      count = ap (λ (c : Count). c.count) did ∙ ap (λ n. add n e r) h.count ∙ sym (count_mine 0 h.entries e r);
    }

-- ---- item by item

-- none of an item's yet
pub counted_none : (before : List Event) (e : Event) (t : Count) → HasCounted before t → HasCounted (before ++ replicate 0 e) t
counted_none before e t h = subst (λ es. HasCounted es t) (sym (append-nil before)) h

-- one more of them
pub counted_time : (before : List Event) (e : Event) (n : ℕ) (t next : Count) (x : Answer) (r : Report) → IsSmall e → HasCounted (before ++ replicate n e) t → x ≡ Did r
    → IfDid x (λ s. next ≡ add_event t e s) → HasCounted (before ++ replicate (n + 1) e) next
counted_time before e n t next x r small h reported did =
    subst (λ es. HasCounted es next) (append_assoc before (replicate n e) (e ∷ []) ∙ ap (λ es. before ++ es) (replicate_more n e)) (counted_more (before ++ replicate n e) e t next x r small h reported did)

-- all of them
pub counted_times : (before : List Event) (e : Event) (n count : ℕ) (t : Count) → count ≤ n → n ≤ count → HasCounted (before ++ replicate n e) t → HasCounted (before ++ replicate count e) t
counted_times before e n count t past within h = let all : n ≡ count = omega arith in subst (λ m. HasCounted (before ++ replicate m e) t) all h

-- one item more
pub counted_item : (items : List Item) (i : ℕ) (d : Item) (t : Count) → i < length items → HasCounted (so_far items i (get_or items i d).event (get_or items i d).count) t → HasCounted (events_in (take (i + 1) items)) t
counted_item items i d t below h = subst (λ es. HasCounted es t) (so_far_all items i d below) h

-- some of an item's alone
pub counted_part : (items : List Item) (i : ℕ) (d : Item) (t : Count) (n : ℕ) → i < length items → n < (get_or items i d).count
    → HasCounted (so_far items i (get_or items i d).event n) t → HasCountedFirst (events_in items) t
counted_part items i d t n below few h = record {
  done = so_far items i (get_or items i d).event n;
  rest = _;
  are = so_far_before items i d below n few;
  counted = h;
}

-- all are done
pub all_done : (events done : List Event) (stopped : Bool) → done ≡ events → AreDoneOf events done stopped
all_done events done stopped same = record { rest = []; are = sym (append-nil done ∙ same); all = λ none. refl }

-- the first are done
pub first_done : (events done rest : List Event) → events ≡ done ++ rest → AreDoneOf events done true
first_done events done rest are = record { rest = rest; are = are; all = λ none. absurd (cc none) }

-- so these are the history's
pub counted_all : (events : List Event) (t : Count) (history : List Entry) → HasCounted events t → AreOf 1 history → AgreesWith history t → events_of history ≡ events
counted_all events t history h of agrees =
    let same : count_of 0 history ≡ count_of 0 h.entries = ap (λ w. count_of w history) (sym h.worker) ∙ sym agrees ∙ h.count in
    ap events_of (same_history history h.entries (of_one history of) (of_one h.entries h.mine) same) ∙ h.are

-- the only ticket, taken from the list that it is alone in
pub taken : (all rest : List Count) (t first : Count) → all ≡ rest ++ t ∷ [] → all ≡ first ∷ [] → (t ≡ first) × (rest ≡ [])
taken all [] t first a b = let e : t ∷ [] ≡ first ∷ [] = sym a ∙ b in (cc, refl)
taken all (x ∷ xs) t first a b =
    let long : length (x ∷ (xs ++ t ∷ [])) ≡ 1 = ap length (sym a ∙ b) in
    absurd (omega (arith, long, length-append xs (t ∷ [])))

-- what is true of each ticket in the list is true of it
pub of_only : (P : Count → Type 0) (all rest : List Count) (t : Count) → all ≡ rest ++ t ∷ [] → rest ≡ [] → All P all → P t
of_only P all rest t a b h = All-head P t [] (subst (All P) (a ∙ ap (λ (l : List Count). l ++ t ∷ []) b) h)
