-- One entry more.
use Rattle.std.proofs.Common.{◌≡◌, ◌≢◌, ℕ, zero, suc, ◌+◌, ◌<◌, List, [], ◌∷◌, ◌++◌, length, set, Some, refl, sym, ap, ◌∙◌, subst, arith, eq-eqb, ne_eqb, append_assoc, append-nil, add-one, get_or, ◌-◌, nat_eq}
use Rattle.std.proofs.lemmas.List.{length-set, replicate-append-replicate}
use Rattle.std.proofs.lemmas.List.Elements.{All-nil, All-push}
use Rattle.std.proofs.lemmas.Option.{slice_get_within}
use Rattle.std.specs.Prelude.{slice_get, replicate}
use native.Mathlib.Decide.{ℕ_discrete}
use mathlib.Core.Logic.{dite}
use Rattle.shared_machine.proofs.Moves.{get_same, get_other}
use Rattle.shared_machine.specs.Counts.{Count}
use Rattle.cil_model.specs.declared.events.Event.{Event}
use Rattle.cil_model.specs.declared.reports.Report.{Report}
use Rattle.interleaving_core.specs.simulation.MachineStates.{MachineState}
use Rattle.interleaving_core.specs.simulation.Runs.{AreTransitions}
use Rattle.interleaving_core.specs.simulation.Transitions.{IsTransition}
use Rattle.interleaving_core.proofs.Runs.LongerRuns.{does_more}
use Rattle.interleaving_core.proofs.Runs.FollowedRuns.{transitions_follow, transitions_length, transitions_more, transitions_program}
use Rattle.shared_machine.specs.Codes.{add}
use Rattle.shared_machine.specs.Histories.{IsSmall, plain, entry, events_of, reports_of, add_if, count_in_history, count_of}
use Rattle.shared_machine.specs.Worlds.{HasRun, IsSoundWorld, fresh}
use Rattle.shared_machine.specs.declared.history.Entry.{Entry}
use Rattle.shared_machine.specs.declared.history.Run.{Run}

-- the count of a history with one entry more
counted-more : (w c : ℕ) (h : List Entry) (e : Entry) → count_in_history w c (h ++ e ∷ []) ≡ add_if (nat_eq e.worker w) e (count_in_history w c h)
counted-more w c [] e = refl
counted-more w c (x ∷ h) e = counted-more w (add_if (nat_eq x.worker w) x c) h e

pub count_mine : (w : ℕ) (h : List Entry) (e : Event) (r : Report) → count_of w (h ++ entry w e r ∷ []) ≡ add (count_of w h) e r
count_mine w h e r = counted-more w 0 h (entry w e r) ∙ ap (λ b. add_if b (entry w e r) (count_of w h)) (eq-eqb w w refl)

count_other : (w v : ℕ) (h : List Entry) (e : Event) (r : Report) → v ≢ w → count_of w (h ++ entry v e r ∷ []) ≡ count_of w h
count_other w v h e r apart = counted-more w 0 h (entry v e r) ∙ ap (λ b. add_if b (entry v e r) (count_of w h)) (ne_eqb v w apart)

-- the events of a history with one entry more
pub events-more : (h : List Entry) (e : Entry) → events_of (h ++ e ∷ []) ≡ events_of h ++ e.event ∷ []
events-more [] e = refl
events-more (x ∷ h) e = ap (λ (l : List Event). x.event ∷ l) (events-more h e)

reports-more : (h : List Entry) (e : Entry) → reports_of (h ++ e ∷ []) ≡ reports_of h ++ e.report ∷ []
reports-more [] e = refl
reports-more (x ∷ h) e = ap (λ (l : List Report). x.report ∷ l) (reports-more h e)

transitions_after : (o core next : MachineState) (h : List Entry) (e : Entry) → AreTransitions o (events_of h) core (reports_of h) → IsTransition core e.event (next, e.report) → AreTransitions o (events_of (h ++ e ∷ [])) next (reports_of (h ++ e ∷ []))
transitions_after o core next h e transitions transition =
    subst (λ (x : List Event × List Report). AreTransitions o x.0 next x.1)
    (λ i. (sym (events-more h e) i, sym (reports-more h e) i))
    (transitions_more o core next (events_of h) (reports_of h) e.event e.report transitions transition)

-- the run that the transitions of a history make
pub has_run : (o core : MachineState) (h : List Entry) → AreTransitions o (events_of h) core (reports_of h) → HasRun o (events_of h) (reports_of h) core
has_run o core h transitions =
    let same = transitions_program o core (events_of h) (reports_of h) transitions in
    record {
      each = transitions_length o core (events_of h) (reports_of h) transitions;
      transitions = transitions;
      follows = transitions_follow o core (events_of h) (reports_of h) transitions;
      does = does_more o core (events_of h) (reports_of h) transitions;
      program = same.0;
      limits = same.1;
    }

pub sound_more : (o : MachineState) (workers : ℕ) (core next : MachineState) (h : List Entry) (book : List ℕ) (w n : ℕ) (e : Event) (r : Report)
    → IsSoundWorld o workers core h book → IsTransition core e (next, r) → IsSmall e → slice_get book w ≡ Some n → IsSoundWorld o workers next (h ++ entry w e r ∷ []) (set book w (add n e r))
sound_more o workers core next h book w n e r s transition small there =
    record {
      transitions = transitions_after o core next h (entry w e r) s.transitions transition;
      theirs = All-push (λ (x : Entry). (x.worker < workers) × IsSmall x.event) h (entry w e r) s.theirs (one_of, small);
      each = length-set book w (add n e r) ∙ s.each;
      counts = counts;
    }
  where
    one_of : w < workers
    one_of = subst (λ k. w < k) s.each (slice_get_within book w n there)

    counts : (v m : ℕ) → slice_get (set book w (add n e r)) v ≡ Some m → m ≡ count_of v (h ++ entry w e r ∷ [])
    counts v m got =
        dite (ℕ_discrete v w)
        (λ same.
        let here : slice_get (set book w (add n e r)) v ≡ Some (add n e r) = subst (λ k. slice_get (set book w (add n e r)) k ≡ Some (add n e r)) (sym same) (get_same book w n (add n e r) there) in
        let m_is : m ≡ add n e r = cc in
        let n_is : n ≡ count_of w h = s.counts w n there in
        m_is ∙ ap (λ k. add k e r) n_is ∙ sym (count_mine w h e r) ∙ ap (λ k. count_of k (h ++ entry w e r ∷ [])) (sym same))
        (λ apart.
        let there' : slice_get book v ≡ Some m = sym (get_other book w v (add n e r) apart) ∙ got in
        s.counts v m there' ∙ sym (count_other v w h e r (λ x. apart (sym x))))

-- runs
replicate-more : (n : ℕ) (e : Entry) → replicate (suc n) e ≡ replicate n e ++ e ∷ []
replicate-more zero e = refl
replicate-more (suc n) e = ap (λ (l : List Entry). e ∷ l) (replicate-more n e)

pub plain-push : (xs : List Run) (e : Entry) → plain (xs ++ record { entry = e; times = 1 } ∷ []) ≡ plain xs ++ e ∷ []
plain-push [] e = refl
plain-push (x ∷ xs) e = ap (λ (l : List Entry). replicate x.times x.entry ++ l) (plain-push xs e) ∙ sym (append_assoc (replicate x.times x.entry) (plain xs) (e ∷ []))

last_longer : (xs : List Run) (k : ℕ) (d : Run) (e : Entry) → length xs ≡ suc k → (get_or xs k d).entry ≡ e → plain (set xs k (record { entry = e; times = suc (get_or xs k d).times })) ≡ plain xs ++ e ∷ []
last_longer [] k d e len same = absurd (omega arith)
last_longer (x ∷ []) zero d e len same = append-nil _ ∙ replicate-more x.times e ∙ sym (ap (λ (l : List Entry). l ++ e ∷ []) (append-nil _ ∙ ap (λ (y : Entry). replicate x.times y) same))
last_longer (x ∷ y ∷ ys) zero d e len same = absurd (omega arith)
last_longer (x ∷ []) (suc k) d e len same = absurd (omega arith)
last_longer (x ∷ y ∷ ys) (suc k) d e len same =
    ap (λ (l : List Entry). replicate x.times x.entry ++ l) (last_longer (y ∷ ys) k d e (omega arith) same) ∙ sym (append_assoc (replicate x.times x.entry) (plain (y ∷ ys)) (e ∷ []))

pub plain-longer : (xs : List Run) (n : ℕ) (d new : Run) (e : Entry) → n ≡ length xs → n ≢ 0 → (get_or xs (n - 1) d).entry ≡ e → new ≡ record (get_or xs (n - 1) d) { times = (get_or xs (n - 1) d).times + 1 } → plain (set xs (n - 1) new) ≡ plain xs ++ e ∷ []
plain-longer xs n d new e len some same new_is =
    let old : Run = get_or xs (n - 1) d in
    let more : new ≡ record { entry = e; times = suc old.times } = new_is ∙ ap (λ (y : Entry × ℕ). record { entry = y.0; times = y.1 }) (λ i. (same i, add-one old.times i)) in
    ap (λ (r : Run). plain (set xs (n - 1) r)) more ∙ last_longer xs (n - 1) d e (omega arith) same

-- n times more
pub plain-push_by : (xs : List Run) (e : Entry) (n : ℕ) → plain (xs ++ record { entry = e; times = n } ∷ []) ≡ plain xs ++ replicate n e
plain-push_by [] e n = append-nil _
plain-push_by (x ∷ xs) e n = ap (λ (l : List Entry). replicate x.times x.entry ++ l) (plain-push_by xs e n) ∙ sym (append_assoc (replicate x.times x.entry) (plain xs) (replicate n e))

last_longer_by : (xs : List Run) (k : ℕ) (d : Run) (e : Entry) (n : ℕ) → length xs ≡ suc k → (get_or xs k d).entry ≡ e → plain (set xs k (record { entry = e; times = (get_or xs k d).times + n })) ≡ plain xs ++ replicate n e
last_longer_by [] k d e n len same = absurd (omega arith)
last_longer_by (x ∷ []) zero d e n len same =
    append-nil _ ∙ sym (replicate-append-replicate x.times n e) ∙ sym (ap (λ (l : List Entry). l ++ replicate n e) (append-nil _ ∙ ap (λ (y : Entry). replicate x.times y) same))
last_longer_by (x ∷ y ∷ ys) zero d e n len same = absurd (omega arith)
last_longer_by (x ∷ []) (suc k) d e n len same = absurd (omega arith)
last_longer_by (x ∷ y ∷ ys) (suc k) d e n len same =
    ap (λ (l : List Entry). replicate x.times x.entry ++ l) (last_longer_by (y ∷ ys) k d e n (omega arith) same) ∙ sym (append_assoc (replicate x.times x.entry) (plain (y ∷ ys)) (replicate n e))

pub plain-longer_by : (xs : List Run) (n : ℕ) (d new : Run) (e : Entry) (k : ℕ) → n ≡ length xs → n ≢ 0 → (get_or xs (n - 1) d).entry ≡ e → new ≡ record (get_or xs (n - 1) d) { times = (get_or xs (n - 1) d).times + k } → plain (set xs (n - 1) new) ≡ plain xs ++ replicate k e
plain-longer_by xs n d new e k len some same new_is =
    let old : Run = get_or xs (n - 1) d in
    let more : new ≡ record { entry = e; times = old.times + k } = new_is ∙ ap (λ (y : Entry). record { entry = y; times = old.times + k }) same in
    ap (λ (r : Run). plain (set xs (n - 1) r)) more ∙ last_longer_by xs (n - 1) d e k (omega arith) same

-- the same under equations
pub sound_at : (o : MachineState) (workers : ℕ) (core core' : MachineState) (h h' : List Entry) (book book' : List ℕ) → IsSoundWorld o workers core h book → core' ≡ core → h' ≡ h → book' ≡ book → IsSoundWorld o workers core' h' book'
sound_at o workers core core' h h' book book' s a b c = subst (λ (x : MachineState × (List Entry × List ℕ)). IsSoundWorld o workers x.0 x.1.0 x.1.1) (λ i. (sym a i, (sym b i, sym c i))) s

pub history_is : (all kept old : List Entry) (v w : ℕ) (e : Event) (r : Report) → all ≡ kept ++ entry v e r ∷ [] → kept ≡ old → v ≡ w → all ≡ old ++ entry w e r ∷ []
history_is all kept old v w e r a b c = a ∙ ap (λ (x : List Entry × ℕ). x.0 ++ entry x.1 e r ∷ []) (λ i. (b i, c i))

-- tickets
pub zeros-more : (xs : List ℕ) → ((w n : ℕ) → slice_get xs w ≡ Some n → n ≡ 0) → (w n : ℕ) → slice_get (xs ++ 0 ∷ []) w ≡ Some n → n ≡ 0
zeros-more [] h zero n e = cc
zeros-more [] h (suc w) n e = absurd (cc)
zeros-more (x ∷ xs) h zero n e = h zero n e
zeros-more (x ∷ xs) h (suc w) n e = zeros-more xs (λ v m f. h (suc v) m f) w n e

pub zeros-after : (xs ys : List ℕ) → ys ≡ xs ++ 0 ∷ [] → ((w n : ℕ) → slice_get xs w ≡ Some n → n ≡ 0) → (w n : ℕ) → slice_get ys w ≡ Some n → n ≡ 0
zeros-after xs ys e h w n got = zeros-more xs h w n (ap (λ (l : List ℕ). slice_get l w) (sym e) ∙ got)

pub fresh-more : (n : ℕ) (all rest : List Count) (t : Count) → all ≡ rest ++ t ∷ [] → rest ≡ fresh n → t ≡ record { worker = n; count = 0 } → all ≡ fresh (n + 1)
fresh-more n all rest t a b c = a ∙ ap (λ (x : List Count × Count). x.0 ++ x.1 ∷ []) (λ i. (b i, c i)) ∙ sym (ap fresh (add-one n))

-- before the first entry
pub sound_first : (o : MachineState) (workers : ℕ) (core : MachineState) (h : List Entry) (book : List ℕ) → core ≡ o → h ≡ [] → length book ≡ workers → ((w n : ℕ) → slice_get book w ≡ Some n → n ≡ 0) → IsSoundWorld o workers core h book
sound_first o workers core h book is none each zeros =
    subst (λ (x : List Entry). IsSoundWorld o workers core x book) (sym none)
    (record { transitions = (is, refl); theirs = All-nil (λ (x : Entry). (x.worker < workers) × IsSmall x.event); each = each; counts = zeros })
