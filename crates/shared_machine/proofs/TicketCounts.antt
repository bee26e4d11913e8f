-- What tickets have counted of their workers' own events.
use Rattle.std.proofs.Common.{◌≡◌, ℕ, zero, suc, ◌+◌, ◌<◌, List, [], ◌∷◌, ◌++◌, length, get_or, refl, sym, ap, ◌∙◌, subst, arith, eq-eqb, nat_eq, All, Bool, true, false, true≢false, Result, Ok, Err}
use Rattle.std.specs.Prelude.{◌&&◌, IfOk, OnErr}
use Rattle.std.proofs.lemmas.List.{get_or_append_left, get_or_push, length_push}
use Rattle.std.proofs.lemmas.List.Elements.{All-append, All-cons, All-nil}
use native.Mathlib.Decide.{ℕ_discrete}
use mathlib.Core.Logic.{dite}
use Rattle.cil_model.specs.declared.events.Event.{Event}
use Rattle.cil_model.specs.declared.limits.TheConstants.{MOST_THREADS}
use Rattle.cil_model.specs.declared.reports.Report.{Report}
use Rattle.cil_model.specs.declared.reports.Report.TheVariants.{Ran}
use Rattle.shared_machine.specs.Codes.{add}
use Rattle.shared_machine.specs.Histories.{IsSmall, add_if, count_in_history, entry}
use Rattle.shared_machine.specs.Worlds.{IfDid, IfNoMemory, add_event, added_times}
use Rattle.cil_model.specs.declared.events.Event.TheVariants.{Step}
use Rattle.shared_machine.specs.declared.answer.Answer.{Answer}
use Rattle.shared_machine.specs.declared.answer.Answer.TheVariants.{Did, NoMemory, Away}
use Rattle.shared_machine.specs.declared.history.Entry.{Entry}
use Rattle.shared_machine.specs.Counts.{Count}
use Rattle.shared_machine.specs.Work.{HasWorked, HaveWorked, IsEntryOf, IsOwn, is_driven_by}

-- ---- one worker

counted_append : (w c : ℕ) (h k : List Entry) → count_in_history w c (h ++ k) ≡ count_in_history w (count_in_history w c h) k
counted_append w c [] k = refl
counted_append w c (x ∷ h) k = counted_append w (add_if (nat_eq x.worker w) x c) h k

counted_one : (w c : ℕ) (e : Event) (r : Report) → count_in_history w c (entry w e r ∷ []) ≡ add c e r
counted_one w c e r = ap (λ b. add_if b (entry w e r) c) (eq-eqb w w refl)

pub worked_nothing : (workers : ℕ) (t : Count) → HasWorked workers t t
worked_nothing workers t = record {
  entries = [];
  own = All-nil (IsEntryOf workers t.worker);
  same = refl;
  count = refl;
}

pub worked_both : (workers : ℕ) (t u v : Count) → HasWorked workers t u → HasWorked workers u v → HasWorked workers t v
worked_both workers t u v first second = record {
  entries = first.entries ++ second.entries;
  own = All-append (IsEntryOf workers t.worker) first.entries second.entries first.own (subst (λ w. All (IsEntryOf workers w) second.entries) first.same second.own);
  same = second.same ∙ first.same;
  count = second.count ∙ ap (λ w. count_in_history w u.count second.entries) first.same ∙ ap (λ n. count_in_history t.worker n second.entries) first.count
      ∙ sym (counted_append t.worker t.count first.entries second.entries);
}

did : (workers : ℕ) (t u : Count) (e : Event) (r : Report) → u ≡ add_event t e r → IsSmall e → IsOwn workers t.worker e → HasWorked workers t u
did workers t u e r is small own = record {
  entries = entry t.worker e r ∷ [];
  own = All-cons (IsEntryOf workers t.worker) (entry t.worker e r) [] (refl, small, own) (All-nil (IsEntryOf workers t.worker));
  same = ap (λ (c : Count). c.worker) is;
  count = ap (λ (c : Count). c.count) is ∙ sym (counted_one t.worker t.count e r);
}

-- an event that `act` has answered
pub worked_once : (workers : ℕ) (t u : Count) (x : Answer) (e : Event) → IfDid x (λ r. u ≡ add_event t e r) → IfNoMemory x (u ≡ t) → IsSmall e → IsOwn workers t.worker e
    → HasWorked workers t u
worked_once workers t u (Did r) e counts same small own = did workers t u e r counts small own
worked_once workers t u NoMemory e counts same small own = subst (λ (v : Count). HasWorked workers t v) (sym same) (worked_nothing workers t)
worked_once workers t u Away e counts same small own = subst (λ (v : Count). HasWorked workers t v) (sym same) (worked_nothing workers t)

pub second_if : (x : Answer) (P Q : Type 0) → IfNoMemory x (P × Q) → IfNoMemory x Q
second_if (Did r) P Q have = tt
second_if NoMemory P Q have = have.1
second_if Away P Q have = have.1

-- an event that was done n times
worked_more : (workers : ℕ) (t : Count) (n : ℕ) (e : Event) (r : Report) → IsSmall e → IsOwn workers t.worker e → HasWorked workers t (added_times t n e r)
worked_more workers t zero e r small own = worked_nothing workers t
worked_more workers t (suc n) e r small own = worked_both workers t (add_event t e r) (added_times t (suc n) e r) (did workers t (add_event t e r) e r refl small own) (worked_more workers (add_event t e r) n e r small own)

pub worked_times : (workers : ℕ) (t u : Count) (n lent thread : ℕ) (r : Report) → lent ≡ thread → u ≡ added_times t n (Step lent) r → thread < MOST_THREADS → IsOwn workers t.worker (Step thread)
    → HasWorked workers t u
worked_times workers t u n lent thread r same is inside own =
    subst (λ (v : Count). HasWorked workers t v) (sym (is ∙ ap (λ x. added_times t n (Step x) r) same)) (worked_more workers t n (Step thread) r (omega (arith, inside)) own)

-- local instructions in place, unless memory ran out
pub worked_in_place : {X : Type 0} (workers : ℕ) (t u : Count) (thread : ℕ) (x : Result ℕ X) → IfOk x (λ n. u ≡ added_times t n (Step thread) Ran) → OnErr x (u ≡ t) → IsOwn workers t.worker (Step thread) → HasWorked workers t u
worked_in_place workers t u thread (Ok n) counted same own = worked_times workers t u n thread thread Ran refl counted own.0 own
worked_in_place workers t u thread (Err e) counted same own = subst (λ (v : Count). HasWorked workers t v) (sym same) (worked_nothing workers t)

-- steps of a thread, and then more of it
pub worked_then : (workers : ℕ) (t u v : Count) (thread : ℕ) → IsOwn workers t.worker (Step thread) → HasWorked workers t u → ((n : ℕ) → IsOwn n u.worker (Step thread) → HasWorked n u v) → HasWorked workers t v
worked_then workers t u v thread own before more = worked_both workers t u v before (more workers (own.0, subst (λ w. is_driven_by workers w thread ≡ true) (sym before.same) own.1))

-- the first thread is worker 0's own, where it is alone
pub first_is_own : (worker : ℕ) → worker ≡ 0 → IsOwn 1 worker (Step 0)
first_is_own worker is = subst (λ w. IsOwn 1 w (Step 0)) (sym is) (omega arith, refl)

-- worker 0 alone has done events of its own, and then more
pub worked_alone : (t u v : Count) → (t.worker ≡ 0 → HasWorked 1 t u) → (u.worker ≡ 0 → HasWorked 1 u v) → t.worker ≡ 0 → HasWorked 1 t v
worked_alone t u v first second is = let done = first is in worked_both 1 t u v done (second (done.same ∙ is))

-- the same workers and the same ticket under equations
pub worked_as : (workers workers' : ℕ) (t t' u : Count) → workers' ≡ workers → t' ≡ t → HasWorked workers' t' u → HasWorked workers t u
worked_as workers workers' t t' u same same' did = subst (λ (p : ℕ × Count). HasWorked p.0 p.1 u) (λ k. (same k, same' k)) did

-- a worker drives a thread that it serves, by its number as it was read
pub served : (workers worker own thread : ℕ) (live serves : Bool) → worker ≡ own → serves ≡ (live && is_driven_by workers worker thread) → serves ≡ true → is_driven_by workers own thread ≡ true
served workers worker own thread live serves same is so = ap (λ w. is_driven_by workers w thread) (sym same) ∙ second live (is_driven_by workers worker thread) (sym is ∙ so)
  where
    second : (a b : Bool) → (a && b) ≡ true → b ≡ true
    second true b both = both
    second false b both = absurd (true≢false (sym both))

-- ---- several workers

one_more : (workers : ℕ) (ts us : List Count) (t u : Count) → HaveWorked workers ts us → HasWorked workers t u → HaveWorked workers (ts ++ t ∷ []) (us ++ u ∷ [])
one_more workers ts us t u before more = record {
  each = length_push us u ∙ ap (λ n. n + 1) before.each ∙ sym (length_push ts t);
  worked = worked;
}
  where
    worked : (i : ℕ) (d : Count) → i < length (ts ++ t ∷ []) → HasWorked workers (get_or (ts ++ t ∷ []) i d) (get_or (us ++ u ∷ []) i d)
    worked i d below = dite (ℕ_discrete i (length ts))
        (λ last.
        let first : get_or (ts ++ t ∷ []) i d ≡ t = get_or_push ts t d i (sym last) in
        let second : get_or (us ++ u ∷ []) i d ≡ u = get_or_push us u d i (before.each ∙ sym last) in
        subst (λ (p : Count × Count). HasWorked workers p.0 p.1) (λ k. (sym first k, sym second k)) more)
        (λ early.
        let long = length_push ts t in
        let inside : i < length ts = omega (arith, long) in
        let same = before.each in
        let first : get_or (ts ++ t ∷ []) i d ≡ get_or ts i d = get_or_append_left ts (t ∷ []) d i inside in
        let second : get_or (us ++ u ∷ []) i d ≡ get_or us i d = get_or_append_left us (u ∷ []) d i (omega (arith, same)) in
        subst (λ (p : Count × Count). HasWorked workers p.0 p.1) (λ k. (sym first k, sym second k)) (before.worked i d inside))

-- one worker more
pub have_worked_more : (workers : ℕ) (all rest news done : List Count) (t u : Count) → all ≡ rest ++ t ∷ [] → news ≡ done ++ u ∷ [] → HaveWorked workers rest done → HasWorked workers t u
    → HaveWorked workers all news
have_worked_more workers all rest news done t u is is' before more =
    subst (λ (p : List Count × List Count). HaveWorked workers p.0 p.1) (λ k. (sym is k, sym is' k)) (one_more workers rest done t u before more)
