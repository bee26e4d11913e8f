-- Each entry of a history is an event of its worker's own, where each ticket has counted such alone.
use Rattle.std.proofs.Common.{◌≡◌, ℕ, zero, suc, ◌+◌, ◌<◌, List, [], ◌∷◌, length, get_or, refl, sym, ap, ◌∙◌, subst, arith, add-one, eq-eqb, nat_eq, All, Bool, true, false}
use Rattle.std.proofs.lemmas.List.{get_or_append_left, get_or_default, get_or_push, length_push}
use Rattle.std.proofs.lemmas.List.Elements.{All-cons, All-get_or, All-head, All-nil, All-tail, All-weaker}
use native.Mathlib.Decide.{ℕ_discrete}
use mathlib.Core.Logic.{dite}
use Rattle.cil_model.specs.declared.events.Event.{Event}
use Rattle.cil_model.specs.declared.reports.Report.{Report}
use Rattle.shared_machine.specs.Histories.{AreOf, AreSmall, IsSmall, count_of, count_in_history, pairs_if, pairs_of}
use Rattle.shared_machine.specs.Worlds.{AgreesWith, IsComplete, fresh}
use Rattle.shared_machine.specs.declared.history.Entry.{Entry}
use Rattle.shared_machine.proofs.Codes.{fixes}
use Rattle.shared_machine.specs.Counts.{Count}
use Rattle.shared_machine.specs.Work.{HasWorked, HaveWorked, IsEntryOf, IsOwn, IsOwnOf}

-- ---- the events of one worker among entries

-- the event of a pair is one of these
abbrev Of : (Event → Type 0) → Event × Report → Type 0
Of P p = P p.0

-- so is that of an entry of this worker
abbrev OfMine : (Event → Type 0) → ℕ → Entry → Type 0
OfMine P w e = e.worker ≡ w → P e.event

added_if : (P : Event → Type 0) (b : Bool) (e : Entry) (ps : List (Event × Report)) → P e.event → All (Of P) ps → All (Of P) (pairs_if b e ps)
added_if P true e ps here have = All-cons (Of P) (e.event, e.report) ps here have
added_if P false e ps here have = have

pairs_have : (P : Event → Type 0) (w : ℕ) (h : List Entry) (ps : List (Event × Report)) → All (λ (e : Entry). P e.event) h → All (Of P) ps → All (Of P) (pairs_of w ps h)
pairs_have P w [] ps all have = have
pairs_have P w (e ∷ es) ps all have =
    let here = All-head (λ (x : Entry). P x.event) e es all in
    pairs_have P w es (pairs_if (nat_eq e.worker w) e ps) (All-tail (λ (x : Entry). P x.event) e es all) (added_if P (nat_eq e.worker w) e ps here have)

left_of : (P : Event → Type 0) (b : Bool) (e : Entry) (ps : List (Event × Report)) → All (Of P) (pairs_if b e ps) → All (Of P) ps
left_of P true e ps have = All-tail (Of P) (e.event, e.report) ps have
left_of P false e ps have = have

first_of : (P : Event → Type 0) (e : Entry) (ps : List (Event × Report)) → All (Of P) (pairs_if true e ps) → P e.event
first_of P e ps have = All-head (Of P) (e.event, e.report) ps have

entries_have : (P : Event → Type 0) (w : ℕ) (h : List Entry) (ps : List (Event × Report)) → All (Of P) (pairs_of w ps h) → All (Of P) ps × All (OfMine P w) h
entries_have P w [] ps have = (have, All-nil (OfMine P w))
entries_have P w (e ∷ es) ps have =
    let rest = entries_have P w es (pairs_if (nat_eq e.worker w) e ps) have in
    let here : OfMine P w e = λ mine. first_of P e ps (subst (λ b. All (Of P) (pairs_if b e ps)) (eq-eqb e.worker w mine) rest.0) in
    (left_of P (nat_eq e.worker w) e ps rest.0, All-cons (OfMine P w) e es here rest.1)

small_if : (b : Bool) (e : Entry) (ps : List (Event × Report)) → IsSmall e.event → AreSmall ps → AreSmall (pairs_if b e ps)
small_if true e ps small all = (small, all)
small_if false e ps small all = all

small_pairs : (w : ℕ) (h : List Entry) (ps : List (Event × Report)) → All (λ (e : Entry). IsSmall e.event) h → AreSmall ps → AreSmall (pairs_of w ps h)
small_pairs w [] ps small all = all
small_pairs w (e ∷ es) ps small all =
    small_pairs w es (pairs_if (nat_eq e.worker w) e ps) (All-tail (λ (x : Entry). IsSmall x.event) e es small)
    (small_if (nat_eq e.worker w) e ps (All-head (λ (x : Entry). IsSmall x.event) e es small) all)

-- ---- tickets

-- a worker's ticket before its first event
abbrev initial_state : ℕ → Count
initial_state w = record { worker = w; count = 0 }

pub length_fresh : (n : ℕ) → length (fresh n) ≡ n
length_fresh zero = refl
length_fresh (suc n) = length_push (fresh n) (initial_state n) ∙ ap (λ k. k + 1) (length_fresh n) ∙ add-one n

fresh_at : (n w : ℕ) (d : Count) → w < n → get_or (fresh n) w d ≡ initial_state w
fresh_at zero w d below = absurd (omega arith)
fresh_at (suc n) w d below =
    let long = length_fresh n in
    dite (ℕ_discrete w n)
    (λ last. get_or_push (fresh n) (initial_state n) d w (long ∙ sym last) ∙ ap initial_state (sym last))
    (λ early. get_or_append_left (fresh n) (initial_state n ∷ []) d w (omega (arith, long)) ∙ fresh_at n w d (omega arith))

-- the entries of a worker whose ticket has counted events of its own alone are such
own_entries : (workers w : ℕ) (t u : Count) (h : List Entry) → t ≡ initial_state w → HasWorked workers t u → AgreesWith h u → AreOf workers h → All (OfMine (IsOwn workers w) w) h
own_entries workers w t u h is worked agrees of =
    let at : t.worker ≡ w = ap (λ (c : Count). c.worker) is in
    let none : t.count ≡ 0 = ap (λ (c : Count). c.count) is in
    let did : List Entry = worked.entries in
    let own : All (IsEntryOf workers w) did = subst (λ v. All (IsEntryOf workers v) did) at worked.own in
    let same : count_of w h ≡ count_of w did = ap (λ v. count_of v h) (sym (worked.same ∙ at)) ∙ sym agrees ∙ worked.count ∙ ap (λ v. count_in_history v t.count did) at ∙ ap (λ c. count_in_history w c did) none in
    let small = small_pairs w h [] (All-weaker (λ (e : Entry). (e.worker < workers) × IsSmall e.event) (λ (e : Entry). IsSmall e.event) (λ e k. k.1) h of) tt in
    let small' = small_pairs w did [] (All-weaker (IsEntryOf workers w) (λ (e : Entry). IsSmall e.event) (λ e k. k.1) did own) tt in
    let pairs : pairs_of w [] h ≡ pairs_of w [] did = fixes w h did small small' same in
    let have = pairs_have (IsOwn workers w) w did [] (All-weaker (IsEntryOf workers w) (λ (e : Entry). IsOwn workers w e.event) (λ e k. k.2) did own) (All-nil (Of (IsOwn workers w))) in
    (entries_have (IsOwn workers w) w h [] (subst (All (Of (IsOwn workers w))) (sym pairs) have)).1

-- the tickets of all workers, from the first event on, have counted what the history has
pub all_own : (workers : ℕ) (before after : List Count) (h : List Entry) → before ≡ fresh workers → HaveWorked workers before after → AreOf workers h → All (AgreesWith h) after
    → All (IsOwnOf workers) h
all_own workers before after h is worked of agree = each
  where
    each : All (IsOwnOf workers) h
    each i d below =
        let w : ℕ = (get_or h i d).worker in
        let inside : w < workers = (All-get_or (λ (e : Entry). (e.worker < workers) × IsSmall e.event) h i d below of).0 in
        let long : length before ≡ workers = ap length is ∙ length_fresh workers in
        let same = worked.each in
        let first : get_or before w (initial_state 0) ≡ initial_state w = ap (λ l. get_or l w (initial_state 0)) is ∙ fresh_at workers w (initial_state 0) inside in
        let theirs = own_entries workers w (get_or before w (initial_state 0)) (get_or after w (initial_state 0)) h first (worked.worked w (initial_state 0) (omega (arith, long)))
        (All-get_or (AgreesWith h) after w (initial_state 0) (omega (arith, long, same)) agree) of in
        All-get_or (OfMine (IsOwn workers w) w) h i d below theirs refl

-- no worker's ticket is missing among those that came back
pub complete : (workers : ℕ) (before after : List Count) → before ≡ fresh workers → HaveWorked workers before after → IsComplete workers after
complete workers before after is worked w inside =
    let long : length before ≡ workers = ap length is ∙ length_fresh workers in
    let same = worked.each in
    let there : w < length after = omega (arith, long, same) in
    let first : get_or before w (initial_state 0) ≡ initial_state w = ap (λ l. get_or l w (initial_state 0)) is ∙ fresh_at workers w (initial_state 0) inside in
    let u : Count = get_or after w (initial_state 0) in
    (w, u, there, get_or_default after w u (initial_state 0) there, (worked.worked w (initial_state 0) (omega (arith, long))).same ∙ ap (λ (c : Count). c.worker) first)
