-- Counts in a history that is kept as runs.
use Rattle.std.proofs.Common.{◌≡◌, ℕ, ◌+◌, ◌*◌, ◌-◌, ◌^◌, ◌<◌, Bool, true, false, cond, List, [], ◌∷◌, ◌++◌, length, get_or, take, refl, sym, ap, ◌∙◌, append-nil, append_assoc, arith, min}
use Rattle.std.proofs.lemmas.List.{take_more}
use Rattle.std.proofs.lemmas.List.Sums.{sum_by-append, sum_by-cons}
use Rattle.std.proofs.lemmas.List.Folds.{sum_by-replicate}
use Rattle.std.specs.List.{count_by, zip}
use Rattle.std.specs.Prelude.{replicate}
use Rattle.cil_model.specs.declared.events.Event.{Event}
use Rattle.cil_model.specs.declared.reports.Report.{Report}
use Rattle.run_statistics.specs.Counts.{is_counted}
use Rattle.run_statistics.specs.declared.quantity.Quantity.{Quantity}
use Rattle.shared_machine.specs.Histories.{events_of, plain, reports_of}
use Rattle.shared_machine.specs.declared.history.Entry.{Entry}
use Rattle.shared_machine.specs.declared.history.Run.{Run}

abbrev is_counted_entry : Quantity → Entry → Bool
is_counted_entry q e = is_counted q e.event e.report

-- how many entries are counted
abbrev pub counted : Quantity → List Entry → ℕ
counted q entries = count_by (is_counted_entry q) entries

-- the count is the same for events with their reports
pub counted_pairs : (q : Quantity) (entries : List Entry)
    → count_by (λ (e : Event × Report). is_counted q e.0 e.1) (zip (events_of entries) (reports_of entries)) ≡ counted q entries
counted_pairs q [] = refl
counted_pairs q (e ∷ es) =
    sum_by-cons (λ (p : Event × Report). cond (is_counted q p.0 p.1) 1 0) (e.event, e.report) (zip (events_of es) (reports_of es))
    ∙ ap (λ n. cond (is_counted_entry q e) 1 0 + n) (counted_pairs q es)
    ∙ sym (sum_by-cons (λ (e : Entry). cond (is_counted_entry q e) 1 0) e es)

plain-append : (xs ys : List Run) → plain (xs ++ ys) ≡ plain xs ++ plain ys
plain-append [] ys = refl
plain-append (x ∷ xs) ys = ap (λ (l : List Entry). replicate x.times x.entry ++ l) (plain-append xs ys) ∙ sym (append_assoc (replicate x.times x.entry) (plain xs) (plain ys))

plain_one : (r : Run) → plain (r ∷ []) ≡ replicate r.times r.entry
plain_one r = append-nil (replicate r.times r.entry)

-- the entries of the runs so far, and those of one run more
pub plain_more : (runs : List Run) (i : ℕ) (d : Run) → i < length runs → plain (take (i + 1) runs) ≡ plain (take i runs) ++ replicate (get_or runs i d).times (get_or runs i d).entry
plain_more runs i d below =
    let r : Run = get_or runs i d in
    ap plain (take_more runs i d below) ∙ plain-append (take i runs) (r ∷ []) ∙ ap (λ (l : List Entry). plain (take i runs) ++ l) (plain_one r)

-- one run more
counted_more : (q : Quantity) (runs : List Run) (i : ℕ) (d : Run) → i < length runs
    → counted q (plain (take (i + 1) runs)) ≡ counted q (plain (take i runs)) + (get_or runs i d).times * cond (is_counted_entry q (get_or runs i d).entry) 1 0
counted_more q runs i d below =
    let r : Run = get_or runs i d in
    ap (counted q) (plain_more runs i d below)
    ∙ sum_by-append (λ (e : Entry). cond (is_counted_entry q e) 1 0) (plain (take i runs)) (replicate r.times r.entry)
    ∙ ap (λ n. counted q (plain (take i runs)) + n) (sum_by-replicate (λ (e : Entry). cond (is_counted_entry q e) 1 0) r.times r.entry)

-- a number of 64 bits, or the largest of them
abbrev pub capped : ℕ → ℕ
capped n = min n (2 ^ 64 - 1)

-- it is counted
pub more_yes : (q : Quantity) (runs : List Run) (i : ℕ) (d : Run) (number after : ℕ) → i < length runs
    → is_counted q (get_or runs i d).entry.event (get_or runs i d).entry.report ≡ true
    → number ≡ capped (counted q (plain (take i runs))) → after ≡ capped (number + (get_or runs i d).times)
    → after ≡ capped (counted q (plain (take (i + 1) runs)))
more_yes q runs i d number after below included so_far is =
    let whole = counted_more q runs i d below in
    let one : ◌≡◌ {A = ℕ} (cond (is_counted_entry q (get_or runs i d).entry) 1 0) 1 = ap (λ b. cond {A = ℕ} b 1 0) included in
    let times : (get_or runs i d).times * cond (is_counted_entry q (get_or runs i d).entry) 1 0 ≡ (get_or runs i d).times = rw one (omega arith) in
    omega (arith, whole, times, so_far, is)

-- it isn't
pub more_no : (q : Quantity) (runs : List Run) (i : ℕ) (d : Run) (number : ℕ) → i < length runs
    → is_counted q (get_or runs i d).entry.event (get_or runs i d).entry.report ≡ false
    → number ≡ capped (counted q (plain (take i runs))) → number ≡ capped (counted q (plain (take (i + 1) runs)))
more_no q runs i d number below excluded so_far =
    let whole = counted_more q runs i d below in
    let none : ◌≡◌ {A = ℕ} (cond (is_counted_entry q (get_or runs i d).entry) 1 0) 0 = ap (λ b. cond {A = ℕ} b 1 0) excluded in
    let times : (get_or runs i d).times * cond (is_counted_entry q (get_or runs i d).entry) 1 0 ≡ 0 = rw none (omega arith) in
    omega (arith, whole, times, so_far)
