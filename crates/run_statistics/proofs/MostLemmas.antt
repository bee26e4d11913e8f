-- The most words in use, run by run.
use Rattle.std.proofs.Common.{◌≡◌, ℕ, zero, suc, ◌+◌, ◌<◌, ◌≤◌, List, [], ◌∷◌, ◌++◌, length, get_or, max, take, refl, sym, ap, ◌∙◌, subst, arith}
use Rattle.std.specs.List.{zip}
use Rattle.std.specs.Prelude.{replicate}
use Rattle.cil_model.specs.declared.events.Event.{Event}
use Rattle.cil_model.specs.declared.reports.Report.{Report}
use Rattle.run_statistics.specs.Lines.{words_in_use}
use Rattle.run_statistics.specs.MostWords.{IsMostInUse}
use Rattle.run_statistics.proofs.CountLemmas.{plain_more}
use Rattle.shared_machine.specs.Histories.{events_of, plain, reports_of}
use Rattle.shared_machine.specs.declared.history.Entry.{Entry}
use Rattle.shared_machine.specs.declared.history.Run.{Run}
use Rattle.shared_machine.specs.simulation.MachineStates.{MachineState}
use Rattle.shared_machine.specs.simulation.Transitions.{IsTransition}

max_absorbs : (m n w : ℕ) → m ≡ w → w ≤ n → n ≡ max m n
max_absorbs m n w is below = omega (arith, is, below)

max_later : (m n w later : ℕ) → m ≡ max w later → max m n ≡ max w (max later n)
max_later m n w later is = omega (arith, is)

max_first : (m w later : ℕ) → m ≡ max w later → w ≤ m
max_first m w later is = omega (arith, is)

same_le : (m w : ℕ) → m ≡ w → w ≤ m
same_le m w is = omega (arith, is)

-- it is at least the words in use before the first event
at_least : (c : MachineState) (es : List (Event × Report)) (last : MachineState) (most : ℕ) → IsMostInUse c es last most → words_in_use c ≤ most
at_least c [] last most (same, is) = same_le most (words_in_use c) is
at_least c (e ∷ es) last most (next, transition, later, rest, is) = max_first most (words_in_use c) later is

-- one list of events after another
most_both : (c : MachineState) (es fs : List (Event × Report)) (d last : MachineState) (m n : ℕ) → IsMostInUse c es d m → IsMostInUse d fs last n → IsMostInUse c (es ++ fs) last (max m n)
most_both c [] fs d last m n (same, is) more =
    let here : IsMostInUse c fs last n = subst (λ x. IsMostInUse x fs last n) same more in
    subst (IsMostInUse c fs last) (max_absorbs m n (words_in_use c) is (at_least c fs last n here)) here
most_both c (e ∷ es) fs d last m n (next, transition, later, rest, is) more =
    (next, transition, max later n, most_both next es fs d last later n rest more, max_later m n (words_in_use c) later is)

-- an event once more
pub most_again : (n : ℕ) (event : Event) (report : Report) (c d last : MachineState) (m : ℕ) → IsMostInUse c (zip (replicate n event) (replicate n report)) d m → IsTransition d event (last, report)
    → IsMostInUse c (zip (replicate (suc n) event) (replicate (suc n) report)) last (max m (words_in_use last))
most_again zero event report c d last m (same, is) transition =
    (last, subst (λ x. IsTransition x event (last, report)) same transition, words_in_use last, (refl, refl), ap (λ (n : ℕ). max n (words_in_use last)) is)
most_again (suc n) event report c d last m (next, first, later, rest, is) transition =
    (next, first, max later (words_in_use last), most_again n event report next d last later rest transition, max_later m (words_in_use last) (words_in_use c) later is)

-- the events of entries beside their reports
abbrev pub pairs_of : List Entry → List (Event × Report)
pairs_of entries = zip (events_of entries) (reports_of entries)

pairs_of-append : (xs ys : List Entry) → pairs_of (xs ++ ys) ≡ pairs_of xs ++ pairs_of ys
pairs_of-append [] ys = refl
pairs_of-append (x ∷ xs) ys = ap (λ (l : List (Event × Report)). (x.event, x.report) ∷ l) (pairs_of-append xs ys)

pairs_of-replicate : (n : ℕ) (e : Entry) → pairs_of (replicate n e) ≡ zip (replicate n e.event) (replicate n e.report)
pairs_of-replicate zero e = refl
pairs_of-replicate (suc n) e = ap (λ (l : List (Event × Report)). (e.event, e.report) ∷ l) (pairs_of-replicate n e)

-- one run more
pub most_more : (runs : List Run) (i : ℕ) (x : Run) (c d last : MachineState) (m n : ℕ) → i < length runs → IsMostInUse c (pairs_of (plain (take i runs))) d m
    → IsMostInUse d (zip (replicate (get_or runs i x).times (get_or runs i x).entry.event) (replicate (get_or runs i x).times (get_or runs i x).entry.report)) last n
    → IsMostInUse c (pairs_of (plain (take (i + 1) runs))) last (max m n)
most_more runs i x c d last m n below before more =
    let r : Run = get_or runs i x in
    let of_run = zip (replicate r.times r.entry.event) (replicate r.times r.entry.report) in
    let all : pairs_of (plain (take (i + 1) runs)) ≡ pairs_of (plain (take i runs)) ++ of_run
    = ap pairs_of (plain_more runs i x below) ∙ pairs_of-append (plain (take i runs)) (replicate r.times r.entry)
    ∙ ap (λ (l : List (Event × Report)). pairs_of (plain (take i runs)) ++ l) (pairs_of-replicate r.times r.entry) in
    subst (λ es. IsMostInUse c es last (max m n)) (sym all) (most_both c (pairs_of (plain (take i runs))) of_run d last m n before more)
