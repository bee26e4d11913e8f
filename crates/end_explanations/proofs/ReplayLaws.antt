-- Replays, event by event.
use Rattle.std.proofs.Common.{◌≡◌, ◌<◌, ◌+◌, ◌++◌, ◌∷◌, [], ℕ, zero, suc, List, length, get_or, map, take, refl, sym, ap, ◌∙◌, subst, append-nil, append_assoc}
use Rattle.std.proofs.lemmas.List.{map-append, take_more}
use Rattle.std.specs.List.{zip}
use Rattle.std.specs.Prelude.{replicate}
use Rattle.cil_model.specs.declared.events.Event.{Event}
use Rattle.cil_model.specs.declared.reports.Report.{Report}
use Rattle.event_trace.specs.interleaving_core.simulation.MachineStates.{MachineState}
use Rattle.shared_machine.specs.Histories.{events_of, plain, reports_of}
use Rattle.shared_machine.specs.declared.history.Entry.{Entry}
use Rattle.shared_machine.specs.declared.history.Run.{Run}
use Rattle.end_explanations.specs.Replays.{AreReplayed, IsReplayed, ReplayState, pair_of}

-- one list of events after another
pub replayed_both : (source : List ℕ) (c : MachineState) (k : ReplayState) (es : List (Event × Report)) (d : MachineState) (l : ReplayState) (fs : List (Event × Report)) (last : MachineState) (after : ReplayState)
    → AreReplayed source c k es d l → AreReplayed source d l fs last after → AreReplayed source c k (es ++ fs) last after
replayed_both source c k [] d l fs last after (same, still) more = subst (λ x. AreReplayed source x k fs last after) same (subst (λ x. AreReplayed source d x fs last after) still more)
replayed_both source c k (e ∷ es) d l fs last after (next, known, one, rest) more = (next, known, one, replayed_both source next known es d l fs last after rest more)

-- the event of an entry once more
pub replayed_again : (source : List ℕ) (n : ℕ) (e : Entry) (c : MachineState) (k : ReplayState) (d : MachineState) (l : ReplayState) (last : MachineState) (after : ReplayState)
    → AreReplayed source c k (map pair_of (replicate n e)) d l → IsReplayed source d l (pair_of e) last after → AreReplayed source c k (map pair_of (replicate (suc n) e)) last after
replayed_again source zero e c k d l last after (same, still) one =
    (last, after, subst (λ x. IsReplayed source x k (pair_of e) last after) same (subst (λ x. IsReplayed source d x (pair_of e) last after) still one), (refl, refl))
replayed_again source (suc n) e c k d l last after (next, known, first, rest) one = (next, known, first, replayed_again source n e next known d l last after rest one)

plain-append : (xs ys : List Run) → plain (xs ++ ys) ≡ plain xs ++ plain ys
plain-append [] ys = refl
plain-append (x ∷ xs) ys = ap (λ (l : List Entry). replicate x.times x.entry ++ l) (plain-append xs ys) ∙ sym (append_assoc (replicate x.times x.entry) (plain xs) (plain ys))

-- the entries of the runs so far, and those of one run more
plain_more : (runs : List Run) (i : ℕ) (d : Run) → i < length runs → plain (take (i + 1) runs) ≡ plain (take i runs) ++ replicate (get_or runs i d).times (get_or runs i d).entry
plain_more runs i d below =
    let r : Run = get_or runs i d in
    ap plain (take_more runs i d below) ∙ plain-append (take i runs) (r ∷ []) ∙ ap (λ (l : List Entry). plain (take i runs) ++ l) (append-nil (replicate r.times r.entry))

-- one run more
pub replayed_run : (source : List ℕ) (runs : List Run) (i : ℕ) (x : Run) (c : MachineState) (k : ReplayState) (d : MachineState) (l : ReplayState) (last : MachineState) (after : ReplayState) → i < length runs
    → AreReplayed source c k (map pair_of (plain (take i runs))) d l → AreReplayed source d l (map pair_of (replicate (get_or runs i x).times (get_or runs i x).entry)) last after
    → AreReplayed source c k (map pair_of (plain (take (i + 1) runs))) last after
replayed_run source runs i x c k d l last after below before more =
    let r : Run = get_or runs i x in
    subst (λ es. AreReplayed source c k es last after) (sym (ap (map pair_of) (plain_more runs i x below) ∙ map-append pair_of (plain (take i runs)) (replicate r.times r.entry)))
    (replayed_both source c k (map pair_of (plain (take i runs))) d l (map pair_of (replicate r.times r.entry)) last after before more)

-- the events of a history beside their reports
pub pairs_zipped : (h : List Entry) → map pair_of h ≡ zip (events_of h) (reports_of h)
pairs_zipped [] = refl
pairs_zipped (e ∷ h) = ap (λ (l : List (Event × Report)). pair_of e ∷ l) (pairs_zipped h)
