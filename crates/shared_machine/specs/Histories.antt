-- The history, its counts, and how it is kept.
use Rattle.std.specs.Prelude.{◌≡◌, ◌-◌, ◌*◌, ℕ, Bool, true, false, nat_eq, List, [], ◌∷◌, ◌++◌, map, replicate, ◌≤◌, ◌<◌, All}
use Rattle.cil_model.specs.declared.events.Event.{Event}
use Rattle.cil_model.specs.declared.reports.Report.{Report}
use Rattle.shared_machine.specs.Codes.{add, event_number}
use Rattle.shared_machine.specs.declared.history.Entry.{Entry}
use Rattle.shared_machine.specs.declared.history.Run.{Run}
use Rattle.shared_machine.specs.declared.history.TheConstants.{MOST_TIMES}

-- the runs, one after another, each as often as it says
abbrev pub plain : List Run → List Entry
plain [] = []
plain (r ∷ rs) = replicate r.times r.entry ++ plain rs

-- how many equal entries there is room for where there are `runs` runs in memory for `capacity`
abbrev pub room_in : ℕ → ℕ → ℕ
room_in runs capacity = (capacity - runs) * MOST_TIMES

-- the entries, and how many more equal ones there is room for in any case
pub record Log : Type 0 where
  pub entries : List Entry
  pub room : ℕ

-- an event of a worker, with its report
abbrev pub entry : ℕ → Event → Report → Entry
entry w e r = record { worker = w; event = e; report = r }

-- the events, in order
abbrev pub events_of : List Entry → List Event
events_of h = map (λ (e : Entry). e.event) h

-- their reports, in order
abbrev pub reports_of : List Entry → List Report
reports_of h = map (λ (e : Entry). e.report) h

-- a count with this entry, where it is one of the worker's
abbrev pub add_if : Bool → Entry → ℕ → ℕ
add_if true e count = add count e.event e.report
add_if false e count = count

-- the count of a worker's entries, from a count on
abbrev pub count_in_history : ℕ → ℕ → List Entry → ℕ
count_in_history w count [] = count
count_in_history w count (e ∷ es) = count_in_history w (add_if (nat_eq e.worker w) e count) es

-- the count of a worker's entries
abbrev pub count_of : ℕ → List Entry → ℕ
count_of w h = count_in_history w 0 h

-- an event of a thread whose number is below 256, as each number of a program's event is
abbrev pub IsSmall : Event → Type 0
IsSmall e = event_number e ≤ 512

-- each entry is of one of that many workers, and its event is such an event
abbrev pub AreOf : ℕ → List Entry → Type 0
AreOf workers h = All (λ (e : Entry). (e.worker < workers) × IsSmall e.event) h

-- such are all of these
abbrev pub AreSmall : List (Event × Report) → Type 0
AreSmall [] = Unit {0}
AreSmall (p ∷ ps) = IsSmall p.0 × AreSmall ps

-- the count of events with their reports, the newest first
abbrev pub count_of_pairs : List (Event × Report) → ℕ
count_of_pairs [] = 0
count_of_pairs (p ∷ ps) = add (count_of_pairs ps) p.0 p.1

-- one more of them, where the entry is one of the worker's
abbrev pub pairs_if : Bool → Entry → List (Event × Report) → List (Event × Report)
pairs_if true e ps = (e.event, e.report) ∷ ps
pairs_if false e ps = ps

-- the events and reports of a worker, the newest first, before those that are given
abbrev pub pairs_of : ℕ → List (Event × Report) → List Entry → List (Event × Report)
pairs_of w ps [] = ps
pairs_of w ps (e ∷ es) = pairs_of w (pairs_if (nat_eq e.worker w) e ps) es

-- where the counts of a worker in two histories are one number, it has the same events and reports in both, in the same order
abbrev pub Fixes : ℕ → List Entry → List Entry → Type 0
Fixes w h k = AreSmall (pairs_of w [] h) → AreSmall (pairs_of w [] k) → count_of w h ≡ count_of w k → pairs_of w [] h ≡ pairs_of w [] k
