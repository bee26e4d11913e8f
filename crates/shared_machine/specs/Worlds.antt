-- What lies under the lock, and what an event does to it.
use Rattle.std.specs.Prelude.{◌≡◌, ◌⊎◌, ℕ, zero, suc, Bool, true, false, List, [], ◌∷◌, ◌++◌, Option, Some, length, map, is_none, replicate, slice_get, slice_set, ◌<◌, ◌≤◌, Any, IfSome}
use Rattle.std.specs.List.{zip}
use Rattle.std.specs.Option.{option_map_or}
use Rattle.cil_model.specs.declared.events.Event.{Event}
use Rattle.cil_model.specs.declared.events.Event.TheVariants.{Step, Ack, Gc}
use Rattle.cil_model.specs.declared.limits.TheConstants.{MOST_THREADS}
use Rattle.cil_model.specs.declared.reports.Report.{Report}
use Rattle.cil_model.specs.declared.reports.Report.TheVariants.{Ran}
use Rattle.cil_model.specs.declared.trees.Tree.{Tree}
use Rattle.interleaving_core.specs.Loans.{Begins, IsAtOrigin, Lent, RanInPlace}
use Rattle.interleaving_core.specs.simulation.threads_monitors.Threads.{is_live_at}
use Rattle.interleaving_core.specs.Histories.{DoesMore}
use Rattle.interleaving_core.specs.simulation.MachineStates.{MachineState}
use Rattle.interleaving_core.specs.simulation.Runs.{AreTransitions, FollowsReference}
use Rattle.interleaving_core.specs.simulation.Transitions.{IsTransition}
use Rattle.shared_machine.specs.Counts.{Count}
use Rattle.shared_machine.specs.Codes.{add, add_times}
use Rattle.shared_machine.specs.Histories.{AreOf, entry, events_of, reports_of, count_of}
use Rattle.shared_machine.specs.declared.answer.Answer.{Answer}
use Rattle.shared_machine.specs.declared.answer.Answer.TheVariants.{Did, NoMemory, Away}
use Rattle.shared_machine.specs.declared.history.Entry.{Entry}

-- the machine, the history, the book of the workers' counts, of each thread that may be whether it is lent, and the stop mark
pub record WorldState : Type 0 where
  pub core : MachineState
  pub history : List Entry
  pub book : List ℕ
  pub lent : List Bool
  pub stopped : Bool

-- the transitions over the history's events lead from the initial machine state to the machine's with the history's reports, each entry is of one of
-- the workers, and the book has the count of each worker's entries
pub record IsSoundWorld (initial_state : MachineState) (workers : ℕ) (core : MachineState) (history : List Entry) (book : List ℕ) : Type 0 where
  pub transitions : AreTransitions initial_state (events_of history) core (reports_of history)
  pub theirs : AreOf workers history
  pub each : length book ≡ workers
  pub counts : (w n : ℕ) → slice_get book w ≡ Some n → n ≡ count_of w history

-- the list has an item for the memory of a loan of each possible thread; each loan memory in it has a share of the program
pub record HasRooms (initial_state : MachineState) (rooms : List (Option Tree)) : Type 0 where
  pub each : length rooms ≡ MOST_THREADS
  pub theirs : (t : ℕ) (tree : Tree) → slice_get rooms t ≡ Some (Some tree) → tree ≡ initial_state.tree

-- a thread is lent while the memory of its loan is elsewhere
abbrev pub lent_of : List (Option Tree) → List Bool
lent_of rooms = map is_none rooms

-- if there is a bound, no more bytes are printed, or no more than were there at the beginning
abbrev pub IsPrintedWithin : Option ℕ → MachineState → MachineState → Type 0
IsPrintedWithin most initial_state core = IfSome most (λ bytes. (length core.printed ≤ bytes) ⊎ (length core.printed ≤ length initial_state.printed))

-- all of these, with the bound that is kept
pub record IsWorld (initial_state : MachineState) (workers : ℕ) (most kept : Option ℕ) (core : MachineState) (history : List Entry) (book : List ℕ) (rooms : List (Option Tree)) : Type 0 where
  pub sound : IsSoundWorld initial_state workers core history book
  pub homes : HasRooms initial_state rooms
  pub bound : kept ≡ most
  pub printed : IsPrintedWithin most initial_state core

-- a machine has made these transitions, a report for each event; the reference machine follows them; whatever the machine had done before, it has
-- then done these events too; program and limits are the same
pub record HasRun (initial_state : MachineState) (events : List Event) (reports : List Report) (after : MachineState) : Type 0 where
  pub each : length reports ≡ length events
  pub transitions : AreTransitions initial_state events after reports
  pub follows : FollowsReference initial_state after (zip events reports)
  pub does : DoesMore initial_state events reports after
  pub program : after.tree ≡ initial_state.tree
  pub limits : after.limits ≡ initial_state.limits

-- what is true of the report that was answered
abbrev pub IfDid : Answer → (Report → Type 0) → Type 0
IfDid (Did r) P = P r
IfDid NoMemory P = Unit {0}
IfDid Away P = Unit {0}

-- what is true where nothing was done: no memory was left, or the thread is lent
abbrev pub IfNoMemory : Answer → Type 0 → Type 0
IfNoMemory (Did r) P = Unit {0}
IfNoMemory NoMemory P = P
IfNoMemory Away P = P

-- the ticket after an event
abbrev pub add_event : Count → Event → Report → Count
add_event t e r = record { worker = t.worker; count = add t.count e r }

-- one entry more, with the machine in this state: the count of the ticket's worker in the book includes the entry, and nothing else changes
abbrev pub with_entry : WorldState → Count → Event → Report → MachineState → WorldState
with_entry world t e r core = record {
  core = core;
  history = world.history ++ entry t.worker e r ∷ [];
  book = slice_set world.book t.worker (add t.count e r);
  lent = world.lent;
  stopped = world.stopped;
}

-- an event of a ticket's worker was done, and is recorded and counted with its report
pub record IsDid (old : WorldState) (t : Count) (e : Event) (new : WorldState) (r : Report) : Type 0 where
  pub transition : IsTransition old.core e (new.core, r)
  pub recorded : new ≡ with_entry old t e r new.core

-- ---- lending

-- whether the thread of a number is lent
abbrev pub is_lent_in : List Bool → ℕ → Bool
is_lent_in lent t = option_map_or (λ (b : Bool). b) (slice_get lent t) false

-- an event that a lent thread would have to take part in
abbrev pub is_away : List Bool → Event → Bool
is_away lent (Step t) = is_lent_in lent t
is_away lent (Ack t) = is_lent_in lent t
is_away lent Gc = false

-- a thread can't be lent: it is not live, or it is lent already
abbrev pub CannotLend : WorldState → ℕ → Type 0
CannotLend world t = (is_live_at world.core.threads t ≡ false) ⊎ (is_lent_in world.lent t ≡ true)

-- a live thread that wasn't lent is lent, and nothing else changes
pub record IsLentOut (old : WorldState) (t : ℕ) (l : Lent) (new : WorldState) : Type 0 where
  pub live : is_live_at old.core.threads t ≡ true
  pub home : is_lent_in old.lent t ≡ false
  pub begins : Begins old.core t l
  pub marked : new ≡ record old { lent = slice_set old.lent t true }

-- the thread of a loan is lent, and stands as it did when the loan began
abbrev pub IsKept : WorldState → Lent → Type 0
IsKept world l = (is_lent_in world.lent l.thread ≡ true) × IsAtOrigin world.core l

-- the ticket after an event n times
abbrev pub added_times : Count → ℕ → Event → Report → Count
added_times t n e r = record { worker = t.worker; count = add_times n t.count e r }

-- the book after the ticket's worker did an event n more times
abbrev pub book_times : List ℕ → Count → ℕ → Event → Report → List ℕ
book_times book t zero e r = book
book_times book t (suc n) e r = slice_set book t.worker (add_times (suc n) t.count e r)

-- n entries more, of steps of a thread that ran, with the machine in this state
abbrev pub with_steps : WorldState → Count → ℕ → (thread : ℕ) → MachineState → WorldState
with_steps world t n thread core = record world {
  core = core;
  history = world.history ++ replicate n (entry t.worker (Step thread) Ran);
  book = book_times world.book t n (Step thread) Ran;
}

-- the same, and the thread is no longer lent
abbrev pub with_entries : WorldState → Count → ℕ → (thread : ℕ) → MachineState → WorldState
with_entries world t n thread core = record (with_steps world t n thread core) { lent = slice_set world.lent thread false }

-- a loan came back: each of its instructions is a step of its thread, which reports that it ran, and is recorded and counted
pub record IsCheckedIn (old : WorldState) (t : Count) (l : Lent) (n : ℕ) (new : WorldState) (u : Count) : Type 0 where
  pub all : n ≡ l.done
  pub kept : IsKept old l
  pub transitions : AreTransitions old.core (replicate n (Step l.thread)) new.core (replicate n Ran)
  pub recorded : new ≡ with_entries old t n l.thread new.core
  pub counted : u ≡ added_times t n (Step l.thread) Ran

-- A thread did n local instructions where it is: none if it is lent or not live, else all of them up to the first instruction that is not local, at most
-- `most`. Each is a step of it, which reports that it ran, and is recorded and counted.
pub record HasSteppedLocally (old : WorldState) (t : Count) (thread most n : ℕ) (new : WorldState) (u : Count) : Type 0 where
  pub none : CannotLend old thread → n ≡ 0
  pub ran : is_live_at old.core.threads thread ≡ true → is_lent_in old.lent thread ≡ false → RanInPlace old.core thread most n new.core
  pub transitions : AreTransitions old.core (replicate n (Step thread)) new.core (replicate n Ran)
  pub recorded : new ≡ with_steps old t n thread new.core
  pub counted : u ≡ added_times t n (Step thread) Ran

-- the ticket's count is that of its worker's entries
abbrev pub AgreesWith : List Entry → Count → Type 0
AgreesWith h t = t.count ≡ count_of t.worker h

-- the ticket of the only worker has counted these events, each with some report
pub record HasCounted (events : List Event) (t : Count) : Type 0 where
  pub entries : List Entry
  pub are : events_of entries ≡ events
  pub mine : AreOf 1 entries
  pub worker : t.worker ≡ 0
  pub count : t.count ≡ count_of 0 entries

-- it has counted the first of these events
pub record HasCountedFirst (events : List Event) (t : Count) : Type 0 where
  pub done : List Event
  pub rest : List Event
  pub are : events ≡ done ++ rest
  pub counted : HasCounted done t

-- the events done are the first of these, and all of them unless the run was stopped before its end
pub record AreDoneOf (events done : List Event) (stopped : Bool) : Type 0 where
  pub rest : List Event
  pub are : events ≡ done ++ rest
  pub all : stopped ≡ false → rest ≡ []

-- the ticket's count is in the book
abbrev pub IsIn : List ℕ → Count → Type 0
IsIn book t = slice_get book t.worker ≡ Some t.count

-- the first tickets, in order, each with count 0
abbrev pub fresh : ℕ → List Count
fresh zero = []
fresh (suc n) = fresh n ++ record { worker = n; count = 0 } ∷ []

-- some ticket is this worker's
abbrev pub HasTicket : List Count → ℕ → Type 0
HasTicket ts w = Any (λ (t : Count). t.worker ≡ w) ts

-- a worker's ticket is missing
abbrev pub IsMissing : ℕ → List Count → Type 0
IsMissing workers ts = (w : ℕ) × (w < workers) × ¬ HasTicket ts w

-- no worker's ticket is
abbrev pub IsComplete : ℕ → List Count → Type 0
IsComplete workers ts = (w : ℕ) → w < workers → HasTicket ts w
