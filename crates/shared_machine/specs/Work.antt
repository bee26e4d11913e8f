-- What workers do to a shared machine (this profile).
use Rattle.std.specs.Prelude.{◌≡◌, ◌⊎◌, ℕ, zero, suc, ◌<◌, ◌+◌, ◌%◌, ◌&&◌, Bool, true, if◌then◌else◌, nat_eq, List, length, slice_index_or, Option, All, IfSome, IsSome}
use Rattle.std.specs.List.{count_by}
use Rattle.atomic_table.specs.Seated.{TableId}
use Rattle.cil_model.specs.declared.events.Event.{Event}
use Rattle.cil_model.specs.declared.events.Event.TheVariants.{Step, Ack, Gc}
use Rattle.cil_model.specs.declared.limits.TheConstants.{MOST_THREADS}
use Rattle.epoch_words.specs.Tokens.{EpochsValue, HeraldValue, SeatValue}
use Rattle.interleaving_core.specs.Waits.{wait_at}
use Rattle.interleaving_core.specs.simulation.MachineStates.{MachineState}
use Rattle.interleaving_core.specs.simulation.threads_monitors.Threads.{is_live, is_live_at}
use Rattle.shared_machine.specs.Histories.{IsSmall, count_in_history}
use Rattle.shared_machine.specs.declared.history.Entry.{Entry}
use Rattle.shared_machine.specs.Counts.{Count}
use Rattle.cil_model.specs.declared.stops.StopAt.{StopAt}
use Rattle.cil_model.specs.declared.stops.StopAt.TheVariants.{End, Deadlock}

-- ---- whose events they are

-- of that many workers, each drives the threads whose numbers leave its own when they are divided by the number of workers
abbrev pub is_driven_by : ℕ → ℕ → ℕ → Bool
is_driven_by workers worker thread = nat_eq (thread % workers) worker

-- a thread that a machine can have and that one of that many workers drives
abbrev pub IsTheirs : ℕ → ℕ → ℕ → Type 0
IsTheirs workers worker thread = (thread < MOST_THREADS) × (is_driven_by workers worker thread ≡ true)

-- how many of the threads below a number are live and driven by one of this many workers
abbrev pub served_below : MachineState → ℕ → ℕ → ℕ → ℕ
served_below c workers worker zero = 0
served_below c workers worker (suc n) = served_below c workers worker n + (if is_live_at c.threads n && is_driven_by workers worker n then 1 else 0)

-- what one of that many workers may do: steps and acknowledgements of the threads that it drives, and, as worker 0, events of the collector
abbrev pub IsOwn : ℕ → ℕ → Event → Type 0
IsOwn workers worker (Step thread) = IsTheirs workers worker thread
IsOwn workers worker (Ack thread) = IsTheirs workers worker thread
IsOwn workers worker Gc = worker ≡ 0

-- an entry of a history is an event that is its worker's own
abbrev pub IsOwnOf : ℕ → Entry → Type 0
IsOwnOf workers e = IsOwn workers e.worker e.event

-- ---- what a ticket has counted of them

-- it is an entry of this worker, one of that many, for an event of its own
abbrev pub IsEntryOf : ℕ → ℕ → Entry → Type 0
IsEntryOf workers worker e = (e.worker ≡ worker) × IsSmall e.event × IsOwn workers worker e.event

-- one of that many workers has done events of its own, which its ticket has counted
pub record HasWorked (workers : ℕ) (before after : Count) : Type 0 where
  pub entries : List Entry
  pub own : All (IsEntryOf workers before.worker) entries
  pub same : after.worker ≡ before.worker
  pub count : after.count ≡ count_in_history before.worker before.count entries

-- so has each of these workers, whose tickets are in the same order as before
pub record HaveWorked (workers : ℕ) (before after : List Count) : Type 0 where
  pub each : length after ≡ length before
  pub worked : (i : ℕ) (d : Count) → i < length before → HasWorked workers (slice_index_or before i d) (slice_index_or after i d)

-- ---- the epochs

-- a seat of these epochs
abbrev pub IsSeatOf : EpochsValue → SeatValue → Type 0
IsSeatOf epochs seat = seat.table ≡ epochs.table

-- the herald, where it is here, is of these epochs
abbrev pub IsHeraldOf : EpochsValue → Option HeraldValue → Type 0
IsHeraldOf epochs herald = IfSome herald (λ h. h.table ≡ epochs.table)

-- a seat of the epochs of a name
abbrev pub IsSeatIn : TableId → SeatValue → Type 0
IsSeatIn table seat = seat.table ≡ table

-- a seat, where one is here, is of these epochs
abbrev pub IsSeatHere : EpochsValue → Option SeatValue → Type 0
IsSeatHere epochs seat = IfSome seat (IsSeatOf epochs)

-- ---- the end of a run

-- a thread is not live, or its next step is blocked
abbrev pub IsHeldUp : MachineState → ℕ → Type 0
IsHeldUp c thread = is_live_at c.threads thread ≡ true → IsSome (wait_at c thread)

-- so is each thread: none continues
abbrev pub IsDeadlocked : MachineState → Type 0
IsDeadlocked c = (thread : ℕ) → IsHeldUp c thread

-- how a run by workers leaves the machine, with the stop mark: no thread is live, or, where that was asked for, the stop mark is set and no live
-- thread continues
abbrev pub HasEnded : StopAt → MachineState → Bool → Type 0
HasEnded End c stopped = count_by is_live c.threads ≡ 0
HasEnded Deadlock c stopped = (count_by is_live c.threads ≡ 0) ⊎ ((stopped ≡ true) × IsDeadlocked c)
