-- What a session holds, and what calls read of it (this profile).
use Rattle.std.specs.Prelude.{◌≡◌, ◌⊎◌, ◌≤◌, [], ℕ, List, Option, Some, None, drop, length, take}
use Rattle.std.specs.List.{count_by}
use Rattle.object_memory.specs.Cells.{used_words}
use Rattle.object_memory.specs.Objects.{used_space}
use Rattle.interleaving_core.specs.simulation.MachineStates.{MachineState}
use Rattle.interleaving_core.specs.simulation.threads_monitors.Threads.{is_live, is_live_at}
use Rattle.interleaving_core.specs.Views.{end_at}
use Rattle.interleaving_core.specs.Waits.{wait_at}
use Rattle.cilvm_c.specs.Codes.{number_of, status_code, wait_code}
use Rattle.cilvm_c.specs.declared.codes.Code.TheVariants.{Closed}

-- its machine, none where it is closed; the bytes that the program may print; and the text that explains the last refusal
pub record SessionState : Type 0 where
  pub machine : Option MachineState
  pub most_printed : ℕ
  pub reason : List ℕ

-- the same with another machine
abbrev pub with_machine : SessionState → MachineState → SessionState
with_machine h c = record { machine = Some c; most_printed = h.most_printed; reason = h.reason }

-- ---- what is read: the session is as before

-- what its machine printed; nothing of a closed one
abbrev pub printed_by : Option MachineState → List ℕ
printed_by None = []
printed_by (Some c) = c.printed

-- the first n bytes from an index on are at the beginning of a buffer: they fill the buffer, or they are all of these bytes
abbrev pub IsRead : List ℕ → ℕ → List ℕ → ℕ → Type 0
IsRead bytes from new n = (n ≤ length new) × (take n new ≡ take n (drop from bytes)) × ((n ≡ length new) ⊎ (n ≡ length (drop from bytes)))

abbrev pub IsPrintedRead : SessionState → ℕ → List ℕ → ℕ → SessionState → Type 0
IsPrintedRead h from new n after = (after ≡ h) × IsRead (printed_by h.machine) from new n

abbrev pub IsReasonRead : SessionState → ℕ → List ℕ → ℕ → SessionState → Type 0
IsReasonRead h from new n after = (after ≡ h) × IsRead h.reason from new n

-- the number of the state of a thread
abbrev pub status_of : Option MachineState → ℕ → ℕ
status_of None t = number_of Closed
status_of (Some c) t = number_of (status_code (end_at c.threads t) (is_live_at c.threads t))

abbrev pub IsStatus : SessionState → ℕ → ℕ → SessionState → Type 0
IsStatus h t code after = (after ≡ h) × (code ≡ status_of h.machine t)

-- the number of whom a thread waits for
abbrev pub wait_of : Option MachineState → ℕ → ℕ
wait_of None t = number_of Closed
wait_of (Some c) t = wait_code (wait_at c t)

abbrev pub IsWait : SessionState → ℕ → ℕ → SessionState → Type 0
IsWait h t code after = (after ≡ h) × (code ≡ wait_of h.machine t)

-- how many threads are live; none of a closed session
abbrev pub live_in : Option MachineState → ℕ
live_in None = 0
live_in (Some c) = count_by is_live c.threads

abbrev pub IsLiveCount : SessionState → ℕ → SessionState → Type 0
IsLiveCount h count after = (after ≡ h) × (count ≡ live_in h.machine)

-- the words in use of the old space, or the only one, and of the new one; none of a closed session
abbrev pub used_in : Option MachineState → ℕ × ℕ
used_in None = (0, 0)
used_in (Some c) = (used_space c.objects, used_words c.objects.spaces.new.cells)

abbrev pub AreUsed : SessionState → ℕ → ℕ → SessionState → Type 0
AreUsed h old_words new_words after = (after ≡ h) × ((old_words, new_words) ≡ used_in h.machine)

-- ---- the end

-- it is closed, with no refusal to explain
abbrev pub IsClosing : ℕ → SessionState → Type 0
IsClosing code after = (code ≡ 0) × (after.machine ≡ None) × (after.reason ≡ [])
