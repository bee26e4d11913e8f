-- Why an order is not carried out, and what is reported of it (this profile).
use Rattle.std.specs.Fmt.{decimal}
use Rattle.std.specs.IoError.{error_kind}
use Rattle.std.specs.Prelude.{◌≡◌, ◌≢◌, ◌⊎◌, ◌++◌, ◌∷◌, [], ℕ, Bool, true, false, List, codes}
use Rattle.outputs.specs.Streams.{Fails, StreamState, Takes}
use Rattle.std.specs.declared.io.Error.{Error}
use Rattle.std.specs.declared.io.ErrorKind.TheVariants.{OutOfMemory}
use Rattle.interleaving_core.specs.Refusals.{number_of as making_number_of}
use Rattle.interleaving_core.specs.declared.machine.Refused.{Refused as NotMade}
use Rattle.interleaving_core.specs.declared.machine.Refused.TheVariants.{OutOfMemory as NotMadeForMemory}
use Rattle.schedule_text.specs.Errors.{number_of as schedule_number_of}
use Rattle.schedule_text.specs.declared.errors.ScheduleError.{ScheduleError}
use Rattle.schedule_text.specs.declared.errors.ScheduleError.TheVariants.{OutOfMemory as UnscheduledForMemory}
use Rattle.acceptance.specs.declared.failure.Failure.{Failure}
use Rattle.acceptance.specs.declared.failure.Failure.TheVariants.{Refused, OutOfRange, Memory, Device}

-- ---- what the error of a layer becomes: its number, or out of memory

-- limits belong to the command line
abbrev pub failure_of_making : NotMade → Failure
failure_of_making NotMadeForMemory = Memory
failure_of_making error = OutOfRange (making_number_of error)

abbrev pub failure_of_schedule : ScheduleError → Failure
failure_of_schedule UnscheduledForMemory = Memory
failure_of_schedule error = Refused (schedule_number_of error)

-- what a failed read or write becomes: a reader or a writer may run out of memory too
abbrev pub IsFailureOfDevice : Error → Failure → Type 0
IsFailureOfDevice error failure = (error_kind error ≡ OutOfMemory → failure ≡ Memory)
    × (error_kind error ≢ OutOfMemory → failure ≡ Device)

-- a write fails, or there is no memory for what is to be written
abbrev pub IsOfWriting : Failure → Type 0
IsOfWriting failure = (failure ≡ Memory) ⊎ (failure ≡ Device)

-- ---- what is reported of a failure

-- of the source, the limits or the schedule
abbrev pub is_refusal : Failure → Bool
is_refusal (Refused number) = true
is_refusal (OutOfRange number) = true
is_refusal _ = false

abbrev pub status_of_failure : Failure → ℕ
status_of_failure (Refused number) = 1
status_of_failure (OutOfRange number) = 2
status_of_failure Memory = 5
status_of_failure Device = 5

-- the line of a refusal's number
abbrev pub number_line : ℕ → List ℕ
number_line number = codes "error " ++ decimal number ++ 10 ∷ []

-- the line that a failure is printed as
abbrev pub message_of : Failure → List ℕ
message_of (Refused number) = number_line number
message_of (OutOfRange number) = number_line number
message_of Memory = codes "memory" ++ 10 ∷ []
message_of Device = codes "device" ++ 10 ∷ []

-- the line of a failure is written, and the status is the failure's; or it is cut by a failed write, and the status is 5
abbrev pub IsReported : Failure → StreamState → StreamState → ℕ → Type 0
IsReported failure err err' status =
    ((status ≡ status_of_failure failure) × Takes err err' (message_of failure))
    ⊎ ((status ≡ 5) × Fails err err' (message_of failure))
