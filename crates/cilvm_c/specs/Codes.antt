-- What calls return, as numbers (this profile).
use Rattle.std.specs.Prelude.{◌+◌, ◌||◌, ℕ, Option, Some, None, Bool, true, false, nat_eq}
use Rattle.cil_model.specs.declared.reports.End.{End}
use Rattle.cil_model.specs.declared.reports.End.TheVariants.{Done as DoneOf, Budget as BudgetOf, Fault as FaultOf}
use Rattle.cil_model.specs.declared.reports.Fault.{Fault}
use Rattle.cil_model.specs.declared.reports.Fault.TheVariants as faults
use Rattle.cil_model.specs.declared.reports.Report.{Report}
use Rattle.cil_model.specs.declared.reports.Report.TheVariants as reports
use Rattle.interleaving_core.specs.declared.waits.Wait.{Wait}
use Rattle.interleaving_core.specs.declared.waits.Wait.TheVariants.{Monitor, Join}
use Rattle.schedule_text.specs.Errors.{number_of as schedule_number_of}
use Rattle.schedule_text.specs.declared.errors.ScheduleError.{ScheduleError}
use Rattle.schedule_text.specs.declared.errors.ScheduleError.TheVariants.{OutOfMemory as UnscheduledForMemory}
use Rattle.acceptance.specs.declared.failure.Failure.{Failure}
use Rattle.acceptance.specs.declared.failure.Failure.TheVariants.{Refused, OutOfRange, Memory, Device}
use Rattle.cilvm_c.specs.declared.codes.Code.{Code}
use Rattle.cilvm_c.specs.declared.codes.Code.TheVariants.{Ran, Blocked, Absent, Acked, NothingPosted, Worked, Waiting, CycleDone, Done, Budget, NullReference, IndexOutOfRange, ArrayTypeMismatch, InvalidCast, DivideByZero, Arithmetic, Overflow, OutOfMemory, TooManyThreads, StackOverflow, ArgumentNull, SynchronizationLock, ThreadState, Full, Closed, NoMemory}

abbrev pub number_of : Code → ℕ
number_of Ran = 0
number_of Blocked = 1
number_of Absent = 2
number_of Acked = 3
number_of NothingPosted = 4
number_of Worked = 5
number_of Waiting = 6
number_of CycleDone = 7
number_of Done = 16
number_of Budget = 17
number_of NullReference = 32
number_of IndexOutOfRange = 33
number_of ArrayTypeMismatch = 34
number_of InvalidCast = 35
number_of DivideByZero = 36
number_of Arithmetic = 37
number_of Overflow = 38
number_of OutOfMemory = 39
number_of TooManyThreads = 40
number_of StackOverflow = 41
number_of ArgumentNull = 42
number_of SynchronizationLock = 43
number_of ThreadState = 44
number_of Full = 253
number_of Closed = 254
number_of NoMemory = 255

abbrev pub fault_code : Fault → Code
fault_code faults.NullReference = NullReference
fault_code faults.IndexOutOfRange = IndexOutOfRange
fault_code faults.ArrayTypeMismatch = ArrayTypeMismatch
fault_code faults.InvalidCast = InvalidCast
fault_code faults.DivideByZero = DivideByZero
fault_code faults.Arithmetic = Arithmetic
fault_code faults.Overflow = Overflow
fault_code faults.OutOfMemory = OutOfMemory
fault_code faults.TooManyThreads = TooManyThreads
fault_code faults.StackOverflow = StackOverflow
fault_code faults.ArgumentNull = ArgumentNull
fault_code faults.SynchronizationLock = SynchronizationLock
fault_code faults.ThreadState = ThreadState

abbrev pub end_code : End → Code
end_code DoneOf = Done
end_code BudgetOf = Budget
end_code (FaultOf fault) = fault_code fault

abbrev pub report_code : Report → Code
report_code reports.Ran = Ran
report_code reports.Blocked = Blocked
report_code (reports.Ended end) = end_code end
report_code reports.Absent = Absent
report_code reports.Acked = Acked
report_code reports.NothingPosted = NothingPosted
report_code reports.Worked = Worked
report_code reports.Waiting = Waiting
report_code reports.CycleDone = CycleDone

abbrev pub has_ran : Report → Bool
has_ran reports.Ran = true
has_ran _ = false

-- the number of a step that ran
abbrev pub is_ran : ℕ → Bool
is_ran n = nat_eq n (number_of Ran)

-- a number of an event that was not done
abbrev pub is_not_done : ℕ → Bool
is_not_done n = nat_eq n (number_of Full) || nat_eq n (number_of NoMemory)

-- and why it was not
abbrev pub reason_not_done : ℕ → Code
reason_not_done n = by_full (nat_eq n (number_of Full))
  where
    by_full : Bool → Code
    by_full true = Full
    by_full false = NoMemory

-- of a thread: the code of its end, Ran of a live one, Absent of one that was never started
abbrev pub status_code : Option End → Bool → Code
status_code (Some end) live = end_code end
status_code None true = Ran
status_code None false = Absent

-- 0 for nobody, 256 and the number of a monitor's owner, 512 and the number of a thread whose end is awaited
abbrev pub wait_code : Option Wait → ℕ
wait_code None = 0
wait_code (Some (Monitor class owner)) = 256 + owner
wait_code (Some (Join thread)) = 512 + thread

-- the number of a refusal; out of memory has the number that it has of an event
abbrev pub failure_code : Failure → ℕ
failure_code (Refused number) = number
failure_code (OutOfRange number) = number
failure_code Memory = number_of NoMemory
failure_code Device = number_of NoMemory

-- the number of a schedule's fault; out of memory has the number that it has of an event
abbrev pub schedule_code : ScheduleError → ℕ
schedule_code UnscheduledForMemory = number_of NoMemory
schedule_code error = schedule_number_of error
