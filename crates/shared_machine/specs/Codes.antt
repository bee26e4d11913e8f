-- The number of an event with its report, and the count that grows by it. No code holds these numbers.
use Rattle.std.specs.Prelude.{ℕ, zero, suc, ◌+◌, ◌*◌}
use Rattle.cil_model.specs.declared.events.Event.{Event}
use Rattle.cil_model.specs.declared.events.Event.TheVariants.{Step, Ack, Gc}
use Rattle.cil_model.specs.declared.reports.End.{End}
use Rattle.cil_model.specs.declared.reports.End.TheVariants.{Done, Budget, Fault as ByFault}
use Rattle.cil_model.specs.declared.reports.Fault.{Fault}
use Rattle.cil_model.specs.declared.reports.Fault.TheVariants.{NullReference, IndexOutOfRange, ArrayTypeMismatch, InvalidCast, DivideByZero, Arithmetic, Overflow, OutOfMemory, TooManyThreads, StackOverflow, ArgumentNull, SynchronizationLock, ThreadState}
use Rattle.cil_model.specs.declared.reports.Report.{Report}
use Rattle.cil_model.specs.declared.reports.Report.TheVariants.{Ran, Blocked, Ended, Absent, Acked, NothingPosted, Worked, Waiting, CycleDone}

-- from 0 to 512, since a thread's number is below 256
abbrev pub event_number : Event → ℕ
event_number Gc = 0
event_number (Step t) = 1 + 2 * t
event_number (Ack t) = 2 + 2 * t

-- from 0 to 12
abbrev pub fault_number : Fault → ℕ
fault_number NullReference = 0
fault_number IndexOutOfRange = 1
fault_number ArrayTypeMismatch = 2
fault_number InvalidCast = 3
fault_number DivideByZero = 4
fault_number Arithmetic = 5
fault_number Overflow = 6
fault_number OutOfMemory = 7
fault_number TooManyThreads = 8
fault_number StackOverflow = 9
fault_number ArgumentNull = 10
fault_number SynchronizationLock = 11
fault_number ThreadState = 12

-- from 0 to 14
abbrev pub end_number : End → ℕ
end_number Done = 0
end_number Budget = 1
end_number (ByFault f) = 2 + fault_number f

-- from 0 to 22
abbrev pub report_number : Report → ℕ
report_number Ran = 0
report_number Blocked = 1
report_number Absent = 2
report_number Acked = 3
report_number NothingPosted = 4
report_number Worked = 5
report_number Waiting = 6
report_number CycleDone = 7
report_number (Ended e) = 8 + end_number e

-- from 1 to 16,407, each pair its own
abbrev pub code : Event → Report → ℕ
code e r = 1 + report_number r + 32 * event_number e

-- a worker's count, after one event more
abbrev pub add : ℕ → Event → Report → ℕ
add count e r = 65536 * count + code e r

-- and after that event n times
abbrev pub add_times : ℕ → ℕ → Event → Report → ℕ
add_times zero count e r = count
add_times (suc n) count e r = add_times n (add count e r) e r
