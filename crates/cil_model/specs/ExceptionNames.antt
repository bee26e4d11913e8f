-- The full names of the exception classes that faults are printed as (Partition IV).
use Rattle.std.specs.Prelude.{ℕ, List, codes}
use Rattle.cil_model.specs.declared.reports.Fault.{Fault}
use Rattle.cil_model.specs.declared.reports.Fault.TheVariants.{NullReference, IndexOutOfRange, ArrayTypeMismatch, InvalidCast, DivideByZero, Arithmetic, Overflow, OutOfMemory, TooManyThreads, StackOverflow, ArgumentNull, SynchronizationLock, ThreadState}

-- a refused birth and a seventeenth thread share one
abbrev pub name_of : Fault → List ℕ
name_of NullReference = codes "System.NullReferenceException"
name_of IndexOutOfRange = codes "System.IndexOutOfRangeException"
name_of ArrayTypeMismatch = codes "System.ArrayTypeMismatchException"
name_of InvalidCast = codes "System.InvalidCastException"
name_of DivideByZero = codes "System.DivideByZeroException"
name_of Arithmetic = codes "System.ArithmeticException"
name_of Overflow = codes "System.OverflowException"
name_of OutOfMemory = codes "System.OutOfMemoryException"
name_of TooManyThreads = codes "System.OutOfMemoryException"
name_of StackOverflow = codes "System.StackOverflowException"
name_of ArgumentNull = codes "System.ArgumentNullException"
name_of SynchronizationLock = codes "System.Threading.SynchronizationLockException"
name_of ThreadState = codes "System.Threading.ThreadStateException"
