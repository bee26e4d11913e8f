-- The steps of threads: what they change of a machine, and what they ask of other threads.
pub mod IndexedThreads
pub mod LiveThreads
pub mod LiveFrames
pub mod LocalRuns
pub mod HalfSteps
pub mod Requests
pub mod StartRequests
pub mod AwaitedObjects
pub mod Budgets
pub mod RefusedMemory
pub mod DeclaredMethods
pub mod Ends
pub mod PrintedOutput
