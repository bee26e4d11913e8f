-- In a run each cycle of the collector has a bounded number of working events.
pub mod WorkLeft
pub mod MarkingWork
pub mod MarkingByThreads
pub mod CollectorWork
pub mod BoundedCycles
pub mod OpenCycles
