-- What threads may hold, in each phase, and that they may hold it in the next.
pub mod LiveValues
pub mod StorableValues
pub mod MarkingPhases
pub mod FlipPhases
pub mod AfterStores
