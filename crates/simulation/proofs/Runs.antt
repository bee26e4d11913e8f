-- Runs of a machine beside runs of the reference machine.
pub mod EventByEvent
pub mod UniqueTransitions
pub mod UniqueRuns
pub mod RunsWithoutCollection
pub mod EventCorrespondence
