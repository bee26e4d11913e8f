-- Events of the collector and acknowledgements keep a machine sound, and the state that it represents.
pub mod EventCases
pub mod Soundness
pub mod RepresentedObjects
pub mod UnchangedState
pub mod Reports
pub mod WaitsAndInitialStates
pub mod NextBlockSize
pub mod ClosedMarking
pub mod AcknowledgementNames
pub mod AcknowledgementCases
pub mod RootMarks
