-- No monitor is held more often than its owner made steps.
pub mod StateChanges
pub mod InstructionSteps
pub mod Steps
pub mod InitialStates
