-- Which values, frames and states are typed, and which changes keep them so.
pub mod ValueTypes
pub mod Instances
pub mod StackOperands
pub mod RunningFrames
pub mod StateChanges
pub mod InitialStates
