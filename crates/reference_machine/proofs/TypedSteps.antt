-- Each instruction of an accepted program leaves a typed state, so no run of one is stuck.
pub mod FrameInstructions
pub mod ObjectInstructions
pub mod NewObjects
pub mod CallOperands
pub mod CallsAndReturns
pub mod BuiltInMembers
pub mod AllInstructions
pub mod StepsAndRuns
