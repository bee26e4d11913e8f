-- Each instruction does the same on a machine as on the reference machine.
pub mod Calls
pub mod Correspondence
pub mod MatchingResults
pub mod ValueOperations
pub mod FrameProgress
pub mod StackOperands
pub mod FrameInstructions
pub mod ObjectInstructionParts
pub mod InstanceFields
pub mod StaticFields
pub mod ArrayElements
pub mod ArraysAndLengths
pub mod Casts
pub mod Constructors
pub mod NewObjects
