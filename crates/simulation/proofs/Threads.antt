-- Each step of a thread does the same on both machines, and keeps the machine sound.
pub mod NextInstruction
pub mod LiveThreads
pub mod Requests
pub mod StartSteps
pub mod Joins
pub mod StepEffects
pub mod StepResults
pub mod Steps
pub mod UnchangedPosts
pub mod LocalInstructions
pub mod OtherThreads
pub mod Seats
