pub mod Programs
pub mod TypedStates
pub mod TypedSteps
pub mod ReachableObjects
pub mod Deadlocks
pub mod Runs
