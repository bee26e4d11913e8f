-- Which objects are reachable: no step makes an object reachable that was not, but those that it makes.
pub mod ClosedSets
pub mod TypedStates
pub mod Values
pub mod States
pub mod Instructions
pub mod Runs
