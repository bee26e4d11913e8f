pub mod GivenLimits
pub mod Orders
pub mod Parts
pub mod Runs
