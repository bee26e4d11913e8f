pub mod Explorations
pub mod Outcomes
pub mod Outputs
pub mod Pictures
pub mod Records
pub mod Replays
pub mod Statistics
pub mod Threads
