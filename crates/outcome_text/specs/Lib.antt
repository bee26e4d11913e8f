pub mod Outcomes
pub mod Summaries
