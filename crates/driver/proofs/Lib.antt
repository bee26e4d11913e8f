pub mod ExplorationLemmas
pub mod OutcomeLemmas
pub mod EndLemmas
pub mod PictureLemmas
pub mod Refusals
pub mod ReplayLemmas
pub mod ThreadLemmas
pub mod WorkerLemmas
mod Names
