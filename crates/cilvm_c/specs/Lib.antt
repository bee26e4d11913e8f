pub use Rattle.interleaving_core.specs as interleaving_core
pub mod Codes
pub mod Handles
pub mod InitialStates
pub mod Sessions
pub mod Steps
