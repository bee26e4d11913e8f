pub use Rattle.interleaving_core.specs as interleaving_core
pub use Rattle.interleaving_core.specs.simulation as simulation
pub mod LaggingMachines
pub mod Searches
pub mod TerminalOutcomes
pub mod Paths
pub mod CheckedSteps
pub mod InitialStates
pub mod FoundOutcomes
