pub use Rattle.interleaving_core.proofs as interleaving_core
pub use Rattle.interleaving_core.proofs.simulation as simulation
pub mod ChargedSteps
pub mod LaggingSteps
pub mod LagTransitivity
pub mod CoveredRuns
pub mod CoveredStates
pub mod LocalProgress
pub mod Paths
pub mod CheckedSteps
pub mod LentFrameProgress
pub mod SamePrograms
mod Names
