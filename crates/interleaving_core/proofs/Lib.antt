pub use Rattle.simulation.proofs as simulation
pub use Rattle.simulation.proofs as simulation
pub mod Threads
pub mod InitialContents
pub mod CollectorTransitions
pub mod Runs
