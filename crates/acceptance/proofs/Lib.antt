pub use Rattle.interleaving_core.proofs as interleaving_core
pub use Rattle.interleaving_core.proofs.simulation as simulation
pub mod SourceLemmas
