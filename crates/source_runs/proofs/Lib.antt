pub use Rattle.shared_machine.proofs.simulation as simulation
pub use Rattle.shared_machine.proofs.interleaving_core as interleaving_core
pub use Rattle.acceptance.proofs as acceptance
pub mod RunLemmas
