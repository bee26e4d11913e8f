pub use Rattle.phase_handshake.proofs as phase_handshake
pub mod Addresses
pub mod BlockWalks
pub mod ThreadReferences
pub mod Marks
pub mod Copies
pub mod HeapStores
pub mod Births
pub mod PhaseChanges
