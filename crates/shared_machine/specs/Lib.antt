pub use Rattle.interleaving_core.specs.simulation as simulation
pub use Rattle.interleaving_core.specs as interleaving_core
pub mod Codes
pub mod Histories
pub mod Worlds
pub mod Work
pub mod Counts
