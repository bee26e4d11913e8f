pub use Rattle.interleaving_core.specs as interleaving_core
pub use Rattle.interleaving_core.specs.simulation as simulation
pub mod Errors
pub mod Failures
pub mod Sources
