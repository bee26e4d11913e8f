pub use Rattle.acceptance.specs as acceptance
pub use Rattle.exploration.specs as exploration
pub use Rattle.exploration.specs.simulation as simulation
pub mod Explorations
