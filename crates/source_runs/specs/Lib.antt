pub use Rattle.shared_machine.specs as shared_machine
pub use Rattle.shared_machine.specs.simulation as simulation
pub use Rattle.reference_machine.specs as reference_machine
pub use Rattle.acceptance.specs as acceptance
pub mod Runs
