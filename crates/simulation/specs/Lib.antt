pub use Rattle.interpreter.specs.cil_model as cil_model
pub use Rattle.interpreter.specs.reference_machine as reference_machine
pub use Rattle.interpreter.specs.name_tables as name_tables
pub use Rattle.interpreter.specs.resolved_code as resolved_code
pub use Rattle.interpreter.specs.object_memory as object_memory
pub use Rattle.collector.specs.phase_handshake as phase_handshake
pub use Rattle.collector.specs as collector
pub use Rattle.interpreter.specs.loaded_program as loaded_program
pub use Rattle.interpreter.specs.threads_monitors as threads_monitors
pub use Rattle.interpreter.specs.instructions as instructions
pub use Rattle.interpreter.specs as interpreter
pub mod Agreement
pub mod Counts
pub mod MachineStates
pub mod Rooms
pub mod Sound
pub mod CollectorSteps
pub mod ReachedStates
pub mod Refines
pub mod Transitions
pub mod ReadySteps
pub mod LentFrames
pub mod Budgets
pub mod Runs
pub mod RetainedObjects
