pub use Rattle.cil_model.specs as cil_model
pub use Rattle.reference_machine.specs as reference_machine
pub use Rattle.name_tables.specs as name_tables
pub use Rattle.resolved_code.specs as resolved_code
pub use Rattle.object_memory.specs as object_memory
pub use Rattle.loaded_program.specs as loaded_program
pub use Rattle.threads_monitors.specs as threads_monitors
pub use Rattle.instructions.specs as instructions
pub mod Calls
pub mod Instructions
pub mod Local
pub mod Stores
