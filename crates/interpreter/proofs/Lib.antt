pub use Rattle.cil_model.proofs as cil_model
pub use Rattle.reference_machine.proofs as reference_machine
pub use Rattle.name_tables.proofs as name_tables
pub use Rattle.resolved_code.proofs as resolved_code
pub use Rattle.object_memory.proofs as object_memory
pub use Rattle.loaded_program.proofs as loaded_program
pub use Rattle.threads_monitors.proofs as threads_monitors
pub use Rattle.instructions.proofs as instructions
pub mod MethodsToRun
pub mod VirtualReceivers
pub mod ResolvedInstructions
pub mod PrintedResults
pub mod LinkedTransitions
pub mod LinkedExecution
pub mod LocalRules
pub mod LocalKeeps
pub mod LocalSteps
