pub use Rattle.interpreter.proofs.cil_model as cil_model
pub use Rattle.interpreter.proofs.reference_machine as reference_machine
pub use Rattle.interpreter.proofs.name_tables as name_tables
pub use Rattle.interpreter.proofs.resolved_code as resolved_code
pub use Rattle.interpreter.proofs.object_memory as object_memory
pub use Rattle.collector.proofs as collector
pub use Rattle.interpreter.proofs.loaded_program as loaded_program
pub use Rattle.interpreter.proofs.threads_monitors as threads_monitors
pub use Rattle.interpreter.proofs.instructions as instructions
pub use Rattle.interpreter.proofs as interpreter
pub mod ListLaws
pub mod ProgramSizes
pub mod Memory
pub mod Representation
pub mod Instructions
pub mod Threads
pub mod MonitorCounts
pub mod CollectedHeap
pub mod CollectorEvents
pub mod CycleBounds
pub mod RetainedWords
pub mod Runs
