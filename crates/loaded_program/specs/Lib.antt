pub use Rattle.cil_model.specs as cil_model
pub use Rattle.reference_machine.specs as reference_machine
pub use Rattle.name_tables.specs as name_tables
pub use Rattle.resolved_code.specs as resolved_code
pub use Rattle.class_layout.specs as class_layout
pub use Rattle.object_memory.specs as object_memory
pub mod AllMethods
pub mod ResolvedKinds
pub mod LocalKinds
pub mod MethodNumbers
pub mod Operands
pub mod Links
pub mod LoadedPrograms
