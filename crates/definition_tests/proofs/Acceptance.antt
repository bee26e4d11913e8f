-- Which programs are legal, and which have a typing.
pub mod LegalityRules
pub mod Assignability
pub mod MethodSlots
pub mod InstructionTypes
pub mod MergedStacks
pub mod UntypedProgram
