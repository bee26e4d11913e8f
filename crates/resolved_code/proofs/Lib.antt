pub mod ListLaws
pub mod Resolution
pub mod LegalPrograms
pub mod Numbers
pub mod InstructionOperations
