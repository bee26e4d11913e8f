pub mod Changes
pub mod Lines
pub mod ScopedTables
pub mod MarkedDeclarations
pub mod Query
pub mod CutCycles
pub mod Cycles
pub mod TopologicalOrder
