-- Objects, arrays and literals at addresses, in any memory on which instructions can run.
pub mod MemoryModels
pub mod NamedAddresses
pub mod ObjectsAtAddresses
pub mod ClassesAtAddresses
pub mod TypesAtAddresses
pub mod ThreadObjects
pub mod Monitors
pub mod ReferenceSlots
pub mod FieldSlots
pub mod InheritedFields
pub mod FieldPositions
pub mod CellSizes
pub mod InitialValues
