pub mod ByClass
pub mod Kinds
pub mod FieldSlots
pub mod SlotUses
pub mod Targets
pub mod Layouts
