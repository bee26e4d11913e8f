pub use Rattle.name_tables.specs as name_tables
pub mod ById
pub mod TypeTests
pub mod Identities
pub mod ResolvedPrograms
pub mod Rules
pub mod Outcomes
pub mod LabelIndices
pub mod VirtualSlots
pub mod Contents
