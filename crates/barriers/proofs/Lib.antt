pub mod UnchangedObjects
pub mod Twins
