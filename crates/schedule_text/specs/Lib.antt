pub mod Errors
pub mod Insertions
pub mod Items
pub mod Readings
pub mod Writings
