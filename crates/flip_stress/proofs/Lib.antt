pub mod Owners
pub mod Taken
