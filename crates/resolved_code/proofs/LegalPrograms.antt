-- What a legal program says of the names in it.
pub mod Limits
pub mod FoundNames
pub mod Labels
