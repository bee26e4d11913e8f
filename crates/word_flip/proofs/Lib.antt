pub mod ObjectWords
pub mod Initial
