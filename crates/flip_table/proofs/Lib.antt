pub mod InitialTables
pub mod Plays
pub mod StepsKeep
pub mod Tokens
