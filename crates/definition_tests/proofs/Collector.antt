-- What the collector does, and what a user sees of it.
pub mod Barriers
pub mod Cycles
pub mod RunsDuringCopying
pub mod RetainedWords
