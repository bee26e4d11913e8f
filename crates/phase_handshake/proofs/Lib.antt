pub mod Closeness
pub mod PhaseDistances
