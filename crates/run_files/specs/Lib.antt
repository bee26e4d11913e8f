pub mod Differences
pub mod RunFiles
