pub use Rattle.phase_handshake.specs as phase_handshake
pub mod References
pub mod Attempts
pub mod Phases
pub mod Soundness
pub mod MarkSteps
pub mod CopySteps
pub mod Flips
pub mod Holds
pub mod Conditions
