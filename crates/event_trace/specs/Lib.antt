pub use Rattle.interleaving_core.specs as interleaving_core
pub mod MethodPositions
pub mod Columns
pub mod Lines
pub mod Pieces
pub mod Traces
pub mod Laws
pub mod Rounds
pub mod Deadlocks
pub mod Texts
