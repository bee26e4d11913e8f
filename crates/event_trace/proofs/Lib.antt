pub use Rattle.interleaving_core.proofs as interleaving_core
pub mod PositionLaws
pub mod TraceLaws
pub mod ColumnLaws
pub mod EndLaws
pub mod WaitsAlike
pub mod Classes
pub mod ThreadSets
pub mod RoundLaws
pub mod Greatest
mod Names
