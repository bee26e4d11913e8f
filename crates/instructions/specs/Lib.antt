pub use Rattle.barriers.specs as barriers
pub mod Frames
pub mod LocalTransitions
pub mod ObjectTransitions
pub mod Calls
pub mod BuiltInTransitions
pub mod TypeTransitions
