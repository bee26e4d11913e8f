-- A machine state represents a state of the reference machine: what follows from it, and under which names it holds.
pub mod VisibleState
pub mod MoreNames
pub mod NormalNames
pub mod NormalContents
pub mod LiteralNames
pub mod InitialContents
pub mod RootReferences
pub mod FrameReferences
