-- The collector's events, and what threads mark when they acknowledge a phase.
pub mod CollectorEvents
pub mod FrameMarks
pub mod FrameReferences
pub mod AddressWalks
