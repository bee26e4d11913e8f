-- A heap stays sound as the next phase is posted, from the opening of a cycle to its end.
pub mod LaterPhases
pub mod BetweenCycles
pub mod Rounds
pub mod FlipPhases
pub mod StaticFlips
pub mod ReclaimWork
