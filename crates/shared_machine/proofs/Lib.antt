pub use Rattle.interleaving_core.proofs.simulation as simulation
pub use Rattle.interleaving_core.proofs as interleaving_core
pub mod KnownAnswers
pub mod Histories
pub mod Lendings
pub mod Bounds
pub mod Codes
pub mod OneWorker
pub mod TicketCounts
pub mod OwnEvents
pub mod InitialStates
pub mod Records
pub mod ServedThreads
pub mod Moves
