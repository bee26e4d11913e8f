pub use Rattle.simulation.specs as simulation
pub mod Acknowledgements
pub mod CycleMemories
pub mod Views
pub mod FinishedSteps
pub mod Refusals
pub mod Statics
pub mod Positions
pub mod Waits
pub mod Monitors
pub mod Prints
pub mod Forwards
pub mod Histories
pub mod Loans
pub mod Alike
pub mod InitialStates
