pub use Rattle.event_trace.specs as event_trace
pub use Rattle.shared_machine.specs as shared_machine
pub mod Callers
pub mod Locations
pub mod Ends
pub mod Replays
