pub use Rattle.event_trace.proofs as event_trace
pub use Rattle.shared_machine.proofs as shared_machine
pub mod ReplayLaws
