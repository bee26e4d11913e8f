-- Runs of a machine: what the reference machine does on the same events.
pub mod RepresentedStates
pub mod FollowedRuns
pub mod LongerRuns
