-- Runs of the reference machine: what they keep, and that the same events have one run.
pub mod StateChanges
pub mod IntegerFaults
pub mod InstructionEffects
pub mod JoinedRuns
pub mod RefusedRuns
pub mod OutOfMemory
pub mod ExampleRun
