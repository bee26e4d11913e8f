-- Whole runs of small programs.
pub mod FirstRuns
pub mod ObjectsAndThreads
