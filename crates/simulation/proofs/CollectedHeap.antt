-- The heap of a machine with a collector is a memory for the instructions of each thread, in each phase.
pub mod CollectedMemory
pub mod VisibleNames
pub mod TwoCopies
pub mod RewrittenCells
pub mod HeapChanges
pub mod ObjectChanges
pub mod LiteralMonitors
pub mod NewObjects
pub mod UsedWords
pub mod MemoryWithRoom
