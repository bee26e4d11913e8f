-- Stores of threads keep the heap sound, in each pair of phases.
pub mod CellChanges
pub mod ReachedCopies
pub mod StoredCells
pub mod StoreSoundness
pub mod StaticStores
