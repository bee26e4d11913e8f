-- At the end of a cycle no more words are in use than the objects have that were reachable where it began, or were made since.
pub mod ReachableObjects
pub mod NamesInSets
pub mod OpenCycleStates
pub mod NewestCycles
pub mod CycleEnds
pub mod CycleNames
pub mod NamesAfterEvents
pub mod ThreadNames
pub mod SumsOverNames
pub mod BornWords
