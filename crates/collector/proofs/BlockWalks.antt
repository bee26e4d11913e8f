-- Walks over the cells of a block, and the collector's cursor in it.
pub mod FirstCells
pub mod Walks
pub mod ChangedBlocks
pub mod CollectorOffsets
