-- The births of objects keep the heap sound.
pub mod NewCells
pub mod HeapsAfterBirths
pub mod BirthSoundness
