-- What tests of addresses say of the cells at them, and which changes keep these tests.
pub mod Disjunctions
pub mod Tests
pub mod GrowingBlocks
pub mod TagChanges
pub mod LiveForwards
pub mod ObjectsInHeaps
