-- The work of Mark, and the marks that threads make.
pub mod MarkChanges
pub mod MarkSteps
pub mod MarkedHeaps
pub mod MarksOfStores
pub mod MarkWork
