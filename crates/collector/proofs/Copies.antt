-- The work of Allocate and Copy: copies of marked objects, and their words.
pub mod CopiesStepByStep
pub mod CopyTests
pub mod CopySteps
pub mod UnchangedReads
pub mod CopiedWords
pub mod VisibleCopies
pub mod AgreeingCopies
pub mod AllocateWork
pub mod CopyWork
