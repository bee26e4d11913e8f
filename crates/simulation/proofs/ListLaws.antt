-- Laws of lists that the other proofs use.
pub mod TestsAndLengths
pub mod ChangedItems
pub mod AgreeingLists
