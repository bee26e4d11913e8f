-- Laws of lists that the other proofs use.
pub mod FoundItems
pub mod RelatedLists
pub mod RelatedItems
pub mod Repeats
pub mod Tests
