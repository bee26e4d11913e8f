pub mod SharedReferences
pub mod Slots
pub mod Values
pub mod Walks
pub mod WordSequences
pub mod SendAndSync
