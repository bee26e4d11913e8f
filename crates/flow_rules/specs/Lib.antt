pub mod StackTypes
pub mod Merging
pub mod Flow
pub mod Members
pub mod Operations
