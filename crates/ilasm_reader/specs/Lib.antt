pub mod Answers
pub mod Parsing
pub mod Forms
pub mod Sound
