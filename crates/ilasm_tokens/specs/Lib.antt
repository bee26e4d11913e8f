pub mod Steps
pub mod Vocabulary
pub mod Lexing
pub mod Parts
pub mod Answers
