pub mod Objects
pub mod Tokens
