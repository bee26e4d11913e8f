-- Tokens and grammar.
pub mod Lexemes
pub mod Tokens
pub mod Types
