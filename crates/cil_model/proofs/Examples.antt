-- The example program: its text, its types, its rules.
pub mod Text
pub mod Typing
pub mod LeastBrokenRule
pub mod Tokens
