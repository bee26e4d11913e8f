pub mod Plans
pub mod Rule
pub mod Steps
pub mod Tokens
