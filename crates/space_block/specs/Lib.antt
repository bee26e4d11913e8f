pub mod Memory
pub mod Rows
pub mod WrittenWords
