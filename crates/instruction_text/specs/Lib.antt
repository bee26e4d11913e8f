pub mod Characters
pub mod Texts
pub mod Operands
