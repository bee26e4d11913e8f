-- What single instructions do.
pub mod Arithmetic
pub mod Branches
pub mod FieldsAndArrays
pub mod Calls
