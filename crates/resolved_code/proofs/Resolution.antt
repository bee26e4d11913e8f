-- What functions that resolve names return.
pub mod Outcomes
pub mod ClassesAndMethods
pub mod Programs
