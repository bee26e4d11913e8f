-- How large the classes, methods and limits of a legal program can be.
pub mod LimitRanges
pub mod ClassesAndFields
pub mod Methods
