-- Classes, fields, methods, slots and literals have numbers, which represent them.
pub mod Classes
pub mod Types
pub mod Declarations
pub mod Methods
pub mod Slots
pub mod Literals
pub mod EntryPoints
