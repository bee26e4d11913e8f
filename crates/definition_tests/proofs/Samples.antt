-- The programs and the state on which definitions are tested.
pub mod Tables
pub mod Programs
pub mod FarmProgram
