pub mod Many
mod Text
pub mod Reserved
pub mod Reading
mod GapStates
mod SpaceLaws
