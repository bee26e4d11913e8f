pub mod Beginnings
pub mod Streams
