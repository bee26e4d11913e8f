pub mod Frames
pub mod Roots
pub mod Monitors
pub mod Activations
pub mod Threads
