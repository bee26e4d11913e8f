pub mod Promises
pub mod Stress
