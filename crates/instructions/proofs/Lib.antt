pub mod Names
pub mod References
pub mod Results
