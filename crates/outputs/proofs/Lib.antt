pub mod BeginningLaws
pub mod StreamLaws
