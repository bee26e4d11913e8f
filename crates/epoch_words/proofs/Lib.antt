pub mod StepsKeep
pub mod Views
