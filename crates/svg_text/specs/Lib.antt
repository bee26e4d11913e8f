pub mod Elements
pub mod Contents
