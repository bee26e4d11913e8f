pub mod CountLemmas
pub mod LineLemmas
pub mod MostLemmas
