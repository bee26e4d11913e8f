pub mod RunFileLemmas
