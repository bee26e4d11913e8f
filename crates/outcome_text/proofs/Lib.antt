pub mod ScheduleLemmas
