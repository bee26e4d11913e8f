pub use Rattle.event_trace.proofs as event_trace
pub use Rattle.svg_text.proofs as svg_text
pub mod RowLaws
pub mod PathLaws
pub mod SentenceLaws
pub mod PictureLaws
pub mod OneRow
