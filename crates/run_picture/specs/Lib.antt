pub use Rattle.event_trace.specs as event_trace
pub use Rattle.event_rows.specs as event_rows
pub use Rattle.svg_text.specs as svg_text
pub mod Windows
pub mod Rows
pub mod Paths
pub mod Sentences
pub mod Pictures
pub mod Laws
