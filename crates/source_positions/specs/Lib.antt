pub use Rattle.cil_model.specs as cil_model
pub use Rattle.source_lines.specs as source_lines
pub mod Positions
