pub use Rattle.cil_model.specs as cil_model
pub use Rattle.ilasm_tokens.specs as ilasm_tokens
pub mod Lines
