pub use Rattle.ilasm_reader.specs as ilasm_reader
pub use Rattle.source_positions.specs.cil_model as cil_model
