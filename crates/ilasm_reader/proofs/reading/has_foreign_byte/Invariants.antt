use Rattle.std.proofs.Common.{◌≡◌, ◌||◌, drop}
use Rattle.cil_model.specs.Sources.{has_foreign_byte}
use Rattle.ilasm_reader.proofs.reading.has_foreign_byte.Given as goal

abbrev pub invariant-loop-byte : goal.invariant-loop-byte
invariant-loop-byte l = (l.found || has_foreign_byte (drop l.byte-index l.source)) ≡ has_foreign_byte l.source
