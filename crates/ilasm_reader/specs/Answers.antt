-- The results of reading a source.
use Rattle.std.specs.Prelude.{◌≡◌, ℕ, false, List, Result, Ok, Err}
use Rattle.cil_model.specs.declared.trees.Tree.{Tree}
use Rattle.cil_model.specs.Sources.{is_too_long, has_foreign_byte, IsAnswer, HasTree, TooLong as IsTooLong, Foreign, NoToken as HasNoToken, NoTree as HasNoTree}
use Rattle.ilasm_reader.specs.declared.reading.ReadError.{ReadError}
use Rattle.ilasm_reader.specs.declared.reading.ReadError.TheVariants.{TooLong, NotAscii, NoToken, NoTree, OutOfMemory}

-- the number by which a user knows a refusal (this profile)
abbrev pub error_number : ReadError → ℕ
error_number (NotAscii offset) = 101
error_number (NoToken offset) = 102
error_number (NoTree offset expected) = 103
error_number TooLong = 104
error_number OutOfMemory = 105

-- what each result says of the source; memory runs out only where neither the length nor a byte was refused
abbrev pub IsReadAnswer : List ℕ → Result Tree ReadError → Type 0
IsReadAnswer source (Ok tree) = IsAnswer source (HasTree tree)
IsReadAnswer source (Err TooLong) = IsAnswer source IsTooLong
IsReadAnswer source (Err (NotAscii offset)) = IsAnswer source Foreign
IsReadAnswer source (Err (NoToken offset)) = IsAnswer source HasNoToken
IsReadAnswer source (Err (NoTree offset expected)) = IsAnswer source HasNoTree
IsReadAnswer source (Err OutOfMemory) = (is_too_long source ≡ false) × (has_foreign_byte source ≡ false)
