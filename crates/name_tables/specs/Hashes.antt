-- What the hashes of keys take in: all that distinguishes two keys with one name.
use Rattle.std.specs.Hash.{HashWrites, str, slice}
use Rattle.std.specs.Prelude.{◌++◌}
use Rattle.cil_model.specs.declared.types.DeclaredType.{DeclaredType}
use Rattle.cil_model.specs.declared.trees.Field.{Field}
use Rattle.cil_model.specs.contracts.types.DeclaredTypeHash.TheImpl.{hash_input-value}
use Rattle.name_tables.specs.Sameness.{MethodIdentity}
use Rattle.name_tables.specs.Keys.{hash_input_of_name}

abbrev pub hash_input_of_type : DeclaredType → HashWrites
hash_input_of_type t = hash_input-value.it t

-- a method's name and its parameters
abbrev pub hash_input_of_method : MethodIdentity → HashWrites
hash_input_of_method m = hash_input_of_name m.name ++ slice hash_input_of_type m.signature.parameters

-- a field's name and its type
abbrev pub hash_input_of_field : Field → HashWrites
hash_input_of_field f = str f.name ++ hash_input_of_type f.field_type
