-- What the keys of the tables represent.
use Rattle.std.specs.Hash.{HashWrites, str}
use Rattle.std.specs.Prelude.{ℕ, Bool, List, [], Option, Some, None, option_map}
use Rattle.cil_model.specs.declared.types.ClassName.{ClassName}
use Rattle.cil_model.specs.declared.instructions.MethodName.{MethodName}
use Rattle.cil_model.specs.declared.instructions.MethodName.TheVariants.{Constructor, Named}
use Rattle.cil_model.specs.declared.instructions.MethodReference.{MethodReference}
use Rattle.cil_model.specs.declared.trees.Field.{Field}
use Rattle.name_tables.specs.Sameness.{MethodIdentity}
use Rattle.name_tables.specs.declared.keys.TextKey.{TextKey}
use Rattle.name_tables.specs.declared.keys.ClassKey.{ClassKey}
use Rattle.name_tables.specs.declared.keys.FieldKey.{FieldKey}
use Rattle.name_tables.specs.declared.keys.MethodKey.{MethodKey}
use Rattle.name_tables.specs.declared.keys.CallKey.{CallKey}

abbrev pub text_of_key : TextKey → List ℕ
text_of_key k = k.text.now

abbrev pub class_of_key : ClassKey → ClassName
class_of_key k = record { assembly = option_map (λ t. t.now) k.assembly; name = k.name.now }

abbrev pub field_of_key : FieldKey → Field
field_of_key k = record { is_static = k.is_static; field_type = k.field_type.now; name = k.name.now }

-- no name is a constructor's
abbrev pub method_name_of : Option (List ℕ) → MethodName
method_name_of None = Constructor
method_name_of (Some name) = Named name

abbrev pub method_of_key : MethodKey → MethodIdentity
method_of_key k = record {
  name = method_name_of (option_map (λ t. t.now) k.name);
  signature = record { parameters = k.parameters.now; return_type = option_map (λ t. t.now) k.return_type };
}

-- the reference to a method of a class
abbrev pub reference_of_keys : ClassKey → MethodKey → MethodReference
reference_of_keys owner k = record { owner = class_of_key owner; name = (method_of_key k).name; signature = (method_of_key k).signature }

abbrev pub call_identity_of_key : CallKey → MethodIdentity × Bool
call_identity_of_key k = (method_of_key k.method, k.is_static)

-- what the hash of a method's name takes in
abbrev pub hash_input_of_name : MethodName → HashWrites
hash_input_of_name Constructor = []
hash_input_of_name (Named name) = str name
