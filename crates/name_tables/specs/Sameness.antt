-- What identifies fields and methods besides their class, and when two are the same.
use Rattle.std.specs.Prelude.{Bool, ◌&&◌, ◌==◌}
use Rattle.cil_model.specs.declared.types.Signature.{Signature}
use Rattle.cil_model.specs.declared.instructions.MethodName.{MethodName}
use Rattle.cil_model.specs.declared.trees.Field.{Field}
use Rattle.cil_model.specs.declared.trees.Method.{Method}
use Rattle.name_tables.specs.declared.keys.CallNumber.{CallNumber}
use Rattle.cil_model.specs.Same.{same_flag, same_text, same_type, same_signature, same_method_name}
use Rattle.cil_model.specs.Chains.{is_static}

-- by name, type and staticness (II.16)
abbrev pub same_field : Field → Field → Bool
same_field a b = same_text a.name b.name && same_type a.field_type b.field_type && same_flag a.is_static b.is_static

-- the name and signature of a method (II.15)
pub record MethodIdentity : Type 0 where
  pub name : MethodName
  pub signature : Signature

abbrev pub identity_of : Method → MethodIdentity
identity_of m = record { name = m.name; signature = m.signature }

abbrev pub same_identity : MethodIdentity → MethodIdentity → Bool
same_identity a b = same_method_name a.name b.name && same_signature a.signature b.signature

-- with its staticness, as a call has it (II.15.1.3)
abbrev pub call_identity_of : Method → MethodIdentity × Bool
call_identity_of m = (identity_of m, is_static m.kind)

abbrev pub same_call_identity : MethodIdentity × Bool → MethodIdentity × Bool → Bool
same_call_identity a b = same_identity a.0 b.0 && same_flag a.1 b.1

-- calls whose methods' names and signatures have numbers
abbrev pub same_call : CallNumber → CallNumber → Bool
same_call a b = (a.number == b.number) && same_flag a.is_static b.is_static
