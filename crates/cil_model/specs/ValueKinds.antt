-- What values a location of each type holds.
use Rattle.std.specs.Prelude.{ℕ, zero, suc, Bool, true, false}
use Rattle.cil_model.specs.declared.instructions.ElementKind.{ElementKind}
use Rattle.cil_model.specs.declared.instructions.ElementKind.TheVariants as Elements
use Rattle.cil_model.specs.declared.types.Element.{Element}
use Rattle.cil_model.specs.declared.types.Element.TheVariants.{Int32, Int64, Object, String, Class}
use Rattle.cil_model.specs.declared.types.DeclaredType.{DeclaredType}
use Rattle.cil_model.specs.declared.values.ValueKind.{ValueKind}
use Rattle.cil_model.specs.declared.values.ValueKind.TheVariants as Kind

-- every type but the two integers is a reference (I.8.2.1)
abbrev pub kind_at : Element → ℕ → ValueKind
kind_at e (suc n) = Kind.Ref
kind_at Int32 zero = Kind.Int32
kind_at Int64 zero = Kind.Int64
kind_at Object zero = Kind.Ref
kind_at String zero = Kind.Ref
kind_at (Class c) zero = Kind.Ref

-- the same, of a type
abbrev pub kind_of_type : DeclaredType → ValueKind
kind_of_type t = kind_at t.element t.brackets

-- what the elements of an array hold, by their kind (III.4.8)
abbrev pub kind_of_elements : ElementKind → ValueKind
kind_of_elements Elements.Int32 = Kind.Int32
kind_of_elements Elements.Int64 = Kind.Int64
kind_of_elements Elements.Reference = Kind.Ref

-- whether the values of a kind are references
abbrev pub is_reference_kind : ValueKind → Bool
is_reference_kind Kind.Ref = true
is_reference_kind Kind.Int32 = false
is_reference_kind Kind.Int64 = false
is_reference_kind Kind.Native = false
