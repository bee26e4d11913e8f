-- What the built-in classes declare.
use Rattle.std.specs.Prelude.{Bool, true, false, [], ◌∷◌, map, Option, Some, None}
use Rattle.cil_model.specs.declared.types.ClassName.{ClassName}
use Rattle.cil_model.specs.declared.types.Element.{Element}
use Rattle.cil_model.specs.declared.types.Element.TheVariants as element
use Rattle.cil_model.specs.declared.instructions.MethodName.TheVariants.{Named}
use Rattle.cil_model.specs.declared.trees.Method.{Method}
use Rattle.cil_model.specs.declared.trees.MethodKind.TheVariants as kind
use Rattle.cil_model.specs.Declarations.{Declaration, built_in, object_name, object_constructor, run_method, void_method, plain, no_code}
use Rattle.name_tables.specs.declared.built_in.BuiltInClass.{BuiltInClass}
use Rattle.name_tables.specs.declared.built_in.BuiltInMethod.{BuiltInMethod}
use Rattle.name_tables.specs.declared.built_in.BuiltInMethod.TheVariants.{Constructor, Run, Instance, Static}
use Rattle.name_tables.specs.declared.built_in.BuiltInRow.{BuiltInRow}
use Rattle.name_tables.specs.declared.built_in.Parameter.{Parameter}
use Rattle.name_tables.specs.declared.built_in.Parameter.TheVariants.{Int32, Int64, String, Object}

abbrev pub built_in_entry : BuiltInClass → ClassName × Declaration
built_in_entry b = (b.name, built_in b.base b.methods)

-- ---- the rows of the table

abbrev pub element_of : Parameter → Element
element_of Int32 = element.Int32
element_of Int64 = element.Int64
element_of String = element.String
element_of Object = element.Object

abbrev pub method_of : BuiltInMethod → Method
method_of Constructor = object_constructor
method_of Run = run_method
method_of (Instance name) = void_method (Named name.now) [] (kind.Instance no_code)
method_of (Static name parameter) = void_method (Named name.now) (plain (element_of parameter) ∷ []) (kind.Static no_code)

abbrev pub base_of : Bool → Option ClassName
base_of true = Some object_name
base_of false = None

abbrev pub row_entry : BuiltInRow → ClassName × Declaration
row_entry row = (record { assembly = Some row.library.now; name = row.name.now }, built_in (base_of row.is_derived) (map method_of row.methods.now))
