-- What the numbers of classes and types represent.
use Rattle.std.specs.Prelude.{◌≡◌, ℕ, List, map, Option, Some, option_map, slice_get}
use Rattle.std.specs.Option.{option_map_or}
use Rattle.cil_model.specs.declared.types.ClassName.{ClassName}
use Rattle.cil_model.specs.declared.types.Element.{Element}
use Rattle.cil_model.specs.declared.types.Element.TheVariants.{Int32 as Int32Element, Int64 as Int64Element, Object as ObjectElement, String as StringElement, Class as ClassElement}
use Rattle.cil_model.specs.declared.types.DeclaredType.{DeclaredType}
use Rattle.cil_model.specs.declared.trees.Tree.{Tree}
use Rattle.cil_model.specs.Declarations.{Declaration, object_name}
use Rattle.name_tables.specs.Numbers.{declarations}
use Rattle.resolved_code.specs.declared.types.ResolvedElement.{ResolvedElement}
use Rattle.resolved_code.specs.declared.types.ResolvedElement.TheVariants.{Int32, Int64, Object, String, Class}
use Rattle.resolved_code.specs.declared.types.ResolvedType.{ResolvedType}

-- the name of the class with this number: built-in classes come first, then those of the source (this profile)
abbrev pub class_name : Tree → ℕ → Option ClassName
class_name tree n = option_map (λ (e : ClassName × Declaration). e.0) (slice_get (declarations tree) n)

-- the type without brackets that a resolved one represents, where its number is a class's (II.7.1)
abbrev pub element_at : Tree → ResolvedElement → Option Element
element_at tree Int32 = Some Int32Element
element_at tree Int64 = Some Int64Element
element_at tree Object = Some ObjectElement
element_at tree String = Some StringElement
element_at tree (Class n) = option_map ClassElement (class_name tree n)

-- the type that a resolved one represents (II.7.1)
abbrev pub type_at : Tree → ResolvedType → Option DeclaredType
type_at tree t = option_map (λ e. record { element = e; brackets = t.brackets }) (element_at tree t.element)

-- the types that a list represents
abbrev pub AreTypes : Tree → List ResolvedType → List DeclaredType → Type 0
AreTypes tree has_id types = map (type_at tree) has_id ≡ map Some types

-- ---- the same of each number: one that is no class's, which no resolved code has, represents System.Object

-- the class with this number
abbrev pub class_named : Tree → ℕ → ClassName
class_named tree n = option_map_or (λ (c : ClassName). c) (class_name tree n) object_name

-- the type without brackets (II.7.1)
abbrev pub element_named : Tree → ResolvedElement → Element
element_named tree Int32 = Int32Element
element_named tree Int64 = Int64Element
element_named tree Object = ObjectElement
element_named tree String = StringElement
element_named tree (Class n) = ClassElement (class_named tree n)

-- the type (II.7.1)
abbrev pub type_named : Tree → ResolvedType → DeclaredType
type_named tree t = record { element = element_named tree t.element; brackets = t.brackets }

-- the types of a list
abbrev pub types_named : Tree → List ResolvedType → List DeclaredType
types_named tree types = map (type_named tree) types
