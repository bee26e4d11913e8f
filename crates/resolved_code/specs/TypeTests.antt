-- Whether a value of one type may be given where another is expected, by numbers, up to a test of two classes (I.8.7).
use Rattle.std.specs.Prelude.{◌≡◌, ◌==◌, nat_lt, Bool, true, false, ◌&&◌, if◌then◌else◌, Some}
use Rattle.cil_model.specs.declared.types.ClassName.{ClassName}
use Rattle.cil_model.specs.declared.trees.Tree.{Tree}
use Rattle.cil_model.specs.Assignable.{is_class_assignable}
use Rattle.resolved_code.specs.ById.{class_name}
use Rattle.resolved_code.specs.declared.types.ResolvedElement.{ResolvedElement}
use Rattle.resolved_code.specs.declared.types.ResolvedElement.TheVariants.{Int32, Int64, Object, String, Class}
use Rattle.resolved_code.specs.declared.types.ResolvedType.{ResolvedType}
use Rattle.resolved_code.specs.declared.type_tests.TypeTest.{TypeTest}
use Rattle.resolved_code.specs.declared.type_tests.TypeTest.TheVariants.{Answered, OfClasses}

-- whether the element is `object`
abbrev pub is_object : ResolvedElement → Bool
is_object Object = true
is_object Int32 = false
is_object Int64 = false
is_object String = false
is_object (Class n) = false

-- a type without brackets to another
abbrev pub element_test : ResolvedElement → ResolvedElement → TypeTest
element_test Int32 Object = Answered false
element_test Int64 Object = Answered false
element_test Object Object = Answered true
element_test String Object = Answered true
element_test (Class from) Object = Answered true
element_test (Class from) (Class to) = OfClasses from to
element_test Int32 Int32 = Answered true
element_test Int64 Int64 = Answered true
element_test String String = Answered true
element_test _ _ = Answered false

-- the same number of brackets, or more of them to `object`
abbrev pub type_test : ResolvedType → ResolvedType → TypeTest
type_test from to = if from.brackets == to.brackets then element_test from.element to.element else Answered (nat_lt to.brackets from.brackets && is_object to.element)

-- the outcome of a test: its result, or that of the two classes with its numbers
abbrev pub IsResultOf : Tree → TypeTest → Bool → Type 0
IsResultOf tree (Answered answer) is = answer ≡ is
IsResultOf tree (OfClasses from to) is = (c : ClassName) × (d : ClassName) × (class_name tree from ≡ Some c) × (class_name tree to ≡ Some d) × (is_class_assignable tree c d ≡ is)
