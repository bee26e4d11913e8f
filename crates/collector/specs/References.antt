-- Which slots hold references, and which references pass a test: what a collector needs to know of objects (this profile).
use Rattle.std.specs.Prelude.{◌≡◌, ℕ, zero, suc, ◌%◌, ◌==◌, ◌||◌, Bool, true, false, is_some, Some, slice_get}
use Rattle.std.specs.Option.{option_map_or}
use Rattle.cil_model.specs.declared.trees.Tree.{Tree}
use Rattle.cil_model.specs.Fields.{is_reference_slot}
use Rattle.resolved_code.specs.ById.{class_name}
use Rattle.object_memory.specs.declared.addresses.Addr.{Addr}
use Rattle.object_memory.specs.declared.addresses.TheConstants.{ADDRESSES}
use Rattle.object_memory.specs.declared.kinds.ElementType.{ElementType}
use Rattle.object_memory.specs.declared.kinds.ElementType.TheVariants.{Int32, Int64, Object, String, Class}
use Rattle.object_memory.specs.declared.kinds.Kind.{Kind}
use Rattle.object_memory.specs.declared.kinds.Kind.TheVariants.{Instance, Array}
use Rattle.object_memory.specs.declared.values.Value.{Value}
use Rattle.object_memory.specs.declared.values.Value.TheVariants.{Int32 as Int32Value, Int64 as Int64Value, Native, Ref}
use Rattle.object_memory.specs.Cells.{Cell, literal_number}

-- ---- slots

-- an element of an array is a reference unless it is an integer without brackets (II.14.2)
abbrev pub is_reference_element : ElementType → ℕ → Bool
is_reference_element e (suc brackets) = true
is_reference_element Int32 zero = false
is_reference_element Int64 zero = false
is_reference_element Object zero = true
is_reference_element String zero = true
is_reference_element (Class c) zero = true

-- whether a slot of an object holds a reference: by the type of its field or of its elements
abbrev pub holds_reference : Tree → Kind → ℕ → Bool
holds_reference tree (Instance class) slot = option_map_or (λ c. is_reference_slot tree c slot) (class_name tree class) false
holds_reference tree (Array a) slot = is_reference_element a.element a.brackets

-- the reference that the word of such a slot holds
abbrev pub reference_in : ℕ → Addr
reference_in word = record { number = word % ADDRESSES }

-- whether a value is a reference
abbrev pub is_reference_value : Value → Bool
is_reference_value (Ref a) = true
is_reference_value (Int32Value n) = false
is_reference_value (Int64Value n) = false
is_reference_value (Native n) = false

-- ---- tests of addresses

abbrev pub Test : Type 0
Test = Addr → Bool

-- null and literals are moved by no collector
abbrev pub is_permanent : Test
is_permanent a = (a.number == 0) || is_some (literal_number a)

-- ---- what passes a test

-- a value that is a reference passes where its address does; an integer always
abbrev pub ValuePasses : Test → Value → Type 0
ValuePasses test (Ref a) = test a ≡ true
ValuePasses test (Int32Value n) = Unit {0}
ValuePasses test (Int64Value n) = Unit {0}
ValuePasses test (Native n) = Unit {0}

-- each reference in the slots of an object passes
abbrev pub SlotsPass : Tree → Test → Cell → Type 0
SlotsPass tree test cell = (slot word : ℕ) → slice_get cell.slots slot ≡ Some word → holds_reference tree cell.kind slot ≡ true → test (reference_in word) ≡ true
