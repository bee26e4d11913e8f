-- What operands of resolved instructions represent: slots, numbers and kinds. None where an operand represents nothing, or is no number of the
-- size that a step takes: no verified program has such a one.
use Rattle.std.specs.Prelude.{ℕ, ◌^◌, if◌then◌else◌, nat_lt, length, Option, Some, None, option_map, option_and_then, FitsSigned}
use Rattle.std.specs.Int.{w32, w64}
use Rattle.cil_model.specs.declared.types.ClassName.{ClassName}
use Rattle.cil_model.specs.declared.trees.Tree.{Tree}
use Rattle.cil_model.specs.declared.trees.Field.{Field}
use Rattle.cil_model.specs.Fields.{FieldKey, instance_slot, static_slot, slot_types}
use Rattle.cil_model.specs.ValueKinds.{kind_of_type}
use Rattle.name_tables.specs.declared.ids.FieldId.{FieldId}
use Rattle.name_tables.specs.declared.ids.MethodId.{MethodId}
use Rattle.name_tables.specs.Numbers.{field_at}
use Rattle.resolved_code.specs.ById.{class_name}
use Rattle.resolved_code.specs.declared.operations.Operation.{Operation}
use Rattle.resolved_code.specs.declared.operations.Operation.TheVariants.{LoadInt32, LoadInt64}
use Rattle.resolved_code.specs.declared.types.ResolvedElement.{ResolvedElement}
use Rattle.resolved_code.specs.declared.types.ResolvedElement.TheVariants.{Int32 as ResolvedInt32, Int64 as ResolvedInt64, Object as ResolvedObject, String as ResolvedString, Class as ClassById}
use Rattle.resolved_code.specs.declared.types.ResolvedType.{ResolvedType}
use Rattle.object_memory.specs.declared.kinds.ArrayElement.{ArrayElement}
use Rattle.object_memory.specs.declared.kinds.ElementType.{ElementType}
use Rattle.object_memory.specs.declared.kinds.ElementType.TheVariants.{Int32 as HeldInt32, Int64 as HeldInt64, Object as HeldObject, String as HeldString, Class as HeldClass}
use Rattle.cil_model.specs.declared.values.ValueKind.{ValueKind}

-- the integer of a constant has the bits of its size (III.3.40)
abbrev pub HasSmallConstant : Operation → Type 0
HasSmallConstant (LoadInt32 z) = FitsSigned w32 z
HasSmallConstant (LoadInt64 z) = FitsSigned w64 z
HasSmallConstant _ = Unit {0}

-- a number of 32 bits
abbrev pub small : ℕ → Option ℕ
small n = if nat_lt n (2 ^ 32) then Some n else None

-- the key of a field
abbrev pub key_at : ClassName × Field → FieldKey
key_at found = record { declared_in = found.0; name = found.1.name }

-- the slot of an instance field
abbrev pub slot_in : Tree → ClassName × Field → Option ℕ
slot_in tree found = if found.1.is_static then None else option_and_then small (instance_slot tree (key_at found))

abbrev pub slot_at : Tree → FieldId → Option ℕ
slot_at tree n = option_and_then (slot_in tree) (field_at tree (n.class, n.index))

-- the number of a static field
abbrev pub static_in : Tree → ClassName × Field → Option ℕ
static_in tree found = if found.1.is_static then option_and_then small (static_slot tree (key_at found)) else None

abbrev pub static_at : Tree → FieldId → Option ℕ
static_at tree n = option_and_then (static_in tree) (field_at tree (n.class, n.index))

-- what a field holds
abbrev pub field_kind_at : Tree → FieldId → Option ValueKind
field_kind_at tree n = option_map (λ (found : ClassName × Field). kind_of_type found.1.field_type) (field_at tree (n.class, n.index))

-- what an array of these elements is made by: a class's number of 16 bits, and few brackets
abbrev pub linked_element : ResolvedElement → Option ElementType
linked_element ResolvedInt32 = Some HeldInt32
linked_element ResolvedInt64 = Some HeldInt64
linked_element ResolvedObject = Some HeldObject
linked_element ResolvedString = Some HeldString
linked_element (ClassById n) = if nat_lt n (2 ^ 16) then Some (HeldClass n) else None

abbrev pub linked_array : ResolvedType → Option ArrayElement
linked_array t = if nat_lt t.brackets 256 then option_map (λ e. record { element = e; brackets = t.brackets }) (linked_element t.element) else None

-- the number of a member's class, of 16 bits
abbrev pub class_in : MethodId → Option ℕ
class_in n = if nat_lt n.class (2 ^ 16) then Some n.class else None

-- how many slots the objects of its class have
abbrev pub slots_at : Tree → MethodId → Option ℕ
slots_at tree n = option_and_then (λ c. small (length (slot_types tree c))) (class_name tree n.class)
