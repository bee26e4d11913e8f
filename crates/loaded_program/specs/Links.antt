-- What an instruction has for its operands once it is linked.
use Rattle.std.specs.Prelude.{◌≡◌, ℕ, Bool, if◌then◌else◌, nat_lt, length, Option, Some, None, option_map, option_and_then}
use Rattle.cil_model.specs.declared.types.ClassName.{ClassName}
use Rattle.cil_model.specs.declared.trees.Tree.{Tree}
use Rattle.cil_model.specs.declared.trees.Method.{Method}
use Rattle.cil_model.specs.Bodies.{argument_types}
use Rattle.name_tables.specs.declared.ids.FieldId.{FieldId}
use Rattle.name_tables.specs.declared.ids.MethodId.{MethodId}
use Rattle.name_tables.specs.Numbers.{method_at}
use Rattle.resolved_code.specs.declared.operations.Operation.{Operation}
use Rattle.resolved_code.specs.declared.operations.Operation.TheVariants as Resolved
use Rattle.object_memory.specs.declared.addresses.TheConstants.{FIRST_LITERAL}
use Rattle.object_memory.specs.Cells.{literal}
use Rattle.loaded_program.specs.AllMethods.{flat_number}
use Rattle.loaded_program.specs.declared.instructions.LinkedInstruction.{LinkedInstruction}
use Rattle.loaded_program.specs.declared.instructions.LinkedInstruction.TheVariants as Linked
use Rattle.loaded_program.specs.Operands.{slot_at, static_at, field_kind_at, linked_array, class_in, slots_at}

-- the flat number of a member, where it is a method
abbrev pub number_at : Tree → MethodId → Option ℕ
number_at tree n = option_map (λ (found : ClassName × Method). flat_number tree n.class n.index) (method_at tree (n.class, n.index))

-- a virtual call of a method, with the number of its operands (III.4.2)
abbrev pub virtual_link : Tree → MethodId → Option LinkedInstruction
virtual_link tree n = option_map (λ (found : ClassName × Method). Linked.CallVirtual (flat_number tree n.class n.index) (length (argument_types found.1 found.0))) (method_at tree (n.class, n.index))

-- an object's class, its slots and its constructor (III.4.21)
abbrev pub new_link : Tree → MethodId → Option LinkedInstruction
new_link tree n = option_and_then (λ class. option_and_then (λ slots. option_map (λ number. Linked.NewObject class slots number) (number_at tree n)) (slots_at tree n)) (class_in n)

-- a field's slot and what it holds (III.4.10)
abbrev pub field_link : Tree → FieldId → Option LinkedInstruction
field_link tree n = option_and_then (λ slot. option_map (λ kind. Linked.LoadField slot kind) (field_kind_at tree n)) (slot_at tree n)

-- a resolved instruction of a method that returns a value or none, linked (III.3, III.4). None where an operand represents nothing
abbrev pub link : Tree → Bool → Operation → Option LinkedInstruction
link tree has_value Resolved.NoOperation = Some Linked.NoOperation
link tree has_value (Resolved.LoadInt32 z) = Some (Linked.LoadInt32 z)
link tree has_value (Resolved.LoadInt64 z) = Some (Linked.LoadInt64 z)
link tree has_value Resolved.LoadNull = Some Linked.LoadNull
link tree has_value (Resolved.LoadString n) = if nat_lt n FIRST_LITERAL then Some (Linked.LoadString (literal n)) else None
link tree has_value (Resolved.LoadArgument n) = Some (Linked.LoadArgument n)
link tree has_value (Resolved.StoreArgument n) = Some (Linked.StoreArgument n)
link tree has_value (Resolved.LoadLocal n) = Some (Linked.LoadLocal n)
link tree has_value (Resolved.StoreLocal n) = Some (Linked.StoreLocal n)
link tree has_value Resolved.Duplicate = Some Linked.Duplicate
link tree has_value Resolved.Pop = Some Linked.Pop
link tree has_value (Resolved.Binary op) = Some (Linked.Binary op)
link tree has_value (Resolved.Unary op) = Some (Linked.Unary op)
link tree has_value (Resolved.Shift op) = Some (Linked.Shift op)
link tree has_value (Resolved.Compare op) = Some (Linked.Compare op)
link tree has_value Resolved.ConvertInt32 = Some Linked.ConvertInt32
link tree has_value Resolved.ConvertInt64 = Some Linked.ConvertInt64
link tree has_value (Resolved.Branch condition index) = Some (Linked.Branch condition index)
link tree has_value (Resolved.Switch indices) = Some (Linked.Switch indices)
link tree has_value (Resolved.LoadField owner field) = field_link tree field
link tree has_value (Resolved.StoreField owner field) = option_map (λ slot. Linked.StoreField slot) (slot_at tree field)
link tree has_value (Resolved.LoadStaticField field) = option_map (λ number. Linked.LoadStaticField number) (static_at tree field)
link tree has_value (Resolved.StoreStaticField field) = option_map (λ number. Linked.StoreStaticField number) (static_at tree field)
link tree has_value (Resolved.NewArray t) = option_map (λ element. Linked.NewArray element) (linked_array t)
link tree has_value Resolved.LoadLength = Some Linked.LoadLength
link tree has_value (Resolved.LoadElement kind) = Some (Linked.LoadElement kind)
link tree has_value (Resolved.StoreElement kind) = Some (Linked.StoreElement kind)
link tree has_value (Resolved.CastClass t) = Some (Linked.CastClass t)
link tree has_value (Resolved.IsInstance t) = Some (Linked.IsInstance t)
link tree has_value (Resolved.Call is_instance owner method) = option_map (λ number. Linked.Call number) (number_at tree method)
link tree has_value (Resolved.CallVirtual owner method) = virtual_link tree method
link tree has_value (Resolved.NewObject method) = new_link tree method
link tree has_value Resolved.Return = Some (Linked.Return has_value)

-- a linked instruction is the link of a resolved one, where that has one
abbrev pub IsLinked : Tree → Bool → Operation → LinkedInstruction → Type 0
IsLinked tree has_value operation linked = (required : LinkedInstruction) → link tree has_value operation ≡ Some required → linked ≡ required
