-- What holds of every instruction that an operation represents.
use Rattle.std.specs.Prelude.{◌≡◌, ℕ, true, false, List, Some}
use Rattle.cil_model.specs.declared.types.ClassName.{ClassName}
use Rattle.cil_model.specs.declared.types.DeclaredType.{DeclaredType}
use Rattle.cil_model.specs.declared.types.Signature.{Signature}
use Rattle.cil_model.specs.declared.instructions.FieldReference.{FieldReference}
use Rattle.cil_model.specs.declared.instructions.MethodReference.{MethodReference}
use Rattle.cil_model.specs.declared.instructions.Instruction.{Instruction}
use Rattle.cil_model.specs.declared.instructions.Instruction.TheVariants as Named
use Rattle.cil_model.specs.declared.trees.Tree.{Tree}
use Rattle.cil_model.specs.Bodies.{virtual_reference, constructor_reference}
use Rattle.resolved_code.specs.ById.{class_name}
use Rattle.resolved_code.specs.ResolvedPrograms.{IsField, IsMethod}
use Rattle.resolved_code.specs.declared.operations.Operation.{Operation}
use Rattle.resolved_code.specs.declared.operations.Operation.TheVariants as Resolved
use Rattle.flow_rules.specs.StackTypes.{type_named}

-- the property, of each instruction with the operands that the numbers represent
abbrev pub OfEach : Tree → (Instruction → Type 0) → Operation → Type 0
OfEach tree P Resolved.NoOperation = P Named.NoOperation
OfEach tree P (Resolved.LoadInt32 z) = P (Named.LoadInt32 z)
OfEach tree P (Resolved.LoadInt64 z) = P (Named.LoadInt64 z)
OfEach tree P Resolved.LoadNull = P Named.LoadNull
OfEach tree P (Resolved.LoadString n) = (characters : List ℕ) → P (Named.LoadString characters)
OfEach tree P (Resolved.LoadArgument n) = P (Named.LoadArgument n)
OfEach tree P (Resolved.StoreArgument n) = P (Named.StoreArgument n)
OfEach tree P (Resolved.LoadLocal n) = P (Named.LoadLocal n)
OfEach tree P (Resolved.StoreLocal n) = P (Named.StoreLocal n)
OfEach tree P Resolved.Duplicate = P Named.Duplicate
OfEach tree P Resolved.Pop = P Named.Pop
OfEach tree P (Resolved.Binary op) = P (Named.Binary op)
OfEach tree P (Resolved.Unary op) = P (Named.Unary op)
OfEach tree P (Resolved.Shift op) = P (Named.Shift op)
OfEach tree P (Resolved.Compare op) = P (Named.Compare op)
OfEach tree P Resolved.ConvertInt32 = P Named.ConvertInt32
OfEach tree P Resolved.ConvertInt64 = P Named.ConvertInt64
OfEach tree P (Resolved.Branch condition index) = (label : List ℕ) → P (Named.Branch condition label)
OfEach tree P (Resolved.Switch indices) = (labels : List (List ℕ)) → P (Named.Switch labels)
OfEach tree P (Resolved.LoadField owner field) = (r : FieldReference) → class_name tree owner ≡ Some r.owner → IsField tree false r field → P (Named.LoadField r)
OfEach tree P (Resolved.StoreField owner field) = (r : FieldReference) → class_name tree owner ≡ Some r.owner → IsField tree false r field → P (Named.StoreField r)
OfEach tree P (Resolved.LoadStaticField field) = (r : FieldReference) → IsField tree true r field → P (Named.LoadStaticField r)
OfEach tree P (Resolved.StoreStaticField field) = (r : FieldReference) → IsField tree true r field → P (Named.StoreStaticField r)
OfEach tree P (Resolved.NewArray n) = (t : DeclaredType) → type_named tree n ≡ t → P (Named.NewArray t)
OfEach tree P Resolved.LoadLength = P Named.LoadLength
OfEach tree P (Resolved.LoadElement kind) = P (Named.LoadElement kind)
OfEach tree P (Resolved.StoreElement kind) = P (Named.StoreElement kind)
OfEach tree P (Resolved.CastClass n) = (t : DeclaredType) → type_named tree n ≡ t → P (Named.CastClass t)
OfEach tree P (Resolved.IsInstance n) = (t : DeclaredType) → type_named tree n ≡ t → P (Named.IsInstance t)
OfEach tree P (Resolved.Call is_instance owner method) = (r : MethodReference) → class_name tree owner ≡ Some r.owner → IsMethod tree is_instance r method → P (Named.Call is_instance r)
OfEach tree P (Resolved.CallVirtual owner method) = (c : ClassName) (name : List ℕ) (signature : Signature) → class_name tree owner ≡ Some c → IsMethod tree true (virtual_reference c name signature) method → P (Named.CallVirtual c name signature)
OfEach tree P (Resolved.NewObject method) = (c : ClassName) (parameters : List DeclaredType) → IsMethod tree true (constructor_reference c parameters) method → P (Named.NewObject c parameters)
OfEach tree P Resolved.Return = P Named.Return
