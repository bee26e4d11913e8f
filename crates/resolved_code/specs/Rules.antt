-- Which numbers names become, by the look-ups of the tables. None where a name finds nothing. Functions within the crate speak of
-- these; what they promise to other crates is in Resolved.
use Rattle.std.specs.Prelude.{ℕ, Bool, true, false, List, [], ◌∷◌, map, Option, Some, None, option_map, option_and_then}
use Rattle.std.specs.List.{position_from}
use Rattle.cil_model.specs.declared.types.ClassName.{ClassName}
use Rattle.cil_model.specs.declared.types.Element.{Element}
use Rattle.cil_model.specs.declared.types.Element.TheVariants.{Int32 as Int32Element, Int64 as Int64Element, Object as ObjectElement, String as StringElement, Class as ClassElement}
use Rattle.cil_model.specs.declared.types.DeclaredType.{DeclaredType}
use Rattle.cil_model.specs.declared.instructions.FieldReference.{FieldReference}
use Rattle.cil_model.specs.declared.instructions.MethodReference.{MethodReference}
use Rattle.cil_model.specs.declared.instructions.Instruction.{Instruction}
use Rattle.cil_model.specs.declared.instructions.Instruction.TheVariants as Named
use Rattle.cil_model.specs.declared.trees.Tree.{Tree}
use Rattle.cil_model.specs.declared.trees.Field.{Field}
use Rattle.cil_model.specs.declared.trees.Method.{Method}
use Rattle.cil_model.specs.declared.trees.MethodKind.{MethodKind}
use Rattle.cil_model.specs.declared.trees.MethodKind.TheVariants as NamedKind
use Rattle.cil_model.specs.declared.trees.Code.{Code}
use Rattle.cil_model.specs.declared.trees.Line.{Line}
use Rattle.cil_model.specs.Same.{same_text}
use Rattle.cil_model.specs.Declarations.{Declaration}
use Rattle.cil_model.specs.Bodies.{pc_of, virtual_reference, constructor_reference}
use Rattle.cil_model.specs.Mentions.{literals_of}
use Rattle.name_tables.specs.declared.ids.FieldId.{FieldId}
use Rattle.name_tables.specs.declared.ids.MethodId.{MethodId}
use Rattle.name_tables.specs.Numbers.{class_number, field_number, method_number, declarations}
use Rattle.name_tables.specs.Sameness.{identity_of}
use Rattle.resolved_code.specs.Identities.{identity_number}
use Rattle.resolved_code.specs.declared.types.ResolvedElement.{ResolvedElement}
use Rattle.resolved_code.specs.declared.types.ResolvedElement.TheVariants.{Int32, Int64, Object, String, Class}
use Rattle.resolved_code.specs.declared.types.ResolvedType.{ResolvedType}
use Rattle.resolved_code.specs.declared.operations.Operation.{Operation}
use Rattle.resolved_code.specs.declared.operations.Operation.TheVariants as Resolved
use Rattle.resolved_code.specs.declared.classes.ResolvedField.{ResolvedField}
use Rattle.resolved_code.specs.declared.classes.ResolvedKind.{ResolvedKind}
use Rattle.resolved_code.specs.declared.classes.ResolvedKind.TheVariants as KindOf
use Rattle.resolved_code.specs.declared.classes.ResolvedMethod.{ResolvedMethod}
use Rattle.resolved_code.specs.declared.classes.ResolvedClass.{ResolvedClass}
use Rattle.resolved_code.specs.declared.classes.Body.{Body}

-- the items of a list, where there are all of them
abbrev pub all_some : {X : Type 0} → List (Option X) → Option (List X)
all_some [] = Some []
all_some (o ∷ os) = option_and_then (λ x. option_map (λ xs. x ∷ xs) (all_some os)) o

-- something that may be left out, and is there where it isn't
abbrev pub if_named : {X Y : Type 0} → (X → Option Y) → Option X → Option (Option Y)
if_named rule None = Some None
if_named rule (Some x) = option_map Some (rule x)

-- ---- types

-- a type without brackets (II.7.1)
abbrev pub element_rule : Tree → Element → Option ResolvedElement
element_rule tree Int32Element = Some Int32
element_rule tree Int64Element = Some Int64
element_rule tree ObjectElement = Some Object
element_rule tree StringElement = Some String
element_rule tree (ClassElement c) = option_map Class (class_number tree c)

-- a type (II.7.1)
abbrev pub type_rule : Tree → DeclaredType → Option ResolvedType
type_rule tree t = option_map (λ e. record { element = e; brackets = t.brackets }) (element_rule tree t.element)

-- a list of types
abbrev pub types_rule : Tree → List DeclaredType → Option (List ResolvedType)
types_rule tree types = all_some (map (type_rule tree) types)

-- ---- operands

-- a class and an index as the id of a field
abbrev pub field_id : ℕ × ℕ → FieldId
field_id n = record { class = n.0; index = n.1 }

-- a class and an index as the id of a method
abbrev pub method_id : ℕ × ℕ → MethodId
method_id n = record { class = n.0; index = n.1 }

-- a field that a reference finds (II.16)
abbrev pub field_rule : Tree → Bool → FieldReference → Option FieldId
field_rule tree is_static r = option_map field_id (field_number tree is_static r)

-- a method that a reference finds (II.15.1.3)
abbrev pub method_rule : Tree → Bool → MethodReference → Option MethodId
method_rule tree is_instance r = option_map method_id (method_number tree is_instance r)

-- what is made of a member and the class that the text names
abbrev pub with_owner : {A M : Type 0} → Tree → ClassName → (ℕ → M → A) → Option M → Option A
with_owner tree c make member = option_and_then (λ owner. option_map (make owner) member) (class_number tree c)

-- ---- instructions

-- an instruction on a type (III.4)
abbrev pub type_operand_rule : Tree → Instruction → Option Operation
type_operand_rule tree (Named.NewArray t) = option_map Resolved.NewArray (type_rule tree t)
type_operand_rule tree (Named.CastClass t) = option_map Resolved.CastClass (type_rule tree t)
type_operand_rule tree (Named.IsInstance t) = option_map Resolved.IsInstance (type_rule tree t)
type_operand_rule tree _ = None

-- an instruction on a field (III.4)
abbrev pub field_operand_rule : Tree → Instruction → Option Operation
field_operand_rule tree (Named.LoadField r) = with_owner tree r.owner Resolved.LoadField (field_rule tree false r)
field_operand_rule tree (Named.StoreField r) = with_owner tree r.owner Resolved.StoreField (field_rule tree false r)
field_operand_rule tree (Named.LoadStaticField r) = option_map Resolved.LoadStaticField (field_rule tree true r)
field_operand_rule tree (Named.StoreStaticField r) = option_map Resolved.StoreStaticField (field_rule tree true r)
field_operand_rule tree _ = None

-- a call (III.3.19, III.4.2, III.4.21)
abbrev pub call_rule : Tree → Instruction → Option Operation
call_rule tree (Named.Call is_instance r) = with_owner tree r.owner (Resolved.Call is_instance) (method_rule tree is_instance r)
call_rule tree (Named.CallVirtual c name signature) = with_owner tree c Resolved.CallVirtual (method_rule tree true (virtual_reference c name signature))
call_rule tree (Named.NewObject c parameters) = option_map Resolved.NewObject (method_rule tree true (constructor_reference c parameters))
call_rule tree _ = None

-- an instruction without a name
abbrev pub plain_rule : Instruction → Option Operation
plain_rule Named.NoOperation = Some Resolved.NoOperation
plain_rule (Named.LoadInt32 value) = Some (Resolved.LoadInt32 value)
plain_rule (Named.LoadInt64 value) = Some (Resolved.LoadInt64 value)
plain_rule Named.LoadNull = Some Resolved.LoadNull
plain_rule (Named.LoadArgument n) = Some (Resolved.LoadArgument n)
plain_rule (Named.StoreArgument n) = Some (Resolved.StoreArgument n)
plain_rule (Named.LoadLocal n) = Some (Resolved.LoadLocal n)
plain_rule (Named.StoreLocal n) = Some (Resolved.StoreLocal n)
plain_rule Named.Duplicate = Some Resolved.Duplicate
plain_rule Named.Pop = Some Resolved.Pop
plain_rule (Named.Binary op) = Some (Resolved.Binary op)
plain_rule (Named.Unary op) = Some (Resolved.Unary op)
plain_rule (Named.Shift op) = Some (Resolved.Shift op)
plain_rule (Named.Compare op) = Some (Resolved.Compare op)
plain_rule Named.ConvertInt32 = Some Resolved.ConvertInt32
plain_rule Named.ConvertInt64 = Some Resolved.ConvertInt64
plain_rule Named.LoadLength = Some Resolved.LoadLength
plain_rule (Named.LoadElement kind) = Some (Resolved.LoadElement kind)
plain_rule (Named.StoreElement kind) = Some (Resolved.StoreElement kind)
plain_rule Named.Return = Some Resolved.Return
plain_rule _ = None

-- any instruction of a method with these lines
abbrev pub operation_rule : Tree → List Line → Instruction → Option Operation
operation_rule tree lines (Named.LoadString characters) = option_map Resolved.LoadString (position_from (same_text characters) 0 (literals_of tree))
operation_rule tree lines (Named.Switch labels) = option_map Resolved.Switch (all_some (map (λ label. pc_of label lines) labels))
operation_rule tree lines (Named.Branch condition label) = option_map (Resolved.Branch condition) (pc_of label lines)
operation_rule tree lines (Named.NewArray t) = type_operand_rule tree (Named.NewArray t)
operation_rule tree lines (Named.CastClass t) = type_operand_rule tree (Named.CastClass t)
operation_rule tree lines (Named.IsInstance t) = type_operand_rule tree (Named.IsInstance t)
operation_rule tree lines (Named.LoadField r) = field_operand_rule tree (Named.LoadField r)
operation_rule tree lines (Named.StoreField r) = field_operand_rule tree (Named.StoreField r)
operation_rule tree lines (Named.LoadStaticField r) = field_operand_rule tree (Named.LoadStaticField r)
operation_rule tree lines (Named.StoreStaticField r) = field_operand_rule tree (Named.StoreStaticField r)
operation_rule tree lines (Named.Call is_instance r) = call_rule tree (Named.Call is_instance r)
operation_rule tree lines (Named.CallVirtual c name signature) = call_rule tree (Named.CallVirtual c name signature)
operation_rule tree lines (Named.NewObject c parameters) = call_rule tree (Named.NewObject c parameters)
operation_rule tree lines i = plain_rule i

-- ---- members

-- the instructions of a method (II.15.4)
abbrev pub operations_rule : Tree → List Line → Option (List Operation)
operations_rule tree lines = all_some (map (λ (line : Line). operation_rule tree lines line.instruction) lines)

-- a body (II.15.4)
abbrev pub body_rule : Tree → Code → Option Body
body_rule tree code =
    option_and_then (λ locals. option_map (λ operations. record { max_stack = code.max_stack; locals = locals; operations = operations }) (operations_rule tree code.lines)) (types_rule tree code.locals)

-- what a method is (II.15.2)
abbrev pub kind_rule : Tree → MethodKind → Option ResolvedKind
kind_rule tree (NamedKind.Static code) = option_map KindOf.Static (body_rule tree code)
kind_rule tree (NamedKind.Instance code) = option_map KindOf.Instance (body_rule tree code)
kind_rule tree (NamedKind.Virtual is_new_slot code) = option_map (KindOf.Virtual is_new_slot) (body_rule tree code)
kind_rule tree (NamedKind.Abstract is_new_slot) = Some (KindOf.Abstract is_new_slot)

-- a method (II.15)
abbrev pub resolved_method_rule : Tree → Method → Option ResolvedMethod
resolved_method_rule tree m =
    option_and_then (λ parameters. option_and_then (λ return_type. option_map (λ kind. record { identity = identity_number tree (identity_of m); parameters = parameters; return_type = return_type; kind = kind }) (kind_rule tree m.kind)) (if_named (type_rule tree) m.signature.return_type)) (types_rule tree m.signature.parameters)

-- a field (II.16)
abbrev pub resolved_field_rule : Tree → Field → Option ResolvedField
resolved_field_rule tree f = option_map (λ t. record { is_static = f.is_static; field_type = t }) (type_rule tree f.field_type)

-- the fields and methods of a class
abbrev pub with_members : Tree → Declaration → (List ResolvedField → List ResolvedMethod → ResolvedClass) → Option ResolvedClass
with_members tree d make =
    option_and_then (λ fields. option_map (make fields) (all_some (map (resolved_method_rule tree) d.methods))) (all_some (map (resolved_field_rule tree) d.fields))

-- a class or interface (II.10)
abbrev pub class_rule : Tree → Declaration → Option ResolvedClass
class_rule tree d =
    option_and_then (λ base. option_and_then (λ interfaces.
    with_members tree d (λ fields methods. record { is_interface = d.is_interface; is_abstract = d.is_abstract; base = base; interfaces = interfaces; fields = fields; methods = methods }))
    (all_some (map (class_number tree) d.interfaces))) (if_named (class_number tree) d.base)

-- all classes that a name may refer to
abbrev pub classes_rule : Tree → Option (List ResolvedClass)
classes_rule tree = all_some (map (λ (e : ClassName × Declaration). class_rule tree e.1) (declarations tree))
