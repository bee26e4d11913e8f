-- What resolved classes, members and instructions represent.
use Rattle.std.specs.Prelude.{◌≡◌, ℕ, ℤ, Bool, true, false, List, [], ◌∷◌, map, Option, Some, None, option_map, slice_get}
use Rattle.cil_model.specs.declared.types.ClassName.{ClassName}
use Rattle.cil_model.specs.declared.types.DeclaredType.{DeclaredType}
use Rattle.cil_model.specs.declared.types.Signature.{Signature}
use Rattle.cil_model.specs.declared.instructions.BinaryOperation.{BinaryOperation}
use Rattle.cil_model.specs.declared.instructions.UnaryOperation.{UnaryOperation}
use Rattle.cil_model.specs.declared.instructions.ShiftOperation.{ShiftOperation}
use Rattle.cil_model.specs.declared.instructions.Comparison.{Comparison}
use Rattle.cil_model.specs.declared.instructions.BranchCondition.{BranchCondition}
use Rattle.cil_model.specs.declared.instructions.ElementKind.{ElementKind}
use Rattle.cil_model.specs.declared.instructions.FieldReference.{FieldReference}
use Rattle.cil_model.specs.declared.instructions.MethodReference.{MethodReference}
use Rattle.cil_model.specs.declared.instructions.Instruction.{Instruction}
use Rattle.cil_model.specs.declared.instructions.Instruction.TheVariants as Named
use Rattle.cil_model.specs.declared.trees.Tree.{Tree}
use Rattle.cil_model.specs.declared.trees.Field.{Field}
use Rattle.cil_model.specs.declared.trees.Method.{Method}
use Rattle.cil_model.specs.declared.trees.MethodKind.{MethodKind}
use Rattle.cil_model.specs.declared.trees.MethodKind.TheVariants as NamedKind
use Rattle.cil_model.specs.declared.trees.Code.{Code}
use Rattle.cil_model.specs.declared.trees.Line.{Line}
use Rattle.cil_model.specs.Declarations.{Declaration}
use Rattle.cil_model.specs.Bodies.{pc_of, virtual_reference, constructor_reference}
use Rattle.cil_model.specs.Chains.{find_field, find_method}
use Rattle.cil_model.specs.Mentions.{literals_of}
use Rattle.name_tables.specs.declared.ids.FieldId.{FieldId}
use Rattle.name_tables.specs.declared.ids.MethodId.{MethodId}
use Rattle.name_tables.specs.Numbers.{declarations, field_at, method_at}
use Rattle.name_tables.specs.Sameness.{identity_of}
use Rattle.resolved_code.specs.Identities.{identity_number}
use Rattle.resolved_code.specs.ById.{class_name, type_at, AreTypes}
use Rattle.resolved_code.specs.declared.types.ResolvedType.{ResolvedType}
use Rattle.resolved_code.specs.declared.operations.Operation.{Operation}
use Rattle.resolved_code.specs.declared.operations.Operation.TheVariants as Resolved
use Rattle.resolved_code.specs.declared.classes.ResolvedField.{ResolvedField}
use Rattle.resolved_code.specs.declared.classes.ResolvedKind.{ResolvedKind}
use Rattle.resolved_code.specs.declared.classes.ResolvedKind.TheVariants as KindOf
use Rattle.resolved_code.specs.declared.classes.ResolvedMethod.{ResolvedMethod}
use Rattle.resolved_code.specs.declared.classes.ResolvedClass.{ResolvedClass}
use Rattle.resolved_code.specs.declared.classes.Body.{Body}

-- the items of two lists are related, index by index
abbrev pub AllAlike : {X Y : Type 0} → (X → Y → Type 0) → List X → List Y → Type 0
AllAlike R [] [] = Unit {0}
AllAlike R (x ∷ xs) (y ∷ ys) = R x y × AllAlike R xs ys
AllAlike R [] (y ∷ ys) = ⊥
AllAlike R (x ∷ xs) [] = ⊥

-- there are two items that are related, or there is neither
abbrev pub BothAlike : {X Y : Type 0} → (X → Y → Type 0) → Option X → Option Y → Type 0
BothAlike R None None = Unit {0}
BothAlike R (Some x) (Some y) = R x y
BothAlike R None (Some y) = ⊥
BothAlike R (Some x) None = ⊥

-- ---- operands

-- the owner that a text names, and the field that its reference finds (II.16)
pub record IsField (tree : Tree) (is_static : Bool) (r : FieldReference) (field : FieldId) : Type 0 where
  pub declared_in : ClassName
  pub found : Field
  pub finds : find_field tree is_static r ≡ Some (declared_in, found)
  pub has_id : field_at tree (field.class, field.index) ≡ Some (declared_in, found)

-- the method that a reference finds (II.15.1.3)
pub record IsMethod (tree : Tree) (is_instance : Bool) (r : MethodReference) (method : MethodId) : Type 0 where
  pub declared_in : ClassName
  pub found : Method
  pub finds : find_method tree is_instance r ≡ Some (declared_in, found)
  pub has_id : method_at tree (method.class, method.index) ≡ Some (declared_in, found)

-- an instruction of a method with these lines, and what runs for it
pub data IsOperation (tree : Tree) (lines : List Line) : Instruction → Operation → Type 0 where
  no_operation : IsOperation tree lines Named.NoOperation Resolved.NoOperation
  load_int32 : (value : ℤ) → IsOperation tree lines (Named.LoadInt32 value) (Resolved.LoadInt32 value)
  load_int64 : (value : ℤ) → IsOperation tree lines (Named.LoadInt64 value) (Resolved.LoadInt64 value)
  load_null : IsOperation tree lines Named.LoadNull Resolved.LoadNull
  -- a literal by its number among those of the source (III.4.16)
  load_string : (characters : List ℕ) (number : ℕ) → slice_get (literals_of tree) number ≡ Some characters →
      IsOperation tree lines (Named.LoadString characters) (Resolved.LoadString number)
  load_argument : (n : ℤ) → IsOperation tree lines (Named.LoadArgument n) (Resolved.LoadArgument n)
  store_argument : (n : ℤ) → IsOperation tree lines (Named.StoreArgument n) (Resolved.StoreArgument n)
  load_local : (n : ℤ) → IsOperation tree lines (Named.LoadLocal n) (Resolved.LoadLocal n)
  store_local : (n : ℤ) → IsOperation tree lines (Named.StoreLocal n) (Resolved.StoreLocal n)
  duplicate : IsOperation tree lines Named.Duplicate Resolved.Duplicate
  pop : IsOperation tree lines Named.Pop Resolved.Pop
  binary : (op : BinaryOperation) → IsOperation tree lines (Named.Binary op) (Resolved.Binary op)
  unary : (op : UnaryOperation) → IsOperation tree lines (Named.Unary op) (Resolved.Unary op)
  shift : (op : ShiftOperation) → IsOperation tree lines (Named.Shift op) (Resolved.Shift op)
  compare : (op : Comparison) → IsOperation tree lines (Named.Compare op) (Resolved.Compare op)
  convert_int32 : IsOperation tree lines Named.ConvertInt32 Resolved.ConvertInt32
  convert_int64 : IsOperation tree lines Named.ConvertInt64 Resolved.ConvertInt64
  -- a label by the index of the instruction that it is before (II.5.4)
  branch : (condition : BranchCondition) (label : List ℕ) (index : ℕ) → pc_of label lines ≡ Some index →
      IsOperation tree lines (Named.Branch condition label) (Resolved.Branch condition index)
  switch : (labels : List (List ℕ)) (indices : List ℕ) → map (λ label. pc_of label lines) labels ≡ map Some indices →
      IsOperation tree lines (Named.Switch labels) (Resolved.Switch indices)
  load_field : (r : FieldReference) (owner : ℕ) (field : FieldId) → class_name tree owner ≡ Some r.owner → IsField tree false r field →
      IsOperation tree lines (Named.LoadField r) (Resolved.LoadField owner field)
  store_field : (r : FieldReference) (owner : ℕ) (field : FieldId) → class_name tree owner ≡ Some r.owner → IsField tree false r field →
      IsOperation tree lines (Named.StoreField r) (Resolved.StoreField owner field)
  load_static_field : (r : FieldReference) (field : FieldId) → IsField tree true r field →
      IsOperation tree lines (Named.LoadStaticField r) (Resolved.LoadStaticField field)
  store_static_field : (r : FieldReference) (field : FieldId) → IsField tree true r field →
      IsOperation tree lines (Named.StoreStaticField r) (Resolved.StoreStaticField field)
  new_array : (t : DeclaredType) (n : ResolvedType) → type_at tree n ≡ Some t → IsOperation tree lines (Named.NewArray t) (Resolved.NewArray n)
  load_length : IsOperation tree lines Named.LoadLength Resolved.LoadLength
  load_element : (kind : ElementKind) → IsOperation tree lines (Named.LoadElement kind) (Resolved.LoadElement kind)
  store_element : (kind : ElementKind) → IsOperation tree lines (Named.StoreElement kind) (Resolved.StoreElement kind)
  cast_class : (t : DeclaredType) (n : ResolvedType) → type_at tree n ≡ Some t → IsOperation tree lines (Named.CastClass t) (Resolved.CastClass n)
  is_instance : (t : DeclaredType) (n : ResolvedType) → type_at tree n ≡ Some t → IsOperation tree lines (Named.IsInstance t) (Resolved.IsInstance n)
  call : (is_instance : Bool) (r : MethodReference) (owner : ℕ) (method : MethodId) → class_name tree owner ≡ Some r.owner → IsMethod tree is_instance r method →
      IsOperation tree lines (Named.Call is_instance r) (Resolved.Call is_instance owner method)
  call_virtual : (c : ClassName) (name : List ℕ) (signature : Signature) (owner : ℕ) (method : MethodId) →
      class_name tree owner ≡ Some c → IsMethod tree true (virtual_reference c name signature) method →
      IsOperation tree lines (Named.CallVirtual c name signature) (Resolved.CallVirtual owner method)
  new_object : (c : ClassName) (parameters : List DeclaredType) (constructor_number : MethodId) → IsMethod tree true (constructor_reference c parameters) constructor_number →
      IsOperation tree lines (Named.NewObject c parameters) (Resolved.NewObject constructor_number)
  return : IsOperation tree lines Named.Return Resolved.Return

-- ---- members

-- a field, its type by number (II.16)
pub record IsResolvedField (tree : Tree) (named : Field) (resolved : ResolvedField) : Type 0 where
  pub is_static : resolved.is_static ≡ named.is_static
  pub field_type : type_at tree resolved.field_type ≡ Some named.field_type

-- a body, with an operation for each of its lines (II.15.4)
pub record IsBody (tree : Tree) (code : Code) (body : Body) : Type 0 where
  pub max_stack : body.max_stack ≡ code.max_stack
  pub locals : AreTypes tree body.locals code.locals
  pub operations : AllAlike (λ (line : Line) operation. IsOperation tree code.lines line.instruction operation) code.lines body.operations

-- what a method is (II.15.2)
abbrev pub IsResolvedKind : Tree → MethodKind → ResolvedKind → Type 0
IsResolvedKind tree (NamedKind.Static code) (KindOf.Static body) = IsBody tree code body
IsResolvedKind tree (NamedKind.Instance code) (KindOf.Instance body) = IsBody tree code body
IsResolvedKind tree (NamedKind.Virtual is_new_slot code) (KindOf.Virtual resolved_slot body) = (resolved_slot ≡ is_new_slot) × IsBody tree code body
IsResolvedKind tree (NamedKind.Abstract is_new_slot) (KindOf.Abstract resolved_slot) = resolved_slot ≡ is_new_slot
IsResolvedKind tree _ _ = ⊥

-- a method (II.15)
pub record IsResolvedMethod (tree : Tree) (named : Method) (resolved : ResolvedMethod) : Type 0 where
  pub identity : resolved.identity ≡ identity_number tree (identity_of named)
  pub parameters : AreTypes tree resolved.parameters named.signature.parameters
  pub return_type : option_map (type_at tree) resolved.return_type ≡ option_map Some named.signature.return_type
  pub kind : IsResolvedKind tree named.kind resolved.kind

-- a class or interface (II.10)
pub record IsResolvedClass (tree : Tree) (named : Declaration) (resolved : ResolvedClass) : Type 0 where
  pub is_interface : resolved.is_interface ≡ named.is_interface
  pub is_abstract : resolved.is_abstract ≡ named.is_abstract
  pub base : option_map (class_name tree) resolved.base ≡ option_map Some named.base
  pub interfaces : map (class_name tree) resolved.interfaces ≡ map Some named.interfaces
  pub fields : AllAlike (IsResolvedField tree) named.fields resolved.fields
  pub methods : AllAlike (IsResolvedMethod tree) named.methods resolved.methods

-- all classes that a name may refer to, by their numbers
abbrev pub AreResolved : Tree → List ResolvedClass → Type 0
AreResolved tree classes = AllAlike (λ (entry : ClassName × Declaration) resolved. IsResolvedClass tree entry.1 resolved) (declarations tree) classes
