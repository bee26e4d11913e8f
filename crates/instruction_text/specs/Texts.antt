-- How ilasm writes instructions and what they name (II.7.1, II.15, III; the words are those of this profile's grammar).
use Rattle.std.specs.Prelude.{◌++◌, ℕ, zero, suc, false, true, List, [], ◌∷◌, Option, Some, None, codes, flat_map}
use Rattle.std.specs.Option.{option_map_or}
use Rattle.std.specs.Fmt.{signed_decimal}
use Rattle.cil_model.specs.Grammar.{binary_word, unary_word, shift_word, comparison_word, branch_word, load_element_word, store_element_word}
use Rattle.cil_model.specs.declared.types.ClassName.{ClassName}
use Rattle.cil_model.specs.declared.types.Element.{Element}
use Rattle.cil_model.specs.declared.types.Element.TheVariants.{Int32, Int64, Object, String, Class}
use Rattle.cil_model.specs.declared.types.DeclaredType.{DeclaredType}
use Rattle.cil_model.specs.declared.types.Signature.{Signature}
use Rattle.cil_model.specs.declared.instructions.MethodName.{MethodName}
use Rattle.cil_model.specs.declared.instructions.MethodName.TheVariants.{Constructor, Named}
use Rattle.cil_model.specs.declared.instructions.FieldReference.{FieldReference}
use Rattle.cil_model.specs.declared.instructions.MethodReference.{MethodReference}
use Rattle.cil_model.specs.declared.instructions.Instruction.{Instruction}
use Rattle.cil_model.specs.declared.instructions.Instruction.TheVariants.{NoOperation, LoadInt32, LoadInt64, LoadNull, LoadString, LoadArgument, StoreArgument, LoadLocal, StoreLocal, Duplicate, Pop, Binary, Unary, Shift, Compare, ConvertInt32, ConvertInt64, Branch, Switch, LoadField, StoreField, LoadStaticField, StoreStaticField, NewArray, LoadLength, LoadElement, StoreElement, CastClass, IsInstance, Call, CallVirtual, NewObject, Return}
use Rattle.instruction_text.specs.Characters.{characters_text}

-- texts with a comma and a space between them
abbrev pub list_text : {A : Type 0} → (A → List ℕ) → List A → List ℕ
list_text text [] = []
list_text text (x ∷ xs) = text x ++ flat_map (λ y. codes ", " ++ text y) xs

-- ---- types

-- the assembly of a class in brackets
abbrev pub assembly_text : Option (List ℕ) → List ℕ
assembly_text None = []
assembly_text (Some name) = codes "[" ++ characters_text name ++ codes "]"

abbrev pub class_text : ClassName → List ℕ
class_text c = assembly_text c.assembly ++ characters_text c.name

abbrev pub element_text : Element → List ℕ
element_text Int32 = codes "int32"
element_text Int64 = codes "int64"
element_text Object = codes "object"
element_text String = codes "string"
element_text (Class c) = codes "class " ++ class_text c

-- n pairs of brackets
abbrev pub brackets_text : ℕ → List ℕ
brackets_text zero = []
brackets_text (suc n) = brackets_text n ++ codes "[]"

abbrev pub type_text : DeclaredType → List ℕ
type_text t = element_text t.element ++ brackets_text t.brackets

-- what a method leaves
abbrev pub return_text : Option DeclaredType → List ℕ
return_text None = codes "void"
return_text (Some t) = type_text t

abbrev pub types_text : List DeclaredType → List ℕ
types_text ts = codes "(" ++ list_text type_text ts ++ codes ")"

-- ---- members

abbrev pub method_name_text : MethodName → List ℕ
method_name_text Constructor = codes ".ctor"
method_name_text (Named name) = characters_text name

abbrev pub field_text : FieldReference → List ℕ
field_text r = type_text r.field_type ++ codes " " ++ class_text r.owner ++ codes "::" ++ characters_text r.name

abbrev pub method_text : MethodReference → List ℕ
method_text r = return_text r.signature.return_type ++ codes " " ++ class_text r.owner ++ codes "::" ++ method_name_text r.name ++ types_text r.signature.parameters

-- a method that is no constructor
abbrev pub virtual_text : ClassName → List ℕ → Signature → List ℕ
virtual_text owner name signature = return_text signature.return_type ++ codes " " ++ class_text owner ++ codes "::" ++ characters_text name ++ types_text signature.parameters

abbrev pub constructor_text : ClassName → List DeclaredType → List ℕ
constructor_text owner parameters = codes "void " ++ class_text owner ++ codes "::.ctor" ++ types_text parameters

-- ---- instructions

abbrev pub labels_text : List (List ℕ) → List ℕ
labels_text labels = codes "(" ++ list_text characters_text labels ++ codes ")"

-- the word of an instruction, with what is between it and an operand
abbrev pub word_text : Instruction → List ℕ
word_text NoOperation = codes "nop"
word_text (LoadInt32 z) = codes "ldc.i4"
word_text (LoadInt64 z) = codes "ldc.i8"
word_text LoadNull = codes "ldnull"
word_text (LoadString characters) = codes "ldstr"
word_text (LoadArgument n) = codes "ldarg"
word_text (StoreArgument n) = codes "starg"
word_text (LoadLocal n) = codes "ldloc"
word_text (StoreLocal n) = codes "stloc"
word_text Duplicate = codes "dup"
word_text Pop = codes "pop"
word_text (Binary op) = binary_word op
word_text (Unary op) = unary_word op
word_text (Shift op) = shift_word op
word_text (Compare op) = comparison_word op
word_text ConvertInt32 = codes "conv.i4"
word_text ConvertInt64 = codes "conv.i8"
word_text (Branch condition label) = branch_word condition
word_text (Switch labels) = codes "switch"
word_text (LoadField r) = codes "ldfld"
word_text (StoreField r) = codes "stfld"
word_text (LoadStaticField r) = codes "ldsfld"
word_text (StoreStaticField r) = codes "stsfld"
word_text (NewArray t) = codes "newarr"
word_text LoadLength = codes "ldlen"
word_text (LoadElement kind) = load_element_word kind
word_text (StoreElement kind) = store_element_word kind
word_text (CastClass t) = codes "castclass"
word_text (IsInstance t) = codes "isinst"
word_text (Call true r) = codes "call instance"
word_text (Call false r) = codes "call"
word_text (CallVirtual owner name signature) = codes "callvirt instance"
word_text (NewObject owner parameters) = codes "newobj instance"
word_text Return = codes "ret"

-- a string literal in quotes
abbrev pub quoted_text : List ℕ → List ℕ
quoted_text characters = codes "\"" ++ characters_text characters ++ codes "\""

-- how the operand of an instruction is written, if it has one
abbrev pub operand_text : Instruction → Option (List ℕ)
operand_text (LoadInt32 z) = Some (signed_decimal z)
operand_text (LoadInt64 z) = Some (signed_decimal z)
operand_text (LoadString characters) = Some (quoted_text characters)
operand_text (LoadArgument n) = Some (signed_decimal n)
operand_text (StoreArgument n) = Some (signed_decimal n)
operand_text (LoadLocal n) = Some (signed_decimal n)
operand_text (StoreLocal n) = Some (signed_decimal n)
operand_text (Branch condition label) = Some (characters_text label)
operand_text (Switch labels) = Some (labels_text labels)
operand_text (LoadField r) = Some (field_text r)
operand_text (StoreField r) = Some (field_text r)
operand_text (LoadStaticField r) = Some (field_text r)
operand_text (StoreStaticField r) = Some (field_text r)
operand_text (NewArray t) = Some (type_text t)
operand_text (CastClass t) = Some (type_text t)
operand_text (IsInstance t) = Some (type_text t)
operand_text (Call is_instance r) = Some (method_text r)
operand_text (CallVirtual owner name signature) = Some (virtual_text owner name signature)
operand_text (NewObject owner parameters) = Some (constructor_text owner parameters)
operand_text _ = None

-- an instruction in its long form: its word, and after a space its operand, if it has one
abbrev pub instruction_text : Instruction → List ℕ
instruction_text instruction = word_text instruction ++ option_map_or (λ operand. codes " " ++ operand) (operand_text instruction) []
