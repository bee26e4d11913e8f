-- Reading the parts of a source from its tokens, from left to right.
use Rattle.std.specs.Prelude.{◌≡◌, ◌==◌, ℕ, suc, ℤ, List, [], ◌∷◌, length, Option, Some, None, Bool, true, false, is_some, is_none, if◌then◌else◌, codes, bytes_eq, nat_le, pos, negsuc}
use Rattle.cil_model.specs.declared.tokens.Symbol as symbols
use Rattle.cil_model.specs.declared.tokens.Symbol.TheVariants.{OpenBrace, CloseBrace, OpenParenthesis, CloseParenthesis, OpenBracket, CloseBracket, Comma, Colon, DoubleColon}
use Rattle.cil_model.specs.declared.tokens.Token.{Token}
use Rattle.cil_model.specs.declared.tokens.Token.TheVariants.{Symbol}
use Rattle.cil_model.specs.declared.types.ClassName.{ClassName}
use Rattle.cil_model.specs.declared.types.Element.{Element}
use Rattle.cil_model.specs.declared.types.Element.TheVariants.{Int32, Int64, Object, String, Class as ClassElement}
use Rattle.cil_model.specs.declared.types.DeclaredType.{DeclaredType}
use Rattle.cil_model.specs.declared.types.Signature.{Signature}
use Rattle.cil_model.specs.declared.instructions.MethodName.{MethodName}
use Rattle.cil_model.specs.declared.instructions.MethodName.TheVariants.{Constructor as ConstructorName, Named}
use Rattle.cil_model.specs.declared.instructions.FieldReference.{FieldReference}
use Rattle.cil_model.specs.declared.instructions.MethodReference.{MethodReference}
use Rattle.cil_model.specs.declared.instructions.Instruction.{Instruction}
use Rattle.cil_model.specs.declared.instructions.Instruction.TheVariants as instructions
use Rattle.cil_model.specs.declared.trees.Tree.{Tree}
use Rattle.cil_model.specs.declared.trees.Class.{Class}
use Rattle.cil_model.specs.declared.trees.ClassKind.TheVariants.{Interface, Class as PlainClass}
use Rattle.cil_model.specs.declared.trees.Member.{Member}
use Rattle.cil_model.specs.declared.trees.Member.TheVariants.{Field as FieldMember, Method as MethodMember}
use Rattle.cil_model.specs.declared.trees.Field.{Field}
use Rattle.cil_model.specs.declared.trees.Method.{Method}
use Rattle.cil_model.specs.declared.trees.MethodKind.{MethodKind}
use Rattle.cil_model.specs.declared.trees.MethodKind.TheVariants as kinds
use Rattle.cil_model.specs.declared.trees.Code.{Code}
use Rattle.cil_model.specs.declared.trees.Line.{Line}
use Rattle.ilasm_tokens.specs.declared.words.WordUse.{WordUse}
use Rattle.ilasm_tokens.specs.declared.words.WordUse.TheVariants.{Grammar as OfGrammar, Instruction as OfInstruction}
use Rattle.ilasm_tokens.specs.declared.words.Form.{Form}
use Rattle.ilasm_tokens.specs.declared.words.Form.TheVariants as forms
use Rattle.ilasm_tokens.specs.declared.words.Bare.{Bare}
use Rattle.ilasm_tokens.specs.declared.words.Bare.TheVariants as bares
use Rattle.ilasm_tokens.specs.declared.words.WithInteger.{WithInteger}
use Rattle.ilasm_tokens.specs.declared.words.WithInteger.TheVariants as integers
use Rattle.ilasm_tokens.specs.declared.words.FieldAccess.{FieldAccess}
use Rattle.ilasm_tokens.specs.declared.words.FieldAccess.TheVariants as accesses
use Rattle.ilasm_tokens.specs.declared.words.WithType.{WithType}
use Rattle.ilasm_tokens.specs.declared.words.WithType.TheVariants as with_types
use Rattle.ilasm_tokens.specs.Steps.{◌>>=◌, choice, ParserOf, with_front, many}
use Rattle.ilasm_tokens.specs.Vocabulary.{use_of}
use Rattle.ilasm_tokens.specs.Parts.{reserved_in, name_in, integer_in, quoted_in, symbol_in}
use Rattle.ilasm_reader.specs.declared.methods.HeadKind.{HeadKind}
use Rattle.ilasm_reader.specs.declared.methods.HeadKind.TheVariants.{Static, Instance, Virtual, Abstract, Constructor}

abbrev pub Parser : Type 0 → Type 0
Parser A = ParserOf Token A

-- ---- single tokens

unfoldable pub word_at : List ℕ → List Token → Option (List Token)
word_at w [] = None
word_at w (t ∷ rest) = choice (reserved_in t) (λ found. if bytes_eq found w then Some rest else None) None

-- reserved words, one after the other
unfoldable pub words_at : List (List ℕ) → List Token → Option (List Token)
words_at [] ts = Some ts
words_at (w ∷ []) ts = word_at w ts
words_at (w ∷ v ∷ ws) ts = do
  rest ← word_at w ts
  words_at (v ∷ ws) rest

abbrev pub number_of : symbols.Symbol → ℕ
number_of OpenBrace = 0
number_of CloseBrace = 1
number_of OpenParenthesis = 2
number_of CloseParenthesis = 3
number_of OpenBracket = 4
number_of CloseBracket = 5
number_of Comma = 6
number_of Colon = 7
number_of DoubleColon = 8

unfoldable pub sign_at : symbols.Symbol → List Token → Option (List Token)
sign_at s [] = None
sign_at s (t ∷ rest) = choice (symbol_in t) (λ found. if number_of found == number_of s then Some rest else None) None

unfoldable pub any_word_at : Parser (List ℕ)
any_word_at [] = None
any_word_at (t ∷ rest) = choice (reserved_in t) (λ found. Some (found, rest)) None

unfoldable pub name_at : Parser (List ℕ)
name_at [] = None
name_at (t ∷ rest) = choice (name_in t) (λ found. Some (found, rest)) None

unfoldable pub integer_at : Parser ℤ
integer_at [] = None
integer_at (t ∷ rest) = choice (integer_in t) (λ found. Some (found, rest)) None

unfoldable pub quoted_at : Parser (List ℕ)
quoted_at [] = None
quoted_at (t ∷ rest) = choice (quoted_in t) (λ found. Some (found, rest)) None

-- what a function returns that takes something where it is present, and nothing where it is not: whether it is present
abbrev pub Takes : {S : Type 0} → Bool → List S → List S → Option (List S) → Type 0
Takes true before following read = read ≡ Some following
Takes false before following read = (read ≡ None) × (following ≡ before)

-- whether a word is here, and what is after it
unfoldable pub flag_at : List ℕ → List Token → Bool × List Token
flag_at w ts = choice (word_at w ts) (λ rest. (true, rest)) (false, ts)

-- ---- one part after another

-- what was read, if a symbol follows it
unfoldable pub before_sign_at : {A : Type 0} → A → symbols.Symbol → Parser A
before_sign_at x s ts = do
  rest ← sign_at s ts
  Some (x, rest)

unfoldable pub pair_at : {A B : Type 0} → Parser A → Parser B → Parser (A × B)
pair_at first_at second_at ts = do
  first ← first_at ts
  second ← second_at first.1
  Some ((first.0, second.0), second.1)

-- ---- lists

unfoldable pub starts_comma : List Token → Bool
starts_comma ts = is_some (sign_at Comma ts)

unfoldable pub after_comma : {A : Type 0} → Parser A → Parser A
after_comma parses ts = do
  rest ← sign_at Comma ts
  parses rest

unfoldable pub commas_at : {A : Type 0} → Parser A → Parser (List A)
commas_at parses ts = do
  first ← parses ts
  with_front (first.0 ∷ []) (many starts_comma (after_comma parses) first.1)

-- after an opening parenthesis
unfoldable pub closed_commas_at : {A : Type 0} → Parser A → Parser (List A)
closed_commas_at parses ts = do
  items ← commas_at parses ts
  before_sign_at items.0 CloseParenthesis items.1

unfoldable pub parentheses_at : {A : Type 0} → Parser A → Parser (List A)
parentheses_at parses ts = do
  inside ← sign_at OpenParenthesis ts
  choice (sign_at CloseParenthesis inside) (λ rest. Some ([], rest)) (closed_commas_at parses inside)

-- a block with nothing in it
unfoldable pub empty_block_at : List Token → Option (List Token)
empty_block_at ts = do
  inside ← sign_at OpenBrace ts
  sign_at CloseBrace inside

-- whether a block continues
unfoldable pub in_block : List Token → Bool
in_block [] = false
in_block (t ∷ rest) = is_none (sign_at CloseBrace (t ∷ rest))

-- ---- names and types

-- the name of an assembly, after an opening bracket
unfoldable pub assembly_name_at : Parser (List ℕ)
assembly_name_at ts = do
  name ← name_at ts
  before_sign_at name.0 CloseBracket name.1

-- after an opening bracket
unfoldable pub class_of_assembly_at : Parser ClassName
class_of_assembly_at ts = do
  names ← pair_at assembly_name_at name_at ts
  Some (record { assembly = Some names.0.0; name = names.0.1 }, names.1)

unfoldable pub class_name_at : Parser ClassName
class_name_at ts = choice (sign_at OpenBracket ts) (λ inside. class_of_assembly_at inside) (do
  name ← name_at ts
  Some (record { assembly = None; name = name.0 }, name.1))

unfoldable pub element_at : Parser Element
element_at ts = choice (word_at (codes "int32") ts) (λ rest. Some (Int32, rest))
    (choice (word_at (codes "int64") ts) (λ rest. Some (Int64, rest))
    (choice (word_at (codes "object") ts) (λ rest. Some (Object, rest))
    (choice (word_at (codes "string") ts) (λ rest. Some (String, rest)) (do
      rest ← word_at (codes "class") ts
      class ← class_name_at rest
      Some (ClassElement class.0, class.1)))))

-- a pair of brackets
unfoldable pub brackets_at : List Token → Option (List Token)
brackets_at ts = do
  rest ← sign_at OpenBracket ts
  sign_at CloseBracket rest

-- the number of pairs that the list begins with, and the tokens after them
unfoldable pub all_brackets_at : List Token → ℕ × List Token
all_brackets_at (Symbol OpenBracket ∷ Symbol CloseBracket ∷ rest) = (suc (all_brackets_at rest).0, (all_brackets_at rest).1)
all_brackets_at ts = (0, ts)

unfoldable pub type_at : Parser DeclaredType
type_at ts = do
  element ← element_at ts
  Some (record { element = element.0; brackets = (all_brackets_at element.1).0 }, (all_brackets_at element.1).1)

unfoldable pub parameter_at : Parser DeclaredType
parameter_at ts = do
  type ← type_at ts
  choice (name_at type.1) (λ name. Some (type.0, name.1)) (Some (type.0, type.1))

unfoldable pub return_type_at : Parser (Option DeclaredType)
return_type_at ts = choice (word_at (codes "void") ts) (λ rest. Some (None, rest)) (do
  type ← type_at ts
  Some (Some type.0, type.1))

-- ---- what instructions name

-- the name of a field, after `::`
unfoldable pub field_of_owner_at : Parser (List ℕ)
field_of_owner_at ts = do
  rest ← sign_at DoubleColon ts
  name_at rest

unfoldable pub field_reference_at : Parser FieldReference
field_reference_at ts = do
  parts ← pair_at type_at (pair_at class_name_at field_of_owner_at) ts
  Some (record { field_type = parts.0.0; owner = parts.0.1.0; name = parts.0.1.1 }, parts.1)

unfoldable pub method_name_at : Parser MethodName
method_name_at ts = choice (word_at (codes ".ctor") ts) (λ rest. Some (ConstructorName, rest)) (do
  name ← name_at ts
  Some (Named name.0, name.1))

-- the name of a method, after `::`
unfoldable pub method_of_owner_at : Parser MethodName
method_of_owner_at ts = do
  rest ← sign_at DoubleColon ts
  method_name_at rest

unfoldable pub method_reference_at : Parser MethodReference
method_reference_at ts = do
  return_type ← return_type_at ts
  parts ← pair_at class_name_at (pair_at method_of_owner_at (parentheses_at type_at)) return_type.1
  Some (record { owner = parts.0.0; name = parts.0.1.0; signature = record { parameters = parts.0.1.1; return_type = return_type.0 } }, parts.1)

-- after `instance`
unfoldable pub instance_method_at : Parser MethodReference
instance_method_at ts = do
  rest ← word_at (codes "instance") ts
  method_reference_at rest

-- ---- instructions

abbrev pub bare : Bare → Instruction
bare bares.NoOperation = instructions.NoOperation
bare bares.LoadNull = instructions.LoadNull
bare bares.Duplicate = instructions.Duplicate
bare bares.Pop = instructions.Pop
bare bares.ConvertInt32 = instructions.ConvertInt32
bare bares.ConvertInt64 = instructions.ConvertInt64
bare bares.LoadLength = instructions.LoadLength
bare (bares.LoadElement kind) = instructions.LoadElement kind
bare (bares.StoreElement kind) = instructions.StoreElement kind
bare bares.Return = instructions.Return
bare (bares.Int32 z) = instructions.LoadInt32 z
bare (bares.Argument n) = instructions.LoadArgument n
bare (bares.Local n) = instructions.LoadLocal n
bare (bares.SetLocal n) = instructions.StoreLocal n
bare (bares.Binary op) = instructions.Binary op
bare (bares.Unary op) = instructions.Unary op
bare (bares.Shift op) = instructions.Shift op
bare (bares.Compare op) = instructions.Compare op

abbrev pub with_integer : WithInteger → ℤ → Instruction
with_integer integers.LoadInt64 z = instructions.LoadInt64 z
with_integer integers.LoadArgument z = instructions.LoadArgument z
with_integer integers.StoreArgument z = instructions.StoreArgument z
with_integer integers.LoadLocal z = instructions.LoadLocal z
with_integer integers.StoreLocal z = instructions.StoreLocal z

abbrev pub with_field : FieldAccess → FieldReference → Instruction
with_field accesses.Load r = instructions.LoadField r
with_field accesses.Store r = instructions.StoreField r
with_field accesses.LoadStatic r = instructions.LoadStaticField r
with_field accesses.StoreStatic r = instructions.StoreStaticField r

abbrev pub with_type : WithType → DeclaredType → Instruction
with_type with_types.NewArray t = instructions.NewArray t
with_type with_types.Cast t = instructions.CastClass t
with_type with_types.IsInstance t = instructions.IsInstance t

-- the virtual call of a method, unless it is a constructor
unfoldable pub virtual_call : ClassName → Signature → MethodName → Option Instruction
virtual_call owner s ConstructorName = None
virtual_call owner s (Named name) = Some (instructions.CallVirtual owner name s)

-- the making of an object by a constructor, which returns nothing
unfoldable pub creation : ClassName → List DeclaredType → MethodName → Option DeclaredType → Option Instruction
creation class parameters ConstructorName None = Some (instructions.NewObject class parameters)
creation class parameters ConstructorName (Some t) = None
creation class parameters (Named name) t = None

unfoldable pub has_32_bits : ℤ → Bool
has_32_bits (pos n) = nat_le n 2147483647
has_32_bits (negsuc n) = nat_le n 2147483647

unfoldable pub operands_at : Form → Parser Instruction
operands_at (forms.Bare which) ts = Some (bare which, ts)
operands_at forms.Int32 ts = do
  value ← integer_at ts
  if has_32_bits value.0 then Some (instructions.LoadInt32 value.0, value.1) else None
operands_at (forms.Integer which) ts = do
  value ← integer_at ts
  Some (with_integer which value.0, value.1)
operands_at forms.Quoted ts = do
  characters ← quoted_at ts
  Some (instructions.LoadString characters.0, characters.1)
operands_at (forms.Branch condition) ts = do
  label ← name_at ts
  Some (instructions.Branch condition label.0, label.1)
operands_at forms.Switch ts = do
  labels ← parentheses_at name_at ts
  Some (instructions.Switch labels.0, labels.1)
operands_at (forms.Field which) ts = do
  field ← field_reference_at ts
  Some (with_field which field.0, field.1)
operands_at (forms.Type which) ts = do
  type ← type_at ts
  Some (with_type which type.0, type.1)
operands_at forms.Call ts = do
  method ← method_reference_at (flag_at (codes "instance") ts).1
  Some (instructions.Call (flag_at (codes "instance") ts).0 method.0, method.1)
operands_at forms.CallVirtual ts = do
  method ← instance_method_at ts
  call ← virtual_call method.0.owner method.0.signature method.0.name
  Some (call, method.1)
operands_at forms.NewObject ts = do
  method ← instance_method_at ts
  created ← creation method.0.owner method.0.signature.parameters method.0.name method.0.signature.return_type
  Some (created, method.1)

unfoldable pub form_of : Option WordUse → Option Form
form_of None = None
form_of (Some OfGrammar) = None
form_of (Some (OfInstruction form)) = Some form

unfoldable pub instruction_at : Parser Instruction
instruction_at ts = do
  word ← any_word_at ts
  form ← form_of (use_of word.0)
  operands_at form word.1

-- ---- code

unfoldable pub label_at : Parser (List ℕ)
label_at ts = do
  name ← name_at ts
  before_sign_at name.0 Colon name.1

unfoldable pub starts_label : List Token → Bool
starts_label ts = is_some (name_at ts)

unfoldable pub line_at : Parser Line
line_at ts = do
  labels ← many starts_label label_at ts
  instruction ← instruction_at labels.1
  Some (record { labels = labels.0; instruction = instruction.0 }, instruction.1)

-- after `.locals`
unfoldable pub some_locals_at : Parser (List DeclaredType)
some_locals_at ts = do
  following ← word_at (codes "init") ts
  inside ← sign_at OpenParenthesis following
  closed_commas_at parameter_at inside

unfoldable pub locals_at : Parser (List DeclaredType)
locals_at ts = choice (word_at (codes ".locals") ts) (λ rest. some_locals_at rest) (Some ([], ts))

unfoldable pub max_stack_at : Parser ℤ
max_stack_at ts = do
  rest ← word_at (codes ".maxstack") ts
  integer_at rest

-- the opening brace, whether the method is the entry point, and how high the stack may be
unfoldable pub code_start_at : Parser (Bool × ℤ)
code_start_at ts = do
  block ← sign_at OpenBrace ts
  max_stack ← max_stack_at (flag_at (codes ".entrypoint") block).1
  Some (((flag_at (codes ".entrypoint") block).0, max_stack.0), max_stack.1)

-- the lines to the closing brace
unfoldable pub lines_at : Parser (List Line)
lines_at ts = do
  lines ← many in_block line_at ts
  before_sign_at lines.0 CloseBrace lines.1

unfoldable pub code_at : Parser Code
code_at ts = do
  start ← code_start_at ts
  locals ← locals_at start.1
  lines ← lines_at locals.1
  Some (record { is_entry_point = start.0.0; max_stack = start.0.1; locals = locals.0; lines = lines.0 }, lines.1)

-- ---- methods

unfoldable pub virtual_words_at : Parser HeadKind
virtual_words_at ts = do
  following ← word_at (codes "virtual") (flag_at (codes "abstract") (flag_at (codes "newslot") ts).1).1
  rest ← word_at (codes "instance") following
  Some (if (flag_at (codes "abstract") (flag_at (codes "newslot") ts).1).0 then Abstract (flag_at (codes "newslot") ts).0 else Virtual (flag_at (codes "newslot") ts).0, rest)

-- after `specialname`
unfoldable pub constructor_words_at : List Token → Option (List Token)
constructor_words_at ts = do
  rest ← word_at (codes "rtspecialname") ts
  word_at (codes "instance") rest

unfoldable pub first_words_at : Parser HeadKind
first_words_at ts = choice (word_at (codes "static") ts) (λ rest. Some (Static, rest))
    (choice (word_at (codes "instance") ts) (λ rest. Some (Instance, rest))
    (choice (word_at (codes "specialname") ts) (λ special. do
      rest ← constructor_words_at special
      Some (Constructor, rest)) (virtual_words_at ts)))

unfoldable pub named_head_at : Parser (Option DeclaredType × MethodName)
named_head_at ts = do
  type ← return_type_at ts
  name ← name_at type.1
  Some ((type.0, Named name.0), name.1)

unfoldable pub constructor_head_at : Parser (Option DeclaredType × MethodName)
constructor_head_at ts = do
  following ← word_at (codes "void") ts
  rest ← word_at (codes ".ctor") following
  Some ((None, ConstructorName), rest)

unfoldable pub head_at : HeadKind → Parser (Option DeclaredType × MethodName)
head_at Constructor ts = constructor_head_at ts
head_at _ ts = named_head_at ts

-- the name, the return type and the parameters
unfoldable pub signature_at : HeadKind → Parser (MethodName × Signature)
signature_at head_kind ts = do
  head ← head_at head_kind ts
  parameters ← parentheses_at parameter_at head.1
  Some ((head.0.1, record { parameters = parameters.0; return_type = head.0.0 }), parameters.1)

-- the kind of a method that has code
abbrev pub kind_with : HeadKind → Code → MethodKind
kind_with Static code = kinds.Static code
kind_with Instance code = kinds.Instance code
kind_with (Virtual is_new_slot) code = kinds.Virtual is_new_slot code
kind_with (Abstract is_new_slot) code = kinds.Instance code
kind_with Constructor code = kinds.Instance code

unfoldable pub code_body_at : HeadKind → Parser MethodKind
code_body_at head_kind ts = do
  code ← code_at ts
  Some (kind_with head_kind code.0, code.1)

unfoldable pub body_at : HeadKind → Parser MethodKind
body_at (Abstract is_new_slot) ts = do
  rest ← empty_block_at ts
  Some (kinds.Abstract is_new_slot, rest)
body_at head_kind ts = code_body_at head_kind ts

-- the body after `cil managed`
unfoldable pub managed_body_at : HeadKind → Parser MethodKind
managed_body_at head_kind ts = do
  managed ← word_at (codes "cil") ts
  block ← word_at (codes "managed") managed
  body_at head_kind block

-- all words before a method's return type
unfoldable pub method_words_at : Parser HeadKind
method_words_at ts = do
  public ← word_at (codes ".method") ts
  following ← word_at (codes "public") public
  first_words_at (flag_at (codes "hidebysig") following).1

unfoldable pub method_at : Parser Method
method_at ts = do
  head_kind ← method_words_at ts
  signature ← signature_at head_kind.0 head_kind.1
  kind ← managed_body_at head_kind.0 signature.1
  Some (record { name = signature.0.0; signature = signature.0.1; kind = kind.0 }, kind.1)

-- ---- members and classes

-- the words before a field's type, and whether it is static
unfoldable pub field_words_at : Parser Bool
field_words_at ts = do
  public ← word_at (codes ".field") ts
  following ← word_at (codes "public") public
  Some (flag_at (codes "static") following)

unfoldable pub field_at : Parser Field
field_at ts = do
  words ← field_words_at ts
  parts ← pair_at type_at name_at words.1
  Some (record { is_static = words.0; field_type = parts.0.0; name = parts.0.1 }, parts.1)

unfoldable pub interface_member_at : Parser Member
interface_member_at ts = do
  method ← method_at ts
  Some (MethodMember method.0, method.1)

unfoldable pub member_at : Parser Member
member_at ts = choice (word_at (codes ".field") ts) (λ _. do
  field ← field_at ts
  Some (FieldMember field.0, field.1)) (interface_member_at ts)

-- parts in braces
unfoldable pub block_at : {A : Type 0} → (List Token → Bool) → Parser A → Parser (List A)
block_at starts parses ts = do
  inside ← sign_at OpenBrace ts
  members ← many starts parses inside
  before_sign_at members.0 CloseBrace members.1

unfoldable pub implements_at : Parser (List ClassName)
implements_at ts = choice (word_at (codes "implements") ts) (λ rest. commas_at class_name_at rest) (Some ([], ts))

-- the words before an interface's name
unfoldable pub interface_words_at : List Token → Option (List Token)
interface_words_at ts = do
  public ← word_at (codes "interface") ts
  abstract ← word_at (codes "public") public
  auto ← word_at (codes "abstract") abstract
  ansi ← word_at (codes "auto") auto
  word_at (codes "ansi") ansi

unfoldable pub interface_at : Parser Class
interface_at ts = do
  following ← interface_words_at ts
  parts ← pair_at name_at (block_at in_block interface_member_at) following
  Some (record { name = parts.0.0; kind = Interface; members = parts.0.1 }, parts.1)

-- the words before the name of a class that is no interface, and whether it is abstract
unfoldable pub class_words_at : Parser Bool
class_words_at ts = do
  abstract ← word_at (codes "public") ts
  ansi ← word_at (codes "auto") (flag_at (codes "abstract") abstract).1
  following ← word_at (codes "ansi") ansi
  Some ((flag_at (codes "abstract") abstract).0, following)

unfoldable pub base_at : Parser ClassName
base_at ts = do
  rest ← word_at (codes "extends") ts
  class_name_at rest

-- the interfaces that a class lists, and its members
unfoldable pub class_body_at : Parser (List ClassName × List Member)
class_body_at ts = do
  interfaces ← implements_at ts
  members ← block_at in_block member_at interfaces.1
  Some ((interfaces.0, members.0), members.1)

unfoldable pub plain_class_at : Parser Class
plain_class_at ts = do
  words ← class_words_at ts
  parts ← pair_at name_at (pair_at base_at class_body_at) words.1
  Some (record { name = parts.0.0; kind = PlainClass words.0 parts.0.1.0 parts.0.1.1.0; members = parts.0.1.1.1 }, parts.1)

unfoldable pub class_at : Parser Class
class_at ts = do
  start ← word_at (codes ".class") ts
  choice (word_at (codes "interface") start) (λ _. interface_at start) (plain_class_at start)

-- ---- a whole source

unfoldable pub starts_extern : List Token → Bool
starts_extern ts = choice (word_at (codes ".assembly") ts) (λ rest. is_some (word_at (codes "extern") rest)) false

-- the name of an assembly, and an empty block
unfoldable pub named_assembly_at : Parser (List ℕ)
named_assembly_at ts = do
  name ← name_at ts
  rest ← empty_block_at name.1
  Some (name.0, rest)

unfoldable pub extern_at : Parser (List ℕ)
extern_at ts = do
  start ← word_at (codes ".assembly") ts
  following ← word_at (codes "extern") start
  named_assembly_at following

unfoldable pub assembly_at : Parser (Option (List ℕ))
assembly_at ts = choice (word_at (codes ".assembly") ts) (λ following. do
  name ← named_assembly_at following
  Some (Some name.0, name.1)) (Some (None, ts))

-- all of the tokens
unfoldable pub tree_at : List Token → Option Tree
tree_at ts = do
  externs ← many starts_extern extern_at ts
  assembly ← assembly_at externs.1
  classes ← many in_block class_at assembly.1
  if length classes.1 == 0 then Some (record { externs = externs.0; assembly = assembly.0; classes = classes.0 }) else None
