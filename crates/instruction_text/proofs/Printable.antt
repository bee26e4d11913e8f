-- What is written is printable.
use Rattle.std.proofs.Common.{◌≡◌, ◌/◌, ◌%◌, ◌<◌, ◌==◌, ◌∷◌, ◌++◌, ◌∙◌, [], ℕ, ℤ, pos, negsuc, zero, suc, Bool, true, false, List, Option, Some, None, codes, refl, ap, arith}
use Rattle.std.specs.Prelude.{⊤, ◌&&◌, if◌then◌else◌, decimal, flat_map}
use Rattle.std.specs.Option.{option_map_or}
use Rattle.std.specs.Fmt.{digit_glyph, digits, digits_onto, signed_decimal}
use Rattle.std.specs.List.{list_all}
use Rattle.std.proofs.lemmas.Bool.Decides.{nat_tests}
use Rattle.std.proofs.lemmas.List.Folds.{list_all-append}
use Rattle.cil_model.specs.Grammar.{binary_word, branch_word, load_element_word, store_element_word, comparison_word, shift_word, unary_word}
use Rattle.cil_model.specs.declared.types.ClassName.{ClassName}
use Rattle.cil_model.specs.declared.types.DeclaredType.{DeclaredType}
use Rattle.cil_model.specs.declared.types.Element.{Element}
use Rattle.cil_model.specs.declared.types.Element.TheVariants as element
use Rattle.cil_model.specs.declared.types.Signature.{Signature}
use Rattle.cil_model.specs.declared.instructions.BinaryOperation.{BinaryOperation}
use Rattle.cil_model.specs.declared.instructions.BinaryOperation.TheVariants as binary
use Rattle.cil_model.specs.declared.instructions.BranchCondition.{BranchCondition}
use Rattle.cil_model.specs.declared.instructions.BranchCondition.TheVariants as conditions
use Rattle.cil_model.specs.declared.instructions.ElementKind.{ElementKind}
use Rattle.cil_model.specs.declared.instructions.ElementKind.TheVariants as kinds
use Rattle.cil_model.specs.declared.instructions.BranchComparison.TheVariants as branch
use Rattle.cil_model.specs.declared.instructions.Comparison.{Comparison}
use Rattle.cil_model.specs.declared.instructions.Comparison.TheVariants as comparison
use Rattle.cil_model.specs.declared.instructions.ShiftOperation.{ShiftOperation}
use Rattle.cil_model.specs.declared.instructions.ShiftOperation.TheVariants as shift
use Rattle.cil_model.specs.declared.instructions.UnaryOperation.{UnaryOperation}
use Rattle.cil_model.specs.declared.instructions.UnaryOperation.TheVariants as unary
use Rattle.cil_model.specs.declared.instructions.FieldReference.{FieldReference}
use Rattle.cil_model.specs.declared.instructions.MethodName.{MethodName}
use Rattle.cil_model.specs.declared.instructions.MethodName.TheVariants.{Constructor, Named}
use Rattle.cil_model.specs.declared.instructions.MethodReference.{MethodReference}
use Rattle.cil_model.specs.declared.instructions.Instruction.{Instruction}
use Rattle.cil_model.specs.declared.instructions.Instruction.TheVariants as named
use Rattle.instruction_text.specs.Characters.{IsPrintable, character_text, characters_text, is_printable, octal_text}
use Rattle.instruction_text.specs.Texts.{assembly_text, brackets_text, class_text, constructor_text, element_text, field_text, instruction_text, labels_text, list_text, method_name_text, method_text, operand_text, return_text, type_text, types_text, virtual_text, word_text}

-- a text of printable characters
pub record Printable (cs : List ℕ) : Type 0 where
  pub is : IsPrintable cs

-- ---- one text after another

-- letters that are written out
pub word : (cs : List ℕ) → IsPrintable cs → Printable cs
word cs p = record { is = p }

pub both : {xs ys : List ℕ} → Printable xs → Printable ys → Printable (xs ++ ys)
both {xs = xs} {ys = ys} p q = record { is = list_all-append is_printable xs ys ∙ (ap (λ b. b && list_all is_printable ys) p.is ∙ q.is) }

each : {A : Type 0} (text : A → List ℕ) → ((x : A) → Printable (text x)) → (xs : List A) → Printable (flat_map text xs)
each text p [] = word [] refl
each text p (x ∷ xs) = both (p x) (each text p xs)

printable_list : {A : Type 0} (text : A → List ℕ) → ((x : A) → Printable (text x)) → (xs : List A) → Printable (list_text text xs)
printable_list text p [] = word [] refl
printable_list text p (x ∷ xs) = both (p x) (each (λ y. codes ", " ++ text y) (λ y. both (word (codes ", ") refl) (p y)) xs)

-- ---- numbers

printable_digit : (d : ℕ) → d < 10 → is_printable (digit_glyph false d) ≡ true
printable_digit d below = grind (arith, nat_tests, below)

-- a digit more before those that are there
one_digit : (n : ℕ) (acc : List ℕ) → Printable acc → Printable (digit_glyph false (n % 10) ∷ acc)
one_digit n acc p = record { is = ap (λ b. b && list_all is_printable acc) (printable_digit (n % 10) (omega arith)) ∙ p.is }

either : (b : Bool) {xs ys : List ℕ} → Printable xs → Printable ys → Printable (if b then xs else ys)
either true p q = p
either false p q = q

printable_onto : (k n : ℕ) (acc : List ℕ) → Printable acc → Printable (digits_onto k 10 false n acc)
printable_onto zero n acc p = p
printable_onto (suc k) n acc p =
    let more = one_digit n acc p in
    either (n / 10 == 0) more (printable_onto k (n / 10) (digit_glyph false (n % 10) ∷ acc) more)

pub printable_decimal : (n : ℕ) → Printable (decimal n)
unfolding digits
printable_decimal n = printable_onto 64 n [] (word [] refl)

pub printable_signed : (z : ℤ) → Printable (signed_decimal z)
printable_signed (pos n) = printable_decimal n
printable_signed (negsuc n) = both (word (45 ∷ []) refl) (printable_decimal (suc n))

-- ---- characters

printable_octal : (c : ℕ) → Printable (octal_text c)
printable_octal c = both (both (printable_decimal (c / 64)) (printable_decimal (c / 8 % 8))) (printable_decimal (c % 8))

printable_character : (c : ℕ) → Printable (character_text c)
printable_character c = by (c == 10) (c == 9) (c == 34) (c == 92) (is_printable c) refl
  where
    by : (feed tab quote backslash plain : Bool) → is_printable c ≡ plain →
        Printable (if feed then 92 ∷ 110 ∷ [] else if tab then 92 ∷ 116 ∷ [] else if quote then 92 ∷ 34 ∷ [] else if backslash then 92 ∷ 92 ∷ [] else if plain then c ∷ [] else 92 ∷ octal_text c)
    by true tab quote backslash plain is = word (92 ∷ 110 ∷ []) refl
    by false true quote backslash plain is = word (92 ∷ 116 ∷ []) refl
    by false false true backslash plain is = word (92 ∷ 34 ∷ []) refl
    by false false false true plain is = word (92 ∷ 92 ∷ []) refl
    by false false false false true is = word (c ∷ []) (ap (λ b. b && true) is)
    by false false false false false is = both (word (92 ∷ []) refl) (printable_octal c)

pub printable_characters : (cs : List ℕ) → Printable (characters_text cs)
printable_characters cs = each character_text printable_character cs

-- ---- types

printable_assembly : (name : Option (List ℕ)) → Printable (assembly_text name)
printable_assembly None = word [] refl
printable_assembly (Some name) = both (both (word (codes "[") refl) (printable_characters name)) (word (codes "]") refl)

pub printable_class : (c : ClassName) → Printable (class_text c)
printable_class c = both (printable_assembly c.assembly) (printable_characters c.name)

printable_element : (e : Element) → Printable (element_text e)
printable_element element.Int32 = word (codes "int32") refl
printable_element element.Int64 = word (codes "int64") refl
printable_element element.Object = word (codes "object") refl
printable_element element.String = word (codes "string") refl
printable_element (element.Class c) = both (word (codes "class ") refl) (printable_class c)

printable_brackets : (n : ℕ) → Printable (brackets_text n)
printable_brackets zero = word [] refl
printable_brackets (suc n) = both (printable_brackets n) (word (codes "[]") refl)

printable_type : (t : DeclaredType) → Printable (type_text t)
printable_type t = both (printable_element t.element) (printable_brackets t.brackets)

printable_return : (t : Option DeclaredType) → Printable (return_text t)
printable_return None = word (codes "void") refl
printable_return (Some t) = printable_type t

printable_types : (ts : List DeclaredType) → Printable (types_text ts)
printable_types ts = both (both (word (codes "(") refl) (printable_list type_text printable_type ts)) (word (codes ")") refl)

-- ---- members

pub printable_method_name : (name : MethodName) → Printable (method_name_text name)
printable_method_name Constructor = word (codes ".ctor") refl
printable_method_name (Named name) = printable_characters name

printable_field : (r : FieldReference) → Printable (field_text r)
printable_field r = both (both (both (both (printable_type r.field_type) (word (codes " ") refl)) (printable_class r.owner)) (word (codes "::") refl)) (printable_characters r.name)

-- what is before a method's name
before_name : (t : Option DeclaredType) (owner : ClassName) → Printable (return_text t ++ codes " " ++ class_text owner ++ codes "::")
before_name t owner = both (both (both (printable_return t) (word (codes " ") refl)) (printable_class owner)) (word (codes "::") refl)

printable_method : (r : MethodReference) → Printable (method_text r)
printable_method r = both (both (before_name r.signature.return_type r.owner) (printable_method_name r.name)) (printable_types r.signature.parameters)

printable_virtual : (owner : ClassName) (name : List ℕ) (g : Signature) → Printable (virtual_text owner name g)
printable_virtual owner name g = both (both (before_name g.return_type owner) (printable_characters name)) (printable_types g.parameters)

printable_constructor : (owner : ClassName) (ts : List DeclaredType) → Printable (constructor_text owner ts)
printable_constructor owner ts = both (both (both (word (codes "void ") refl) (printable_class owner)) (word (codes "::.ctor") refl)) (printable_types ts)

-- ---- instructions

printable_labels : (labels : List (List ℕ)) → Printable (labels_text labels)
printable_labels labels = both (both (word (codes "(") refl) (printable_list characters_text printable_characters labels)) (word (codes ")") refl)

printable_binary : (op : BinaryOperation) → Printable (binary_word op)
printable_binary binary.Add = word (binary_word binary.Add) refl
printable_binary op = word (binary_word op) refl

printable_unary : (op : UnaryOperation) → Printable (unary_word op)
printable_unary unary.Negate = word (unary_word unary.Negate) refl
printable_unary op = word (unary_word op) refl

printable_shift : (op : ShiftOperation) → Printable (shift_word op)
printable_shift shift.Left = word (shift_word shift.Left) refl
printable_shift op = word (shift_word op) refl

printable_comparison : (op : Comparison) → Printable (comparison_word op)
printable_comparison comparison.Equal = word (comparison_word comparison.Equal) refl
printable_comparison op = word (comparison_word op) refl

printable_branch : (condition : BranchCondition) → Printable (branch_word condition)
printable_branch (conditions.Compare branch.Equal) = word (branch_word (conditions.Compare branch.Equal)) refl
printable_branch condition = word (branch_word condition) refl

printable_load : (kind : ElementKind) → Printable (load_element_word kind)
printable_load kinds.Int32 = word (load_element_word kinds.Int32) refl
printable_load kind = word (load_element_word kind) refl

printable_store : (kind : ElementKind) → Printable (store_element_word kind)
printable_store kinds.Int32 = word (store_element_word kinds.Int32) refl
printable_store kind = word (store_element_word kind) refl

printable_word : (i : Instruction) → Printable (word_text i)
printable_word (named.Binary op) = printable_binary op
printable_word (named.Unary op) = printable_unary op
printable_word (named.Shift op) = printable_shift op
printable_word (named.Compare op) = printable_comparison op
printable_word (named.Branch condition label) = printable_branch condition
printable_word (named.LoadElement kind) = printable_load kind
printable_word (named.StoreElement kind) = printable_store kind
printable_word (named.Call true r) = word (codes "call instance") refl
printable_word (named.Call false r) = word (codes "call") refl
printable_word i = word (word_text i) refl

-- every text that there is, is printable
abbrev AllPrintable : Option (List ℕ) → Type 0
AllPrintable None = ⊤
AllPrintable (Some text) = Printable text

printable_operand : (i : Instruction) → AllPrintable (operand_text i)
printable_operand (named.LoadInt32 z) = printable_signed z
printable_operand (named.LoadInt64 z) = printable_signed z
printable_operand (named.LoadString cs) = both (both (word (codes "\"") refl) (printable_characters cs)) (word (codes "\"") refl)
printable_operand (named.LoadArgument n) = printable_signed n
printable_operand (named.StoreArgument n) = printable_signed n
printable_operand (named.LoadLocal n) = printable_signed n
printable_operand (named.StoreLocal n) = printable_signed n
printable_operand (named.Branch condition l) = printable_characters l
printable_operand (named.Switch ls) = printable_labels ls
printable_operand (named.LoadField r) = printable_field r
printable_operand (named.StoreField r) = printable_field r
printable_operand (named.LoadStaticField r) = printable_field r
printable_operand (named.StoreStaticField r) = printable_field r
printable_operand (named.NewArray t) = printable_type t
printable_operand (named.CastClass t) = printable_type t
printable_operand (named.IsInstance t) = printable_type t
printable_operand (named.Call is_instance r) = printable_method r
printable_operand (named.CallVirtual owner name g) = printable_virtual owner name g
printable_operand (named.NewObject owner ts) = printable_constructor owner ts
printable_operand i = tt

printable_after : (text : Option (List ℕ)) → AllPrintable text → Printable (option_map_or (λ operand. codes " " ++ operand) text [])
printable_after None h = word [] refl
printable_after (Some text) h = both (word (codes " ") refl) h

pub printable_instruction : (i : Instruction) → Printable (instruction_text i)
printable_instruction i = both (printable_word i) (printable_after (operand_text i) (printable_operand i))
