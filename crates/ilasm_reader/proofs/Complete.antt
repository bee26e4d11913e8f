-- What is in the grammar is read, up to instructions.
use Rattle.std.proofs.Common.{◌≡◌, ◌==◌, ◌∙◌, ℕ, zero, suc, ℤ, pos, negsuc, List, [], ◌∷◌, Option, Some, None, Bool, true, false, refl, ap, sym, subst, inl, inr, arith, FitsSigned, Contains}
use Rattle.std.specs.Prelude.{codes, bytes_eq}
use Rattle.std.specs.Int.{w32}
use Rattle.std.proofs.lemmas.Slice.Eq.{bytes_eq-Decides}
use Rattle.std.proofs.lemmas.Bool.{le-leb}
use Rattle.cil_model.specs.declared.tokens.Symbol as symbols
use Rattle.cil_model.specs.declared.tokens.Symbol.TheVariants.{OpenBrace, CloseBrace, OpenParenthesis, CloseParenthesis, OpenBracket, CloseBracket, Comma, DoubleColon}
use Rattle.cil_model.specs.declared.tokens.Token.{Token}
use Rattle.cil_model.specs.declared.tokens.Token.TheVariants.{Integer, Quoted}
use Rattle.cil_model.specs.declared.types.ClassName.{ClassName}
use Rattle.cil_model.specs.declared.types.Element.{Element}
use Rattle.cil_model.specs.declared.types.Element.TheVariants.{Int32, Int64, Object, String, Class as ClassElement}
use Rattle.cil_model.specs.declared.types.DeclaredType.{DeclaredType}
use Rattle.cil_model.specs.declared.instructions.BinaryOperation.{BinaryOperation}
use Rattle.cil_model.specs.declared.instructions.BinaryOperation.TheVariants as binary
use Rattle.cil_model.specs.declared.instructions.UnaryOperation.{UnaryOperation}
use Rattle.cil_model.specs.declared.instructions.UnaryOperation.TheVariants as unary
use Rattle.cil_model.specs.declared.instructions.ShiftOperation.{ShiftOperation}
use Rattle.cil_model.specs.declared.instructions.ShiftOperation.TheVariants as shift
use Rattle.cil_model.specs.declared.instructions.Comparison.{Comparison}
use Rattle.cil_model.specs.declared.instructions.Comparison.TheVariants as comparison
use Rattle.cil_model.specs.declared.instructions.BranchComparison.TheVariants as branch
use Rattle.cil_model.specs.declared.instructions.BranchCondition.{BranchCondition}
use Rattle.cil_model.specs.declared.instructions.BranchCondition.TheVariants as conditions
use Rattle.cil_model.specs.declared.instructions.ElementKind.{ElementKind}
use Rattle.cil_model.specs.declared.instructions.ElementKind.TheVariants as kinds
use Rattle.cil_model.specs.declared.instructions.MethodName.{MethodName}
use Rattle.cil_model.specs.declared.instructions.MethodReference.{MethodReference}
use Rattle.cil_model.specs.declared.instructions.MethodName.TheVariants.{Constructor as ConstructorName, Named}
use Rattle.cil_model.specs.declared.instructions.Instruction.{Instruction}
use Rattle.cil_model.specs.declared.instructions.Instruction.TheVariants as instructions
use Rattle.cil_model.specs.Bodies.{constructor_reference, virtual_reference}
use Rattle.cil_model.specs.Spans.{◌▸◌, item, maybe, present}
use Rattle.cil_model.specs.Words.{short_constants, short_argument_loads, short_local_loads, short_local_stores}
use Rattle.cil_model.specs.Grammar.{Span, word, sign, name, commas, parentheses, in_assembly, ref, elem, brackets, type_of, ret, parameter, method_name, field_reference, method_reference, binary_word, unary_word, shift_word, comparison_word, branch_word, load_element_word, store_element_word, instr}
use Rattle.ilasm_tokens.specs.declared.words.Form.{Form}
use Rattle.ilasm_tokens.specs.declared.words.Form.TheVariants as forms
use Rattle.ilasm_tokens.specs.declared.words.Bare as bare_type
use Rattle.ilasm_tokens.specs.declared.words.Bare.TheVariants as bares
use Rattle.ilasm_tokens.specs.declared.words.WithInteger.TheVariants as integers
use Rattle.ilasm_tokens.specs.declared.words.FieldAccess.TheVariants as accesses
use Rattle.ilasm_tokens.specs.declared.words.WithType.TheVariants as with_types
use Rattle.ilasm_tokens.specs.Steps.{bind, choice, with_front, bind_at, choice_at, choice_past, Sound}
use Rattle.ilasm_tokens.specs.Vocabulary.{use_of}
use Rattle.ilasm_tokens.proofs.Many.{CompleteBefore, Complete, ends, many_complete}
use Rattle.ilasm_reader.specs.Parsing.{Parser, word_at, number_of, sign_at, any_word_at, name_at, integer_at, quoted_at, flag_at, starts_comma, after_comma, commas_at, closed_commas_at, parentheses_at, empty_block_at, before_sign_at, pair_at, in_block, assembly_name_at, class_of_assembly_at, class_name_at, element_at, brackets_at, all_brackets_at, type_at, parameter_at, return_type_at, field_of_owner_at, field_reference_at, method_name_at, method_of_owner_at, method_reference_at, instance_method_at, bare, virtual_call, creation, has_32_bits, operands_at, form_of, instruction_at}
use Rattle.ilasm_reader.specs.Forms.{operands}
use Rattle.ilasm_reader.specs.Sound.{name_sound, after_comma_sound, type_sound}
use Rattle.ilasm_reader.proofs.BracketPairs.{no_more}

-- ---- single tokens

same_bytes : (w : List ℕ) → bytes_eq w w ≡ true
same_bytes w = (bytes_eq-Decides w w).1 refl

pub word_complete : (w : List ℕ) {ts rest : List Token} → word w ts rest → word_at w ts ≡ Some rest
unfolding word_at choice
word_complete w e = rw (e, same_bytes w) refl

symbol_is : (s : symbols.Symbol) → (number_of s == number_of s) ≡ true
symbol_is OpenBrace = refl
symbol_is _ = refl

pub sign_complete : (s : symbols.Symbol) {ts rest : List Token} → sign s ts rest → sign_at s ts ≡ Some rest
unfolding sign_at choice
sign_complete s e = rw (e, symbol_is s) refl

any_word_complete : (w : List ℕ) {ts rest : List Token} → word w ts rest → any_word_at ts ≡ Some (w, rest)
unfolding any_word_at choice
any_word_complete w e = rw e refl

pub name_complete : (n : List ℕ) {ts rest : List Token} → name n ts rest → name_at ts ≡ Some (n, rest)
unfolding name_at choice
name_complete n e = rw e refl

pub integer_complete : (z : ℤ) {ts rest : List Token} → item (Integer z) ts rest → integer_at ts ≡ Some (z, rest)
unfolding integer_at choice
integer_complete z e = rw e refl

quoted_complete : (t : List ℕ) {ts rest : List Token} → item (Quoted t) ts rest → quoted_at ts ≡ Some (t, rest)
unfolding quoted_at choice
quoted_complete t e = rw e refl

-- ---- what a token is not

pub name_no_sign : (s : symbols.Symbol) (n : List ℕ) {ts rest : List Token} → name n ts rest → sign_at s ts ≡ None
unfolding sign_at choice
name_no_sign s n e = rw e refl

pub word_no_sign : (s : symbols.Symbol) (w : List ℕ) {ts rest : List Token} → word w ts rest → sign_at s ts ≡ None
unfolding sign_at choice
word_no_sign s w e = rw e refl

pub sign_no_sign : (s found : symbols.Symbol) {ts rest : List Token} → (number_of found == number_of s) ≡ false → sign found ts rest → sign_at s ts ≡ None
unfolding sign_at choice
sign_no_sign s found h e = rw (e, h) refl

pub name_no_word : (w : List ℕ) (n : List ℕ) {ts rest : List Token} → name n ts rest → word_at w ts ≡ None
unfolding word_at choice
name_no_word w n e = rw e refl

pub sign_no_word : (w : List ℕ) (s : symbols.Symbol) {ts rest : List Token} → sign s ts rest → word_at w ts ≡ None
unfolding word_at choice
sign_no_word w s e = rw e refl

pub word_no_word : (w v : List ℕ) {ts rest : List Token} → bytes_eq v w ≡ false → word v ts rest → word_at w ts ≡ None
unfolding word_at choice
word_no_word w v h e = rw (e, h) refl

pub end_no_word : (w : List ℕ) → word_at w [] ≡ None
unfolding word_at choice
end_no_word w = refl

sign_no_name : (s : symbols.Symbol) {ts rest : List Token} → sign s ts rest → name_at ts ≡ None
unfolding name_at choice
sign_no_name s e = rw e refl

pub no_brackets : (ts : List Token) → sign_at OpenBracket ts ≡ None → brackets_at ts ≡ None
unfolding brackets_at bind
no_brackets ts e = rw e refl

-- ---- flags

-- a word that may be written before what no such word begins
pub flag_complete : (w : List ℕ) (b : Bool) (ts rest : List Token) → word_at w rest ≡ None → present b (word w) ts rest → flag_at w ts ≡ (b, rest)
unfolding flag_at
flag_complete w true ts rest n p = choice_at _ _ (word_complete w p) refl
flag_complete w false ts rest n p = choice_past _ (rw p n) (rw p refl)

pub skip_complete : (w : List ℕ) (ts rest : List Token) → word_at w rest ≡ None → maybe (word w) ts rest → (flag_at w ts).1 ≡ rest
skip_complete w ts rest n (inl p) = ap (λ (y : Bool × List Token). y.1) (flag_complete w true ts rest n p)
skip_complete w ts rest n (inr p) = ap (λ (y : Bool × List Token). y.1) (flag_complete w false ts rest n p)

-- ---- what may follow an optional part

-- after a type and its forgotten name
abbrev pub EndsItem : List Token → Type 0
EndsItem ts = (name_at ts ≡ None) × (brackets_at ts ≡ None)

-- after a type
abbrev pub EndsType : List Token → Type 0
EndsType ts = brackets_at ts ≡ None

pub sign_ends : (s : symbols.Symbol) {ts rest : List Token} → (number_of s == number_of OpenBracket) ≡ false → sign s ts rest → EndsItem ts
sign_ends s h e = (sign_no_name s e, no_brackets _ (sign_no_sign OpenBracket s h e))

-- ---- lists

comma_starts : {ts rest : List Token} → sign Comma ts rest → starts_comma ts ≡ true
unfolding starts_comma sign_at choice
comma_starts e = rw e refl

pub sign_no_comma : (s : symbols.Symbol) {ts rest : List Token} → (number_of s == number_of Comma) ≡ false → sign s ts rest → starts_comma ts ≡ false
unfolding starts_comma sign_at choice
sign_no_comma Comma h e = absurd cc
sign_no_comma _ _ e = rw e refl

module _ {A : Type 0} (parses : Parser A) (R : A → Span) (sound : Sound parses R) (complete : CompleteBefore EndsItem parses R) where
  comma_first : (x : A) (ts rest : List Token) → (sign Comma ▸ R x) ts rest → (starts_comma ts ≡ true) × EndsItem ts
  comma_first x ts rest (mid, p, q) = (comma_starts p, sign_ends Comma refl p)

  after_comma_complete : CompleteBefore EndsItem (after_comma parses) (λ x. sign Comma ▸ R x)
  unfolding after_comma
  after_comma_complete x ts rest e (mid, p, q) = bind_at _ (sign_complete Comma p) (complete x mid rest e q)

  pub commas_complete : (xs : List A) (ts rest : List Token) → EndsItem rest → starts_comma rest ≡ false → commas R xs ts rest → commas_at parses ts ≡ Some (xs, rest)
  unfolding commas_at with_front
  commas_complete [] ts rest e s c = absurd c
  commas_complete (x ∷ xs) ts rest e s (mid, p, q) =
      let following = ends starts_comma (after_comma parses) (λ y. sign Comma ▸ R y) EndsItem (after_comma_sound parses R sound) after_comma_complete comma_first xs mid rest e q in
      let others = many_complete starts_comma (after_comma parses) (λ y. sign Comma ▸ R y) EndsItem (after_comma_sound parses R sound) after_comma_complete comma_first xs mid rest e s q in
      bind_at _ (complete x ts mid following p) (rw others refl)

  pub closed_commas_complete : (xs : List A) (ts mid rest : List Token) → commas R xs ts mid → sign CloseParenthesis mid rest → closed_commas_at parses ts ≡ Some (xs, rest)
  unfolding closed_commas_at before_sign_at
  closed_commas_complete xs ts mid rest p q =
      bind_at _ (commas_complete xs ts mid (sign_ends CloseParenthesis refl q) (sign_no_comma CloseParenthesis refl q) p) (bind_at _ (sign_complete CloseParenthesis q) refl)

  pub parentheses_complete : ((x : A) (ts rest : List Token) → R x ts rest → sign_at CloseParenthesis ts ≡ None) → Complete (parentheses_at parses) (parentheses R)
  unfolding parentheses_at
  parentheses_complete unclosed [] ts rest (a, p, (b, q, r)) = bind_at _ (sign_complete OpenParenthesis p) (choice_at _ _ (sign_complete CloseParenthesis (q ∙ r)) refl)
  parentheses_complete unclosed (x ∷ xs) ts rest (a, p, (b, q, r)) =
      bind_at _ (sign_complete OpenParenthesis p) (choice_past _ (unclosed x a q.0 q.1) (closed_commas_complete (x ∷ xs) a b rest q r))

pub empty_block_complete : {ts mid rest : List Token} → sign OpenBrace ts mid → sign CloseBrace mid rest → empty_block_at ts ≡ Some rest
unfolding empty_block_at
empty_block_complete p q = bind_at _ (sign_complete OpenBrace p) (sign_complete CloseBrace q)

-- one part after another
pub pair_given : {A B : Type 0} (first : Parser A) (second : Parser B) {x : A} {y : B} {ts mid rest : List Token} → first ts ≡ Some (x, mid) → second mid ≡ Some (y, rest) → pair_at first second ts ≡ Some ((x, y), rest)
unfolding pair_at
pair_given first second p q = bind_at _ p (bind_at _ q refl)

pub end_closes : {ts rest : List Token} → sign CloseBrace ts rest → in_block ts ≡ false
unfolding in_block sign_at choice
end_closes e = rw e refl

pub nothing_left : in_block [] ≡ false
unfolding in_block sign_at choice
nothing_left = refl

-- ---- names and types

assembly_name_complete : (n : List ℕ) {ts mid rest : List Token} → name n ts mid → sign CloseBracket mid rest → assembly_name_at ts ≡ Some (n, rest)
unfolding assembly_name_at before_sign_at
assembly_name_complete n p q = bind_at _ (name_complete n p) (bind_at _ (sign_complete CloseBracket q) refl)

pub class_name_complete : Complete class_name_at ref
unfolding class_name_at class_of_assembly_at
class_name_complete x ts rest p = class_name_by x.assembly x.name ts rest p
  where
    class_name_by : (o : Option (List ℕ)) (n : List ℕ) (ts rest : List Token) → (in_assembly o ▸ name n) ts rest → class_name_at ts ≡ Some (record { assembly = o; name = n }, rest)
    class_name_by None n ts rest (a, p, q) = let here : name n ts rest = p ∙ q in choice_past _ (name_no_sign OpenBracket n here) (bind_at _ (name_complete n here) refl)
    class_name_by (Some l) n ts rest (a, (b, p, (c, q, r)), s) =
        choice_at _ _ (sign_complete OpenBracket p) (bind_at _ (pair_given _ _ (assembly_name_complete l q r) (name_complete n s)) refl)

element_complete : Complete element_at elem
unfolding element_at
element_complete Int32 ts rest p = choice_at _ _ (word_complete (codes "int32") p) refl
element_complete Int64 ts rest p = choice_past _ (word_no_word (codes "int32") (codes "int64") refl p) (choice_at _ _ (word_complete (codes "int64") p) refl)
element_complete Object ts rest p =
    choice_past _ (word_no_word (codes "int32") (codes "object") refl p) (choice_past _ (word_no_word (codes "int64") (codes "object") refl p) (choice_at _ _ (word_complete (codes "object") p) refl))
element_complete String ts rest p =
    choice_past _ (word_no_word (codes "int32") (codes "string") refl p) (choice_past _ (word_no_word (codes "int64") (codes "string") refl p)
    (choice_past _ (word_no_word (codes "object") (codes "string") refl p) (choice_at _ _ (word_complete (codes "string") p) refl)))
element_complete (ClassElement c) ts rest (a, p, q) =
    choice_past _ (word_no_word (codes "int32") (codes "class") refl p) (choice_past _ (word_no_word (codes "int64") (codes "class") refl p)
    (choice_past _ (word_no_word (codes "object") (codes "class") refl p) (choice_past _ (word_no_word (codes "string") (codes "class") refl p)
    (bind_at _ (word_complete (codes "class") p) (bind_at _ (class_name_complete c a rest q) refl)))))

all_brackets_complete : (n : ℕ) (ts rest : List Token) → EndsType rest → brackets n ts rest → all_brackets_at ts ≡ (n, rest)
unfolding all_brackets_at
all_brackets_complete zero ts rest e p = rw p (no_more rest e)
all_brackets_complete (suc n) ts rest e (a, p, (b, q, r)) = rw (p, q) (ap (λ (x : ℕ × List Token). (suc x.0, x.1)) (all_brackets_complete n b rest e r))

pub type_complete : CompleteBefore EndsType type_at type_of
unfolding type_at
type_complete x ts rest e (a, p, q) =
    bind_at _ (element_complete x.element ts a p) (ap (λ (y : ℕ × List Token). Some (record { element = x.element; brackets = y.0 }, y.1)) (all_brackets_complete x.brackets a rest e q))

type_before : CompleteBefore EndsItem type_at type_of
type_before x ts rest e p = type_complete x ts rest e.1 p

pub parameter_complete : CompleteBefore EndsItem parameter_at parameter
unfolding parameter_at
parameter_complete x ts rest e (a, p, inl (n, q)) = bind_at _ (type_complete x ts a (no_brackets _ (name_no_sign OpenBracket n q)) p) (choice_at _ _ (name_complete n q) refl)
parameter_complete x ts rest e (a, p, inr q) = bind_at _ (type_complete x ts a (rw q e.1) p) (choice_past _ (rw q e.0) (rw q refl))

-- the word that an element begins with
element_word : Element → List ℕ
element_word Int32 = codes "int32"
element_word Int64 = codes "int64"
element_word Object = codes "object"
element_word String = codes "string"
element_word (ClassElement c) = codes "class"

element_begins : (e : Element) (ts rest : List Token) → elem e ts rest → (mid : List Token) × word (element_word e) ts mid
unfolding element_word
element_begins (ClassElement c) ts rest (a, p, q) = (a, p)
element_begins _ _ rest p = (rest, p)

pub element_no_word : (w : List ℕ) → bytes_eq (codes "int32") w ≡ false → bytes_eq (codes "int64") w ≡ false → bytes_eq (codes "object") w ≡ false → bytes_eq (codes "string") w ≡ false → bytes_eq (codes "class") w ≡ false
    → (e : Element) (ts rest : List Token) → elem e ts rest → word_at w ts ≡ None
element_no_word w a b c d f Int32 ts rest p = word_no_word w (codes "int32") a p
element_no_word w a b c d f Int64 ts rest p = word_no_word w (codes "int64") b p
element_no_word w a b c d f Object ts rest p = word_no_word w (codes "object") c p
element_no_word w a b c d f String ts rest p = word_no_word w (codes "string") d p
element_no_word w a b c d f (ClassElement k) ts rest p = word_no_word w (codes "class") f p.1

type_open : (x : DeclaredType) (ts rest : List Token) → type_of x ts rest → sign_at CloseParenthesis ts ≡ None
type_open x ts rest (a, p, q) = let begins = element_begins x.element ts a p in word_no_sign CloseParenthesis (element_word x.element) begins.1

pub parameter_open : (x : DeclaredType) (ts rest : List Token) → parameter x ts rest → sign_at CloseParenthesis ts ≡ None
parameter_open x ts rest (a, p, q) = type_open x ts a p

pub return_type_complete : CompleteBefore EndsType return_type_at ret
unfolding return_type_at
return_type_complete None ts rest e p = choice_at _ _ (word_complete (codes "void") p) refl
return_type_complete (Some t) ts rest e p =
    choice_past _ (element_no_word (codes "void") refl refl refl refl refl t.element ts p.0 p.1) (bind_at _ (type_complete t ts rest e p) refl)

-- ---- what instructions name

-- a bracket that begins a class's name is not closed at once
class_name_ends : (x : ClassName) (ts rest : List Token) → ref x ts rest → EndsType ts
unfolding brackets_at
class_name_ends x ts rest p = by x.assembly x.name ts rest p
  where
    by : (o : Option (List ℕ)) (n : List ℕ) (ts rest : List Token) → (in_assembly o ▸ name n) ts rest → EndsType ts
    by None n ts rest (a, p, q) = no_brackets ts (name_no_sign OpenBracket n (p ∙ q))
    by (Some l) n ts rest (a, (b, p, (c, q, r)), s) = bind_at _ (sign_complete OpenBracket p) (name_no_sign CloseBracket l q)

field_of_owner_complete : (n : List ℕ) {ts mid rest : List Token} → sign DoubleColon ts mid → name n mid rest → field_of_owner_at ts ≡ Some (n, rest)
unfolding field_of_owner_at
field_of_owner_complete n p q = bind_at _ (sign_complete DoubleColon p) (name_complete n q)

field_reference_complete : Complete field_reference_at field_reference
unfolding field_reference_at
field_reference_complete x ts rest (a, p, (b, q, (c, r, s))) =
    bind_at _ (pair_given _ _ (type_complete x.field_type ts a (class_name_ends x.owner a b q) p) (pair_given _ _ (class_name_complete x.owner a b q) (field_of_owner_complete x.name r s))) refl

method_name_complete : Complete method_name_at method_name
unfolding method_name_at
method_name_complete ConstructorName ts rest p = choice_at _ _ (word_complete (codes ".ctor") p) refl
method_name_complete (Named n) ts rest p = choice_past _ (name_no_word (codes ".ctor") n p) (bind_at _ (name_complete n p) refl)

method_of_owner_complete : (n : MethodName) (ts mid rest : List Token) → sign DoubleColon ts mid → method_name n mid rest → method_of_owner_at ts ≡ Some (n, rest)
unfolding method_of_owner_at
method_of_owner_complete n ts mid rest p q = bind_at _ (sign_complete DoubleColon p) (method_name_complete n mid rest q)

method_reference_complete : Complete method_reference_at method_reference
unfolding method_reference_at
method_reference_complete x ts rest (a, p, (b, q, (c, r, (d, s, t)))) =
    bind_at _ (return_type_complete x.signature.return_type ts a (class_name_ends x.owner a b q) p)
    (bind_at _ (pair_given _ _ (class_name_complete x.owner a b q) (pair_given _ _ (method_of_owner_complete x.name b c d r s) (parentheses_complete type_at type_of type_sound type_before type_open x.signature.parameters d rest t))) refl)

instance_method_complete : (x : MethodReference) (ts mid rest : List Token) → word (codes "instance") ts mid → method_reference x mid rest → instance_method_at ts ≡ Some (x, rest)
unfolding instance_method_at
instance_method_complete x ts mid rest p q = bind_at _ (word_complete (codes "instance") p) (method_reference_complete x mid rest q)

return_no_instance : (t : Option DeclaredType) (ts rest : List Token) → ret t ts rest → word_at (codes "instance") ts ≡ None
return_no_instance None ts rest p = word_no_word (codes "instance") (codes "void") refl p
return_no_instance (Some t) ts rest p = element_no_word (codes "instance") refl refl refl refl refl t.element ts p.0 p.1

-- ---- instructions

fits_32 : (z : ℤ) → FitsSigned w32 z → has_32_bits z ≡ true
unfolding has_32_bits
fits_32 (pos n) f = le-leb n 2147483647 (omega (arith, f.sfits))
fits_32 (negsuc n) f = le-leb n 2147483647 (omega (arith, f.sfits))

-- what may follow an instruction: no bracket
operands_complete : (f : Form) → CompleteBefore EndsType (operands_at f) (operands f)
unfolding operands_at virtual_call creation
operands_complete (forms.Bare which) x ts rest e (i, p) = rw (i, p) refl
operands_complete forms.Int32 x ts rest e (z, i, f, p) = bind_at _ (integer_complete z p) (rw (fits_32 z f, i) refl)
operands_complete (forms.Integer which) x ts rest e (z, i, p) = bind_at _ (integer_complete z p) (rw i refl)
operands_complete forms.Quoted x ts rest e (t, i, p) = bind_at _ (quoted_complete t p) (rw i refl)
operands_complete (forms.Branch condition) x ts rest e (l, i, p) = bind_at _ (name_complete l p) (rw i refl)
operands_complete forms.Switch x ts rest e (ls, i, p) =
    bind_at _ (parentheses_complete name_at name name_sound (λ n us vs _ q. name_complete n q) (λ n us vs q. name_no_sign CloseParenthesis n q) ls ts rest p) (rw i refl)
operands_complete (forms.Field which) x ts rest e (r, i, p) = bind_at _ (field_reference_complete r ts rest p) (rw i refl)
operands_complete (forms.Type which) x ts rest e (t, i, p) = bind_at _ (type_complete t ts rest e p) (rw i refl)
operands_complete forms.Call x ts rest e (b, r, i, (a, p, q)) =
    let flag = flag_complete (codes "instance") b ts a (return_no_instance r.signature.return_type a q.0 q.1) p in
    rw (flag, i) (bind_at _ (method_reference_complete r a rest q) refl)
operands_complete forms.CallVirtual x ts rest e (c, n, s, i, (a, p, q)) =
    bind_at _ (instance_method_complete (virtual_reference c n s) ts a rest p q) (rw i (bind_at _ refl refl))
operands_complete forms.NewObject x ts rest e (c, ps, i, (a, p, q)) =
    bind_at _ (instance_method_complete (constructor_reference c ps) ts a rest p q) (rw i (bind_at _ refl refl))

-- the name of an instruction, and what follows it
pub record Spelled (i : Instruction) (ts rest : List Token) : Type 0 where
  pub word_is : List ℕ
  pub form : Form
  pub has : form_of (use_of word_is) ≡ Some form
  pub mid : List Token
  pub first : word word_is ts mid
  pub following : operands form i mid rest

module _ (target : ℤ → Form) where
  short_of : List (List ℕ × ℤ) → Type 0
  short_of [] = Unit {0}
  short_of (e ∷ es) = (form_of (use_of e.0) ≡ Some (target e.1)) × short_of es

  short_form : (es : List (List ℕ × ℤ)) (w : List ℕ) (z : ℤ) → short_of es → Contains es (w, z) → form_of (use_of w) ≡ Some (target z)
  unfolding short_of
  short_form [] w z all (k, lt, e) = absurd (omega (arith, lt))
  short_form (x ∷ es) w z all (zero, lt, e) = let same : x ≡ (w, z) = e in subst (λ (y : List ℕ × ℤ). form_of (use_of y.0) ≡ Some (target y.1)) same all.0
  short_form (x ∷ es) w z all (suc k, lt, e) = short_form es w z all.1 (k, omega (arith, lt), e)

constants : short_of (λ z. forms.Bare (bares.Int32 z)) short_constants
unfolding short_of use_of form_of
constants = (refl, (refl, (refl, (refl, (refl, (refl, (refl, (refl, (refl, (refl, tt))))))))))

argument_loads : short_of (λ z. forms.Bare (bares.Argument z)) short_argument_loads
unfolding short_of use_of form_of
argument_loads = (refl, (refl, (refl, (refl, tt))))

local_loads : short_of (λ z. forms.Bare (bares.Local z)) short_local_loads
unfolding short_of use_of form_of
local_loads = (refl, (refl, (refl, (refl, tt))))

local_stores : short_of (λ z. forms.Bare (bares.SetLocal z)) short_local_stores
unfolding short_of use_of form_of
local_stores = (refl, (refl, (refl, (refl, tt))))

binary_form : (op : BinaryOperation) → form_of (use_of (binary_word op)) ≡ Some (forms.Bare (bares.Binary op))
unfolding use_of form_of
binary_form binary.Add = refl
binary_form _ = refl

unary_form : (op : UnaryOperation) → form_of (use_of (unary_word op)) ≡ Some (forms.Bare (bares.Unary op))
unfolding use_of form_of
unary_form unary.Negate = refl
unary_form unary.Complement = refl

shift_form : (op : ShiftOperation) → form_of (use_of (shift_word op)) ≡ Some (forms.Bare (bares.Shift op))
unfolding use_of form_of
shift_form shift.Left = refl
shift_form _ = refl

comparison_form : (op : Comparison) → form_of (use_of (comparison_word op)) ≡ Some (forms.Bare (bares.Compare op))
unfolding use_of form_of
comparison_form comparison.Equal = refl
comparison_form _ = refl

branch_form : (condition : BranchCondition) → form_of (use_of (branch_word condition)) ≡ Some (forms.Branch condition)
unfolding use_of form_of
branch_form (conditions.Compare branch.Equal) = refl
branch_form _ = refl

load_element_form : (kind : ElementKind) → form_of (use_of (load_element_word kind)) ≡ Some (forms.Bare (bares.LoadElement kind))
unfolding use_of form_of
load_element_form kinds.Int32 = refl
load_element_form _ = refl

store_element_form : (kind : ElementKind) → form_of (use_of (store_element_word kind)) ≡ Some (forms.Bare (bares.StoreElement kind))
unfolding use_of form_of
store_element_form kinds.Int32 = refl
store_element_form _ = refl

spelled_bare : (i : Instruction) (w : List ℕ) (which : bare_type.Bare) (ts rest : List Token) → form_of (use_of w) ≡ Some (forms.Bare which) → i ≡ bare which → word w ts rest → Spelled i ts rest
spelled_bare i w which ts rest h e p = record { word_is = w; form = forms.Bare which; has = h; mid = rest; first = p; following = (e, refl) }

pub spelled : (i : Instruction) (ts rest : List Token) → instr i ts rest → Spelled i ts rest
unfolding use_of form_of
spelled instructions.NoOperation ts rest p = spelled_bare instructions.NoOperation (codes "nop") bares.NoOperation ts rest refl refl p
spelled instructions.LoadNull ts rest p = spelled_bare instructions.LoadNull (codes "ldnull") bares.LoadNull ts rest refl refl p
spelled instructions.Duplicate ts rest p = spelled_bare instructions.Duplicate (codes "dup") bares.Duplicate ts rest refl refl p
spelled instructions.Pop ts rest p = spelled_bare instructions.Pop (codes "pop") bares.Pop ts rest refl refl p
spelled instructions.ConvertInt32 ts rest p = spelled_bare instructions.ConvertInt32 (codes "conv.i4") bares.ConvertInt32 ts rest refl refl p
spelled instructions.ConvertInt64 ts rest p = spelled_bare instructions.ConvertInt64 (codes "conv.i8") bares.ConvertInt64 ts rest refl refl p
spelled instructions.LoadLength ts rest p = spelled_bare instructions.LoadLength (codes "ldlen") bares.LoadLength ts rest refl refl p
spelled (instructions.LoadElement kind) ts rest p = spelled_bare (instructions.LoadElement kind) (load_element_word kind) (bares.LoadElement kind) ts rest (load_element_form kind) refl p
spelled (instructions.StoreElement kind) ts rest p = spelled_bare (instructions.StoreElement kind) (store_element_word kind) (bares.StoreElement kind) ts rest (store_element_form kind) refl p
spelled instructions.Return ts rest p = spelled_bare instructions.Return (codes "ret") bares.Return ts rest refl refl p
spelled (instructions.Binary op) ts rest p = spelled_bare (instructions.Binary op) (binary_word op) (bares.Binary op) ts rest (binary_form op) refl p
spelled (instructions.Unary op) ts rest p = spelled_bare (instructions.Unary op) (unary_word op) (bares.Unary op) ts rest (unary_form op) refl p
spelled (instructions.Shift op) ts rest p = spelled_bare (instructions.Shift op) (shift_word op) (bares.Shift op) ts rest (shift_form op) refl p
spelled (instructions.Compare op) ts rest p = spelled_bare (instructions.Compare op) (comparison_word op) (bares.Compare op) ts rest (comparison_form op) refl p
spelled (instructions.LoadInt32 z) ts rest (inl (f, (a, p, q))) = record { word_is = codes "ldc.i4"; form = forms.Int32; has = refl; mid = a; first = p; following = (z, refl, f, q) }
spelled (instructions.LoadInt32 z) ts rest (inr (w, c, p)) = spelled_bare (instructions.LoadInt32 z) w (bares.Int32 z) ts rest (short_form (λ y. forms.Bare (bares.Int32 y)) short_constants w z constants c) refl p
spelled (instructions.LoadArgument z) ts rest (inl (a, p, q)) = record { word_is = codes "ldarg"; form = forms.Integer integers.LoadArgument; has = refl; mid = a; first = p; following = (z, refl, q) }
spelled (instructions.LoadArgument z) ts rest (inr (w, c, p)) = spelled_bare (instructions.LoadArgument z) w (bares.Argument z) ts rest (short_form (λ y. forms.Bare (bares.Argument y)) short_argument_loads w z argument_loads c) refl p
spelled (instructions.LoadLocal z) ts rest (inl (a, p, q)) = record { word_is = codes "ldloc"; form = forms.Integer integers.LoadLocal; has = refl; mid = a; first = p; following = (z, refl, q) }
spelled (instructions.LoadLocal z) ts rest (inr (w, c, p)) = spelled_bare (instructions.LoadLocal z) w (bares.Local z) ts rest (short_form (λ y. forms.Bare (bares.Local y)) short_local_loads w z local_loads c) refl p
spelled (instructions.StoreLocal z) ts rest (inl (a, p, q)) = record { word_is = codes "stloc"; form = forms.Integer integers.StoreLocal; has = refl; mid = a; first = p; following = (z, refl, q) }
spelled (instructions.StoreLocal z) ts rest (inr (w, c, p)) = spelled_bare (instructions.StoreLocal z) w (bares.SetLocal z) ts rest (short_form (λ y. forms.Bare (bares.SetLocal y)) short_local_stores w z local_stores c) refl p
spelled (instructions.LoadInt64 z) ts rest (a, p, q) = record { word_is = codes "ldc.i8"; form = forms.Integer integers.LoadInt64; has = refl; mid = a; first = p; following = (z, refl, q) }
spelled (instructions.StoreArgument z) ts rest (a, p, q) = record { word_is = codes "starg"; form = forms.Integer integers.StoreArgument; has = refl; mid = a; first = p; following = (z, refl, q) }
spelled (instructions.LoadString t) ts rest (a, p, q) = record { word_is = codes "ldstr"; form = forms.Quoted; has = refl; mid = a; first = p; following = (t, refl, q) }
spelled (instructions.Branch condition l) ts rest (a, p, q) = record { word_is = branch_word condition; form = forms.Branch condition; has = branch_form condition; mid = a; first = p; following = (l, refl, q) }
spelled (instructions.Switch ls) ts rest (a, p, q) = record { word_is = codes "switch"; form = forms.Switch; has = refl; mid = a; first = p; following = (ls, refl, q) }
spelled (instructions.LoadField r) ts rest (a, p, q) = record { word_is = codes "ldfld"; form = forms.Field accesses.Load; has = refl; mid = a; first = p; following = (r, refl, q) }
spelled (instructions.StoreField r) ts rest (a, p, q) = record { word_is = codes "stfld"; form = forms.Field accesses.Store; has = refl; mid = a; first = p; following = (r, refl, q) }
spelled (instructions.LoadStaticField r) ts rest (a, p, q) = record { word_is = codes "ldsfld"; form = forms.Field accesses.LoadStatic; has = refl; mid = a; first = p; following = (r, refl, q) }
spelled (instructions.StoreStaticField r) ts rest (a, p, q) = record { word_is = codes "stsfld"; form = forms.Field accesses.StoreStatic; has = refl; mid = a; first = p; following = (r, refl, q) }
spelled (instructions.NewArray t) ts rest (a, p, q) = record { word_is = codes "newarr"; form = forms.Type with_types.NewArray; has = refl; mid = a; first = p; following = (t, refl, q) }
spelled (instructions.CastClass t) ts rest (a, p, q) = record { word_is = codes "castclass"; form = forms.Type with_types.Cast; has = refl; mid = a; first = p; following = (t, refl, q) }
spelled (instructions.IsInstance t) ts rest (a, p, q) = record { word_is = codes "isinst"; form = forms.Type with_types.IsInstance; has = refl; mid = a; first = p; following = (t, refl, q) }
spelled (instructions.Call b r) ts rest (a, p, q) = record { word_is = codes "call"; form = forms.Call; has = refl; mid = a; first = p; following = (b, r, refl, q) }
spelled (instructions.CallVirtual c n g) ts rest (a, p, q) = record { word_is = codes "callvirt"; form = forms.CallVirtual; has = refl; mid = a; first = p; following = (c, n, g, refl, q) }
spelled (instructions.NewObject c ps) ts rest (a, p, q) = record { word_is = codes "newobj"; form = forms.NewObject; has = refl; mid = a; first = p; following = (c, ps, refl, q) }

pub instruction_complete : CompleteBefore EndsType instruction_at instr
unfolding instruction_at
instruction_complete x ts rest e p =
    let s = spelled x ts rest p in
    bind_at _ (any_word_complete s.word_is s.first) (bind_at _ s.has (operands_complete s.form x s.mid rest e s.following))

some_none : {A : Type 0} (x : A) → Some x ≡ None → ⊥
some_none x e = cc

-- an instruction's name is no word without a form
pub form_apart : (w v : List ℕ) (f : Form) → form_of (use_of v) ≡ None → form_of (use_of w) ≡ Some f → bytes_eq w v ≡ false
form_apart w v f none e = elim (bytes_eq w v) as (λ b. (b ≡ true → w ≡ v) → b ≡ false) [
  | true ↦ λ same. let wv : w ≡ v = same refl in let n : form_of (use_of w) ≡ None = rw wv none in absurd (some_none f (sym e ∙ n))
  | false ↦ λ same. refl
] (bytes_eq-Decides w v).0

pub no_form : form_of (use_of (codes ".locals")) ≡ None
unfolding use_of form_of
no_form = refl
