-- What is read is in the grammar, and something is taken.
use Rattle.std.proofs.Common.{◌≡◌, ◌==◌, ◌∙◌, ◌<◌, ◌≤◌, ℕ, ℤ, pos, negsuc, List, [], ◌∷◌, length, Option, Some, None, Bool, true, false, cond, refl, ap, subst, inl, inr, arith, FitsSigned}
use Rattle.std.specs.Prelude.{codes, bytes_eq}
use Rattle.std.specs.Int.{w32}
use Rattle.std.proofs.lemmas.Slice.Eq.{bytes_eq-Decides}
use Rattle.std.proofs.lemmas.Bool.{eqb-true, leb-true}
use Rattle.std.proofs.lemmas.List.{nil_from_length}
use Rattle.cil_model.specs.declared.tokens.Symbol as symbols
use Rattle.cil_model.specs.declared.tokens.Symbol.TheVariants.{OpenBrace, CloseBrace, OpenParenthesis, CloseParenthesis, OpenBracket, CloseBracket, Comma, Colon, DoubleColon}
use Rattle.cil_model.specs.declared.tokens.Token.{Token}
use Rattle.cil_model.specs.declared.tokens.Token.TheVariants.{Reserved, Name, Integer, Quoted, Symbol}
use Rattle.cil_model.specs.declared.types.ClassName.{ClassName}
use Rattle.cil_model.specs.declared.types.DeclaredType.{DeclaredType}
use Rattle.cil_model.specs.declared.types.Signature.{Signature}
use Rattle.cil_model.specs.declared.instructions.MethodName.{MethodName}
use Rattle.cil_model.specs.declared.instructions.MethodName.TheVariants.{Constructor as ConstructorName, Named}
use Rattle.cil_model.specs.declared.instructions.MethodReference.{MethodReference}
use Rattle.cil_model.specs.declared.instructions.Instruction.TheVariants as instructions
use Rattle.cil_model.specs.declared.trees.Code.{Code}
use Rattle.cil_model.specs.declared.trees.MethodKind.{MethodKind}
use Rattle.cil_model.specs.declared.trees.MethodKind.TheVariants as kinds
use Rattle.cil_model.specs.Bodies.{constructor_reference, virtual_reference}
use Rattle.cil_model.specs.Spans.{◌▸◌, item, maybe, present, each}
use Rattle.cil_model.specs.Grammar.{Span, word, sign, name, commas, any_commas, parentheses, ref, elem, brackets, type_of, ret, parameter, method_name, field_reference, method_reference, instr, line, locals, code, words_before, body, method, field, member, interface_member, implements, class_of_kind, class_of, extern, assembly, IsUnit}
use Rattle.ilasm_tokens.specs.declared.words.Form.{Form}
use Rattle.ilasm_tokens.specs.declared.words.Form.TheVariants as forms
use Rattle.ilasm_tokens.specs.Steps.{Consumes, choice, with_front, Yields, yields_some, yields_none, yields_bind, yields_choice, yields_if, Sound, SoundOrNone, stays, many_sound}
use Rattle.ilasm_tokens.specs.Vocabulary.{use_of}
use Rattle.ilasm_reader.specs.declared.methods.HeadKind.{HeadKind}
use Rattle.ilasm_reader.specs.declared.methods.HeadKind.TheVariants.{Static, Instance, Virtual, Abstract, Constructor}
use Rattle.ilasm_reader.specs.Parsing.{Parser, word_at, number_of, sign_at, any_word_at, name_at, integer_at, quoted_at, flag_at, before_sign_at, pair_at, starts_comma, after_comma, commas_at, closed_commas_at, parentheses_at, empty_block_at, in_block, assembly_name_at, class_of_assembly_at, class_name_at, element_at, brackets_at, all_brackets_at, type_at, parameter_at, return_type_at, field_of_owner_at, field_reference_at, method_name_at, method_of_owner_at, method_reference_at, instance_method_at, bare, virtual_call, creation, has_32_bits, operands_at, form_of, instruction_at, label_at, starts_label, line_at, some_locals_at, locals_at, max_stack_at, code_start_at, lines_at, code_at, virtual_words_at, constructor_words_at, first_words_at, named_head_at, constructor_head_at, head_at, signature_at, kind_with, code_body_at, body_at, managed_body_at, method_words_at, method_at, field_words_at, field_at, interface_member_at, member_at, block_at, implements_at, interface_words_at, interface_at, class_words_at, base_at, class_body_at, plain_class_at, class_at, named_assembly_at, starts_extern, extern_at, assembly_at, tree_at}
use Rattle.ilasm_reader.specs.Forms.{operands, instr_from, has_form}

-- ---- single tokens

word_sound : (w : List ℕ) (ts : List Token) → Yields (word_at w ts) (λ rest. word w ts rest × (length rest < length ts))
unfolding word_at choice
word_sound w [] = yields_none
word_sound w (Reserved found ∷ rest) = yields_if (bytes_eq found w) (λ e. yields_some (ap (λ (x : List ℕ). Reserved x ∷ rest) ((bytes_eq-Decides found w).0 e), omega arith))
word_sound w (Name n ∷ rest) = yields_none
word_sound w (Integer n ∷ rest) = yields_none
word_sound w (Quoted n ∷ rest) = yields_none
word_sound w (Symbol n ∷ rest) = yields_none

same_symbol : (a b : symbols.Symbol) → (number_of a == number_of b) ≡ true → a ≡ b
same_symbol OpenBrace OpenBrace e = refl
same_symbol CloseBrace CloseBrace e = refl
same_symbol OpenParenthesis OpenParenthesis e = refl
same_symbol CloseParenthesis CloseParenthesis e = refl
same_symbol OpenBracket OpenBracket e = refl
same_symbol CloseBracket CloseBracket e = refl
same_symbol Comma Comma e = refl
same_symbol Colon Colon e = refl
same_symbol DoubleColon DoubleColon e = refl
same_symbol _ _ e = absurd cc

pub sign_sound : (s : symbols.Symbol) (ts : List Token) → Yields (sign_at s ts) (λ rest. sign s ts rest × (length rest < length ts))
unfolding sign_at choice
sign_sound s [] = yields_none
sign_sound s (Symbol found ∷ rest) = yields_if (number_of found == number_of s) (λ e. yields_some (ap (λ (x : symbols.Symbol). Symbol x ∷ rest) (same_symbol found s e), omega arith))
sign_sound s (Reserved n ∷ rest) = yields_none
sign_sound s (Name n ∷ rest) = yields_none
sign_sound s (Integer n ∷ rest) = yields_none
sign_sound s (Quoted n ∷ rest) = yields_none

any_word_sound : Sound any_word_at word
unfolding any_word_at choice
any_word_sound [] = yields_none
any_word_sound (Reserved found ∷ rest) = yields_some (refl, omega arith)
any_word_sound (_ ∷ rest) = yields_none

pub name_sound : Sound name_at name
unfolding name_at choice
name_sound [] = yields_none
name_sound (Name found ∷ rest) = yields_some (refl, omega arith)
name_sound (_ ∷ rest) = yields_none

integer_sound : Sound integer_at (λ z. item (Integer z))
unfolding integer_at choice
integer_sound [] = yields_none
integer_sound (Integer found ∷ rest) = yields_some (refl, omega arith)
integer_sound (_ ∷ rest) = yields_none

quoted_sound : Sound quoted_at (λ t. item (Quoted t))
unfolding quoted_at choice
quoted_sound [] = yields_none
quoted_sound (Quoted found ∷ rest) = yields_some (refl, omega arith)
quoted_sound (_ ∷ rest) = yields_none

-- what a choice between two gives
choice_law : {A B : Type 0} (Q : B → Type 0) (r : Option A) (f : A → B) (d : B) → ((x : A) → r ≡ Some x → Q (f x)) → Q d → Q (choice r f d)
unfolding choice
choice_law Q (Some x) f d p q = p x refl
choice_law Q None f d p q = q

flag_sound : (w : List ℕ) (ts : List Token) → present (flag_at w ts).0 (word w) ts (flag_at w ts).1 × (length (flag_at w ts).1 ≤ length ts)
unfolding flag_at
flag_sound w ts =
    choice_law (λ (y : Bool × List Token). present y.0 (word w) ts y.1 × (length y.1 ≤ length ts)) (word_at w ts) (λ rest. (true, rest)) (false, ts)
    (λ rest e. let p = (word_sound w ts).out rest e in (p.0, omega (arith, p.1)))
    (refl, omega arith)

perhaps : (b : Bool) (R : Span) (ts rest : List Token) → present b R ts rest → maybe R ts rest
perhaps true R ts rest p = inl p
perhaps false R ts rest p = inr p

flag_consumes : (w : List ℕ) (ts : List Token) → maybe (word w) ts (flag_at w ts).1 × (length (flag_at w ts).1 ≤ length ts)
flag_consumes w ts = let p = flag_sound w ts in (perhaps (flag_at w ts).0 (word w) ts (flag_at w ts).1 p.0, p.1)

-- ---- one part after another

yields_pair : {A B : Type 0} (first : Parser A) (second : Parser B) {ts : List Token} {P : A × List Token → Type 0} {Q : List Token → B × List Token → Type 0}
    → Yields (first ts) P → ((mid : List Token) → Yields (second mid) (Q mid)) → Yields (pair_at first second ts) (λ y. (mid : List Token) × P (y.0.0, mid) × Q mid (y.0.1, y.1))
unfolding pair_at
yields_pair first second p q = yields_bind p (λ a r. yields_bind (q a.1) (λ b s. yields_some (a.1, r, s)))

-- what each value that a parser gives leaves is less
leaves : {A : Type 0} {parses : Parser A} → Consumes parses → (ts : List Token) → Yields (parses ts) (λ y. length y.1 < length ts)
leaves consumes ts = record { out = λ y e. consumes ts y.0 y.1 e }

pub pair_consumes : {A B : Type 0} {first : Parser A} {second : Parser B} → Consumes first → Consumes second → Consumes (pair_at first second)
pair_consumes {A} {B} {first} {second} less below ts x rest e =
    let p = (yields_pair first second (leaves less ts) (leaves below)).out (x, rest) e in
    omega (arith, p.1, p.2)

-- ---- lists

module _ {A : Type 0} (parses : Parser A) (R : A → Span) (sound : Sound parses R) where
  pub after_comma_sound : Sound (after_comma parses) (λ x. sign Comma ▸ R x)
  unfolding after_comma
  after_comma_sound ts = yields_bind (sign_sound Comma ts) (λ a p. record { out = λ y e. let q = (sound a).out y e in ((a, p.0, q.0), omega (arith, p.1, q.1)) })

  yields_front : (x : A) (ts mid : List Token) (m : Option (List A × List Token)) → R x ts mid → length mid < length ts → Yields m (λ y. each (λ z. sign Comma ▸ R z) y.0 mid y.1 × (length y.1 ≤ length mid)) → Yields (with_front (x ∷ []) m) (λ y. commas R y.0 ts y.1 × (length y.1 < length ts))
  unfolding with_front
  yields_front x ts mid (Some y) r less p = let q = p.out y refl in yields_some ((mid, r, q.0), omega (arith, q.1))
  yields_front x ts mid None r less p = yields_none

  pub commas_sound : Sound (commas_at parses) (commas R)
  unfolding commas_at
  commas_sound ts = yields_bind (sound ts) (λ first p. yields_front first.0 ts first.1 _ p.0 p.1 (many_sound starts_comma (after_comma parses) (λ z. sign Comma ▸ R z) after_comma_sound first.1))

some_commas : {A : Type 0} (R : A → Span) (xs : List A) (ts rest : List Token) → commas R xs ts rest → any_commas R xs ts rest
some_commas R [] ts rest c = absurd c
some_commas R (x ∷ xs) ts rest c = c

closed_commas_sound : {A : Type 0} (parses : Parser A) (R : A → Span) → Sound parses R → Sound (closed_commas_at parses) (λ xs. commas R xs ▸ sign CloseParenthesis)
unfolding closed_commas_at before_sign_at
closed_commas_sound parses R sound ts = yields_bind (commas_sound parses R sound ts) (λ a p. yields_bind (sign_sound CloseParenthesis a.1) (λ b q. yields_some ((a.1, p.0, q.0), omega (arith, p.1, q.1))))

parentheses_sound : {A : Type 0} (parses : Parser A) (R : A → Span) → Sound parses R → Sound (parentheses_at parses) (parentheses R)
unfolding parentheses_at
parentheses_sound parses R sound ts =
    yields_bind (sign_sound OpenParenthesis ts) (λ a p.
    yields_choice (sign_sound CloseParenthesis a)
    (λ b q. yields_some ((a, p.0, (a, refl, q.0)), omega (arith, p.1, q.1)))
    (record { out = λ y e. let q = (closed_commas_sound parses R sound a).out y e in ((a, p.0, (q.0.0, some_commas R y.0 a q.0.0 q.0.1, q.0.2)), omega (arith, p.1, q.1)) }))

empty_block_sound : (ts : List Token) → Yields (empty_block_at ts) (λ rest. (sign OpenBrace ▸ sign CloseBrace) ts rest × (length rest < length ts))
unfolding empty_block_at
empty_block_sound ts = yields_bind (sign_sound OpenBrace ts) (λ a p. record { out = λ y e. let q = (sign_sound CloseBrace a).out y e in ((a, p.0, q.0), omega (arith, p.1, q.1)) })

-- ---- names and types

pub assembly_name_sound : Sound assembly_name_at (λ n. name n ▸ sign CloseBracket)
unfolding assembly_name_at before_sign_at
assembly_name_sound ts = yields_bind (name_sound ts) (λ a p. yields_bind (sign_sound CloseBracket a.1) (λ b q. yields_some ((a.1, p.0, q.0), omega (arith, p.1, q.1))))

pub class_name_sound : Sound class_name_at ref
unfolding class_name_at class_of_assembly_at
class_name_sound ts =
    yields_choice (sign_sound OpenBracket ts)
    (λ a p. yields_bind (yields_pair _ _ (assembly_name_sound a) name_sound) (λ b q. yields_some ((q.0, (a, p.0, q.1.0), q.2.0), omega (arith, p.1, q.1.1, q.2.1))))
    (yields_bind (name_sound ts) (λ a p. yields_some ((ts, refl, p.0), p.1)))

element_sound : Sound element_at elem
unfolding element_at
element_sound ts =
    yields_choice (word_sound (codes "int32") ts) (λ a p. yields_some (p.0, p.1))
    (yields_choice (word_sound (codes "int64") ts) (λ a p. yields_some (p.0, p.1))
    (yields_choice (word_sound (codes "object") ts) (λ a p. yields_some (p.0, p.1))
    (yields_choice (word_sound (codes "string") ts) (λ a p. yields_some (p.0, p.1))
    (yields_bind (word_sound (codes "class") ts) (λ a p. yields_bind (class_name_sound a) (λ b q. yields_some ((a, p.0, q.0), omega (arith, p.1, q.1))))))))

pub brackets_sound : (ts : List Token) → Yields (brackets_at ts) (λ rest. (sign OpenBracket ▸ sign CloseBracket) ts rest × (length rest < length ts))
unfolding brackets_at
brackets_sound ts = yields_bind (sign_sound OpenBracket ts) (λ a p. record { out = λ y e. let q = (sign_sound CloseBracket a).out y e in ((a, p.0, q.0), omega (arith, p.1, q.1)) })

all_brackets_sound : (ts : List Token) → brackets (all_brackets_at ts).0 ts (all_brackets_at ts).1 × (length (all_brackets_at ts).1 ≤ length ts)
unfolding all_brackets_at
all_brackets_sound (Symbol OpenBracket ∷ Symbol CloseBracket ∷ rest) = let p = all_brackets_sound rest in ((Symbol CloseBracket ∷ rest, refl, (rest, refl, p.0)), omega (arith, p.1))
all_brackets_sound ts = (refl, omega arith)

pub type_sound : Sound type_at type_of
unfolding type_at
type_sound ts = yields_bind (element_sound ts) (λ a p. let q = all_brackets_sound a.1 in yields_some ((a.1, p.0, q.0), omega (arith, p.1, q.1)))

pub parameter_sound : Sound parameter_at parameter
unfolding parameter_at
parameter_sound ts =
    yields_bind (type_sound ts) (λ a p.
    yields_choice (name_sound a.1) (λ b q. yields_some ((a.1, p.0, inl (b.0, q.0)), omega (arith, p.1, q.1)))
    (yields_some ((a.1, p.0, inr refl), p.1)))

return_type_sound : Sound return_type_at ret
unfolding return_type_at
return_type_sound ts =
    yields_choice (word_sound (codes "void") ts) (λ a p. yields_some (p.0, p.1))
    (yields_bind (type_sound ts) (λ a p. yields_some (p.0, p.1)))

-- ---- what instructions name

pub field_of_owner_sound : Sound field_of_owner_at (λ n. sign DoubleColon ▸ name n)
unfolding field_of_owner_at
field_of_owner_sound ts = yields_bind (sign_sound DoubleColon ts) (λ a p. record { out = λ y e. let q = (name_sound a).out y e in ((a, p.0, q.0), omega (arith, p.1, q.1)) })

field_reference_sound : Sound field_reference_at field_reference
unfolding field_reference_at
field_reference_sound ts =
    yields_bind (yields_pair _ _ (type_sound ts) (λ a. yields_pair _ _ (class_name_sound a) field_of_owner_sound)) (λ _ (a, p, (b, q, r)). yields_some ((a, p.0, (b, q.0, r.0)), omega (arith, p.1, q.1, r.1)))

method_name_sound : Sound method_name_at method_name
unfolding method_name_at
method_name_sound ts =
    yields_choice (word_sound (codes ".ctor") ts) (λ a p. yields_some (p.0, p.1))
    (yields_bind (name_sound ts) (λ a p. yields_some (p.0, p.1)))

pub method_of_owner_sound : Sound method_of_owner_at (λ n. sign DoubleColon ▸ method_name n)
unfolding method_of_owner_at
method_of_owner_sound ts = yields_bind (sign_sound DoubleColon ts) (λ a p. record { out = λ y e. let q = (method_name_sound a).out y e in ((a, p.0, q.0), omega (arith, p.1, q.1)) })

pub parameter_types_sound : Sound (parentheses_at type_at) (parentheses type_of)
parameter_types_sound = parentheses_sound type_at type_of type_sound

method_reference_sound : Sound method_reference_at method_reference
unfolding method_reference_at
method_reference_sound ts =
    yields_bind (return_type_sound ts) (λ a p. yields_bind (yields_pair _ _ (class_name_sound a.1) (λ b. yields_pair _ _ (method_of_owner_sound b) parameter_types_sound)) (λ _ (b, q, (c, r, s)).
    yields_some ((a.1, p.0, (b, q.0, (r.0.0, r.0.1, (c, r.0.2, s.0)))), omega (arith, p.1, q.1, r.1, s.1))))

instance_method_sound : Sound instance_method_at (λ m. word (codes "instance") ▸ method_reference m)
unfolding instance_method_at
instance_method_sound ts = yields_bind (word_sound (codes "instance") ts) (λ a p. record { out = λ y e. let q = (method_reference_sound a).out y e in ((a, p.0, q.0), omega (arith, p.1, q.1)) })

-- ---- instructions

fits : (z : ℤ) → has_32_bits z ≡ true → FitsSigned w32 z
unfolding has_32_bits
fits (pos n) e = record { sfits = omega (arith, leb-true n 2147483647 e) }
fits (negsuc n) e = record { sfits = omega (arith, leb-true n 2147483647 e) }

call_from : (owner : ClassName) (s : Signature) (n : MethodName) → Yields (virtual_call owner s n) (λ i. (m : List ℕ) × (n ≡ Named m) × (i ≡ instructions.CallVirtual owner m s))
unfolding virtual_call
call_from owner s ConstructorName = yields_none
call_from owner s (Named m) = yields_some (m, refl, refl)

creation_from : (c : ClassName) (ts : List DeclaredType) (n : MethodName) (t : Option DeclaredType) → Yields (creation c ts n t) (λ i. (n ≡ ConstructorName) × (t ≡ None) × (i ≡ instructions.NewObject c ts))
unfolding creation
creation_from c ts ConstructorName None = yields_some (refl, refl, refl)
creation_from c ts ConstructorName (Some t) = yields_none
creation_from c ts (Named n) t = yields_none

as_virtual : (r : MethodReference) (n : List ℕ) (ts rest : List Token) → r.name ≡ Named n → method_reference r ts rest → method_reference (virtual_reference r.owner n r.signature) ts rest
as_virtual r n ts rest e (a, p, (b, q, (c, s, (d, t, u)))) = (a, p, (b, q, (c, s, (d, subst (λ (m : MethodName). method_name m c d) e t, u))))

as_constructor : (r : MethodReference) (ts rest : List Token) → r.name ≡ ConstructorName → r.signature.return_type ≡ None → method_reference r ts rest → method_reference (constructor_reference r.owner r.signature.parameters) ts rest
as_constructor r ts rest e f (a, p, (b, q, (c, s, (d, t, u)))) =
    (a, subst (λ (x : Option DeclaredType). ret x ts a) f p, (b, q, (c, s, (d, subst (λ (m : MethodName). method_name m c d) e t, u))))

operands_sound : (f : Form) → SoundOrNone (operands_at f) (operands f)
unfolding operands_at
operands_sound (forms.Bare which) ts = stays (bare which) ts (operands (forms.Bare which)) (refl, refl)
operands_sound forms.Int32 ts =
    yields_bind (integer_sound ts) (λ a p. yields_if (has_32_bits a.0) (λ e. yields_some ((a.0, refl, fits a.0 e, p.0), omega (arith, p.1))))
operands_sound (forms.Integer which) ts = yields_bind (integer_sound ts) (λ a p. yields_some ((a.0, refl, p.0), omega (arith, p.1)))
operands_sound forms.Quoted ts = yields_bind (quoted_sound ts) (λ a p. yields_some ((a.0, refl, p.0), omega (arith, p.1)))
operands_sound (forms.Branch condition) ts = yields_bind (name_sound ts) (λ a p. yields_some ((a.0, refl, p.0), omega (arith, p.1)))
operands_sound forms.Switch ts = yields_bind (parentheses_sound name_at name name_sound ts) (λ a p. yields_some ((a.0, refl, p.0), omega (arith, p.1)))
operands_sound (forms.Field which) ts = yields_bind (field_reference_sound ts) (λ a p. yields_some ((a.0, refl, p.0), omega (arith, p.1)))
operands_sound (forms.Type which) ts = yields_bind (type_sound ts) (λ a p. yields_some ((a.0, refl, p.0), omega (arith, p.1)))
operands_sound forms.Call ts =
    let flag = flag_sound (codes "instance") ts in
    yields_bind (method_reference_sound (flag_at (codes "instance") ts).1) (λ a p.
    yields_some (((flag_at (codes "instance") ts).0, a.0, refl, ((flag_at (codes "instance") ts).1, flag.0, p.0)), omega (arith, flag.1, p.1)))
operands_sound forms.CallVirtual ts =
    yields_bind (instance_method_sound ts) (λ a p. yields_bind (call_from a.0.owner a.0.signature a.0.name) (λ i v.
    yields_some ((a.0.owner, v.0, a.0.signature, v.2, (p.0.0, p.0.1, as_virtual a.0 v.0 p.0.0 a.1 v.1 p.0.2)), omega (arith, p.1))))
operands_sound forms.NewObject ts =
    yields_bind (instance_method_sound ts) (λ a p. yields_bind (creation_from a.0.owner a.0.signature.parameters a.0.name a.0.signature.return_type) (λ i v.
    yields_some ((a.0.owner, a.0.signature.parameters, v.2, (p.0.0, p.0.1, as_constructor a.0 p.0.0 a.1 v.0 v.1 p.0.2)), omega (arith, p.1))))

yields_itself : {A : Type 0} (r : Option A) → Yields r (λ x. r ≡ Some x)
yields_itself r = record { out = λ y e. e }

instruction_sound : Sound instruction_at instr
unfolding instruction_at
instruction_sound ts =
    yields_bind (any_word_sound ts) (λ a p. yields_bind (yields_itself (form_of (use_of a.0))) (λ f e. record {
      out = λ y h.
          let q = (operands_sound f a.1).out y h in
          (instr_from f a.0 (has_form a.0 f e) y.0 ts a.1 y.1 p.0 q.0, omega (arith, p.1, q.1));
    }))

-- ---- code

pub label_sound : Sound label_at (λ l. name l ▸ sign Colon)
unfolding label_at before_sign_at
label_sound ts = yields_bind (name_sound ts) (λ a p. yields_bind (sign_sound Colon a.1) (λ b q. yields_some ((a.1, p.0, q.0), omega (arith, p.1, q.1))))

pub line_sound : Sound line_at line
unfolding line_at
line_sound ts =
    yields_bind (many_sound starts_label label_at (λ l. name l ▸ sign Colon) label_sound ts) (λ a p. yields_bind (instruction_sound a.1) (λ b q.
    yields_some ((a.1, p.0, q.0), omega (arith, p.1, q.1))))

some_locals : (xs : List DeclaredType) (ts a b c d e : List Token) → word (codes ".locals") ts a → word (codes "init") a b → sign OpenParenthesis b c → commas parameter xs c d → sign CloseParenthesis d e → locals xs ts e
some_locals [] ts a b c d e p q r s t = absurd s
some_locals (x ∷ xs) ts a b c d e p q r s t = (a, p, (b, q, (c, r, (d, s, t))))

locals_sound : SoundOrNone locals_at locals
unfolding locals_at some_locals_at
locals_sound ts =
    yields_choice (word_sound (codes ".locals") ts)
    (λ a p. yields_bind (word_sound (codes "init") a) (λ b q. yields_bind (sign_sound OpenParenthesis b) (λ c r. record {
      out = λ y e. let s = (closed_commas_sound parameter_at parameter parameter_sound c).out y e in (some_locals y.0 ts a b c s.0.0 y.1 p.0 q.0 r.0 s.0.1 s.0.2, omega (arith, p.1, q.1, r.1, s.1));
    })))
    (stays [] ts locals refl)

max_stack_sound : Sound max_stack_at (λ n. word (codes ".maxstack") ▸ item (Integer n))
unfolding max_stack_at
max_stack_sound ts = yields_bind (word_sound (codes ".maxstack") ts) (λ a p. record { out = λ y e. let q = (integer_sound a).out y e in ((a, p.0, q.0), omega (arith, p.1, q.1)) })

abbrev pub code_start : Bool × ℤ → Span
code_start x = sign OpenBrace ▸ present x.0 (word (codes ".entrypoint")) ▸ word (codes ".maxstack") ▸ item (Integer x.1)

code_start_sound : Sound code_start_at code_start
unfolding code_start_at
code_start_sound ts =
    yields_bind (sign_sound OpenBrace ts) (λ a p.
    let flag = flag_sound (codes ".entrypoint") a in
    yields_bind (max_stack_sound (flag_at (codes ".entrypoint") a).1) (λ b q.
    yields_some ((a, p.0, ((flag_at (codes ".entrypoint") a).1, flag.0, q.0)), omega (arith, p.1, flag.1, q.1))))

pub lines_sound : Sound lines_at (λ xs. each line xs ▸ sign CloseBrace)
unfolding lines_at before_sign_at
lines_sound ts = yields_bind (many_sound in_block line_at line line_sound ts) (λ a p. yields_bind (sign_sound CloseBrace a.1) (λ b q. yields_some ((a.1, p.0, q.0), omega (arith, p.1, q.1))))

code_sound : Sound code_at code
unfolding code_at
code_sound ts =
    yields_bind (code_start_sound ts) (λ a ((b, p, (c, q, (d, r, s))), less). yields_bind (locals_sound a.1) (λ e t. yields_bind (lines_sound e.1) (λ f u.
    yields_some ((b, p, (c, q, (d, r, (a.1, s, (e.1, t.0, u.0))))), omega (arith, less, t.1, u.1)))))

-- ---- methods

-- the words of a kind of method head
abbrev pub head_kind_words : HeadKind → Span
head_kind_words Static = word (codes "static")
head_kind_words Instance = word (codes "instance")
head_kind_words (Virtual is_new_slot) = present is_new_slot (word (codes "newslot")) ▸ word (codes "virtual") ▸ word (codes "instance")
head_kind_words (Abstract is_new_slot) = present is_new_slot (word (codes "newslot")) ▸ word (codes "abstract") ▸ word (codes "virtual") ▸ word (codes "instance")
head_kind_words Constructor = word (codes "specialname") ▸ word (codes "rtspecialname") ▸ word (codes "instance")

virtual_or_abstract : (is_new_slot is_abstract : Bool) (ts a b c d : List Token) → present is_new_slot (word (codes "newslot")) ts a → present is_abstract (word (codes "abstract")) a b → word (codes "virtual") b c → word (codes "instance") c d
    → head_kind_words (cond is_abstract (Abstract is_new_slot) (Virtual is_new_slot)) ts d
virtual_or_abstract n true ts a b c d p q r s = (a, p, (b, q, (c, r, s)))
virtual_or_abstract n false ts a b c d p q r s = (a, p, (c, q ∙ r, s))

virtual_words_sound : Sound virtual_words_at head_kind_words
unfolding virtual_words_at
virtual_words_sound ts =
    let newslot = flag_sound (codes "newslot") ts in
    let abstract = flag_sound (codes "abstract") (flag_at (codes "newslot") ts).1 in
    yields_bind (word_sound (codes "virtual") (flag_at (codes "abstract") (flag_at (codes "newslot") ts).1).1) (λ a p. yields_bind (word_sound (codes "instance") a) (λ b q.
    yields_some (virtual_or_abstract (flag_at (codes "newslot") ts).0 (flag_at (codes "abstract") (flag_at (codes "newslot") ts).1).0 ts _ _ a b newslot.0 abstract.0 p.0 q.0, omega (arith, newslot.1, abstract.1, p.1, q.1))))

constructor_words_sound : (ts : List Token) → Yields (constructor_words_at ts) (λ rest. (word (codes "rtspecialname") ▸ word (codes "instance")) ts rest × (length rest < length ts))
unfolding constructor_words_at
constructor_words_sound ts = yields_bind (word_sound (codes "rtspecialname") ts) (λ a p. record { out = λ y e. let q = (word_sound (codes "instance") a).out y e in ((a, p.0, q.0), omega (arith, p.1, q.1)) })

first_words_sound : Sound first_words_at head_kind_words
unfolding first_words_at
first_words_sound ts =
    yields_choice (word_sound (codes "static") ts) (λ a p. yields_some (p.0, p.1))
    (yields_choice (word_sound (codes "instance") ts) (λ a p. yields_some (p.0, p.1))
    (yields_choice (word_sound (codes "specialname") ts)
    (λ a p. yields_bind (constructor_words_sound a) (λ b q. yields_some ((a, p.0, q.0), omega (arith, p.1, q.1))))
    (virtual_words_sound ts)))

-- what may be a method's return type and name after the words of its head kind
abbrev pub IsHead : HeadKind → Option DeclaredType × MethodName → Type 0
IsHead Constructor h = h ≡ (None, ConstructorName)
IsHead _ h = (n : List ℕ) × (h.1 ≡ Named n)

abbrev head : HeadKind → Option DeclaredType × MethodName → Span
head b h ts rest = IsHead b h × (ret h.0 ▸ method_name h.1) ts rest

named_head_sound : (ts : List Token) → Yields (named_head_at ts) (λ y. ((n : List ℕ) × (y.0.1 ≡ Named n)) × (ret y.0.0 ▸ method_name y.0.1) ts y.1 × (length y.1 < length ts))
unfolding named_head_at
named_head_sound ts = yields_bind (return_type_sound ts) (λ a p. yields_bind (name_sound a.1) (λ b q. yields_some ((b.0, refl), (a.1, p.0, q.0), omega (arith, p.1, q.1))))

named_head : (b : HeadKind) → ((h : Option DeclaredType × MethodName) → ((n : List ℕ) × (h.1 ≡ Named n)) → IsHead b h) → Sound named_head_at (head b)
named_head b is ts = record { out = λ y e. let p = (named_head_sound ts).out y e in ((is y.0 p.0, p.1), p.2) }

head_sound : (b : HeadKind) → Sound (head_at b) (head b)
unfolding head_at constructor_head_at
head_sound Constructor ts = yields_bind (word_sound (codes "void") ts) (λ a p. yields_bind (word_sound (codes ".ctor") a) (λ b q. yields_some ((refl, (a, p.0, q.0)), omega (arith, p.1, q.1))))
head_sound Static ts = named_head Static (λ h n. n) ts
head_sound Instance ts = named_head Instance (λ h n. n) ts
head_sound (Virtual is_new_slot) ts = named_head (Virtual is_new_slot) (λ h n. n) ts
head_sound (Abstract is_new_slot) ts = named_head (Abstract is_new_slot) (λ h n. n) ts

pub parameters_sound : Sound (parentheses_at parameter_at) (parentheses parameter)
parameters_sound = parentheses_sound parameter_at parameter parameter_sound

-- a name and a signature after the words of a head kind
abbrev signature_after : HeadKind → MethodName × Signature → Span
signature_after b x ts rest = IsHead b (x.1.return_type, x.0) × (ret x.1.return_type ▸ method_name x.0 ▸ parentheses parameter x.1.parameters) ts rest

signature_sound : (b : HeadKind) → Sound (signature_at b) (signature_after b)
unfolding signature_at
signature_sound b ts =
    yields_bind (head_sound b ts) (λ a p. yields_bind (parameters_sound a.1) (λ c q.
    yields_some ((p.0.0, (p.0.1.0, p.0.1.1, (a.1, p.0.1.2, q.0))), omega (arith, p.1, q.1))))

-- which kinds a method with a head kind may have
abbrev pub IsKind : HeadKind → MethodKind → Type 0
IsKind (Abstract is_new_slot) k = k ≡ kinds.Abstract is_new_slot
IsKind b k = (c : Code) × (k ≡ kind_with b c)

abbrev kind : HeadKind → MethodKind → Span
kind b k ts rest = IsKind b k × body k ts rest

body_sound : (b : HeadKind) → Sound (body_at b) (kind b)
unfolding body_at code_body_at
body_sound Static ts = yields_bind (code_sound ts) (λ a p. yields_some (((a.0, refl), p.0), p.1))
body_sound Instance ts = yields_bind (code_sound ts) (λ a p. yields_some (((a.0, refl), p.0), p.1))
body_sound (Virtual is_new_slot) ts = yields_bind (code_sound ts) (λ a p. yields_some (((a.0, refl), p.0), p.1))
body_sound (Abstract is_new_slot) ts = yields_bind (empty_block_sound ts) (λ a p. yields_some ((refl, p.0), p.1))
body_sound Constructor ts = yields_bind (code_sound ts) (λ a p. yields_some (((a.0, refl), p.0), p.1))

managed_body_sound : (b : HeadKind) → Sound (managed_body_at b) (λ k ts rest. IsKind b k × (word (codes "cil") ▸ word (codes "managed") ▸ body k) ts rest)
unfolding managed_body_at
managed_body_sound b ts =
    yields_bind (word_sound (codes "cil") ts) (λ a p. yields_bind (word_sound (codes "managed") a) (λ c q. record {
      out = λ y e. let r = (body_sound b c).out y e in ((r.0.0, (a, p.0, (c, q.0, r.0.1))), omega (arith, p.1, q.1, r.1));
    }))

-- the words before a method of this head and kind
words_from : (b : HeadKind) (h : Option DeclaredType × MethodName) (k : MethodKind) (ts rest : List Token) → IsHead b h → IsKind b k → head_kind_words b ts rest → words_before h.1 h.0 k ts rest
words_from Static h k ts rest (n, e) (c, f) p = rw (e, f) p
words_from Instance h k ts rest (n, e) (c, f) p = rw (e, f) p
words_from (Virtual is_new_slot) h k ts rest (n, e) (c, f) p = rw (e, f) p
words_from (Abstract is_new_slot) h k ts rest (n, e) f p = rw (e, f) p
words_from Constructor h k ts rest e (c, f) p = rw (e, f) p

abbrev method_words : HeadKind → Span
method_words b = word (codes ".method") ▸ word (codes "public") ▸ maybe (word (codes "hidebysig")) ▸ head_kind_words b

method_words_sound : Sound method_words_at method_words
unfolding method_words_at
method_words_sound ts =
    yields_bind (word_sound (codes ".method") ts) (λ a p. yields_bind (word_sound (codes "public") a) (λ b q. record {
      out = λ y e.
          let k = flag_consumes (codes "hidebysig") b in
          let r = (first_words_sound (flag_at (codes "hidebysig") b).1).out y e in
          ((a, p.0, (b, q.0, (_, k.0, r.0))), omega (arith, p.1, q.1, k.1, r.1));
    }))

method_sound : Sound method_at method
unfolding method_at
method_sound ts =
    yields_bind (method_words_sound ts) (λ a ((b, p, (c, q, (d, k, r))), less). yields_bind (signature_sound a.0 a.1) (λ e ((is_head, (f, s, (g, t, u))), below). yields_bind (managed_body_sound a.0 e.1) (λ h ((is_kind, v), under).
    yields_some ((b, p, (c, q, (d, k, (a.1, words_from a.0 (e.0.1.return_type, e.0.0) h.0 d a.1 is_head is_kind r, (f, s, (g, t, (e.1, u, v))))))), omega (arith, less, below, under)))))

-- ---- members and classes

field_words_sound : Sound field_words_at (λ is_static. word (codes ".field") ▸ word (codes "public") ▸ present is_static (word (codes "static")))
unfolding field_words_at
field_words_sound ts =
    yields_bind (word_sound (codes ".field") ts) (λ a p. yields_bind (word_sound (codes "public") a) (λ b q.
    let flag = flag_sound (codes "static") b in
    yields_some ((a, p.0, (b, q.0, flag.0)), omega (arith, p.1, q.1, flag.1))))

field_sound : Sound field_at field
unfolding field_at
field_sound ts =
    yields_bind (field_words_sound ts) (λ a ((b, p, (c, q, r)), less). yields_bind (yields_pair _ _ (type_sound a.1) name_sound) (λ _ (d, s, t).
    yields_some ((b, p, (c, q, (a.1, r, (d, s.0, t.0)))), omega (arith, less, s.1, t.1))))

pub interface_member_sound : Sound interface_member_at interface_member
unfolding interface_member_at
interface_member_sound ts = yields_bind (method_sound ts) (λ a p. yields_some (p.0, p.1))

pub member_sound : Sound member_at member
unfolding member_at interface_member_at
member_sound ts =
    yields_choice (word_sound (codes ".field") ts)
    (λ _ _. yields_bind (field_sound ts) (λ a p. yields_some (p.0, p.1)))
    (yields_bind (method_sound ts) (λ a p. yields_some (p.0, p.1)))

abbrev pub block : {A : Type 0} → (A → Span) → List A → Span
block R members = sign OpenBrace ▸ each R members ▸ sign CloseBrace

block_sound : {A : Type 0} (parses : Parser A) (R : A → Span) → Sound parses R → Sound (block_at in_block parses) (block R)
unfolding block_at before_sign_at
block_sound parses R sound ts =
    yields_bind (sign_sound OpenBrace ts) (λ a p. yields_bind (many_sound in_block parses R sound a) (λ b q. yields_bind (sign_sound CloseBrace b.1) (λ c r.
    yields_some ((a, p.0, (b.1, q.0, r.0)), omega (arith, p.1, q.1, r.1)))))

some_implements : (xs : List ClassName) (ts a b : List Token) → word (codes "implements") ts a → commas ref xs a b → implements xs ts b
some_implements [] ts a b p q = absurd q
some_implements (x ∷ xs) ts a b p q = (a, p, q)

implements_sound : SoundOrNone implements_at implements
unfolding implements_at
implements_sound ts =
    yields_choice (word_sound (codes "implements") ts)
    (λ a p. record { out = λ y e. let q = (commas_sound class_name_at ref class_name_sound a).out y e in (some_implements y.0 ts a y.1 p.0 q.0, omega (arith, p.1, q.1)) })
    (stays [] ts implements refl)

interface_words_sound : (ts : List Token) → Yields (interface_words_at ts) (λ rest. (word (codes "interface") ▸ word (codes "public") ▸ word (codes "abstract") ▸ word (codes "auto") ▸ word (codes "ansi")) ts rest × (length rest < length ts))
unfolding interface_words_at
interface_words_sound ts =
    yields_bind (word_sound (codes "interface") ts) (λ a p. yields_bind (word_sound (codes "public") a) (λ b q. yields_bind (word_sound (codes "abstract") b) (λ c r. yields_bind (word_sound (codes "auto") c) (λ d s. record {
      out = λ y e. let t = (word_sound (codes "ansi") d).out y e in ((a, p.0, (b, q.0, (c, r.0, (d, s.0, t.0)))), omega (arith, p.1, q.1, r.1, s.1, t.1));
    }))))

pub interface_members_sound : Sound (block_at in_block interface_member_at) (block interface_member)
interface_members_sound = block_sound interface_member_at interface_member interface_member_sound

interface_sound : Sound interface_at (λ c. class_of_kind c.name c.members c.kind)
unfolding interface_at
interface_sound ts =
    yields_bind (interface_words_sound ts) (λ e ((a, p, (b, q, (c, r, (d, s, t)))), less). yields_bind (yields_pair _ _ (name_sound e) interface_members_sound) (λ _ (f, u, v).
    yields_some ((a, p, (b, q, (c, r, (d, s, (e, t, (f, u.0, v.0)))))), omega (arith, less, u.1, v.1))))

class_words_sound : Sound class_words_at (λ is_abstract. word (codes "public") ▸ present is_abstract (word (codes "abstract")) ▸ word (codes "auto") ▸ word (codes "ansi"))
unfolding class_words_at
class_words_sound ts =
    yields_bind (word_sound (codes "public") ts) (λ a p.
    let flag = flag_sound (codes "abstract") a in
    yields_bind (word_sound (codes "auto") (flag_at (codes "abstract") a).1) (λ b q. yields_bind (word_sound (codes "ansi") b) (λ c r.
    yields_some ((a, p.0, ((flag_at (codes "abstract") a).1, flag.0, (b, q.0, r.0))), omega (arith, p.1, flag.1, q.1, r.1)))))

pub base_sound : Sound base_at (λ c. word (codes "extends") ▸ ref c)
unfolding base_at
base_sound ts = yields_bind (word_sound (codes "extends") ts) (λ a p. record { out = λ y e. let q = (class_name_sound a).out y e in ((a, p.0, q.0), omega (arith, p.1, q.1)) })

pub class_body_sound : Sound class_body_at (λ x. implements x.0 ▸ block member x.1)
unfolding class_body_at
class_body_sound ts =
    yields_bind (implements_sound ts) (λ a p. yields_bind (block_sound member_at member member_sound a.1) (λ b q. yields_some ((a.1, p.0, q.0), omega (arith, p.1, q.1))))

plain_class_sound : Sound plain_class_at (λ c. class_of_kind c.name c.members c.kind)
unfolding plain_class_at
plain_class_sound ts =
    yields_bind (class_words_sound ts) (λ a ((b, p, (c, q, (d, r, s))), less). yields_bind (yields_pair _ _ (name_sound a.1) (λ e. yields_pair _ _ (base_sound e) class_body_sound)) (λ _ (e, t, (f, u, v)).
    yields_some ((b, p, (c, q, (d, r, (a.1, s, (e, t.0, (u.0.0, u.0.1, (f, u.0.2, v.0))))))), omega (arith, less, t.1, u.1, v.1))))

pub class_sound : Sound class_at class_of
unfolding class_at
class_sound ts =
    yields_bind (word_sound (codes ".class") ts) (λ a p.
    yields_choice (word_sound (codes "interface") a)
    (λ b q. record { out = λ y e. let r = (interface_sound a).out y e in ((a, p.0, r.0), omega (arith, p.1, r.1)) })
    (record { out = λ y e. let r = (plain_class_sound a).out y e in ((a, p.0, r.0), omega (arith, p.1, r.1)) }))

-- ---- a whole source

named_assembly_sound : Sound named_assembly_at (λ n. name n ▸ sign OpenBrace ▸ sign CloseBrace)
unfolding named_assembly_at
named_assembly_sound ts = yields_bind (name_sound ts) (λ a p. yields_bind (empty_block_sound a.1) (λ b q. yields_some ((a.1, p.0, q.0), omega (arith, p.1, q.1))))

pub extern_sound : Sound extern_at extern
unfolding extern_at
extern_sound ts =
    yields_bind (word_sound (codes ".assembly") ts) (λ a p. yields_bind (word_sound (codes "extern") a) (λ b q. record {
      out = λ y e. let r = (named_assembly_sound b).out y e in ((a, p.0, (b, q.0, r.0)), omega (arith, p.1, q.1, r.1));
    }))

assembly_sound : SoundOrNone assembly_at assembly
unfolding assembly_at
assembly_sound ts =
    yields_choice (word_sound (codes ".assembly") ts)
    (λ a p. yields_bind (named_assembly_sound a) (λ b q. yields_some ((a, p.0, q.0), omega (arith, p.1, q.1))))
    (stays None ts assembly refl)

pub tree_sound : (ts : List Token) → Yields (tree_at ts) (IsUnit ts)
unfolding tree_at
tree_sound ts =
    yields_bind (many_sound starts_extern extern_at extern extern_sound ts) (λ a p.
    yields_bind (assembly_sound a.1) (λ b q.
    yields_bind (many_sound in_block class_at class_of class_sound b.1) (λ c r.
    yields_if (length c.1 == 0) (λ e. yields_some (a.1, p.0, (b.1, q.0, subst (λ (rest : List Token). each class_of c.0 b.1 rest) (nil_from_length c.1 (eqb-true _ _ e)) r.0))))))
