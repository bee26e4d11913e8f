-- What is in the grammar is read, from lines of code up to a whole source.
use Rattle.std.proofs.Common.{◌≡◌, ◌∙◌, ℕ, ℤ, List, [], ◌∷◌, Option, Some, None, Bool, true, false, cond, refl}
use Rattle.std.specs.Prelude.{codes, bytes_eq}
use Rattle.cil_model.specs.declared.tokens.Symbol.TheVariants.{OpenBrace, CloseBrace, OpenParenthesis, OpenBracket, Colon}
use Rattle.cil_model.specs.declared.tokens.Token.{Token}
use Rattle.cil_model.specs.declared.tokens.Token.TheVariants.{Integer}
use Rattle.cil_model.specs.declared.types.ClassName.{ClassName}
use Rattle.cil_model.specs.declared.types.DeclaredType.{DeclaredType}
use Rattle.cil_model.specs.declared.instructions.MethodName.{MethodName}
use Rattle.cil_model.specs.declared.instructions.MethodName.TheVariants.{Constructor as ConstructorName, Named}
use Rattle.cil_model.specs.declared.instructions.Instruction.{Instruction}
use Rattle.cil_model.specs.declared.trees.Tree.{Tree}
use Rattle.cil_model.specs.declared.trees.Class.{Class}
use Rattle.cil_model.specs.declared.trees.ClassKind.{ClassKind}
use Rattle.cil_model.specs.declared.trees.ClassKind.TheVariants.{Interface, Class as PlainClass}
use Rattle.cil_model.specs.declared.trees.Member.{Member}
use Rattle.cil_model.specs.declared.trees.Member.TheVariants.{Field as FieldMember, Method as MethodMember}
use Rattle.cil_model.specs.declared.trees.Line.{Line}
use Rattle.cil_model.specs.declared.trees.MethodKind.{MethodKind}
use Rattle.cil_model.specs.declared.trees.MethodKind.TheVariants as kinds
use Rattle.cil_model.specs.Spans.{◌▸◌, item, present, each}
use Rattle.cil_model.specs.Grammar.{Span, word, sign, name, ref, ret, parameter, method_name, instr, line, locals, code, words_before, body, method, field, member, interface_member, implements, class_of_kind, class_of, extern, assembly, IsUnit}
use Rattle.ilasm_tokens.specs.Steps.{choice, bind_at, choice_at, choice_past, Sound}
use Rattle.ilasm_tokens.proofs.Many.{CompleteBefore, Complete, ends, many_complete}
use Rattle.ilasm_reader.specs.declared.methods.HeadKind.{HeadKind}
use Rattle.ilasm_reader.specs.declared.methods.HeadKind.TheVariants.{Static, Instance, Virtual, Abstract, Constructor}
use Rattle.ilasm_reader.specs.Parsing.{Parser, word_at, sign_at, name_at, before_sign_at, in_block, class_name_at, parameter_at, label_at, starts_label, line_at, some_locals_at, locals_at, max_stack_at, code_start_at, lines_at, code_at, virtual_words_at, constructor_words_at, first_words_at, named_head_at, constructor_head_at, head_at, signature_at, code_body_at, body_at, managed_body_at, method_words_at, method_at, field_words_at, field_at, interface_member_at, member_at, block_at, implements_at, interface_words_at, interface_at, class_words_at, base_at, class_body_at, plain_class_at, class_at, named_assembly_at, starts_extern, extern_at, assembly_at, tree_at}
use Rattle.ilasm_reader.specs.Sound.{parameter_sound, class_name_sound, label_sound, line_sound, code_start, head_kind_words, block, interface_member_sound, member_sound, class_sound, extern_sound, tree_sound}
use Rattle.ilasm_reader.proofs.Complete.{word_complete, sign_complete, name_complete, integer_complete, name_no_sign, word_no_sign, sign_no_sign, name_no_word, sign_no_word, word_no_word, end_no_word, no_brackets, flag_complete, skip_complete, EndsItem, EndsType, sign_ends, sign_no_comma, commas_complete, closed_commas_complete, parentheses_complete, empty_block_complete, pair_given, end_closes, nothing_left, class_name_complete, type_complete, parameter_complete, element_no_word, parameter_open, return_type_complete, spelled, instruction_complete, form_apart, no_form}

-- ---- code

label_complete : Complete label_at (λ l. name l ▸ sign Colon)
unfolding label_at before_sign_at
label_complete x ts rest (a, p, q) = bind_at _ (name_complete x p) (bind_at _ (sign_complete Colon q) refl)

instruction_no_label : (x : Instruction) (ts rest : List Token) → instr x ts rest → starts_label ts ≡ false
unfolding starts_label name_at choice
instruction_no_label x ts rest p = rw (spelled x ts rest p).first refl

label_first : (x : List ℕ) (ts rest : List Token) → (name x ▸ sign Colon) ts rest → (starts_label ts ≡ true) × Unit {0}
unfolding starts_label name_at choice
label_first x ts rest (a, p, q) = (rw p refl, tt)

line_complete : CompleteBefore EndsType line_at line
unfolding line_at
line_complete x ts rest e (a, p, q) =
    bind_at _ (many_complete starts_label label_at (λ l. name l ▸ sign Colon) (λ _. Unit {0}) label_sound (λ y us vs _ r. label_complete y us vs r) label_first x.labels ts a tt (instruction_no_label x.instruction a rest q) p)
    (bind_at _ (instruction_complete x.instruction a rest e q) refl)

-- after the locals, or after a line
abbrev EndsLine : List Token → Type 0
EndsLine ts = (word_at (codes ".locals") ts ≡ None) × EndsType ts

line_starts : (labels : List (List ℕ)) (x : Instruction) (ts mid rest : List Token) → each (λ l. name l ▸ sign Colon) labels ts mid → instr x mid rest → (in_block ts ≡ true) × EndsLine ts
unfolding in_block sign_at choice
line_starts [] x ts mid rest p q =
    let s = spelled x mid rest q in
    let here : word s.word_is ts s.mid = p ∙ s.first in
    (rw here refl, (word_no_word (codes ".locals") s.word_is (form_apart s.word_is (codes ".locals") s.form no_form s.has) here, no_brackets _ (word_no_sign OpenBracket s.word_is here)))
line_starts (l ∷ ls) x ts mid rest (a, (b, p, q), r) s = (rw p refl, (name_no_word (codes ".locals") l p, no_brackets _ (name_no_sign OpenBracket l p)))

line_first : (x : Line) (ts rest : List Token) → line x ts rest → (in_block ts ≡ true) × EndsLine ts
line_first x ts rest (a, p, q) = line_starts x.labels x.instruction ts a rest p q

line_before : CompleteBefore EndsLine line_at line
line_before x ts rest e p = line_complete x ts rest e.1 p

brace_ends : {ts rest : List Token} → sign CloseBrace ts rest → EndsLine ts
brace_ends e = (sign_no_word (codes ".locals") CloseBrace e, no_brackets _ (sign_no_sign OpenBracket CloseBrace refl e))

locals_complete : CompleteBefore (λ rest. word_at (codes ".locals") rest ≡ None) locals_at locals
unfolding locals_at some_locals_at
locals_complete [] ts rest e p = choice_past _ (rw p e) (rw p refl)
locals_complete (x ∷ xs) ts rest e (a, p, (b, q, (c, r, (d, s, t)))) =
    choice_at _ _ (word_complete (codes ".locals") p) (bind_at _ (word_complete (codes "init") q) (bind_at _ (sign_complete OpenParenthesis r)
    (closed_commas_complete parameter_at parameter parameter_sound parameter_complete (x ∷ xs) c d rest s t)))

max_stack_complete : (z : ℤ) {ts mid rest : List Token} → word (codes ".maxstack") ts mid → item (Integer z) mid rest → max_stack_at ts ≡ Some (z, rest)
unfolding max_stack_at
max_stack_complete z p q = bind_at _ (word_complete (codes ".maxstack") p) (integer_complete z q)

code_start_complete : (is_entry_point : Bool) (n : ℤ) (ts rest : List Token) → code_start (is_entry_point, n) ts rest → code_start_at ts ≡ Some ((is_entry_point, n), rest)
unfolding code_start_at
code_start_complete is_entry_point n ts rest (a, p, (b, q, (c, r, s))) =
    let flag = flag_complete (codes ".entrypoint") is_entry_point a b (word_no_word (codes ".entrypoint") (codes ".maxstack") refl r) q in
    bind_at _ (sign_complete OpenBrace p) (rw flag (bind_at _ (max_stack_complete n r s) refl))

lines_complete : (xs : List Line) (ts mid rest : List Token) → each line xs ts mid → sign CloseBrace mid rest → lines_at ts ≡ Some (xs, rest)
unfolding lines_at before_sign_at
lines_complete xs ts mid rest p q =
    bind_at _ (many_complete in_block line_at line EndsLine line_sound line_before line_first xs ts mid (brace_ends q) (end_closes q) p) (bind_at _ (sign_complete CloseBrace q) refl)

code_complete : Complete code_at code
unfolding code_at
code_complete x ts rest (a, p, (b, q, (c, r, (d, s, (e, t, (f, u, v)))))) =
    let following = ends in_block line_at line EndsLine line_sound line_before line_first x.lines e f (brace_ends v) u in
    bind_at _ (code_start_complete x.is_entry_point x.max_stack ts d (a, p, (b, q, (c, r, s))))
    (bind_at _ (locals_complete x.locals d e following.0 t) (bind_at _ (lines_complete x.lines e f rest u v) refl))

-- ---- methods

-- the words before a method, as its head kind, and what its head and its kind have to be
record Begun (n : MethodName) (t : Option DeclaredType) (k : MethodKind) (ts rest : List Token) : Type 0 where
  begun : HeadKind
  words : head_kind_words begun ts rest
  head_read : (us vs : List Token) → EndsItem vs → (ret t ▸ method_name n) us vs → head_at begun us ≡ Some ((t, n), vs)
  body_read : (us vs : List Token) → body k us vs → body_at begun us ≡ Some (k, vs)

named_head_complete : (t : Option DeclaredType) (n : List ℕ) (ts rest : List Token) → (ret t ▸ name n) ts rest → named_head_at ts ≡ Some ((t, Named n), rest)
unfolding named_head_at
named_head_complete t n ts rest (a, p, q) = bind_at _ (return_type_complete t ts a (no_brackets _ (name_no_sign OpenBracket n q)) p) (bind_at _ (name_complete n q) refl)

begun_by : (n : MethodName) (t : Option DeclaredType) (k : MethodKind) (ts rest : List Token) → words_before n t k ts rest → Begun n t k ts rest
unfolding head_at constructor_head_at body_at code_body_at
begun_by (Named n) t (kinds.Static c) ts rest p =
    record { begun = Static; words = p; head_read = λ us vs e q. named_head_complete t n us vs q; body_read = λ us vs q. bind_at _ (code_complete c us vs q) refl }
begun_by (Named n) t (kinds.Instance c) ts rest p =
    record { begun = Instance; words = p; head_read = λ us vs e q. named_head_complete t n us vs q; body_read = λ us vs q. bind_at _ (code_complete c us vs q) refl }
begun_by (Named n) t (kinds.Virtual is_new_slot c) ts rest p =
    record { begun = Virtual is_new_slot; words = p; head_read = λ us vs e q. named_head_complete t n us vs q; body_read = λ us vs q. bind_at _ (code_complete c us vs q) refl }
begun_by (Named n) t (kinds.Abstract is_new_slot) ts rest p =
    record { begun = Abstract is_new_slot; words = p; head_read = λ us vs e q. named_head_complete t n us vs q; body_read = λ us vs (a, q, r). bind_at _ (empty_block_complete q r) refl }
begun_by ConstructorName None (kinds.Instance c) ts rest p =
    record {
      begun = Constructor;
      words = p;
      head_read = λ us vs e (a, q, r). bind_at _ (word_complete (codes "void") q) (bind_at _ (word_complete (codes ".ctor") r) refl);
      body_read = λ us vs q. bind_at _ (code_complete c us vs q) refl;
    }
begun_by _ _ _ _ _ p = absurd p

-- the words of a virtual or an abstract method
virtual_words_complete : (is_new_slot is_abstract : Bool) (ts a b c rest : List Token) → present is_new_slot (word (codes "newslot")) ts a → present is_abstract (word (codes "abstract")) a b → word (codes "virtual") b c → word (codes "instance") c rest
    → virtual_words_at ts ≡ Some (cond is_abstract (Abstract is_new_slot) (Virtual is_new_slot), rest)
unfolding virtual_words_at
virtual_words_complete n m ts a b c rest p q r s =
    let no_abstract : word_at (codes "abstract") b ≡ None = word_no_word (codes "abstract") (codes "virtual") refl r in
    let abstract = flag_complete (codes "abstract") m a b no_abstract q in
    let newslot = flag_complete (codes "newslot") n ts a (no_newslot m a b c q r) p in
    rw (newslot, abstract) (bind_at _ (word_complete (codes "virtual") r) (bind_at _ (word_complete (codes "instance") s) refl))
  where
    no_newslot : (m : Bool) (a b c : List Token) → present m (word (codes "abstract")) a b → word (codes "virtual") b c → word_at (codes "newslot") a ≡ None
    no_newslot true a b c q r = word_no_word (codes "newslot") (codes "abstract") refl q
    no_newslot false a b c q r = word_no_word (codes "newslot") (codes "virtual") refl (q ∙ r)

-- none of the words that begin other kinds is before a virtual or an abstract method
first_virtual : (n m : Bool) (ts a b c : List Token) → present n (word (codes "newslot")) ts a → present m (word (codes "abstract")) a b → word (codes "virtual") b c
    → (v : List ℕ) → bytes_eq (codes "newslot") v ≡ false → bytes_eq (codes "abstract") v ≡ false → bytes_eq (codes "virtual") v ≡ false → word_at v ts ≡ None
first_virtual true m ts a b c p q r v e f g = word_no_word v (codes "newslot") e p
first_virtual false true ts a b c p q r v e f g = word_no_word v (codes "abstract") f (p ∙ q)
first_virtual false false ts a b c p q r v e f g = word_no_word v (codes "virtual") g (p ∙ q ∙ r)

constructor_words_complete : (ts rest : List Token) → (word (codes "rtspecialname") ▸ word (codes "instance")) ts rest → constructor_words_at ts ≡ Some rest
unfolding constructor_words_at
constructor_words_complete ts rest (a, p, q) = bind_at _ (word_complete (codes "rtspecialname") p) (word_complete (codes "instance") q)

first_words_complete : Complete first_words_at head_kind_words
unfolding first_words_at
first_words_complete Static ts rest p = choice_at _ _ (word_complete (codes "static") p) refl
first_words_complete Instance ts rest p = choice_past _ (word_no_word (codes "static") (codes "instance") refl p) (choice_at _ _ (word_complete (codes "instance") p) refl)
first_words_complete Constructor ts rest (a, p, q) =
    choice_past _ (word_no_word (codes "static") (codes "specialname") refl p) (choice_past _ (word_no_word (codes "instance") (codes "specialname") refl p)
    (choice_at _ _ (word_complete (codes "specialname") p) (bind_at _ (constructor_words_complete a rest q) refl)))
first_words_complete (Virtual n) ts rest (a, p, (b, q, r)) =
    choice_past _ (first_virtual n false ts a a b p refl q (codes "static") refl refl refl) (choice_past _ (first_virtual n false ts a a b p refl q (codes "instance") refl refl refl)
    (choice_past _ (first_virtual n false ts a a b p refl q (codes "specialname") refl refl refl) (virtual_words_complete n false ts a a b rest p refl q r)))
first_words_complete (Abstract n) ts rest (a, p, (b, q, (c, r, s))) =
    choice_past _ (first_virtual n true ts a b c p q r (codes "static") refl refl refl) (choice_past _ (first_virtual n true ts a b c p q r (codes "instance") refl refl refl)
    (choice_past _ (first_virtual n true ts a b c p q r (codes "specialname") refl refl refl) (virtual_words_complete n true ts a b c rest p q r s)))

no_hidebysig : (b : HeadKind) (ts rest : List Token) → head_kind_words b ts rest → word_at (codes "hidebysig") ts ≡ None
no_hidebysig Static ts rest p = word_no_word (codes "hidebysig") (codes "static") refl p
no_hidebysig Instance ts rest p = word_no_word (codes "hidebysig") (codes "instance") refl p
no_hidebysig Constructor ts rest (a, p, q) = word_no_word (codes "hidebysig") (codes "specialname") refl p
no_hidebysig (Virtual n) ts rest (a, p, (b, q, r)) = first_virtual n false ts a a b p refl q (codes "hidebysig") refl refl refl
no_hidebysig (Abstract n) ts rest (a, p, (b, q, (c, r, s))) = first_virtual n true ts a b c p q r (codes "hidebysig") refl refl refl

method_complete : Complete method_at method
unfolding method_at method_words_at signature_at managed_body_at
method_complete x ts rest (a, p, (b, q, (c, r, (d, s, (e, t, (f, u, (g, v, (h, w, (i, y, z))))))))) =
    let begun = begun_by x.name x.signature.return_type x.kind c d s in
    let skip = skip_complete (codes "hidebysig") b c (no_hidebysig begun.begun c d begun.words) r in
    let words : method_words_at ts ≡ Some (begun.begun, d) =
    bind_at _ (word_complete (codes ".method") p) (bind_at _ (word_complete (codes "public") q) (rw skip (first_words_complete begun.begun c d begun.words))) in
    let signature : signature_at begun.begun d ≡ Some ((x.name, x.signature), g) =
    bind_at _ (begun.head_read d f (sign_ends OpenParenthesis refl v.1) (e, t, u))
    (bind_at _ (parentheses_complete parameter_at parameter parameter_sound parameter_complete parameter_open x.signature.parameters f g v) refl) in
    let kind : managed_body_at begun.begun g ≡ Some (x.kind, rest) =
    bind_at _ (word_complete (codes "cil") w) (bind_at _ (word_complete (codes "managed") y) (begun.body_read i rest z)) in
    bind_at _ words (bind_at _ signature (bind_at _ kind refl))

-- ---- members and classes

field_complete : Complete field_at field
unfolding field_at field_words_at
field_complete x ts rest (a, p, (b, q, (c, r, (d, s, t)))) =
    let flag = flag_complete (codes "static") x.is_static b c (element_no_word (codes "static") refl refl refl refl refl x.field_type.element c s.0 s.1) r in
    let words : field_words_at ts ≡ Some (x.is_static, c) = bind_at _ (word_complete (codes ".field") p) (bind_at _ (word_complete (codes "public") q) (rw flag refl)) in
    bind_at _ words (bind_at _ (pair_given _ _ (type_complete x.field_type c d (no_brackets _ (name_no_sign OpenBracket x.name t)) s) (name_complete x.name t)) refl)

interface_member_complete : Complete interface_member_at interface_member
unfolding interface_member_at
interface_member_complete (FieldMember f) ts rest p = absurd p
interface_member_complete (MethodMember m) ts rest p = bind_at _ (method_complete m ts rest p) refl

member_complete : Complete member_at member
unfolding member_at
member_complete (FieldMember f) ts rest p = choice_at _ _ (word_complete (codes ".field") p.1) (bind_at _ (field_complete f ts rest p) refl)
member_complete (MethodMember m) ts rest p = choice_past _ (word_no_word (codes ".field") (codes ".method") refl p.1) (interface_member_complete (MethodMember m) ts rest p)

interface_member_first : (x : Member) (ts rest : List Token) → interface_member x ts rest → (in_block ts ≡ true) × Unit {0}
unfolding in_block sign_at choice
interface_member_first (FieldMember f) ts rest p = absurd p
interface_member_first (MethodMember m) ts rest (a, p, q) = (rw p refl, tt)

member_first : (x : Member) (ts rest : List Token) → member x ts rest → (in_block ts ≡ true) × Unit {0}
unfolding in_block sign_at choice
member_first (FieldMember f) ts rest (a, p, q) = (rw p refl, tt)
member_first (MethodMember m) ts rest (a, p, q) = (rw p refl, tt)

block_complete : {A : Type 0} (parses : Parser A) (R : A → Span) → Sound parses R → Complete parses R → ((x : A) (ts rest : List Token) → R x ts rest → (in_block ts ≡ true) × Unit {0}) → Complete (block_at in_block parses) (block R)
unfolding block_at before_sign_at
block_complete parses R sound complete first xs ts rest (a, p, (b, q, r)) =
    bind_at _ (sign_complete OpenBrace p)
    (bind_at _ (many_complete in_block parses R (λ _. Unit {0}) sound (λ y us vs _ k. complete y us vs k) first xs a b tt (end_closes r) q)
    (bind_at _ (sign_complete CloseBrace r) refl))

class_name_before : CompleteBefore EndsItem class_name_at ref
class_name_before x ts rest e p = class_name_complete x ts rest p

implements_complete : (xs : List ClassName) (ts mid rest : List Token) → sign OpenBrace mid rest → implements xs ts mid → implements_at ts ≡ Some (xs, mid)
unfolding implements_at
implements_complete [] ts mid rest e p = choice_past _ (sign_no_word (codes "implements") OpenBrace (p ∙ e)) (rw p refl)
implements_complete (x ∷ xs) ts mid rest e (a, p, q) =
    choice_at _ _ (word_complete (codes "implements") p) (commas_complete class_name_at ref class_name_sound class_name_before (x ∷ xs) a mid (sign_ends OpenBrace refl e) (sign_no_comma OpenBrace refl e) q)

interface_complete : (n : List ℕ) (members : List Member) (ts rest : List Token) → class_of_kind n members Interface ts rest → interface_at ts ≡ Some (record { name = n; kind = Interface; members = members }, rest)
unfolding interface_at interface_words_at
interface_complete n members ts rest (a, p, (b, q, (c, r, (d, s, (e, t, (f, u, v)))))) =
    let words : interface_words_at ts ≡ Some e =
    bind_at _ (word_complete (codes "interface") p) (bind_at _ (word_complete (codes "public") q) (bind_at _ (word_complete (codes "abstract") r)
    (bind_at _ (word_complete (codes "auto") s) (word_complete (codes "ansi") t)))) in
    bind_at _ words (bind_at _ (pair_given _ _ (name_complete n u) (block_complete interface_member_at interface_member interface_member_sound interface_member_complete interface_member_first members f rest v)) refl)

plain_class_complete : (n : List ℕ) (members : List Member) (is_abstract : Bool) (base : ClassName) (interfaces : List ClassName) (ts rest : List Token) → class_of_kind n members (PlainClass is_abstract base interfaces) ts rest
    → plain_class_at ts ≡ Some (record { name = n; kind = PlainClass is_abstract base interfaces; members = members }, rest)
unfolding plain_class_at class_words_at base_at class_body_at
plain_class_complete n members is_abstract base interfaces ts rest (a, p, (b, q, (c, r, (d, s, (e, t, (f, u, (g, v, (h, w, z)))))))) =
    let flag = flag_complete (codes "abstract") is_abstract a b (word_no_word (codes "abstract") (codes "auto") refl r) q in
    let words : class_words_at ts ≡ Some (is_abstract, d) =
    bind_at _ (word_complete (codes "public") p) (rw flag (bind_at _ (word_complete (codes "auto") r) (bind_at _ (word_complete (codes "ansi") s) refl))) in
    let extends : base_at e ≡ Some (base, g) = bind_at _ (word_complete (codes "extends") u) (class_name_complete base f g v) in
    let following : class_body_at g ≡ Some ((interfaces, members), rest) =
    bind_at _ (implements_complete interfaces g h z.0 z.1 w) (bind_at _ (block_complete member_at member member_sound member_complete member_first members h rest z) refl) in
    bind_at _ words (bind_at _ (pair_given _ _ (name_complete n t) (pair_given _ _ extends following)) refl)

class_by : (n : List ℕ) (members : List Member) (k : ClassKind) (ts rest : List Token) → class_of_kind n members k ts rest
    → choice (word_at (codes "interface") ts) (λ _. interface_at ts) (plain_class_at ts) ≡ Some (record { name = n; kind = k; members = members }, rest)
class_by n members Interface ts rest p = choice_at _ _ (word_complete (codes "interface") p.1) (interface_complete n members ts rest p)
class_by n members (PlainClass a b is) ts rest p = choice_past _ (word_no_word (codes "interface") (codes "public") refl p.1) (plain_class_complete n members a b is ts rest p)

class_complete : Complete class_at class_of
unfolding class_at
class_complete x ts rest (a, p, q) = bind_at _ (word_complete (codes ".class") p) (class_by x.name x.members x.kind a rest q)

class_first : (x : Class) (ts rest : List Token) → class_of x ts rest → (in_block ts ≡ true) × Unit {0}
unfolding in_block sign_at choice
class_first x ts rest (a, p, q) = (rw p refl, tt)

-- ---- a whole source

named_assembly_complete : (n : List ℕ) {ts a b rest : List Token} → name n ts a → sign OpenBrace a b → sign CloseBrace b rest → named_assembly_at ts ≡ Some (n, rest)
unfolding named_assembly_at
named_assembly_complete n p q r = bind_at _ (name_complete n p) (bind_at _ (empty_block_complete q r) refl)

extern_complete : Complete extern_at extern
unfolding extern_at
extern_complete x ts rest (a, p, (b, q, (c, r, (d, s, t)))) =
    bind_at _ (word_complete (codes ".assembly") p) (bind_at _ (word_complete (codes "extern") q) (named_assembly_complete x r s t))

extern_first : (x : List ℕ) (ts rest : List Token) → extern x ts rest → (starts_extern ts ≡ true) × Unit {0}
unfolding starts_extern
extern_first x ts rest (a, p, (b, q, r)) = (choice_at _ _ (word_complete (codes ".assembly") p) (rw (word_complete (codes "extern") q) refl), tt)

-- no assembly is before the classes
classes_begin : (xs : List Class) (ts : List Token) → each class_of xs ts [] → word_at (codes ".assembly") ts ≡ None
classes_begin [] ts p = rw p (end_no_word (codes ".assembly"))
classes_begin (x ∷ xs) ts (a, (b, p, q), r) = word_no_word (codes ".assembly") (codes ".class") refl p

assembly_complete : CompleteBefore (λ rest. word_at (codes ".assembly") rest ≡ None) assembly_at assembly
unfolding assembly_at
assembly_complete None ts rest e p = choice_past _ (rw p e) (rw p refl)
assembly_complete (Some n) ts rest e (a, p, (b, q, (c, r, s))) =
    choice_at _ _ (word_complete (codes ".assembly") p) (bind_at _ (named_assembly_complete n q r s) refl)

-- the source's own assembly is no extern
no_extern : (o : Option (List ℕ)) (ts rest : List Token) → word_at (codes ".assembly") rest ≡ None → assembly o ts rest → starts_extern ts ≡ false
unfolding starts_extern
no_extern None ts rest e p = choice_past _ (rw p e) refl
no_extern (Some n) ts rest e (a, p, (b, q, r)) = choice_at _ _ (word_complete (codes ".assembly") p) (rw (name_no_word (codes "extern") n q) refl)

tree_complete : (u : Tree) (ts : List Token) → IsUnit ts u → tree_at ts ≡ Some u
unfolding tree_at
tree_complete u ts (a, p, (b, q, r)) =
    let following = classes_begin u.classes b r in
    bind_at _ (many_complete starts_extern extern_at extern (λ _. Unit {0}) extern_sound (λ y us vs _ k. extern_complete y us vs k) extern_first u.externs ts a tt (no_extern u.assembly a b following q) p)
    (bind_at _ (assembly_complete u.assembly a b following q)
    (bind_at _ (many_complete in_block class_at class_of (λ _. Unit {0}) class_sound (λ y us vs _ k. class_complete y us vs k) class_first u.classes b [] tt nothing_left r) refl))

-- ---- what reading says of tokens

some_is : {A : Type 0} (x y : A) (r : Option A) → r ≡ Some x → r ≡ Some y → x ≡ y
some_is x y r p q = cc

none_is : {A : Type 0} (x : A) (r : Option A) → r ≡ None → r ≡ Some x → ⊥
none_is x r p q = cc

pub read_is_tree : (ts : List Token) (tree : Tree) → tree_at ts ≡ Some tree → IsUnit ts tree
read_is_tree ts tree e = (tree_sound ts).out tree e

pub none_is_tree : (ts : List Token) → tree_at ts ≡ None → (tree : Tree) → IsUnit ts tree → ⊥
none_is_tree ts e tree p = none_is tree (tree_at ts) e (tree_complete tree ts p)

pub same_tree : (ts : List Token) (t u : Tree) → IsUnit ts t → IsUnit ts u → t ≡ u
same_tree ts t u p q = some_is t u (tree_at ts) (tree_complete t ts p) (tree_complete u ts q)
