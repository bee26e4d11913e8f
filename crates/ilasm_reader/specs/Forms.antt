-- What follows an instruction's name, and the names themselves.
use Rattle.std.proofs.Common.{◌≡◌, ◌&&◌, ◌||◌, ℕ, suc, ℤ, List, [], ◌∷◌, Option, Some, None, Bool, true, false, refl, subst, inl, inr, arith, FitsSigned, Contains}
use Rattle.std.specs.Prelude.{codes, bytes_eq}
use Rattle.std.specs.List.{list_any}
use Rattle.std.specs.Ordering.{int_eq}
use Rattle.std.specs.Int.{w32}
use Rattle.std.proofs.lemmas.Slice.Eq.{bytes_eq-Decides}
use Rattle.std.proofs.lemmas.Bool.Decides.{Decides-int_eq}
use Rattle.std.proofs.lemmas.Bool.{and_parts}
use Rattle.cil_model.specs.declared.tokens.Token.{Token}
use Rattle.cil_model.specs.declared.tokens.Token.TheVariants.{Integer, Quoted as QuotedToken}
use Rattle.cil_model.specs.declared.types.ClassName.{ClassName}
use Rattle.cil_model.specs.declared.types.DeclaredType.{DeclaredType}
use Rattle.cil_model.specs.declared.types.Signature.{Signature}
use Rattle.cil_model.specs.declared.instructions.FieldReference.{FieldReference}
use Rattle.cil_model.specs.declared.instructions.MethodReference.{MethodReference}
use Rattle.cil_model.specs.declared.instructions.Instruction.{Instruction}
use Rattle.cil_model.specs.declared.instructions.Instruction.TheVariants as instructions
use Rattle.cil_model.specs.Bodies.{constructor_reference, virtual_reference}
use Rattle.cil_model.specs.Spans.{◌▸◌, present}
use Rattle.cil_model.specs.Words.{short_constants, short_argument_loads, short_local_loads, short_local_stores}
use Rattle.cil_model.specs.Grammar.{Span, word, name, parentheses, type_of, field_reference, method_reference, binary_word, unary_word, shift_word, comparison_word, branch_word, load_element_word, store_element_word, instr}
use Rattle.ilasm_tokens.specs.declared.words.WordUse.{WordUse}
use Rattle.ilasm_tokens.specs.declared.words.WordUse.TheVariants.{Grammar as OfGrammar, Instruction as OfInstruction}
use Rattle.ilasm_tokens.specs.declared.words.Form.{Form}
use Rattle.ilasm_tokens.specs.declared.words.Form.TheVariants.{Bare, Int32, Integer as WithInteger, Quoted, Branch, Switch, Field, «Type» as OfType, Call, CallVirtual, NewObject}
use Rattle.ilasm_tokens.specs.declared.words.Bare as bare_type
use Rattle.ilasm_tokens.specs.declared.words.Bare.TheVariants as bares
use Rattle.ilasm_tokens.specs.declared.words.WithInteger.TheVariants as integers
use Rattle.ilasm_tokens.specs.declared.words.FieldAccess.TheVariants as accesses
use Rattle.ilasm_tokens.specs.declared.words.WithType.TheVariants as with_types
use Rattle.ilasm_tokens.specs.Vocabulary.{use_of}
use Rattle.ilasm_tokens.proofs.Reserved.{of_entries}
use Rattle.ilasm_reader.specs.Parsing.{bare, with_integer, with_field, with_type, form_of}

-- what follows the name of an instruction
abbrev pub operands : Form → Instruction → Span
operands (Bare which) i ts rest = (i ≡ bare which) × (ts ≡ rest)
operands Int32 i ts rest = (z : ℤ) × (i ≡ instructions.LoadInt32 z) × FitsSigned w32 z × (ts ≡ Integer z ∷ rest)
operands (WithInteger which) i ts rest = (z : ℤ) × (i ≡ with_integer which z) × (ts ≡ Integer z ∷ rest)
operands Quoted i ts rest = (t : List ℕ) × (i ≡ instructions.LoadString t) × (ts ≡ QuotedToken t ∷ rest)
operands (Branch condition) i ts rest = (l : List ℕ) × (i ≡ instructions.Branch condition l) × name l ts rest
operands Switch i ts rest = (ls : List (List ℕ)) × (i ≡ instructions.Switch ls) × parentheses name ls ts rest
operands (Field which) i ts rest = (r : FieldReference) × (i ≡ with_field which r) × field_reference r ts rest
operands (OfType which) i ts rest = (t : DeclaredType) × (i ≡ with_type which t) × type_of t ts rest
operands Call i ts rest = (b : Bool) × (r : MethodReference) × (i ≡ instructions.Call b r) × (present b (word (codes "instance")) ▸ method_reference r) ts rest
operands CallVirtual i ts rest =
    (c : ClassName) × (n : List ℕ) × (s : Signature) × (i ≡ instructions.CallVirtual c n s) × (word (codes "instance") ▸ method_reference (virtual_reference c n s)) ts rest
operands NewObject i ts rest =
    (c : ClassName) × (ps : List DeclaredType) × (i ≡ instructions.NewObject c ps) × (word (codes "instance") ▸ method_reference (constructor_reference c ps)) ts rest

-- the name of an instruction of a long form
abbrev pub long_name : Form → List ℕ
long_name (Bare bares.NoOperation) = codes "nop"
long_name (Bare bares.LoadNull) = codes "ldnull"
long_name (Bare bares.Duplicate) = codes "dup"
long_name (Bare bares.Pop) = codes "pop"
long_name (Bare bares.ConvertInt32) = codes "conv.i4"
long_name (Bare bares.ConvertInt64) = codes "conv.i8"
long_name (Bare bares.LoadLength) = codes "ldlen"
long_name (Bare (bares.LoadElement kind)) = load_element_word kind
long_name (Bare (bares.StoreElement kind)) = store_element_word kind
long_name (Bare bares.Return) = codes "ret"
long_name (Bare (bares.Int32 z)) = codes "ldc.i4"
long_name (Bare (bares.Argument n)) = codes "ldarg"
long_name (Bare (bares.Local n)) = codes "ldloc"
long_name (Bare (bares.SetLocal n)) = codes "stloc"
long_name (Bare (bares.Binary op)) = binary_word op
long_name (Bare (bares.Unary op)) = unary_word op
long_name (Bare (bares.Shift op)) = shift_word op
long_name (Bare (bares.Compare op)) = comparison_word op
long_name Int32 = codes "ldc.i4"
long_name (WithInteger integers.LoadInt64) = codes "ldc.i8"
long_name (WithInteger integers.LoadArgument) = codes "ldarg"
long_name (WithInteger integers.StoreArgument) = codes "starg"
long_name (WithInteger integers.LoadLocal) = codes "ldloc"
long_name (WithInteger integers.StoreLocal) = codes "stloc"
long_name Quoted = codes "ldstr"
long_name (Branch condition) = branch_word condition
long_name Switch = codes "switch"
long_name (Field accesses.Load) = codes "ldfld"
long_name (Field accesses.Store) = codes "stfld"
long_name (Field accesses.LoadStatic) = codes "ldsfld"
long_name (Field accesses.StoreStatic) = codes "stsfld"
long_name (OfType with_types.NewArray) = codes "newarr"
long_name (OfType with_types.Cast) = codes "castclass"
long_name (OfType with_types.IsInstance) = codes "isinst"
long_name Call = codes "call"
long_name CallVirtual = codes "callvirt"
long_name NewObject = codes "newobj"

-- the entry is in a list of short forms
abbrev is_entry : List ℕ → ℤ → List ℕ × ℤ → Bool
is_entry w z e = bytes_eq e.0 w && int_eq e.1 z

abbrev is_name_of : Form → List ℕ → Bool
is_name_of (Bare (bares.Int32 z)) w = list_any (is_entry w z) short_constants
is_name_of (Bare (bares.Argument n)) w = list_any (is_entry w n) short_argument_loads
is_name_of (Bare (bares.Local n)) w = list_any (is_entry w n) short_local_loads
is_name_of (Bare (bares.SetLocal n)) w = list_any (is_entry w n) short_local_stores
is_name_of f w = bytes_eq (long_name f) w

suits : List ℕ → WordUse → Bool
suits w OfGrammar = true
suits w (OfInstruction f) = is_name_of f w

with_form : (o : Option WordUse) (f : Form) → form_of o ≡ Some f → o ≡ Some (OfInstruction f)
unfolding form_of
with_form None f e = absurd cc
with_form (Some OfGrammar) f e = absurd cc
with_form (Some (OfInstruction g)) f e = cc

pub has_form : (w : List ℕ) (f : Form) → form_of (use_of w) ≡ Some f → is_name_of f w ≡ true
unfolding suits
has_form w f e = of_entries suits w (OfInstruction f) refl (with_form (use_of w) f e)

-- ---- an instruction from its name and operands

same_word : (v : List ℕ) {w : List ℕ} {ts mid : List Token} → bytes_eq v w ≡ true → word w ts mid → word v ts mid
same_word v {w} {ts} {mid} e p = let same : v ≡ w = (bytes_eq-Decides v w).0 e in rw same p

among : (es : List (List ℕ × ℤ)) (w : List ℕ) (z : ℤ) → list_any (is_entry w z) es ≡ true → Contains es (w, z)
among [] w z e = absurd cc
among (x ∷ es) w z e =
    elim (is_entry w z x) as (λ b. is_entry w z x ≡ b → (b || list_any (is_entry w z) es) ≡ true → Contains (x ∷ es) (w, z)) [
      | true ↦ λ here _.
          let parts = and_parts (bytes_eq x.0 w) (int_eq x.1 z) here in
          let first = (bytes_eq-Decides x.0 w).0 parts.0 in
          let second = (Decides-int_eq x.1 z).0 parts.1 in
          let same : x ≡ (w, z) = λ i. (first i, second i) in
          (0, omega arith, same)
      | false ↦ λ _ further. let there = among es w z further in (suc there.0, omega (arith, there.1), there.2)
    ] refl e

bare_from : (which : bare_type.Bare) (w : List ℕ) → is_name_of (Bare which) w ≡ true → (ts rest : List Token) → word w ts rest → instr (bare which) ts rest
bare_from bares.NoOperation w s ts rest p = same_word (codes "nop") s p
bare_from bares.LoadNull w s ts rest p = same_word (codes "ldnull") s p
bare_from bares.Duplicate w s ts rest p = same_word (codes "dup") s p
bare_from bares.Pop w s ts rest p = same_word (codes "pop") s p
bare_from bares.ConvertInt32 w s ts rest p = same_word (codes "conv.i4") s p
bare_from bares.ConvertInt64 w s ts rest p = same_word (codes "conv.i8") s p
bare_from bares.LoadLength w s ts rest p = same_word (codes "ldlen") s p
bare_from (bares.LoadElement kind) w s ts rest p = same_word (load_element_word kind) s p
bare_from (bares.StoreElement kind) w s ts rest p = same_word (store_element_word kind) s p
bare_from bares.Return w s ts rest p = same_word (codes "ret") s p
bare_from (bares.Int32 z) w s ts rest p = inr (w, among short_constants w z s, p)
bare_from (bares.Argument z) w s ts rest p = inr (w, among short_argument_loads w z s, p)
bare_from (bares.Local z) w s ts rest p = inr (w, among short_local_loads w z s, p)
bare_from (bares.SetLocal z) w s ts rest p = inr (w, among short_local_stores w z s, p)
bare_from (bares.Binary op) w s ts rest p = same_word (binary_word op) s p
bare_from (bares.Unary op) w s ts rest p = same_word (unary_word op) s p
bare_from (bares.Shift op) w s ts rest p = same_word (shift_word op) s p
bare_from (bares.Compare op) w s ts rest p = same_word (comparison_word op) s p

pub instr_from : (f : Form) (w : List ℕ) → is_name_of f w ≡ true → (i : Instruction) (ts mid rest : List Token) → word w ts mid → operands f i mid rest → instr i ts rest
instr_from (Bare which) w s i ts mid rest p (e, q) = rw e (subst (λ (r : List Token). instr (bare which) ts r) q (bare_from which w s ts mid p))
instr_from Int32 w s i ts mid rest p (z, e, f, q) = rw e (inl (f, (mid, same_word (codes "ldc.i4") s p, q)))
instr_from (WithInteger integers.LoadInt64) w s i ts mid rest p (z, e, q) = rw e (mid, same_word (codes "ldc.i8") s p, q)
instr_from (WithInteger integers.LoadArgument) w s i ts mid rest p (z, e, q) = rw e (inl (mid, same_word (codes "ldarg") s p, q))
instr_from (WithInteger integers.StoreArgument) w s i ts mid rest p (z, e, q) = rw e (mid, same_word (codes "starg") s p, q)
instr_from (WithInteger integers.LoadLocal) w s i ts mid rest p (z, e, q) = rw e (inl (mid, same_word (codes "ldloc") s p, q))
instr_from (WithInteger integers.StoreLocal) w s i ts mid rest p (z, e, q) = rw e (inl (mid, same_word (codes "stloc") s p, q))
instr_from Quoted w s i ts mid rest p (t, e, q) = rw e (mid, same_word (codes "ldstr") s p, q)
instr_from (Branch condition) w s i ts mid rest p (l, e, q) = rw e (mid, same_word (branch_word condition) s p, q)
instr_from Switch w s i ts mid rest p (ls, e, q) = rw e (mid, same_word (codes "switch") s p, q)
instr_from (Field accesses.Load) w s i ts mid rest p (r, e, q) = rw e (mid, same_word (codes "ldfld") s p, q)
instr_from (Field accesses.Store) w s i ts mid rest p (r, e, q) = rw e (mid, same_word (codes "stfld") s p, q)
instr_from (Field accesses.LoadStatic) w s i ts mid rest p (r, e, q) = rw e (mid, same_word (codes "ldsfld") s p, q)
instr_from (Field accesses.StoreStatic) w s i ts mid rest p (r, e, q) = rw e (mid, same_word (codes "stsfld") s p, q)
instr_from (OfType with_types.NewArray) w s i ts mid rest p (t, e, q) = rw e (mid, same_word (codes "newarr") s p, q)
instr_from (OfType with_types.Cast) w s i ts mid rest p (t, e, q) = rw e (mid, same_word (codes "castclass") s p, q)
instr_from (OfType with_types.IsInstance) w s i ts mid rest p (t, e, q) = rw e (mid, same_word (codes "isinst") s p, q)
instr_from Call w s i ts mid rest p (b, r, e, q) = rw e (mid, same_word (codes "call") s p, q)
instr_from CallVirtual w s i ts mid rest p (c, n, g, e, q) = rw e (mid, same_word (codes "callvirt") s p, q)
instr_from NewObject w s i ts mid rest p (c, ps, e, q) = rw e (mid, same_word (codes "newobj") s p, q)
