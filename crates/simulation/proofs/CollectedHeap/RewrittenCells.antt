-- A cell still represents its object when its words change, where references alone differ and have the same names.
use Rattle.std.proofs.Common.{◌≡◌, ◌⊎◌, inl, inr, ℕ, zero, suc, Bool, true, false, if◌then◌else◌, List, [], ◌∷◌, ◌++◌, length, Option, Some, slice_get, refl, sym, ap, ◌∙◌, subst, arith}
use Rattle.std.proofs.lemmas.Option.{same_Some}
use Rattle.interpreter.specs.cil_model.declared.types.ClassName.{ClassName}
use Rattle.interpreter.specs.cil_model.declared.trees.Tree.{Tree}
use Rattle.interpreter.specs.cil_model.Chains.{is_thread_class}
use Rattle.interpreter.specs.cil_model.Fields.{FieldKey}
use Rattle.interpreter.proofs.cil_model.SameLaws.{never}
use Rattle.interpreter.specs.reference_machine.Values.{ObjectName, Value as StateValue}
use Rattle.interpreter.specs.reference_machine.States.{Contents, Instance as IsInstance, Array as IsArray}
use Rattle.interpreter.specs.object_memory.declared.kinds.Kind.{Kind}
use Rattle.interpreter.specs.object_memory.declared.kinds.Kind.TheVariants.{Instance, Array}
use Rattle.interpreter.specs.object_memory.declared.values.Value.{Value}
use Rattle.interpreter.specs.object_memory.Values.{value_word}
use Rattle.collector.specs.References.{holds_reference}
use Rattle.simulation.specs.Agreement.{Agree}
use Rattle.simulation.specs.Refines.{Names, IsValue, null_reference, reference, IsWord, IsInstanceCell, IsOfContents, thread_word}
use Rattle.simulation.proofs.ListLaws.AgreeingLists.{agree_at, agree_get, agree_length}
use Rattle.simulation.proofs.Memory.ReferenceSlots.{IsLinked, hidden_says, is_reference_state, following_slot}
use Rattle.simulation.proofs.Representation.MoreNames.{value_renamed}

-- ---- values under other names

-- an integer stands under any names
pub integer_refines : (name names : Names) (w : ℕ) (u : StateValue) → is_reference_state u ≡ false → IsWord name w u → IsWord names w u
integer_refines name names w u sort h = record { value = h.value; refines = value_renamed name names h.value u (λ a n _ is named. never (sym sort ∙ ap is_reference_state is)) h.refines; is = h.is }

-- ---- other words

-- lists that agree at each index agree
pub agree_from : {A B : Type 0} (R : A → B → Type 0) (xs : List A) (ys : List B) → length xs ≡ length ys → ((n : ℕ) (x : A) (y : B) → slice_get xs n ≡ Some x → slice_get ys n ≡ Some y → R x y) → Agree R xs ys
agree_from R [] [] e each = tt
agree_from R (x ∷ xs) (y ∷ ys) e each = (each 0 x y refl refl, agree_from R xs ys (let shorter : length xs ≡ length ys = omega (arith, e) in shorter) (λ n z w is is'. each (suc n) z w is is'))
agree_from R _ _ e each = absurd (omega (arith, e))

-- other words in the slots: an integer's is the same, and in place of a reference's stands one of the same object
pub record AreRewritten (tree : Tree) (name names : Names) (k : Kind) (slots slots' : List ℕ) : Type 0 where
  pub count : length slots' ≡ length slots
  pub integers : (slot w : ℕ) → slice_get slots slot ≡ Some w → holds_reference tree k slot ≡ false → slice_get slots' slot ≡ Some w
  pub references : (slot w : ℕ) → slice_get slots slot ≡ Some w → holds_reference tree k slot ≡ true → (u : StateValue) → is_reference_state u ≡ true → IsWord name w u →
      (w' : ℕ) × (slice_get slots' slot ≡ Some w') × IsWord names w' u

module _ (tree : Tree) (name names : Names) (k : Kind) (slots slots' : List ℕ) (rewritten : AreRewritten tree name names k slots slots') where
  -- what stands in a slot
  word_rewritten : (slot w w' : ℕ) (u : StateValue) → slice_get slots slot ≡ Some w → slice_get slots' slot ≡ Some w' → holds_reference tree k slot ≡ is_reference_state u → IsWord name w u → IsWord names w' u
  word_rewritten slot w w' u is is' sort h = by_sort (holds_reference tree k slot) refl
    where
      by_sort : (b : Bool) → holds_reference tree k slot ≡ b → IsWord names w' u
      by_sort true holds =
          let new = rewritten.references slot w is holds u (sym sort ∙ holds) h in
          subst (λ x. IsWord names x u) (same_Some new.0 w' (sym new.1 ∙ is')) new.2
      by_sort false none =
          let same : w ≡ w' = same_Some w w' (sym (rewritten.integers slot w is none) ∙ is') in
          subst (λ x. IsWord names x u) same (integer_refines name names w u (sym sort ∙ none) h)

-- the elements of an array
elements_rewritten : (tree : Tree) (name names : Names) (k : Kind) (slots slots' : List ℕ) → AreRewritten tree name names k slots slots' → (elements : List StateValue) →
    ((index : ℕ) (u : StateValue) → slice_get elements index ≡ Some u → holds_reference tree k index ≡ is_reference_state u) → Agree (IsWord name) slots elements → Agree (IsWord names) slots' elements
elements_rewritten tree name names k slots slots' rewritten elements linked agree =
    agree_from (IsWord names) slots' elements (rewritten.count ∙ agree_length (IsWord name) slots elements agree)
    (λ n w' u is is'.
    let old = agree_get (IsWord name) slots elements agree n u is' in
    word_rewritten tree name names k slots slots' rewritten n old.0 w' u old.1 is (linked n u is') old.2)

-- the fields of an object of a class
module _ (tree : Tree) (name names : Names) (class : ℕ) (c : ClassName) (fields : List (FieldKey × StateValue)) (thread : Option ℕ) where
  abbrev FieldRefines : Names → ℕ → FieldKey × StateValue → Type 0
  FieldRefines names w f = IsWord names w f.1

  -- without a hidden slot
  plain_fields : (slots slots' : List ℕ) → AreRewritten tree name names (Instance class) slots slots' →
      ((index : ℕ) (e : FieldKey × StateValue) → slice_get fields index ≡ Some e → holds_reference tree (Instance class) index ≡ is_reference_state e.1) →
      Agree (FieldRefines name) slots fields → Agree (FieldRefines names) slots' fields
  plain_fields slots slots' rewritten linked agree =
      agree_from (FieldRefines names) slots' fields (rewritten.count ∙ agree_length (FieldRefines name) slots fields agree)
      (λ n w' e is is'.
      let old = agree_get (FieldRefines name) slots fields agree n e is' in
      word_rewritten tree name names (Instance class) slots slots' rewritten n old.0 w' e.1 old.1 is (linked n e is') old.2)

  -- after one
  hidden_fields : (x : ℕ) (words words' : List ℕ) → AreRewritten tree name names (Instance class) (x ∷ words) (x ∷ words') →
      ((index : ℕ) (e : FieldKey × StateValue) → slice_get fields index ≡ Some e → holds_reference tree (Instance class) (suc index) ≡ is_reference_state e.1) →
      Agree (FieldRefines name) words fields → Agree (FieldRefines names) words' fields
  hidden_fields x words words' rewritten linked agree =
      agree_from (FieldRefines names) words' fields (let count : length words' ≡ length words = omega (arith, rewritten.count) in count ∙ agree_length (FieldRefines name) words fields agree)
      (λ n w' e is is'.
      let old = agree_get (FieldRefines name) words fields agree n e is' in
      word_rewritten tree name names (Instance class) (x ∷ words) (x ∷ words') rewritten (suc n) old.0 w' e.1 old.1 is (linked n e is') old.2)

  -- an object of a class
  instance_rewritten : (slots slots' : List ℕ) → AreRewritten tree name names (Instance class) slots slots' → IsLinked tree (Instance class) (IsInstance c fields) → IsInstanceCell tree name class slots c fields thread → IsInstanceCell tree names class slots' c fields thread
  instance_rewritten slots slots' rewritten linked h = by_hidden (is_thread_class tree c) refl linked h.slots_are
    where
      by_tail : (slots' : List ℕ) → is_thread_class tree c ≡ true → AreRewritten tree name names (Instance class) (thread_word thread ∷ h.words) slots' →
          ((index : ℕ) (e : FieldKey × StateValue) → slice_get fields index ≡ Some e → holds_reference tree (Instance class) (suc index) ≡ is_reference_state e.1) → IsInstanceCell tree names class slots' c fields thread
      by_tail [] test r linked = absurd (omega (arith, r.count))
      by_tail (y ∷ words') test r linked =
          let none : holds_reference tree (Instance class) 0 ≡ false = hidden_says tree c class h.class_is test in
          let same : y ≡ thread_word thread = same_Some y (thread_word thread) (r.integers 0 (thread_word thread) refl none) in
          let r' : AreRewritten tree name names (Instance class) (thread_word thread ∷ h.words) (thread_word thread ∷ words') = subst (λ z. AreRewritten tree name names (Instance class) (thread_word thread ∷ h.words) (z ∷ words')) same r in
          record {
            class_is = h.class_is;
            words = words';
            slots_are = ap (λ z. z ∷ words') same ∙ ap (λ b. (if b then thread_word thread ∷ [] else []) ++ words') (sym test);
            values = hidden_fields (thread_word thread) h.words words' r' linked h.values;
          }

      by_hidden : (b : Bool) → is_thread_class tree c ≡ b →
          ((index : ℕ) (e : FieldKey × StateValue) → slice_get fields index ≡ Some e → holds_reference tree (Instance class) (following_slot b index) ≡ is_reference_state e.1) →
          slots ≡ (if b then thread_word thread ∷ [] else []) ++ h.words → IsInstanceCell tree names class slots' c fields thread
      by_hidden true test linked are = by_tail slots' test (subst (λ ws. AreRewritten tree name names (Instance class) ws slots') are rewritten) linked
      by_hidden false test linked are = record {
        class_is = h.class_is;
        words = slots';
        slots_are = ap (λ b. (if b then thread_word thread ∷ [] else []) ++ slots') (sym test);
        values = plain_fields h.words slots' (subst (λ ws. AreRewritten tree name names (Instance class) ws slots') are rewritten) linked h.values;
      }

-- what represents contents still does with the other words
pub contents_rewritten : (tree : Tree) (name names : Names) (k : Kind) (slots slots' : List ℕ) → AreRewritten tree name names k slots slots' → (contents : Contents) (thread : Option ℕ) → IsLinked tree k contents →
    IsOfContents tree name k slots contents thread → IsOfContents tree names k slots' contents thread
contents_rewritten tree name names (Instance class) slots slots' rewritten (IsInstance c fields) thread linked h = instance_rewritten tree name names class c fields thread slots slots' rewritten linked h
contents_rewritten tree name names (Array a) slots slots' rewritten (IsArray t elements) thread linked h = (h.0, elements_rewritten tree name names (Array a) slots slots' rewritten elements linked h.1)
contents_rewritten tree name names _ slots slots' rewritten _ thread linked h = elim h [ ]

-- ---- words of references

-- the word of null, or of an address that has a name
abbrev pub IsNamedWord : Names → ℕ → Type 0
IsNamedWord name w = (w ≡ 0) ⊎ ((n : ObjectName) × (name w ≡ Some n))

-- so is the word of a reference of what stands
module _ (tree : Tree) (name : Names) where
  word_is_named : (w : ℕ) (u : StateValue) → is_reference_state u ≡ true → IsWord name w u → IsNamedWord name w
  word_is_named w u sort h = by_value h.value u sort h.refines h.is
    where
      by_value : (v : Value) (u : StateValue) → is_reference_state u ≡ true → IsValue name v u → value_word v ≡ w → IsNamedWord name w
      by_value v u sort null_reference is = inl (sym is)
      by_value v u sort (reference a n named) is = inr (n, subst (λ x. name x ≡ Some n) is named)
      by_value v u sort _ is = never sort

  fields_named : (class : ℕ) (c : ClassName) (fields : List (FieldKey × StateValue)) (thread : Option ℕ) (slots : List ℕ) → IsLinked tree (Instance class) (IsInstance c fields) → IsInstanceCell tree name class slots c fields thread →
      (slot w : ℕ) → slice_get slots slot ≡ Some w → holds_reference tree (Instance class) slot ≡ true → IsNamedWord name w
  fields_named class c fields thread slots linked h slot w is holds = by_hidden (is_thread_class tree c) refl linked h.slots_are
    where
      of_word : (index : ℕ) → slice_get h.words index ≡ Some w → ((e : FieldKey × StateValue) → slice_get fields index ≡ Some e → is_reference_state e.1 ≡ true) → IsNamedWord name w
      of_word index there sort = let e = agree_at (λ x (f : FieldKey × StateValue). IsWord name x f.1) h.words fields h.values index w there in word_is_named w e.0.1 (sort e.0 e.1) e.2

      following : (slot : ℕ) → is_thread_class tree c ≡ true → slice_get (thread_word thread ∷ h.words) slot ≡ Some w → holds_reference tree (Instance class) slot ≡ true →
          ((index : ℕ) (e : FieldKey × StateValue) → slice_get fields index ≡ Some e → holds_reference tree (Instance class) (suc index) ≡ is_reference_state e.1) → IsNamedWord name w
      following zero test there holds linked = never (sym (hidden_says tree c class h.class_is test) ∙ holds)
      following (suc index) test there holds linked = of_word index there (λ e at_index. sym (linked index e at_index) ∙ holds)

      by_hidden : (b : Bool) → is_thread_class tree c ≡ b →
          ((index : ℕ) (e : FieldKey × StateValue) → slice_get fields index ≡ Some e → holds_reference tree (Instance class) (following_slot b index) ≡ is_reference_state e.1) →
          slots ≡ (if b then thread_word thread ∷ [] else []) ++ h.words → IsNamedWord name w
      by_hidden true test linked are = following slot test (subst (λ ws. slice_get ws slot ≡ Some w) are is) holds linked
      by_hidden false test linked are = of_word slot (subst (λ ws. slice_get ws slot ≡ Some w) are is) (λ e at_index. sym (linked slot e at_index) ∙ holds)

  pub contents_named : (k : Kind) (slots : List ℕ) (contents : Contents) (thread : Option ℕ) → IsLinked tree k contents → IsOfContents tree name k slots contents thread →
      (slot w : ℕ) → slice_get slots slot ≡ Some w → holds_reference tree k slot ≡ true → IsNamedWord name w
  contents_named (Instance class) slots (IsInstance c fields) thread linked h slot w is holds = fields_named class c fields thread slots linked h slot w is holds
  contents_named (Array a) slots (IsArray t elements) thread linked h slot w is holds =
      let u = agree_at (IsWord name) slots elements h.1 slot w is in
      word_is_named w u.0 (sym (linked slot u.0 u.1) ∙ holds) u.2
  contents_named _ slots _ thread linked h slot w is holds = elim h [ ]
