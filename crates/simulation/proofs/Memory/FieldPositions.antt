-- A field has one position: among the declared fields, and among the values of an object.
use Rattle.std.proofs.Common.{◌≡◌, ◌+◌, ℕ, suc, Bool, true, false, cond, ◌||◌, if◌then◌else◌, IsTrue, List, [], ◌∷◌, ◌++◌, Option, Some, None, slice_get, slice_set, refl, sym, ap, ◌∙◌, arith}
use Rattle.std.specs.List.{list_any, position_from}
use Rattle.std.proofs.lemmas.Option.{same_Some}
use Rattle.interpreter.specs.cil_model.declared.types.DeclaredType.{DeclaredType}
use Rattle.interpreter.specs.cil_model.declared.trees.Tree.{Tree}
use Rattle.interpreter.specs.cil_model.Fields.{FieldKey, same_key}
use Rattle.interpreter.proofs.cil_model.Lists.{none_is_some}
use Rattle.interpreter.proofs.cil_model.SameLaws.{if_true, if_false, never}
use Rattle.interpreter.specs.reference_machine.Values.{Value as StateValue, same_kind}
use Rattle.interpreter.specs.reference_machine.States.{State, entry_at, with_entry, same_kind_or_none, replaced_entry}
use Rattle.interpreter.specs.reference_machine.TypedStates.{HaveFieldTypes}
use Rattle.simulation.proofs.Memory.InheritedFields.{has_key}

-- ---- positions

-- a key that fields have has a position among them
pub position_there : (k : FieldKey) (fs : List (FieldKey × DeclaredType)) → IsTrue (list_any (has_key k) fs) → (p : ℕ) × ((i : ℕ) → position_from (has_key k) i fs ≡ Some (i + p))
position_there k [] h = never h
position_there k (f ∷ fs) h = by_test (has_key k f) refl h (position_there k fs)
  where
    by_test : (b : Bool) → has_key k f ≡ b → IsTrue (b || list_any (has_key k) fs) → (IsTrue (list_any (has_key k) fs) → (p : ℕ) × ((i : ℕ) → position_from (has_key k) i fs ≡ Some (i + p))) → (p : ℕ) × ((i : ℕ) → position_from (has_key k) i (f ∷ fs) ≡ Some (i + p))
    by_test true is here later = (0, λ i. let e : i ≡ i + 0 = omega arith in ap (λ b. cond b (Some i) (position_from (has_key k) (i + 1) fs)) is ∙ ap Some e)
    by_test false is there later =
        let further = later there in
        (suc further.0, λ i. let e : i + 1 + further.0 ≡ i + suc further.0 = omega arith in ap (λ b. cond b (Some i) (position_from (has_key k) (i + 1) fs)) is ∙ further.1 (i + 1) ∙ ap Some e)

-- ---- entries

-- an entry of typed fields at the position that its key has among the first ones
pub record HasPosition (k : FieldKey) (fs : List (FieldKey × DeclaredType)) (es : List (FieldKey × StateValue)) : Type 0 where
  pub index : ℕ
  pub position : (i : ℕ) → position_from (has_key k) i fs ≡ Some (i + index)
  pub entry : FieldKey × StateValue
  pub there : slice_get es index ≡ Some entry
  pub found : entry_at same_key k es ≡ Some entry.1
  pub changed : (v : StateValue) → with_entry same_key k v es ≡ slice_set es index (entry.0, v)

-- each key of the first ones has such an entry
pub has_position : (tree : Tree) (s : State) (k : FieldKey) (fs more : List (FieldKey × DeclaredType)) (es : List (FieldKey × StateValue)) → HaveFieldTypes tree s es (fs ++ more) → IsTrue (list_any (has_key k) fs) → HasPosition k fs es
has_position tree s k [] more es h is = never is
has_position tree s k (f ∷ fs) more [] h is = elim h [ ]
has_position tree s k (f ∷ fs) more (e ∷ es) h is = by_test (has_key k f) refl is (has_position tree s k fs more es h.2)
  where
    by_test : (b : Bool) → has_key k f ≡ b → IsTrue (b || list_any (has_key k) fs) → (IsTrue (list_any (has_key k) fs) → HasPosition k fs es) → HasPosition k (f ∷ fs) (e ∷ es)
    by_test true test here later =
        let own : same_key e.0 k ≡ true = ap (λ x. same_key x k) h.0 ∙ test in
        record {
          index = 0;
          position = λ i. (let e' : i ≡ i + 0 = omega arith in ap (λ b. cond b (Some i) (position_from (has_key k) (i + 1) fs)) test ∙ ap Some e');
          entry = e;
          there = refl;
          found = if_true (same_key e.0 k) (Some e.1) (entry_at same_key k es) own;
          changed = λ v. if_true (same_key e.0 k) ((e.0, v) ∷ es) (e ∷ with_entry same_key k v es) own;
        }
    by_test false test there later =
        let own : same_key e.0 k ≡ false = ap (λ x. same_key x k) h.0 ∙ test in
        let further = later there in
        record {
          index = suc further.index;
          position = λ i. (let e' : i + 1 + further.index ≡ i + suc further.index = omega arith in ap (λ b. cond b (Some i) (position_from (has_key k) (i + 1) fs)) test ∙ further.position (i + 1) ∙ ap Some e');
          entry = further.entry;
          there = further.there;
          found = if_false (same_key e.0 k) (Some e.1) (entry_at same_key k es) own ∙ further.found;
          changed = λ v. if_false (same_key e.0 k) ((e.0, v) ∷ es) (e ∷ with_entry same_key k v es) own ∙ ap (λ x. e ∷ x) (further.changed v);
        }

-- where typed fields have an entry, their types have one
pub type_there : (tree : Tree) (s : State) (k : FieldKey) (v : StateValue) (es : List (FieldKey × StateValue)) (fs : List (FieldKey × DeclaredType)) → HaveFieldTypes tree s es fs → entry_at same_key k es ≡ Some v → (t : DeclaredType) × (entry_at same_key k fs ≡ Some t)
type_there tree s k v [] fs h found = none_is_some v found
type_there tree s k v (e ∷ es) [] h found = elim h [ ]
type_there tree s k v (e ∷ es) (f ∷ fs) h found = by_test (same_key e.0 k) refl found (type_there tree s k v es fs h.2)
  where
    by_test : (b : Bool) → same_key e.0 k ≡ b → (if b then Some e.1 else entry_at same_key k es) ≡ Some v → (entry_at same_key k es ≡ Some v → (t : DeclaredType) × (entry_at same_key k fs ≡ Some t)) → (t : DeclaredType) × (entry_at same_key k (f ∷ fs) ≡ Some t)
    by_test true is here later = (f.1, if_true (same_key f.0 k) (Some f.1) (entry_at same_key k fs) (ap (λ x. same_key x k) (sym h.0) ∙ is))
    by_test false is there later = let further = later there in (further.0, if_false (same_key f.0 k) (Some f.1) (entry_at same_key k fs) (ap (λ x. same_key x k) (sym h.0) ∙ is) ∙ further.1)

-- where the types have an entry, they have the key
pub key_there : (k : FieldKey) (t : DeclaredType) (fs : List (FieldKey × DeclaredType)) → entry_at same_key k fs ≡ Some t → IsTrue (list_any (has_key k) fs)
key_there k t [] found = none_is_some t found
key_there k t (f ∷ fs) found = by_test (same_key f.0 k) found (key_there k t fs)
  where
    by_test : (b : Bool) → (if b then Some f.1 else entry_at same_key k fs) ≡ Some t → (entry_at same_key k fs ≡ Some t → IsTrue (list_any (has_key k) fs)) → IsTrue (b || list_any (has_key k) fs)
    by_test true here later = refl
    by_test false there later = later there

-- an entry that is replaced is changed
pub replaced_is : (k : FieldKey) (v : StateValue) (es es' : List (FieldKey × StateValue)) → replaced_entry k v es ≡ Some es' → es' ≡ with_entry same_key k v es
replaced_is k v es es' is = by_old (entry_at same_key k es) is
  where
    by_kind : (b : Bool) → (if b then Some (with_entry same_key k v es) else None) ≡ Some es' → es' ≡ with_entry same_key k v es
    by_kind true e = sym (same_Some (with_entry same_key k v es) es' e)
    by_kind false e = none_is_some es' e

    by_old : (old : Option StateValue) → same_kind_or_none old v (with_entry same_key k v es) ≡ Some es' → es' ≡ with_entry same_key k v es
    by_old None e = none_is_some es' e
    by_old (Some old) e = by_kind (same_kind old v) e
