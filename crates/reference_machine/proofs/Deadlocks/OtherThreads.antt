-- What a step of one thread leaves to the others: the monitors that they hold, the threads of objects, and themselves.
use Rattle.std.proofs.Common.{◌≡◌, ◌==◌, ℕ, zero, suc, Bool, true, false, List, [], ◌∷◌, ◌++◌, Option, Some, None, option_map, slice_get, slice_set, unwrap_or, refl, sym, ap, ◌∙◌, subst, arith}
use Rattle.std.proofs.lemmas.Bool.{eqb-true}
use Rattle.std.proofs.lemmas.Bool.Decides.{nat_tests}
use Rattle.std.proofs.lemmas.Option.{option_and_then_some, same_Some}
use Rattle.cil_model.specs.declared.types.DeclaredType.{DeclaredType}
use Rattle.cil_model.specs.Same.{same_text}
use Rattle.cil_model.specs.Fields.{FieldKey}
use Rattle.cil_model.proofs.Lists.{none_is_some, get_before, set_is_there}
use Rattle.cil_model.proofs.SameLaws.{not_both, same_text_equal}
use Rattle.reference_machine.specs.Values.{ObjectName, Born, Literal, Value}
use Rattle.reference_machine.specs.States.{Monitor, Held, Contents, Array, HeapObject, Thread, State, entry_at, with_entry, replaced_entry, replaced_at, fields_of_contents, elements_of_contents, with_fields, with_field, with_element, object_at, with_object, monitor_of, with_monitor, with_birth}
use Rattle.reference_machine.proofs.Runs.StateChanges.{entry_kept, text_equivalence}

-- an item stays where another index changes
pub set_elsewhere : {X : Type 0} (xs : List X) (n m : ℕ) (y x : X) → (m == n) ≡ false → slice_get xs m ≡ Some x → slice_get (slice_set xs n y) m ≡ Some x
set_elsewhere [] n m y x apart e = none_is_some x e
set_elsewhere (z ∷ zs) zero zero y x apart e = not_both true apart refl
set_elsewhere (z ∷ zs) (suc n) (suc m) y x apart e =
    let below : (m == n) ≡ false = grind (arith, nat_tests, apart) in
    set_elsewhere zs n m y x below e
set_elsewhere _ _ _ y x apart e = e

-- a monitor that another thread than t holds stays so
abbrev pub KeepsMonitor : ℕ → Option Monitor → Option Monitor → Type 0
KeepsMonitor t before after = (owner count : ℕ) → before ≡ Some (Held owner count) → (owner == t) ≡ false → after ≡ Some (Held owner count)

-- what an object keeps: its monitor, where another thread than t holds it, and the thread that was started on it
pub record KeepsObject (t : ℕ) (before after : HeapObject) : Type 0 where
  pub monitor : KeepsMonitor t (Some before.monitor) (Some after.monitor)
  pub thread : (u : ℕ) → before.thread ≡ Some u → after.thread ≡ Some u

-- what a state keeps for the threads other than t
pub record KeepsOthers (t : ℕ) (before after : State) : Type 0 where
  pub objects : (n : ℕ) (o : HeapObject) → slice_get before.objects n ≡ Some o → (x : HeapObject) × (slice_get after.objects n ≡ Some x) × KeepsObject t o x
  pub literals : (characters : List ℕ) → KeepsMonitor t (entry_at same_text characters before.literal_monitors) (entry_at same_text characters after.literal_monitors)
  pub threads : (u : ℕ) (x : Thread) → (u == t) ≡ false → slice_get before.threads u ≡ Some x → slice_get after.threads u ≡ Some x

module _ (t : ℕ) (s : State) where
  pub object_itself : (o : HeapObject) → KeepsObject t o o
  object_itself o = record { monitor = λ owner count h other. h; thread = λ u h. h }

  -- no change
  pub itself_keeps : KeepsOthers t s s
  itself_keeps = record { objects = λ n o h. (o, h, object_itself o); literals = λ characters owner count h other. h; threads = λ u x other h. h }

  -- another object in place of one
  pub object_keeps : (n : ObjectName) (o x : HeapObject) → object_at s n ≡ Some o → KeepsObject t o x → KeepsOthers t s (with_object s n x)
  object_keeps (Literal characters) o x there h = itself_keeps
  object_keeps (Born n) o x there h = record { objects = λ k y is. by_index k y is (k == n) refl; literals = itself_keeps.literals; threads = itself_keeps.threads }
    where
      by_index : (k : ℕ) (y : HeapObject) → slice_get s.objects k ≡ Some y → (b : Bool) → (k == n) ≡ b → (z : HeapObject) × (slice_get (slice_set s.objects n x) k ≡ Some z) × KeepsObject t y z
      by_index k y is false apart = (y, set_elsewhere s.objects n k x y apart is, object_itself y)
      by_index k y is true e =
          let same : k ≡ n = eqb-true k n e in
          let own : o ≡ y = same_Some o y (sym there ∙ ap (slice_get s.objects) (sym same) ∙ is) in
          (x, ap (slice_get (slice_set s.objects n x)) same ∙ set_is_there s.objects n x o there, subst (λ (z : HeapObject). KeepsObject t z x) own h)

  -- a monitor that no other thread than t holds
  abbrev pub IsOpen : Monitor → Type 0
  IsOpen was = (owner count : ℕ) → was ≡ Held owner count → (owner == t) ≡ true

  -- may become another
  pub monitor_keeps : (n : ObjectName) (was m : Monitor) → monitor_of s n ≡ Some was → IsOpen was → KeepsOthers t s (with_monitor s n m)
  monitor_keeps (Born n) was m h own = by_object (slice_get s.objects n) refl h
    where
      changed : (o : HeapObject) → o.monitor ≡ was → KeepsObject t o (record o { monitor = m })
      changed o is = record { monitor = λ owner count held other. not_both (owner == t) other (own owner count (sym is ∙ same_Some o.monitor (Held owner count) held)); thread = λ u k. k }

      by_object : (o : Option HeapObject) → slice_get s.objects n ≡ o → option_map (λ (x : HeapObject). x.monitor) o ≡ Some was →
          KeepsOthers t s (unwrap_or (option_map (λ (x : HeapObject). with_object s (Born n) (record x { monitor = m })) o) s)
      by_object None there k = itself_keeps
      by_object (Some o) there k = object_keeps (Born n) o (record o { monitor = m }) there (changed o (same_Some o.monitor was k))
  monitor_keeps (Literal characters) was m h own = record { objects = itself_keeps.objects; literals = λ other. by_key other (same_text characters other) refl; threads = itself_keeps.threads }
    where
      by_key : (other : List ℕ) (b : Bool) → same_text characters other ≡ b → KeepsMonitor t (entry_at same_text other s.literal_monitors) (entry_at same_text other (with_entry same_text characters m s.literal_monitors))
      by_key other false apart owner count held another = entry_kept same_text text_equivalence other characters m s.literal_monitors apart ∙ held
      by_key other true same owner count held another =
          let is : was ≡ Held owner count = same_Some was (Held owner count) (sym h ∙ ap (λ l. entry_at same_text l s.literal_monitors) (same_text_equal characters other same) ∙ held) in
          not_both (owner == t) another (own owner count is)

  -- an object more
  pub birth_keeps : (contents : Contents) → KeepsOthers t s (with_birth s contents)
  birth_keeps contents = record { objects = λ n o h. (o, get_before s.objects _ n o h, object_itself o); literals = itself_keeps.literals; threads = itself_keeps.threads }

  -- other contents of an object
  contents_keep : (n : ObjectName) (o : HeapObject) (contents : Contents) → object_at s n ≡ Some o → KeepsOthers t s (with_object s n (record o { contents = contents }))
  contents_keep n o contents there = object_keeps n o (record o { contents = contents }) there (record { monitor = λ owner count h other. h; thread = λ u h. h })

  -- another value of a field
  pub field_keeps : (n : ObjectName) (k : FieldKey) (v : Value) (after : State) → with_field s n k v ≡ Some after → KeepsOthers t s after
  field_keeps n k v after h =
      option_and_then_some _ (object_at s n) after h (λ o there h'.
      option_and_then_some _ (fields_of_contents o.contents) after h' (λ fields held h''.
      by_fields o there (replaced_entry k v fields) h''))
    where
      by_fields : (o : HeapObject) → object_at s n ≡ Some o → (fields : Option (List (FieldKey × Value))) → option_map (λ es. with_object s n (record o { contents = with_fields o.contents es })) fields ≡ Some after → KeepsOthers t s after
      by_fields o there None e = none_is_some after e
      by_fields o there (Some fields) e = subst (λ x. KeepsOthers t s x) (same_Some _ after e) (contents_keep n o (with_fields o.contents fields) there)

  -- another element of an array
  pub element_keeps : (n : ObjectName) (i : ℕ) (v : Value) (after : State) → with_element s n i v ≡ Some after → KeepsOthers t s after
  element_keeps n i v after h =
      option_and_then_some _ (object_at s n) after h (λ o there h'.
      option_and_then_some _ (elements_of_contents o.contents) after h' (λ array held h''.
      by_elements o there array.0 (replaced_at i v array.1) h''))
    where
      by_elements : (o : HeapObject) → object_at s n ≡ Some o → (type : DeclaredType) (elements : Option (List Value)) → option_map (λ vs. with_object s n (record o { contents = Array type vs })) elements ≡ Some after → KeepsOthers t s after
      by_elements o there type None e = none_is_some after e
      by_elements o there type (Some elements) e = subst (λ x. KeepsOthers t s x) (same_Some _ after e) (contents_keep n o (Array type elements) there)

  -- other static fields, or other text printed
  pub aside_keeps : (statics : List (FieldKey × Value)) (printed : List ℕ) → KeepsOthers t s (record s { statics = statics; printed = printed })
  aside_keeps statics printed = record { objects = itself_keeps.objects; literals = itself_keeps.literals; threads = itself_keeps.threads }

  -- a thread more, noted at an object on which none was started
  pub start_keeps : (n : ObjectName) (o : HeapObject) (number : Option ℕ) (thread : Thread) → object_at s n ≡ Some o → o.thread ≡ None →
      KeepsOthers t s (let marked : State = with_object s n (record o { thread = number }) in record marked { threads = s.threads ++ thread ∷ [] })
  start_keeps n o number thread there new =
      let marked : KeepsOthers t s (with_object s n (record o { thread = number })) =
      object_keeps n o (record o { thread = number }) there (record { monitor = λ owner count h other. h; thread = λ u h. none_is_some u (sym new ∙ h) }) in
      record { objects = marked.objects; literals = marked.literals; threads = λ u x other h. get_before s.threads (thread ∷ []) u x h }

  -- another thread of the same number
  pub moved_keeps : (after : State) (moved : Thread) → KeepsOthers t s after → KeepsOthers t s (record after { threads = slice_set after.threads t moved })
  moved_keeps after moved h = record { objects = h.objects; literals = h.literals; threads = λ u x other is. set_elsewhere after.threads t u moved x other (h.threads u x other is) }
