-- What a step of a thread may change of monitors and threads, and that each change of a state is such a change.
use Rattle.std.proofs.Common.{◌≡◌, ◌≤◌, ◌+◌, ◌⊎◌, ℕ, List, [], ◌∷◌, ◌++◌, Option, Some, None, option_map, slice_get, unwrap_or, refl, inl, inr, sym, ap, ◌∙◌, subst}
use Rattle.std.proofs.lemmas.Option.{option_and_then_some, same_Some}
use Rattle.interpreter.specs.cil_model.Same.{same_text}
use Rattle.interpreter.specs.cil_model.Fields.{FieldKey}
use Rattle.interpreter.specs.reference_machine.Values.{ObjectName, Born, Literal, Value}
use Rattle.interpreter.specs.reference_machine.States.{Monitor, Free, Held, Contents, Array, HeapObject, Thread, State, entry_at, replaced_entry, replaced_at, fields_of_contents, elements_of_contents, with_fields, with_field, with_element, object_at, with_object, monitor_of, with_monitor, with_birth}
use Rattle.interpreter.specs.reference_machine.Effects.{StepContext}
use Rattle.simulation.specs.Counts.{IsCountedMonitor, IsCounted}
use Rattle.simulation.proofs.ListLaws.ChangedItems.{entry_or_was}
use Rattle.interpreter.proofs.cil_model.Lists.{none_is_some, get_before, set_or_was, last_or_was}

-- a thread of a counted state that has this number of steps left after the one that it makes
pub record IsStepping (here : StepContext) (s : State) (left : ℕ) : Type 0 where
  pub counted : IsCounted here.limits s
  pub thread : Thread
  pub there : slice_get s.threads here.thread ≡ Some thread
  pub one_less : thread.steps_left ≡ left + 1

-- a monitor that the thread holds, entered in steps that its budget has no more after the step
abbrev pub IsOwnMonitor : StepContext → ℕ → Monitor → Type 0
IsOwnMonitor here left Free = ⊥
IsOwnMonitor here left (Held owner count) = (owner ≡ here.thread) × (count + left ≤ here.limits.budget)

-- a monitor after the step: one that was counted, or the thread's own
abbrev pub IsCountedAfter : StepContext → State → ℕ → Monitor → Type 0
IsCountedAfter here s left m = IsCountedMonitor here.limits s m ⊎ IsOwnMonitor here left m

-- What a step leaves, but for the thread that makes it: each monitor is counted, and threads are those that were there or have
-- their whole budget.
pub record KeepsCounts (here : StepContext) (s : State) (left : ℕ) (after : State) : Type 0 where
  pub objects : (n : ℕ) (o : HeapObject) → slice_get after.objects n ≡ Some o → IsCountedAfter here s left o.monitor
  pub literals : (characters : List ℕ) (m : Monitor) → entry_at same_text characters after.literal_monitors ≡ Some m → IsCountedAfter here s left m
  pub threads : (n : ℕ) (t : Thread) → slice_get after.threads n ≡ Some t → (slice_get s.threads n ≡ Some t) ⊎ (t.steps_left ≡ here.limits.budget)
  pub stay : (n : ℕ) (t : Thread) → slice_get s.threads n ≡ Some t → slice_get after.threads n ≡ Some t

module _ (here : StepContext) (s : State) (left : ℕ) (stepping : IsStepping here s left) where
  -- ---- monitors

  -- the monitor of an object that is there is counted
  object_counted : (n : ObjectName) (o : HeapObject) → object_at s n ≡ Some o → IsCountedMonitor here.limits s o.monitor
  object_counted (Born n) o there = stepping.counted.objects n o there
  object_counted (Literal characters) o there = none_is_some o there

  -- so is that of any name
  pub monitor_counted : (n : ObjectName) (m : Monitor) → monitor_of s n ≡ Some m → IsCountedMonitor here.limits s m
  monitor_counted (Born n) m h = by_object (slice_get s.objects n) refl h
    where
      by_object : (o : Option HeapObject) → slice_get s.objects n ≡ o → option_map (λ (x : HeapObject). x.monitor) o ≡ Some m → IsCountedMonitor here.limits s m
      by_object None is h' = none_is_some m h'
      by_object (Some o) is h' = subst (λ x. IsCountedMonitor here.limits s x) (same_Some o.monitor m h') (stepping.counted.objects n o is)
  monitor_counted (Literal characters) m h = stepping.counted.literals characters m h

  -- the thread's own count with its steps stays within the budget
  pub own_count : (owner count : ℕ) → owner ≡ here.thread → IsCountedMonitor here.limits s (Held owner count) → count + (left + 1) ≤ here.limits.budget
  own_count owner count own (t, there, within) =
      let same : t ≡ stepping.thread = same_Some t stepping.thread (sym there ∙ ap (slice_get s.threads) own ∙ stepping.there) in
      subst (λ x. count + x ≤ here.limits.budget) (ap (λ (x : Thread). x.steps_left) same ∙ stepping.one_less) within

  -- its steps alone do too
  pub own_budget : left + 1 ≤ here.limits.budget
  own_budget = subst (λ x. x ≤ here.limits.budget) stepping.one_less (stepping.counted.within here.thread stepping.thread stepping.there)

  -- ---- changes of the state

  -- no change
  pub itself_keeps : KeepsCounts here s left s
  itself_keeps = record {
    objects = λ n o there. inl (stepping.counted.objects n o there);
    literals = λ characters m there. inl (stepping.counted.literals characters m there);
    threads = λ n t there. inl there;
    stay = λ n t there. there;
  }

  -- another object in place of one
  object_keeps : (n : ObjectName) (o : HeapObject) → IsCountedAfter here s left o.monitor → KeepsCounts here s left (with_object s n o)
  object_keeps (Literal characters) o h = itself_keeps
  object_keeps (Born n) o h = record { objects = λ k x there. by_index k x (set_or_was s.objects n k o x there); literals = itself_keeps.literals; threads = itself_keeps.threads; stay = itself_keeps.stay }
    where
      by_index : (k : ℕ) (x : HeapObject) → (x ≡ o) ⊎ (slice_get s.objects k ≡ Some x) → IsCountedAfter here s left x.monitor
      by_index k x (inl is) = subst (λ (y : HeapObject). IsCountedAfter here s left y.monitor) (sym is) h
      by_index k x (inr was) = itself_keeps.objects k x was

  -- another monitor
  pub monitor_keeps : (n : ObjectName) (m : Monitor) → IsCountedAfter here s left m → KeepsCounts here s left (with_monitor s n m)
  monitor_keeps (Born n) m h = by_object (slice_get s.objects n)
    where
      by_object : (o : Option HeapObject) → KeepsCounts here s left (unwrap_or (option_map (λ (x : HeapObject). with_object s (Born n) (record x { monitor = m })) o) s)
      by_object None = itself_keeps
      by_object (Some o) = object_keeps (Born n) (record o { monitor = m }) h
  monitor_keeps (Literal characters) m h = record { objects = itself_keeps.objects; literals = λ other x there. by_key other x (entry_or_was same_text other characters m x s.literal_monitors there); threads = itself_keeps.threads; stay = itself_keeps.stay }
    where
      by_key : (other : List ℕ) (x : Monitor) → (x ≡ m) ⊎ (entry_at same_text other s.literal_monitors ≡ Some x) → IsCountedAfter here s left x
      by_key other x (inl is) = subst (λ y. IsCountedAfter here s left y) (sym is) h
      by_key other x (inr was) = itself_keeps.literals other x was

  -- an object more
  pub birth_keeps : (contents : Contents) → KeepsCounts here s left (with_birth s contents)
  birth_keeps contents = record { objects = λ n o there. by_index n o (last_or_was s.objects n newborn o there); literals = itself_keeps.literals; threads = itself_keeps.threads; stay = itself_keeps.stay }
    where
      newborn : HeapObject
      newborn = record { contents = contents; monitor = Free; thread = None }

      by_index : (n : ℕ) (o : HeapObject) → (o ≡ newborn) ⊎ (slice_get s.objects n ≡ Some o) → IsCountedAfter here s left o.monitor
      by_index n o (inl is) = subst (λ (x : HeapObject). IsCountedAfter here s left x.monitor) (sym is) (inl tt)
      by_index n o (inr was) = itself_keeps.objects n o was

  -- other contents of an object, where they are found
  changed_keeps : {X : Type 0} (n : ObjectName) (o : HeapObject) → object_at s n ≡ Some o → (contents : X → Contents) (x : Option X) (after : State) → option_map (λ y. with_object s n (record o { contents = contents y })) x ≡ Some after → KeepsCounts here s left after
  changed_keeps n o there contents None after e = none_is_some after e
  changed_keeps n o there contents (Some y) after e = subst (λ x. KeepsCounts here s left x) (same_Some _ after e) (object_keeps n (record o { contents = contents y }) (inl (object_counted n o there)))

  -- another value of a field
  pub field_keeps : (n : ObjectName) (k : FieldKey) (v : Value) (after : State) → with_field s n k v ≡ Some after → KeepsCounts here s left after
  field_keeps n k v after h =
      option_and_then_some _ (object_at s n) after h (λ o there h'.
      option_and_then_some _ (fields_of_contents o.contents) after h' (λ fields held h''.
      changed_keeps n o there (with_fields o.contents) (replaced_entry k v fields) after h''))

  -- another element of an array
  pub element_keeps : (n : ObjectName) (i : ℕ) (v : Value) (after : State) → with_element s n i v ≡ Some after → KeepsCounts here s left after
  element_keeps n i v after h =
      option_and_then_some _ (object_at s n) after h (λ o there h'.
      option_and_then_some _ (elements_of_contents o.contents) after h' (λ array held h''.
      changed_keeps n o there (Array array.0) (replaced_at i v array.1) after h''))

  -- other static fields, or other text printed
  pub aside_keeps : (statics : List (FieldKey × Value)) (printed : List ℕ) → KeepsCounts here s left (record s { statics = statics; printed = printed })
  aside_keeps statics printed = record { objects = itself_keeps.objects; literals = itself_keeps.literals; threads = itself_keeps.threads; stay = itself_keeps.stay }

  -- a thread more with its whole budget, noted at an object
  pub start_keeps : (n : ObjectName) (o : HeapObject) (number : Option ℕ) (thread : Thread) → object_at s n ≡ Some o → thread.steps_left ≡ here.limits.budget →
      KeepsCounts here s left (let marked : State = with_object s n (record o { thread = number }) in record marked { threads = s.threads ++ thread ∷ [] })
  start_keeps n o number thread there whole =
      let marked : KeepsCounts here s left (with_object s n (record o { thread = number })) = object_keeps n (record o { thread = number }) (inl (object_counted n o there)) in
      record { objects = marked.objects; literals = marked.literals; threads = λ k t found. by_index k t (last_or_was s.threads k thread t found); stay = λ k t was. get_before s.threads (thread ∷ []) k t was }
    where
      by_index : (k : ℕ) (t : Thread) → (t ≡ thread) ⊎ (slice_get s.threads k ≡ Some t) → (slice_get s.threads k ≡ Some t) ⊎ (t.steps_left ≡ here.limits.budget)
      by_index k t (inl is) = inr (ap (λ (x : Thread). x.steps_left) is ∙ whole)
      by_index k t (inr was) = inl was
