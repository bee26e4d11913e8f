-- Each change that the machine makes to a state leaves it typed.
use Rattle.std.proofs.Common.{◌≡◌, ◌≢◌, ℕ, zero, suc, Bool, true, false, if◌then◌else◌, IsTrue, List, [], ◌∷◌, ◌++◌, replicate, Option, Some, None, option_map, option_and_then, slice_get, slice_set, unwrap_or, Contains, refl, sym, ap, ◌∙◌, subst}
use Rattle.std.specs.Prelude.{IsSome}
use Rattle.std.proofs.lemmas.Option.{same_Some}
use Rattle.cil_model.specs.declared.types.ClassName.{ClassName}
use Rattle.cil_model.specs.declared.types.Element.TheVariants.{String}
use Rattle.cil_model.specs.declared.types.DeclaredType.{DeclaredType}
use Rattle.cil_model.specs.declared.trees.Tree.{Tree}
use Rattle.cil_model.specs.Same.{same_text}
use Rattle.cil_model.specs.Declarations.{plain}
use Rattle.cil_model.specs.Chains.{is_interface}
use Rattle.cil_model.specs.Assignable.{is_assignable, to_itself}
use Rattle.cil_model.specs.Fields.{FieldKey, instance_fields, static_fields, same_key}
use Rattle.cil_model.specs.Legality.{IsLegal}
use Rattle.cil_model.specs.Mentions.{literals_of}
use Rattle.cil_model.proofs.Lists.{none_is_some, set_or_was, last_or_was, last_is_there}
use Rattle.cil_model.proofs.SameLaws.{if_true, if_false}
use Rattle.cil_model.proofs.CompleteLaws.{test_is_complete}
use Rattle.reference_machine.specs.Values.{ObjectName, Born, Literal, Value, Reference, zero_of, same_kind}
use Rattle.reference_machine.specs.States.{Monitor, Free, Contents, Instance, Array, HeapObject, Thread, State, entry_at, with_entry, same_kind_or_none, replaced_entry, replaced_at, fields_of_contents, elements_of_contents, with_fields, field_value, with_field, array_at, with_element, object_at, with_object, type_of_contents, type_of, monitor_of, with_monitor, next_name, with_birth, new_instance}
use Rattle.reference_machine.specs.Steps.{with_thread_at}
use Rattle.reference_machine.specs.Growth.{shape_of, shapes, Follows}
use Rattle.reference_machine.proofs.Runs.StateChanges.{continues_itself, item_passes, follows_object, follows_birth, follows_monitor, follows_statics, follows_field, follows_element}
use Rattle.reference_machine.specs.TypedStates.{HasType, AllHaveType, HaveFieldTypes, has_objects, IsTypedContents, AreTypedFrames, IsTyped}
use Rattle.reference_machine.proofs.TypedStates.ValueTypes.{monitor_keeps, elements_keep, fields_keep, contents_keep, frames_keep}
use Rattle.reference_machine.proofs.TypedStates.StackOperands.{kinds_agree}
use Rattle.reference_machine.proofs.TypedStates.InitialStates.{zero_typed, zeroed_typed}

-- ---- a state that follows a typed one

module _ (tree : Tree) (s : State) (typed : IsTyped tree s) where
  module _ (t : State) (follows : Follows s t) where
    literals_on : (characters : List ℕ) → Contains (literals_of tree) characters → IsSome (entry_at same_text characters t.literal_monitors)
    literals_on characters named = monitor_keeps tree s t follows (Literal characters) (plain String) refl (typed.literals characters named)

    statics_on : t.statics ≡ s.statics → HaveFieldTypes tree t t.statics (static_fields tree)
    statics_on same = subst (λ x. HaveFieldTypes tree t x (static_fields tree)) (sym same) (fields_keep tree s t follows s.statics (static_fields tree) typed.statics)

    objects_on : (n : ℕ) (o : HeapObject) → slice_get s.objects n ≡ Some o → IsTypedContents tree t o.contents
    objects_on n o there = contents_keep tree s t follows o.contents (typed.objects n o there)

    threads_on : (n : ℕ) (thread : Thread) → slice_get s.threads n ≡ Some thread → thread.ended ≡ None → AreTypedFrames tree t thread.frames
    threads_on n thread there live = frames_keep tree s t follows thread.frames (typed.threads n thread there live)

  -- ---- objects

  -- another object in place of one
  pub typed_object : (n : ℕ) (o : HeapObject) → Follows s (with_object s (Born n) o) → IsTypedContents tree (with_object s (Born n) o) o.contents → IsTyped tree (with_object s (Born n) o)
  typed_object n o follows contents = record {
    objects = λ m x there. item_passes (λ (y : HeapObject). IsTypedContents tree (with_object s (Born n) o) y.contents) o x contents (objects_on (with_object s (Born n) o) follows m x) (set_or_was s.objects n m o x there);
    literals = literals_on (with_object s (Born n) o) follows;
    statics = statics_on (with_object s (Born n) o) follows refl;
    threads = threads_on (with_object s (Born n) o) follows;
  }

  -- the same, of a name that is an object's
  pub typed_object_at : (n : ObjectName) (o : HeapObject) → Follows s (with_object s n o) → IsTypedContents tree (with_object s n o) o.contents → IsTyped tree (with_object s n o)
  typed_object_at (Born n) o follows contents = typed_object n o follows contents
  typed_object_at (Literal characters) o follows contents = typed

  -- an object with other marks and what it held
  pub typed_marks : (n : ℕ) (o o' : HeapObject) → slice_get s.objects n ≡ Some o → o'.contents ≡ o.contents → IsTyped tree (with_object s (Born n) o')
  typed_marks n o o' there same =
      let follows : Follows s (with_object s (Born n) o') = follows_object s n o o' there (ap shape_of same) in
      typed_object n o' follows (subst (λ c. IsTypedContents tree (with_object s (Born n) o') c) (sym same) (objects_on (with_object s (Born n) o') follows n o there))

  -- a thread noted at an object
  pub typed_thread_mark : (n : ObjectName) (o : HeapObject) (thread : Option ℕ) → object_at s n ≡ Some o → IsTyped tree (with_object s n (record o { thread = thread }))
  typed_thread_mark (Born n) o thread there = typed_marks n o (record o { thread = thread }) there refl
  typed_thread_mark (Literal characters) o thread there = typed

  -- ---- monitors

  abbrev IsTypedWith : ℕ → Monitor → Option HeapObject → Type 0
  IsTypedWith n m o = IsTyped tree (unwrap_or (option_map (λ (x : HeapObject). with_object s (Born n) (record x { monitor = m })) o) s)

  pub typed_monitor : (n : ObjectName) (m : Monitor) → IsTyped tree (with_monitor s n m)
  typed_monitor (Born n) m = by_object (slice_get s.objects n) refl
    where
      by_object : (o : Option HeapObject) → slice_get s.objects n ≡ o → IsTypedWith n m (slice_get s.objects n)
      by_object None e = subst (IsTypedWith n m) (sym e) typed
      by_object (Some o) e = subst (IsTypedWith n m) (sym e) (typed_marks n o (record o { monitor = m }) e refl)
  typed_monitor (Literal characters) m =
      let t : State = with_monitor s (Literal characters) m in
      let follows : Follows s t = follows_monitor s (Literal characters) m in
      record { objects = objects_on t follows; literals = literals_on t follows; statics = statics_on t follows refl; threads = threads_on t follows }

  -- ---- what is printed

  pub follows_printed : (line : List ℕ) → Follows s (record s { printed = s.printed ++ line })
  follows_printed line = record { objects = continues_itself (shapes s); statics = refl; literals_stay = refl; printed = (line, refl) }

  pub typed_printed : (line : List ℕ) → IsTyped tree (record s { printed = s.printed ++ line })
  typed_printed line =
      let t : State = record s { printed = s.printed ++ line } in
      let follows : Follows s t = follows_printed line in
      record { objects = objects_on t follows; literals = literals_on t follows; statics = statics_on t follows refl; threads = threads_on t follows }

  -- ---- threads

  pub follows_threads : (threads : List Thread) → Follows s (record s { threads = threads })
  follows_threads threads = record { objects = continues_itself (shapes s); statics = refl; literals_stay = refl; printed = continues_itself s.printed }

  -- other threads, the live ones with typed frames
  pub typed_threads : (threads : List Thread) → ((n : ℕ) (thread : Thread) → slice_get threads n ≡ Some thread → thread.ended ≡ None → AreTypedFrames tree s thread.frames) → IsTyped tree (record s { threads = threads })
  typed_threads threads each =
      let t : State = record s { threads = threads } in
      let follows : Follows s t = follows_threads threads in
      record {
        objects = objects_on t follows;
        literals = literals_on t follows;
        statics = statics_on t follows refl;
        threads = λ n thread there live. frames_keep tree s t follows thread.frames (each n thread there live);
      }

  -- one thread more
  pub typed_thread_more : (thread : Thread) → (thread.ended ≡ None → AreTypedFrames tree s thread.frames) → IsTyped tree (record s { threads = s.threads ++ thread ∷ [] })
  typed_thread_more thread frames = typed_threads (s.threads ++ thread ∷ []) (λ n x there. item_passes (λ (y : Thread). y.ended ≡ None → AreTypedFrames tree s y.frames) thread x frames (typed.threads n x) (last_or_was s.threads n thread x there))

  -- another thread in place of one
  pub typed_thread_at : (t : ℕ) (thread : Thread) → (thread.ended ≡ None → AreTypedFrames tree s thread.frames) → IsTyped tree (with_thread_at s t thread)
  typed_thread_at t thread frames = typed_threads (slice_set s.threads t thread) (λ n x there. item_passes (λ (y : Thread). y.ended ≡ None → AreTypedFrames tree s y.frames) thread x frames (typed.threads n x) (set_or_was s.threads t n thread x there))

  -- ---- births

  pub typed_birth : (contents : Contents) → IsTypedContents tree (with_birth s contents) contents → IsTyped tree (with_birth s contents)
  typed_birth contents is_typed = record {
    objects = λ n o there. item_passes (λ (x : HeapObject). IsTypedContents tree (with_birth s contents) x.contents) (record { contents = contents; monitor = Free; thread = None }) o is_typed (objects_on (with_birth s contents) (follows_birth s contents) n o) (last_or_was s.objects n (record { contents = contents; monitor = Free; thread = None }) o there);
    literals = literals_on (with_birth s contents) (follows_birth s contents);
    statics = statics_on (with_birth s contents) (follows_birth s contents) refl;
    threads = threads_on (with_birth s contents) (follows_birth s contents);
  }

module _ (tree : Tree) (s : State) where
  -- ---- what is born has its type

  abbrev newborn : Contents → HeapObject
  newborn contents = record { contents = contents; monitor = Free; thread = None }

  newborn_is_there : (contents : Contents) → object_at (with_birth s contents) (next_name s) ≡ Some (newborn contents)
  newborn_is_there contents = last_is_there s.objects (newborn contents)

  pub newborn_type : (contents : Contents) → type_of (with_birth s contents) (next_name s) ≡ Some (type_of_contents contents)
  newborn_type contents = ap (option_map (λ (o : HeapObject). type_of_contents o.contents)) (newborn_is_there contents)

  pub newborn_monitor : (contents : Contents) → IsSome (monitor_of (with_birth s contents) (next_name s))
  newborn_monitor contents = subst (λ (x : Option HeapObject). IsSome (option_map (λ (o : HeapObject). o.monitor) x)) (sym (newborn_is_there contents)) refl

  pub newborn_has_type : (contents : Contents) (t : DeclaredType) → IsTrue (is_assignable tree (type_of_contents contents) t) → HasType tree (with_birth s contents) (Reference (next_name s)) t
  newborn_has_type contents t fits = record { own = type_of_contents contents; is = newborn_type contents; fits = fits; monitor = newborn_monitor contents }

  -- it is of its own type
  pub newborn_has_own_type : IsLegal tree → (contents : Contents) → HasType tree (with_birth s contents) (Reference (next_name s)) (type_of_contents contents)
  newborn_has_own_type legal contents = newborn_has_type contents (type_of_contents contents) (test_is_complete tree legal (type_of_contents contents) (type_of_contents contents) to_itself)

  -- ---- contents at first

  -- a new object of a class that has objects
  pub new_instance_typed : (c : ClassName) → IsTrue (has_objects tree c) → is_interface tree c ≢ true → IsTypedContents tree s (new_instance tree c)
  new_instance_typed c has no_interface = (has, no_interface, zeroed_typed tree s (instance_fields tree c))

  -- a new array
  pub new_elements_typed : (t : DeclaredType) (n : ℕ) → IsTypedContents tree s (Array t (replicate n (zero_of t)))
  new_elements_typed t zero = tt
  new_elements_typed t (suc n) = (zero_typed tree s t, new_elements_typed t n)

-- ---- a value in place of another of its type

module _ (tree : Tree) (legal : IsLegal tree) (s : State) where
  -- ---- lists of values

  pub element_typed : (t : DeclaredType) (vs : List Value) (n : ℕ) (v : Value) → AllHaveType tree s t vs → slice_get vs n ≡ Some v → HasType tree s v t
  element_typed t [] n v h e = none_is_some v e
  element_typed t (w ∷ vs) zero v h e = subst (λ x. HasType tree s x t) (same_Some w v e) h.0
  element_typed t (w ∷ vs) (suc n) v h e = element_typed t vs n v h.1 e

  set_typed : (t : DeclaredType) (vs : List Value) (n : ℕ) (v : Value) → AllHaveType tree s t vs → HasType tree s v t → AllHaveType tree s t (slice_set vs n v)
  set_typed t [] n v h k = tt
  set_typed t (w ∷ vs) zero v h k = (k, h.1)
  set_typed t (w ∷ vs) (suc n) v h k = (h.0, set_typed t vs n v h.1 k)

  replaced_element : (t : DeclaredType) (vs : List Value) (n : ℕ) (v old : Value) → AllHaveType tree s t vs → slice_get vs n ≡ Some old → HasType tree s v t → replaced_at n v vs ≡ Some (slice_set vs n v)
  replaced_element t vs n v old h there k =
      ap (λ o. same_kind_or_none o v (slice_set vs n v)) there ∙ if_true (same_kind old v) (Some (slice_set vs n v)) None (kinds_agree tree legal s old v t (element_typed t vs n old h there) k)

  -- ---- fields under their keys

  -- the value of a field is of its type
  pub entry_typed : (k : FieldKey) (t : DeclaredType) (es : List (FieldKey × Value)) (fs : List (FieldKey × DeclaredType)) → HaveFieldTypes tree s es fs → entry_at same_key k fs ≡ Some t →
      (w : Value) × (entry_at same_key k es ≡ Some w) × HasType tree s w t
  entry_typed k t [] [] h found = none_is_some t found
  entry_typed k t (e ∷ es) (f ∷ fs) h found = by_test (same_key f.0 k) (ap (λ x. same_key x k) h.0) found (entry_typed k t es fs h.2)
    where
      by_test : (b : Bool) → same_key e.0 k ≡ b → (if b then Some f.1 else entry_at same_key k fs) ≡ Some t → (entry_at same_key k fs ≡ Some t → (w : Value) × (entry_at same_key k es ≡ Some w) × HasType tree s w t) →
          (w : Value) × (entry_at same_key k (e ∷ es) ≡ Some w) × HasType tree s w t
      by_test true is here later = (e.1, if_true (same_key e.0 k) (Some e.1) (entry_at same_key k es) is, subst (λ x. HasType tree s e.1 x) (same_Some f.1 t here) h.1)
      by_test false is there later = let rest = later there in (rest.0, if_false (same_key e.0 k) (Some e.1) (entry_at same_key k es) is ∙ rest.1, rest.2)
  entry_typed k t _ _ h found = elim h [ ]

  -- fields with another value of a field's type are typed
  with_entry_typed : (k : FieldKey) (v : Value) (t : DeclaredType) (es : List (FieldKey × Value)) (fs : List (FieldKey × DeclaredType)) → HaveFieldTypes tree s es fs → entry_at same_key k fs ≡ Some t → HasType tree s v t →
      HaveFieldTypes tree s (with_entry same_key k v es) fs
  with_entry_typed k v t [] [] h found value = tt
  with_entry_typed k v t (e ∷ es) (f ∷ fs) h found value = by_test (same_key f.0 k) (ap (λ x. same_key x k) h.0) found (λ there. with_entry_typed k v t es fs h.2 there value)
    where
      by_test : (b : Bool) → same_key e.0 k ≡ b → (if b then Some f.1 else entry_at same_key k fs) ≡ Some t → (entry_at same_key k fs ≡ Some t → HaveFieldTypes tree s (with_entry same_key k v es) fs) →
          HaveFieldTypes tree s (with_entry same_key k v (e ∷ es)) (f ∷ fs)
      by_test true is here later =
          subst (λ x. HaveFieldTypes tree s x (f ∷ fs)) (sym (if_true (same_key e.0 k) ((e.0, v) ∷ es) (e ∷ with_entry same_key k v es) is)) (h.0, subst (λ x. HasType tree s v x) (sym (same_Some f.1 t here)) value, h.2)
      by_test false is there later =
          subst (λ x. HaveFieldTypes tree s x (f ∷ fs)) (sym (if_false (same_key e.0 k) ((e.0, v) ∷ es) (e ∷ with_entry same_key k v es) is)) (h.0, h.1, later there)
  with_entry_typed k v t _ _ h found value = elim h [ ]

  replaced_field : (k : FieldKey) (v : Value) (t : DeclaredType) (es : List (FieldKey × Value)) (fs : List (FieldKey × DeclaredType)) → HaveFieldTypes tree s es fs → entry_at same_key k fs ≡ Some t → HasType tree s v t →
      replaced_entry k v es ≡ Some (with_entry same_key k v es)
  replaced_field k v t es fs h found value =
      let old = entry_typed k t es fs h found in
      ap (λ o. same_kind_or_none o v (with_entry same_key k v es)) old.1 ∙ if_true (same_kind old.0 v) (Some (with_entry same_key k v es)) None (kinds_agree tree legal s old.0 v t old.2 value)

  -- ---- stores

  module _ (typed : IsTyped tree s) where
    -- the value of a static field
    pub loaded_static : (k : FieldKey) (t : DeclaredType) → entry_at same_key k (static_fields tree) ≡ Some t → (w : Value) × (entry_at same_key k s.statics ≡ Some w) × HasType tree s w t
    loaded_static k t found = entry_typed k t s.statics (static_fields tree) typed.statics found

    -- another value of a static field
    pub stored_static : (k : FieldKey) (v : Value) (t : DeclaredType) → entry_at same_key k (static_fields tree) ≡ Some t → HasType tree s v t →
        (statics : List (FieldKey × Value)) × (replaced_entry k v s.statics ≡ Some statics) × IsTyped tree (record s { statics = statics })
    stored_static k v t found value =
        let statics : List (FieldKey × Value) = with_entry same_key k v s.statics in
        let is : replaced_entry k v s.statics ≡ Some statics = replaced_field k v t s.statics (static_fields tree) typed.statics found value in
        let after : State = record s { statics = statics } in
        let follows : Follows s after = follows_statics s k v statics is in (
          statics,
          is,
          record {
            objects = objects_on tree s typed after follows;
            literals = literals_on tree s typed after follows;
            statics = fields_keep tree s after follows statics (static_fields tree) (with_entry_typed k v t s.statics (static_fields tree) typed.statics found value);
            threads = threads_on tree s typed after follows;
          },
        )

    -- what an object that is there holds is typed
    pub contents_typed : (n : ObjectName) (o : HeapObject) → object_at s n ≡ Some o → IsTypedContents tree s o.contents
    contents_typed (Born n) o there = typed.objects n o there
    contents_typed (Literal characters) o there = none_is_some o there

    -- the elements of an array are of its type
    pub array_typed : (n : ObjectName) (t : DeclaredType) (elements : List Value) → array_at s n ≡ Some (t, elements) → AllHaveType tree s t elements
    array_typed n t elements there = by_object (object_at s n) refl there
      where
        by_contents : (c : Contents) → IsTypedContents tree s c → elements_of_contents c ≡ Some (t, elements) → AllHaveType tree s t elements
        by_contents (Instance c fields) h e = none_is_some (t, elements) e
        by_contents (Array u vs) h e = subst (λ (x : DeclaredType × List Value). AllHaveType tree s x.0 x.1) (same_Some (u, vs) (t, elements) e) h

        by_object : (o : Option HeapObject) → object_at s n ≡ o → option_and_then (λ (x : HeapObject). elements_of_contents x.contents) o ≡ Some (t, elements) → AllHaveType tree s t elements
        by_object None is e = none_is_some (t, elements) e
        by_object (Some o) is e = by_contents o.contents (contents_typed n o is) e

    -- another element of an array
    pub stored_element : (n : ObjectName) (t : DeclaredType) (elements : List Value) (i : ℕ) (v old : Value) → array_at s n ≡ Some (t, elements) → slice_get elements i ≡ Some old → HasType tree s v t →
        (after : State) × (with_element s n i v ≡ Some after) × IsTyped tree after
    stored_element n t elements i v old there held value = by_object (object_at s n) refl there
      where
        by_object : (o : Option HeapObject) → object_at s n ≡ o → option_and_then (λ (x : HeapObject). elements_of_contents x.contents) o ≡ Some (t, elements) → (after : State) × (with_element s n i v ≡ Some after) × IsTyped tree after
        by_object None is e = none_is_some (t, elements) e
        by_object (Some o) is e =
            let all : AllHaveType tree s t elements = array_typed n t elements there in
            let after : State = with_object s n (record o { contents = Array t (slice_set elements i v) }) in
            let stored : with_element s n i v ≡ Some after =
            ap (option_and_then (λ (x : HeapObject). option_and_then (λ (array : DeclaredType × List Value). option_map (λ vs. with_object s n (record x { contents = Array array.0 vs })) (replaced_at i v array.1)) (elements_of_contents x.contents))) is
            ∙ ap (option_and_then (λ (array : DeclaredType × List Value). option_map (λ vs. with_object s n (record o { contents = Array array.0 vs })) (replaced_at i v array.1))) e
            ∙ ap (option_map (λ vs. with_object s n (record o { contents = Array t vs }))) (replaced_element t elements i v old all held value) in
            let follows : Follows s after = follows_element s n i v after stored in
            (after, stored, typed_object_at tree s typed n (record o { contents = Array t (slice_set elements i v) }) follows (elements_keep tree s after follows t (slice_set elements i v) (set_typed t elements i v all value)))

    module _ (n : ObjectName) (o : HeapObject) (c : ClassName) (fields : List (FieldKey × Value)) (k : FieldKey) (t : DeclaredType) (there : object_at s n ≡ Some o) (holds : o.contents ≡ Instance c fields) (found : entry_at same_key k (instance_fields tree c) ≡ Some t) where
      fields_typed : IsTypedContents tree s (Instance c fields)
      fields_typed = subst (λ x. IsTypedContents tree s x) holds (contents_typed n o there)

      -- the value of an object's field
      pub loaded_field : (w : Value) × (field_value s n k ≡ Some w) × HasType tree s w t
      loaded_field =
          let entry = entry_typed k t fields (instance_fields tree c) fields_typed.2 found in
          (entry.0, ap (option_and_then (λ (x : HeapObject). option_and_then (entry_at same_key k) (fields_of_contents x.contents))) there ∙ ap (λ x. option_and_then (entry_at same_key k) (fields_of_contents x)) holds ∙ entry.1, entry.2)

      -- another value of an object's field
      pub stored_field : (v : Value) → HasType tree s v t → (after : State) × (with_field s n k v ≡ Some after) × IsTyped tree after
      stored_field v value =
          let new : Contents = Instance c (with_entry same_key k v fields) in
          let after : State = with_object s n (record o { contents = new }) in
          let stored : with_field s n k v ≡ Some after =
          ap (option_and_then (λ (x : HeapObject). option_and_then (λ old. option_map (λ es. with_object s n (record x { contents = with_fields x.contents es })) (replaced_entry k v old)) (fields_of_contents x.contents))) there
          ∙ ap (λ x. option_and_then (λ old. option_map (λ es. with_object s n (record o { contents = with_fields x es })) (replaced_entry k v old)) (fields_of_contents x)) holds
          ∙ ap (option_map (λ es. with_object s n (record o { contents = Instance c es }))) (replaced_field k v t fields (instance_fields tree c) fields_typed.2 found value) in
          let follows : Follows s after = follows_field s n k v after stored in (
            after,
            stored,
            typed_object_at tree s typed n (record o { contents = new }) follows
                (fields_typed.0, fields_typed.1, fields_keep tree s after follows (with_entry same_key k v fields) (instance_fields tree c) (with_entry_typed k v t fields (instance_fields tree c) fields_typed.2 found value)),
          )
