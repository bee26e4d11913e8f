-- Loads and stores of instance fields do the same on both machines.
use Rattle.std.proofs.Common.{◌≡◌, ◌≤◌, ◌+◌, ℕ, Bool, true, false, if◌then◌else◌, List, ◌∷◌, length, Option, Some, None, option_map, option_and_then, slice_get, slice_set, refl, sym, ap, ◌∙◌, subst}
use Rattle.std.proofs.lemmas.Option.{same_Some}
use Rattle.interpreter.specs.cil_model.declared.instructions.Instruction.{Instruction}
use Rattle.interpreter.specs.cil_model.declared.instructions.Instruction.TheVariants as Named
use Rattle.interpreter.specs.cil_model.declared.instructions.FieldReference.{FieldReference}
use Rattle.interpreter.specs.cil_model.declared.reports.Fault.TheVariants.{NullReference}
use Rattle.interpreter.specs.cil_model.declared.types.ClassName.{ClassName}
use Rattle.interpreter.specs.cil_model.Chains.{find_field, is_thread_class}
use Rattle.interpreter.specs.cil_model.Fields.{FieldKey, same_key}
use Rattle.interpreter.specs.name_tables.declared.ids.FieldId.{FieldId}
use Rattle.interpreter.specs.reference_machine.Values.{ObjectName, Value as StateValue, same_kind}
use Rattle.interpreter.specs.reference_machine.States.{Contents, Instance as IsInstance, Array as IsArray, HeapObject, Frame as StateFrame, State, entry_at, with_entry, same_kind_or_none, replaced_entry, object_at, with_object, fields_of_contents, with_fields, field_value, with_field}
use Rattle.interpreter.specs.reference_machine.Effects.{StepContext, when_some as state_given, not_null, onward as onward_frame}
use Rattle.interpreter.specs.reference_machine.Steps.{execute, key_of, next}
use Rattle.interpreter.specs.reference_machine.TypedStates.{IsTypedContents}
use Rattle.interpreter.proofs.reference_machine.TypedStates.StateChanges.{contents_typed}
use Rattle.interpreter.specs.resolved_code.ById.{class_name}
use Rattle.interpreter.specs.resolved_code.ResolvedPrograms.{IsField}
use Rattle.interpreter.specs.resolved_code.declared.operations.Operation.{Operation}
use Rattle.interpreter.specs.resolved_code.declared.operations.Operation.TheVariants as Resolved
use Rattle.interpreter.specs.object_memory.declared.addresses.Addr.{Addr}
use Rattle.interpreter.specs.object_memory.declared.kinds.Kind.TheVariants.{Instance}
use Rattle.interpreter.specs.object_memory.declared.values.Value.{Value}
use Rattle.collector.specs.References.{holds_reference, is_reference_value}
use Rattle.interpreter.specs.cil_model.declared.values.ValueKind.{ValueKind}
use Rattle.interpreter.specs.object_memory.Cells.{store_slot as with_cell_slot}
use Rattle.interpreter.specs.object_memory.Objects.{Objects}
use Rattle.interpreter.specs.object_memory.Values.{value_word}
use Rattle.interpreter.specs.threads_monitors.Frames.{Frames, with_stack}
use Rattle.interpreter.specs.cil_model.ValueKinds.{kind_of_type}
use Rattle.interpreter.specs.instructions.ObjectTransitions.{object_of, load_slot, store_slot, load_field_transition, store_field_transition}
use Rattle.interpreter.specs.loaded_program.declared.instructions.LinkedInstruction.TheVariants as Linked
use Rattle.interpreter.specs.Instructions.{operation_transition, of_objects}
use Rattle.interpreter.proofs.LinkedTransitions.{link_does}
use Rattle.interpreter.specs.loaded_program.Operands.{field_kind_at}
use Rattle.simulation.specs.Agreement.{Agree}
use Rattle.simulation.specs.Refines.{Names, IsValue, IsWord, thread_word, IsInstanceCell, IsOfContents, IsCell}
use Rattle.simulation.proofs.ListLaws.AgreeingLists.{agree_get, agree_set}
use Rattle.simulation.proofs.Instructions.Correspondence.{IsSetting, DoesAlike}
use Rattle.simulation.proofs.Instructions.StackOperands.{fine, one_operand, two_operands}
use Rattle.simulation.proofs.Memory.ReferenceSlots.{IsLinked, field_linked, is_reference_kind, is_reference_state, same_hidden, same_kinds, slot_says, value_says, word_value, kind_fits, kind_of_state}
use Rattle.simulation.proofs.Memory.ObjectsAtAddresses.{IsInstanceThere, instance_there, there_is_linked}
use Rattle.simulation.proofs.Instructions.ObjectInstructionParts.{alike_transition, given_alike, known_alike, loaded_alike, replaced_alike, object_alike}
use Rattle.simulation.proofs.Memory.FieldSlots.{slot_get, slot_set, position, slot, slot_is, held_is, IsFieldAt, field_at_slot}
use Rattle.interpreter.proofs.cil_model.Lists.{none_is_some}
use Rattle.simulation.proofs.Memory.MemoryModels.{MemoryModel, mutator_in}

-- ---- what the reference machine finds

-- an object of a class with a value under the key
pub record IsFieldOf (s : State) (n : ObjectName) (k : FieldKey) (v : StateValue) : Type 0 where
  pub object : HeapObject
  pub class : ClassName
  pub fields : List (FieldKey × StateValue)
  pub there : object_at s n ≡ Some object
  pub holds : object.contents ≡ IsInstance class fields
  pub found : entry_at same_key k fields ≡ Some v

-- a value that is found is of such an object
field_of : (s : State) (n : ObjectName) (k : FieldKey) (v : StateValue) → field_value s n k ≡ Some v → IsFieldOf s n k v
field_of s n k v is = by_object (object_at s n) refl is
  where
    by_contents : (object : HeapObject) → object_at s n ≡ Some object → (c : Contents) → object.contents ≡ c → option_and_then (entry_at same_key k) (fields_of_contents c) ≡ Some v → IsFieldOf s n k v
    by_contents object there (IsInstance c fields) holds e = record { object = object; class = c; fields = fields; there = there; holds = holds; found = e }
    by_contents object there (IsArray t elements) holds e = none_is_some v e

    by_object : (x : Option HeapObject) → object_at s n ≡ x → option_and_then (λ (o : HeapObject). option_and_then (entry_at same_key k) (fields_of_contents o.contents)) x ≡ Some v → IsFieldOf s n k v
    by_object None there e = none_is_some v e
    by_object (Some object) there e = by_contents object there object.contents refl e

-- the state after a store
pub record IsStored (s : State) (n : ObjectName) (k : FieldKey) (v : StateValue) (s' : State) : Type 0 where
  pub old : StateValue
  pub field : IsFieldOf s n k old
  pub kinds : same_kind old v ≡ true
  pub is : s' ≡ with_object s n (record field.object { contents = IsInstance field.class (with_entry same_key k v field.fields) })

-- a store that is done changes such an object
stored_in : (s : State) (n : ObjectName) (k : FieldKey) (v : StateValue) (s' : State) → with_field s n k v ≡ Some s' → IsStored s n k v s'
stored_in s n k v s' is = by_object (object_at s n) refl is
  where
    by_kind : (object : HeapObject) → object_at s n ≡ Some object → (c : ClassName) (fields : List (FieldKey × StateValue)) → object.contents ≡ IsInstance c fields → (old : StateValue) → entry_at same_key k fields ≡ Some old → (b : Bool) → same_kind old v ≡ b →
        option_map (λ fs. with_object s n (record object { contents = IsInstance c fs })) (if b then Some (with_entry same_key k v fields) else None) ≡ Some s' → IsStored s n k v s'
    by_kind object there c fields holds old found true kinds e = record {
      old = old;
      kinds = kinds;
      field = record { object = object; class = c; fields = fields; there = there; holds = holds; found = found };
      is = sym (same_Some (with_object s n (record object { contents = IsInstance c (with_entry same_key k v fields) })) s' e);
    }
    by_kind object there c fields holds old found false kinds e = none_is_some s' e

    by_old : (object : HeapObject) → object_at s n ≡ Some object → (c : ClassName) (fields : List (FieldKey × StateValue)) → object.contents ≡ IsInstance c fields → (old : Option StateValue) → entry_at same_key k fields ≡ old →
        option_map (λ fs. with_object s n (record object { contents = IsInstance c fs })) (same_kind_or_none old v (with_entry same_key k v fields)) ≡ Some s' → IsStored s n k v s'
    by_old object there c fields holds None found e = none_is_some s' e
    by_old object there c fields holds (Some old) found e = by_kind object there c fields holds old found (same_kind old v) refl e

    by_contents : (object : HeapObject) → object_at s n ≡ Some object → (c : Contents) → object.contents ≡ c →
        option_and_then (λ fields. option_map (λ fs. with_object s n (record object { contents = with_fields c fs })) (replaced_entry k v fields)) (fields_of_contents c) ≡ Some s' → IsStored s n k v s'
    by_contents object there (IsInstance c fields) holds e = by_old object there c fields holds (entry_at same_key k fields) refl e
    by_contents object there (IsArray t elements) holds e = none_is_some s' e

    by_object : (x : Option HeapObject) → object_at s n ≡ x →
        option_and_then (λ (o : HeapObject). option_and_then (λ fields. option_map (λ fs. with_object s n (record o { contents = with_fields o.contents fs })) (replaced_entry k v fields)) (fields_of_contents o.contents)) x ≡ Some s' → IsStored s n k v s'
    by_object None there e = none_is_some s' e
    by_object (Some object) there e = by_contents object there object.contents refl e

module _ (here : StepContext) (model : MemoryModel here.tree) (name : Names) (m : Frames) (o : Objects) (statics : List Value) (printed : List ℕ) (s : State) (f : StateFrame) (below : List StateFrame) where
  module _ (i : Instruction) (operation : Operation) (at : IsSetting here model name m o statics printed s f below i operation) (r : FieldReference) (field : FieldId) (is : IsField here.tree false r field) where
    abbrev own_key : FieldKey
    own_key = key_of (is.declared_in, is.found)

    -- its slot, and its index among the fields
    abbrev own_slot : ℕ
    own_slot = slot here.tree at.running.accepted.legal r field is

    abbrev own_index : ℕ
    own_index = (position here.tree at.running.accepted.legal r field is).0

    -- ---- a field that is there

    module _ (a : Addr) (n : ObjectName) (named : name a.number ≡ Some n) (v : StateValue) (own : IsFieldOf s n own_key v) where
      thing : IsInstanceThere here.tree name o s (model.reads name o statics s at.memory.fits at.running.typed) a n own.class own.fields own.object
      thing = instance_there here.tree name o s (model.reads name o statics s at.memory.fits at.running.typed) a n own.class own.fields own.object named own.there own.holds

      -- the field is at its index
      at_slot : IsFieldAt here.tree at.running.accepted.legal r field is s own.class own.fields v
      at_slot =
          let contents : IsTypedContents here.tree s (IsInstance own.class own.fields) = subst (λ c. IsTypedContents here.tree s c) own.holds (contents_typed here.tree at.running.accepted.legal s at.running.typed n own.object own.there) in
          field_at_slot here.tree at.running.accepted.legal r field is s own.class own.fields v contents.2 own.found

      -- a word holds the value of a field
      abbrev HoldsField : ℕ → FieldKey × StateValue → Type 0
      HoldsField w x = IsWord name w x.1

      -- a word holds its value
      word : (w : ℕ) × (slice_get thing.contents.words own_index ≡ Some w) × IsWord name w at_slot.entry.1
      word = agree_get HoldsField thing.contents.words own.fields thing.contents.values own_index at_slot.entry at_slot.there

      -- the word is in its slot
      word_there : slice_get thing.thing.cell.slots own_slot ≡ Some word.0
      word_there =
          ap (λ l. slice_get l own_slot) thing.contents.slots_are ∙
          slot_get (thread_word own.object.thread) own_index thing.contents.words (is_thread_class here.tree own.class) (is_thread_class here.tree is.declared_in) at_slot.hidden ∙ word.1

      -- it is loaded
      field_loaded : (rest : List Value) (rest' : List StateValue) → Agree (IsValue name) rest rest' → length rest ≤ length m.running.stack →
          DoesAlike here model name m o statics printed s f below (of_objects o statics printed (load_slot (kind_of_type is.found.field_type) own_slot a (with_stack m rest) o)) (next here s f below (v ∷ rest'))
      field_loaded rest rest' k shorter =
          let kind : ValueKind = kind_of_type is.found.field_type in
          let holds : IsWord name word.0 v = subst (λ x. IsWord name word.0 x) at_slot.value_is word.2 in
          loaded_alike here model name m o statics printed s f below i operation at a thing.thing.cell thing.thing.lies own_slot word.0 word_there kind v
          (word_value name (model.reads name o statics s at.memory.fits at.running.typed).small word.0 v kind holds (kind_fits here.tree at.running.accepted.legal s v is.found.field_type at_slot.typed)) rest rest' k shorter

      -- another value is stored
      module _ (w : Value) (u : StateValue) (refines : IsValue name w u) where
        abbrev changed_fields : List (FieldKey × StateValue)
        changed_fields = with_entry same_key own_key u own.fields

        abbrev object_after : HeapObject
        object_after = record own.object { contents = IsInstance own.class changed_fields }

        cell_after : IsInstanceCell here.tree name thing.kind (slice_set thing.thing.cell.slots own_slot (value_word w)) own.class changed_fields own.object.thread
        cell_after = record {
          class_is = thing.contents.class_is;
          words = slice_set thing.contents.words own_index (value_word w);
          slots_are = ap (λ l. slice_set l own_slot (value_word w)) thing.contents.slots_are ∙
              slot_set (thread_word own.object.thread) own_index thing.contents.words (value_word w) (is_thread_class here.tree own.class) (is_thread_class here.tree is.declared_in) at_slot.hidden;
          values = subst (λ fs. Agree HoldsField (slice_set thing.contents.words own_index (value_word w)) fs) (sym (at_slot.changed u))
              (agree_set HoldsField thing.contents.words own.fields thing.contents.values own_index (value_word w) (at_slot.entry.0, u) (record { value = w; refines = refines; is = refl }));
        }

        occurs_after : IsCell here.tree name (with_cell_slot own_slot (value_word w) thing.thing.cell) object_after
        occurs_after = record {
          contents = subst (λ k. IsOfContents here.tree name k (slice_set thing.thing.cell.slots own_slot (value_word w)) (IsInstance own.class changed_fields) own.object.thread) (sym thing.kind_is) cell_after;
          monitor = thing.thing.refines.monitor;
        }

        -- the slot is of the sort of what was there, and so of what comes
        own_sort : same_kind v u ≡ true → is_reference_value w ≡ holds_reference here.tree thing.thing.cell.kind own_slot
        own_sort kinds =
            let contents : IsTypedContents here.tree s (IsInstance own.class own.fields) = subst (λ c. IsTypedContents here.tree s c) own.holds (contents_typed here.tree at.running.accepted.legal s at.running.typed n own.object own.there) in
            let says = slot_says here.tree at.running.accepted.legal s own.class thing.kind thing.contents.class_is own.fields contents.2 own_index at_slot.entry at_slot.there in
            value_says name w u refines ∙ sym (same_kinds v u kinds) ∙ ap (λ x. is_reference_kind (kind_of_state x)) (sym at_slot.value_is) ∙ sym says ∙
            ap (λ h. holds_reference here.tree (Instance thing.kind) (h + own_index)) (same_hidden here.tree own.class is.declared_in at_slot.hidden) ∙
            ap (λ k. holds_reference here.tree k own_slot) (sym thing.kind_is)

        -- and so are all
        linked : same_kind v u ≡ true → IsLinked here.tree thing.thing.cell.kind (IsInstance own.class changed_fields)
        linked kinds =
            subst (λ fs. IsLinked here.tree thing.thing.cell.kind (IsInstance own.class fs)) (sym (at_slot.changed u))
            (field_linked here.tree thing.thing.cell.kind own.class own.fields own_index at_slot.entry (at_slot.entry.0, u) at_slot.there (ap is_reference_state at_slot.value_is ∙ same_kinds v u kinds)
            (subst (IsLinked here.tree thing.thing.cell.kind) own.holds (there_is_linked here.tree name o s (model.reads name o statics s at.memory.fits at.running.typed) at.running.accepted.legal at.running.typed a n own.object thing.thing)))

        field_stored : same_kind v u ≡ true → (rest : List Value) (rest' : List StateValue) → Agree (IsValue name) rest rest' →
            DoesAlike here model name m o statics printed s f below (of_objects o statics printed (store_slot model.phase w own_slot a (with_stack m rest) o)) (onward_frame f below (with_object s n object_after) rest')
        field_stored kinds rest rest' k =
            subst (λ x. DoesAlike here model name m o statics printed s f below (of_objects o statics printed (store_slot model.phase w own_slot a (with_stack m rest) o)) (onward_frame f below (with_object s x object_after) rest')) (sym thing.thing.name_is)
            (replaced_alike here model name m o statics printed s f below i operation at a thing.thing.cell thing.thing.lies own_slot word.0 word_there thing.thing.number (named ∙ ap Some thing.thing.name_is) w u refines (own_sort kinds) object_after (linked kinds) occurs_after rest rest' k)

  -- ---- ldfld

  module _ (r : FieldReference) (owner : ℕ) (field : FieldId) (named : class_name here.tree owner ≡ Some r.owner) (finds : IsField here.tree false r field) (at : IsSetting here model name m o statics printed s f below (Named.LoadField r) (Resolved.LoadField owner field)) where
    -- the whole instruction
    pub load_field_alike : DoesAlike here model name m o statics printed s f below (operation_transition here.tree (mutator_in here model) (Resolved.LoadField owner field) m o statics printed) (execute here s f below (Named.LoadField r))
    load_field_alike =
        let slot_there = slot_is here.tree at.running.accepted.legal r field finds in
        let kind_there = held_is here.tree at.running.accepted.legal r field finds in
        let kind : ValueKind = kind_of_type finds.found.field_type in
        let number : ℕ = slot here.tree at.running.accepted.legal r field finds in
        alike_transition here model name m o statics printed s f below (Named.LoadField r) (Resolved.LoadField owner field) at _ (of_objects o statics printed (load_field_transition kind number m o)) _
        (link_does here.tree (mutator_in here model) m o statics printed (Resolved.LoadField owner field) (Linked.LoadField number kind)
        (ap (option_and_then (λ n. option_map (λ k. Linked.LoadField n k) (field_kind_at here.tree field))) slot_there ∙ ap (option_map (λ k. Linked.LoadField number k)) kind_there))
        (one_operand here model name m o statics printed s f below (Named.LoadField r) (Resolved.LoadField owner field) at (of_objects o statics printed)
        (λ object k. object_of object k o (λ a. load_slot kind number a k o))
        (λ object rest. state_given (find_field here.tree false r) (λ found. not_null object NullReference (λ n. state_given (field_value s n (key_of found)) (λ v. next here s f below (v ∷ rest)))))
        (fine here model name m o statics printed s f below (Named.LoadField r) (Resolved.LoadField owner field) at)
        (λ v rest u rest' is' is'' refines k shorter typed.
        known_alike here model name m o statics printed s f below (Named.LoadField r) (Resolved.LoadField owner field) at _ (find_field here.tree false r) (finds.declared_in, finds.found) finds.finds _ typed (λ typed'.
        object_alike here model name m o statics printed s f below (Named.LoadField r) (Resolved.LoadField owner field) at v u refines (with_stack m rest) _ _ typed' (λ a n here_named typed''.
        given_alike here model name m o statics printed s f below (Named.LoadField r) (Resolved.LoadField owner field) at _ (field_value s n (key_of (finds.declared_in, finds.found))) _ typed'' (λ value found typed'''.
        field_loaded (Named.LoadField r) (Resolved.LoadField owner field) at r field finds a n here_named value (field_of s n (key_of (finds.declared_in, finds.found)) value found) rest rest' k shorter)))))

  -- ---- stfld

  module _ (r : FieldReference) (owner : ℕ) (field : FieldId) (named : class_name here.tree owner ≡ Some r.owner) (finds : IsField here.tree false r field) (at : IsSetting here model name m o statics printed s f below (Named.StoreField r) (Resolved.StoreField owner field)) where
    -- a store that is done
    store_done : (a : Addr) (n : ObjectName) → name a.number ≡ Some n → (w : Value) (u : StateValue) → IsValue name w u → (s' : State) → IsStored s n (key_of (finds.declared_in, finds.found)) u s' → (rest : List Value) (rest' : List StateValue) → Agree (IsValue name) rest rest' →
        DoesAlike here model name m o statics printed s f below (of_objects o statics printed (store_slot model.phase w (slot here.tree at.running.accepted.legal r field finds) a (with_stack m rest) o)) (onward_frame f below s' rest')
    store_done a n here_named w u refines s' stored rest rest' k =
        subst (λ x. DoesAlike here model name m o statics printed s f below (of_objects o statics printed (store_slot model.phase w (slot here.tree at.running.accepted.legal r field finds) a (with_stack m rest) o)) (onward_frame f below x rest')) (sym stored.is)
        (field_stored (Named.StoreField r) (Resolved.StoreField owner field) at r field finds a n here_named stored.old stored.field w u refines stored.kinds rest rest' k)

    -- the whole instruction
    pub store_field_alike : DoesAlike here model name m o statics printed s f below (operation_transition here.tree (mutator_in here model) (Resolved.StoreField owner field) m o statics printed) (execute here s f below (Named.StoreField r))
    store_field_alike =
        let slot_there = slot_is here.tree at.running.accepted.legal r field finds in
        let number : ℕ = slot here.tree at.running.accepted.legal r field finds in
        alike_transition here model name m o statics printed s f below (Named.StoreField r) (Resolved.StoreField owner field) at _ (of_objects o statics printed (store_field_transition model.phase number m o)) _
        (link_does here.tree (mutator_in here model) m o statics printed (Resolved.StoreField owner field) (Linked.StoreField number) (ap (option_map (λ n. Linked.StoreField n)) slot_there))
        (two_operands here model name m o statics printed s f below (Named.StoreField r) (Resolved.StoreField owner field) at (of_objects o statics printed)
        (λ object v k. object_of object k o (λ a. store_slot model.phase v number a k o))
        (λ object v rest. state_given (find_field here.tree false r) (λ found. not_null object NullReference (λ n. state_given (with_field s n (key_of found) v) (λ s'. onward_frame f below s' rest))))
        (fine here model name m o statics printed s f below (Named.StoreField r) (Resolved.StoreField owner field) at)
        (λ v w rest u x rest' is' is'' refines refines' k shorter typed.
        known_alike here model name m o statics printed s f below (Named.StoreField r) (Resolved.StoreField owner field) at _ (find_field here.tree false r) (finds.declared_in, finds.found) finds.finds _ typed (λ typed'.
        object_alike here model name m o statics printed s f below (Named.StoreField r) (Resolved.StoreField owner field) at v u refines (with_stack m rest) _ _ typed' (λ a n here_named typed''.
        given_alike here model name m o statics printed s f below (Named.StoreField r) (Resolved.StoreField owner field) at _ (with_field s n (key_of (finds.declared_in, finds.found)) x) _ typed'' (λ s' stored typed'''.
        store_done a n here_named w x refines' s' (stored_in s n (key_of (finds.declared_in, finds.found)) x s' stored) rest rest' k)))))
