-- The slot of an instance field in the objects of every class that has it.
use Rattle.std.proofs.Common.{◌≡◌, ◌+◌, ℕ, suc, Bool, true, false, IsTrue, if◌then◌else◌, List, [], ◌∷◌, ◌++◌, find, length, Option, Some, None, option_map, option_and_then, slice_get, slice_set, refl, sym, ap, ◌∙◌, subst, arith}
use Rattle.std.specs.List.{list_any, position_from}
use Rattle.std.proofs.lemmas.Option.{same_Some}
use Rattle.interpreter.specs.cil_model.declared.instructions.FieldReference.{FieldReference}
use Rattle.interpreter.specs.cil_model.declared.trees.Field.{Field}
use Rattle.interpreter.specs.cil_model.declared.trees.Tree.{Tree}
use Rattle.interpreter.specs.cil_model.declared.types.ClassName.{ClassName}
use Rattle.interpreter.specs.cil_model.declared.types.DeclaredType.{DeclaredType}
use Rattle.interpreter.specs.cil_model.Same.{same_class, same_flag}
use Rattle.interpreter.specs.cil_model.Assignable.{to_itself, type_of_class}
use Rattle.interpreter.specs.cil_model.Declarations.{Declaration, object_name}
use Rattle.interpreter.specs.cil_model.Chains.{chain_of, fields_declared, is_thread_class}
use Rattle.interpreter.specs.cil_model.Fields.{FieldKey, same_key, instance_fields, hidden_slots, instance_slot}
use Rattle.interpreter.specs.cil_model.Legality.{IsLegal}
use Rattle.interpreter.proofs.cil_model.Lists.{none_is_some}
use Rattle.interpreter.proofs.cil_model.CompleteLaws.{test_is_complete}
use Rattle.interpreter.specs.name_tables.Numbers.{declarations, field_at}
use Rattle.interpreter.specs.name_tables.declared.ids.FieldId.{FieldId}
use Rattle.interpreter.specs.reference_machine.Values.{Born, Value as StateValue}
use Rattle.interpreter.specs.reference_machine.States.{Free, Instance, HeapObject, State, entry_at, with_entry, class_of_contents}
use Rattle.interpreter.specs.reference_machine.Steps.{key_of}
use Rattle.interpreter.specs.reference_machine.TypedStates.{HasType, HaveFieldTypes}
use Rattle.interpreter.proofs.reference_machine.Programs.DeclaredFields.{HasField, field_there, found_type}
use Rattle.interpreter.proofs.reference_machine.TypedStates.StateChanges.{entry_typed}
use Rattle.simulation.proofs.ProgramSizes.ClassesAndFields.{instance_slot_small}
use Rattle.interpreter.specs.resolved_code.ById.{class_name}
use Rattle.interpreter.specs.resolved_code.ResolvedPrograms.{IsField}
use Rattle.interpreter.specs.cil_model.ValueKinds.{kind_of_type}
use Rattle.interpreter.specs.loaded_program.Operands.{small, slot_in, slot_at, field_kind_at}
use Rattle.simulation.proofs.Memory.InheritedFields.{has_key, entry_of_first, chain_of_field, among_own, no_field_of_object, fields_begin, same_thread}
use Rattle.simulation.proofs.Memory.FieldPositions.{HasPosition, has_position, position_there, type_there}
use Rattle.simulation.proofs.Instructions.StaticFields.{is_small, asked, found_in, found_flag}

-- ---- slots after a hidden one, or none

module _ (x p : ℕ) (words : List ℕ) where
  -- what the slot of a field holds
  pub slot_get : (a b : Bool) → a ≡ b → slice_get ((if a then x ∷ [] else []) ++ words) (length {A = Option DeclaredType} (if b then None ∷ [] else []) + p) ≡ slice_get words p
  slot_get true true e = let further : 1 + p ≡ suc p = omega arith in ap (slice_get (x ∷ words)) further
  slot_get false false e = let same : 0 + p ≡ p = omega arith in ap (slice_get words) same
  slot_get _ _ e = absurd cc

  -- a store there
  pub slot_set : (w : ℕ) (a b : Bool) → a ≡ b → slice_set ((if a then x ∷ [] else []) ++ words) (length {A = Option DeclaredType} (if b then None ∷ [] else []) + p) w ≡ (if a then x ∷ [] else []) ++ slice_set words p w
  slot_set w true true e = let further : 1 + p ≡ suc p = omega arith in ap (λ n. slice_set (x ∷ words) n w) further
  slot_set w false false e = let same : 0 + p ≡ p = omega arith in ap (λ n. slice_set words n w) same
  slot_set w _ _ e = absurd cc

-- the class of a resolved field has that number
class_of_field : (tree : Tree) (n p : ℕ) (d : ClassName) (g : Field) → field_at tree (n, p) ≡ Some (d, g) → class_name tree n ≡ Some d
class_of_field tree n p d g is = by_entry (slice_get (declarations tree) n) is
  where
    by_field : (c : ClassName) (x : Option Field) → option_map {U = ClassName × Field} (λ y. (c, y)) x ≡ Some (d, g) → c ≡ d
    by_field c None e = none_is_some (d, g) e
    by_field c (Some y) e = ap (λ (z : ClassName × Field). z.0) (same_Some (c, y) (d, g) e)

    by_entry : (x : Option (ClassName × Declaration)) → option_and_then {U = ClassName × Field} (λ (y : ClassName × Declaration). option_map (λ z. (y.0, z)) (slice_get y.1.fields p)) x ≡ Some (d, g) → option_map (λ (y : ClassName × Declaration). y.0) x ≡ Some d
    by_entry None e = none_is_some (d, g) e
    by_entry (Some y) e = ap Some (by_field y.0 (slice_get y.1.fields p) e)

module _ (tree : Tree) (legal : IsLegal tree) (r : FieldReference) (field : FieldId) (is : IsField tree false r field) where
  abbrev pub key : FieldKey
  key = key_of (is.declared_in, is.found)

  -- the look-up finds the field in its class, which is in the chain of the owner
  found : (find (asked false r) (fields_declared tree is.declared_in) ≡ Some is.found) × IsTrue (list_any (same_class is.declared_in) (chain_of tree r.owner))
  found = found_in tree false r is.declared_in is.found is.finds

  -- it is an instance field
  no_static : is.found.is_static ≡ false
  no_static = found_flag tree false r is.declared_in is.found is.finds

  -- the class that declares it isn't System.Object
  no_object : is.declared_in ≡ object_name → ⊥
  no_object = no_field_of_object tree is.declared_in (asked false r) is.found found.0

  -- its key is among those of the class
  among : IsTrue (list_any (has_key key) (instance_fields tree is.declared_in))
  among = among_own tree is.declared_in (asked false r) is.found found.0 (subst (λ b. IsTrue (same_flag b false)) (sym no_static) refl)

  -- the index of its key
  pub position : (p : ℕ) × ((i : ℕ) → position_from (has_key key) i (instance_fields tree is.declared_in) ≡ Some (i + p))
  position = position_there key (instance_fields tree is.declared_in) among

  -- ---- its number and its kind

  -- the slot: after the hidden one
  abbrev pub slot : ℕ
  slot = length (hidden_slots tree is.declared_in) + position.0

  -- it is the one that the machine computes
  pub slot_is : slot_at tree field ≡ Some slot
  slot_is =
      let instance_is : instance_slot tree key ≡ Some slot = position.1 (length (hidden_slots tree is.declared_in)) in
      ap (option_and_then (slot_in tree)) is.has_id ∙ ap (λ b. if b then None else option_and_then small (instance_slot tree key)) no_static ∙ ap (option_and_then small) instance_is ∙
      is_small slot (instance_slot_small tree legal key slot field.class (class_of_field tree field.class field.index is.declared_in is.found is.has_id) instance_is)

  -- so is the kind of what it holds
  pub held_is : field_kind_at tree field ≡ Some (kind_of_type is.found.field_type)
  held_is = ap (option_map (λ (x : ClassName × Field). kind_of_type x.1.field_type)) is.has_id

  -- ---- its type

  -- a state with one object of the owner
  abbrev alone : State
  alone = record { objects = record { contents = Instance r.owner []; monitor = Free; thread = None } ∷ []; literal_monitors = []; statics = []; threads = []; printed = [] }

  -- its only object has the field
  of_owner : HasField tree alone (Born 0) key r.field_type
  of_owner = field_there tree legal alone r is.declared_in is.found is.finds (Born 0) (record { own = type_of_class r.owner; is = refl; fits = test_is_complete tree legal (type_of_class r.owner) (type_of_class r.owner) to_itself; monitor = refl })

  -- and is of the owner
  owner_is : of_owner.class_name ≡ r.owner
  owner_is =
      let contents : Instance of_owner.class_name of_owner.fields ≡ Instance r.owner [] = sym of_owner.holds ∙ ap (λ (x : HeapObject). x.contents) (sym (same_Some (record { contents = Instance r.owner []; monitor = Free; thread = None }) of_owner.object of_owner.there)) in
      same_Some of_owner.class_name r.owner (ap class_of_contents contents)

  -- the entry of the class that declares the field
  own_entry : entry_at same_key key (instance_fields tree is.declared_in) ≡ Some r.field_type
  own_entry =
      let begins = fields_begin tree legal r.owner is.declared_in found.1 in
      sym (entry_of_first key (instance_fields tree is.declared_in) begins.0 among) ∙ ap (entry_at same_key key) (sym begins.1) ∙ ap (λ c. entry_at same_key key (instance_fields tree c)) (sym owner_is) ∙ of_owner.entry

  -- ---- in an object of a class that has it

  pub record IsFieldAt (s : State) (c : ClassName) (fields : List (FieldKey × StateValue)) (v : StateValue) : Type 0 where
    pub hidden : is_thread_class tree c ≡ is_thread_class tree is.declared_in
    pub entry : FieldKey × StateValue
    pub there : slice_get fields position.0 ≡ Some entry
    pub value_is : entry.1 ≡ v
    pub changed : (u : StateValue) → with_entry same_key key u fields ≡ slice_set fields position.0 (entry.0, u)
    pub typed : HasType tree s v is.found.field_type

  -- a field of an object that has it is at its index, with a value of its type
  pub field_at_slot : (s : State) (c : ClassName) (fields : List (FieldKey × StateValue)) (v : StateValue) → HaveFieldTypes tree s fields (instance_fields tree c) → entry_at same_key key fields ≡ Some v → IsFieldAt s c fields v
  field_at_slot s c fields v typed value =
      let own = type_there tree s key v fields (instance_fields tree c) typed value in
      let inside : IsTrue (list_any (same_class is.declared_in) (chain_of tree c)) = chain_of_field tree key own.0 c own.1 in
      let begins = fields_begin tree legal c is.declared_in inside in
      let field_index : HasPosition key (instance_fields tree is.declared_in) fields = has_position tree s key (instance_fields tree is.declared_in) begins.0 fields (subst (λ fs. HaveFieldTypes tree s fields fs) begins.1 typed) among in
      let numbers : 0 + field_index.index ≡ 0 + position.0 = same_Some (0 + field_index.index) (0 + position.0) (sym (field_index.position 0) ∙ position.1 0) in
      let same : field_index.index ≡ position.0 = omega (arith, numbers) in
      let type_is : entry_at same_key key (instance_fields tree c) ≡ Some r.field_type = ap (entry_at same_key key) begins.1 ∙ entry_of_first key (instance_fields tree is.declared_in) begins.0 among ∙ own_entry in
      let loaded = entry_typed tree legal s key r.field_type fields (instance_fields tree c) typed type_is in
      let same_value : loaded.0 ≡ v = same_Some loaded.0 v (sym loaded.1 ∙ value) in
      let same_type : r.field_type ≡ is.found.field_type = sym (found_type tree legal false r is.declared_in is.found is.finds) in
      record {
        hidden = same_thread tree legal c is.declared_in inside no_object;
        entry = field_index.entry;
        there = subst (λ p. slice_get fields p ≡ Some field_index.entry) same field_index.there;
        value_is = same_Some field_index.entry.1 v (sym field_index.found ∙ value);
        changed = λ u. subst (λ p. with_entry same_key key u fields ≡ slice_set fields p (field_index.entry.0, u)) same (field_index.changed u);
        typed = subst (λ x. HasType tree s v x) same_type (subst (λ x. HasType tree s x r.field_type) same_value loaded.2);
      }
