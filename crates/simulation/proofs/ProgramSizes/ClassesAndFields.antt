-- The classes of a legal tree have small numbers and few fields.
use Rattle.std.proofs.Common.{◌≡◌, ◌≤◌, ◌<◌, ◌^◌, ℕ, Bool, true, false, nat_le, if◌then◌else◌, IsTrue, [], ◌∷◌, length, map, Option, Some, None, option_map, slice_get, refl, ap, ◌∙◌, length-append, arith}
use Rattle.std.specs.List.{list_all}
use Rattle.std.proofs.lemmas.Bool.{leb-true}
use Rattle.std.proofs.lemmas.List.{length-map}
use Rattle.std.proofs.lemmas.List.Folds.{list_all-map}
use Rattle.std.proofs.lemmas.Option.{slice_get_within, same_Some}
use Rattle.interpreter.specs.cil_model.declared.types.ClassName.{ClassName}
use Rattle.interpreter.specs.cil_model.declared.types.DeclaredType.{DeclaredType}
use Rattle.interpreter.specs.cil_model.declared.trees.Tree.{Tree}
use Rattle.interpreter.specs.cil_model.declared.trees.Class.{Class}
use Rattle.interpreter.specs.cil_model.declared.limits.TheConstants.{MOST_INSTANCE_FIELDS}
use Rattle.interpreter.specs.cil_model.Declarations.{Declaration}
use Rattle.interpreter.specs.cil_model.Chains.{is_thread_class}
use Rattle.interpreter.specs.cil_model.Fields.{FieldKey, same_key, instance_fields, static_fields, hidden_slots, slot_types, instance_slot, static_slot}
use Rattle.interpreter.specs.cil_model.Legality.{IsLegal, is_small_class}
use Rattle.interpreter.proofs.cil_model.Lists.{none_is_some}
use Rattle.interpreter.proofs.cil_model.SameLaws.{both_first}
use Rattle.interpreter.specs.name_tables.Numbers.{declarations, source_entry}
use Rattle.interpreter.specs.resolved_code.ById.{class_name}
use Rattle.simulation.proofs.ListLaws.TestsAndLengths.{item_passes, all_weaker, found_within}
use Rattle.resolved_code.proofs.LegalPrograms.Limits.{source_classes_few, static_fields_few, source_classes_small}

module _ (tree : Tree) (legal : IsLegal tree) where
  -- the entry of a class with this number
  entry_of : (n : ℕ) (c : ClassName) → class_name tree n ≡ Some c → (d : Declaration) × (slice_get (declarations tree) n ≡ Some (c, d))
  entry_of n c named = by_entry (slice_get (declarations tree) n) refl named
    where
      by_entry : (o : Option (ClassName × Declaration)) → slice_get (declarations tree) n ≡ o → option_map (λ (e : ClassName × Declaration). e.0) o ≡ Some c → (d : Declaration) × (slice_get (declarations tree) n ≡ Some (c, d))
      by_entry None at e = none_is_some c e
      by_entry (Some (k, d)) at e = (d, at ∙ ap (λ z. Some (z, d)) (same_Some k c e))

  -- the number of a class has 16 bits
  pub class_number_small : (n : ℕ) (c : ClassName) → class_name tree n ≡ Some c → n < 2 ^ 16
  class_number_small n c named =
      let entry = entry_of n c named in
      omega (arith, slice_get_within (declarations tree) n (c, entry.0) entry.1, length-map tree.classes source_entry, source_classes_few tree legal)

  -- ---- instance fields

  -- the objects of the entry's class have few fields
  abbrev has_few_fields : ClassName × Declaration → Bool
  has_few_fields e = nat_le (length (instance_fields tree e.0)) MOST_INSTANCE_FIELDS

  -- an object has few fields
  fields_few : (n : ℕ) (c : ClassName) → class_name tree n ≡ Some c → length (instance_fields tree c) ≤ MOST_INSTANCE_FIELDS
  fields_few n c named =
      let entry = entry_of n c named in
      let of_source : IsTrue (list_all has_few_fields (map source_entry tree.classes)) =
      list_all-map has_few_fields source_entry tree.classes ∙ all_weaker (is_small_class tree) (λ (x : Class). has_few_fields (source_entry x)) (λ x small. both_first _ _ small) tree.classes (source_classes_small tree legal) in
      leb-true _ _ (item_passes has_few_fields (declarations tree) n (c, entry.0) of_source entry.1)

  -- there is one hidden slot, or none
  hidden_few : (c : ClassName) → length (hidden_slots tree c) ≤ 1
  hidden_few c = by_flag (is_thread_class tree c)
    where
      by_flag : (b : Bool) → length {A = Option DeclaredType} (if b then None ∷ [] else []) ≤ 1
      by_flag true = omega arith
      by_flag false = omega arith

  -- an object has few slots
  pub slots_few : (n : ℕ) (c : ClassName) → class_name tree n ≡ Some c → length (slot_types tree c) < 2 ^ 32
  slots_few n c named =
      omega (arith, length-append (hidden_slots tree c) (map (λ (f : FieldKey × DeclaredType). Some f.1) (instance_fields tree c)), length-map (instance_fields tree c) (λ (f : FieldKey × DeclaredType). Some f.1), hidden_few c, fields_few n c named)

  -- the slot of an instance field has a number of 32 bits
  pub instance_slot_small : (key : FieldKey) (n c : ℕ) → class_name tree c ≡ Some key.declared_in → instance_slot tree key ≡ Some n → n < 2 ^ 32
  instance_slot_small key n c named at =
      omega (arith, found_within (λ (f : FieldKey × DeclaredType). same_key f.0 key) (length (hidden_slots tree key.declared_in)) (instance_fields tree key.declared_in) n at, hidden_few key.declared_in, fields_few c key.declared_in named)

  -- there are few static fields
  pub static_fields_small : length (static_fields tree) < 2 ^ 32
  static_fields_small = omega (arith, static_fields_few tree legal)

  -- a static field has a number of 32 bits
  pub static_slot_small : (key : FieldKey) (n : ℕ) → static_slot tree key ≡ Some n → n < 2 ^ 32
  static_slot_small key n at = omega (arith, found_within (λ (f : FieldKey × DeclaredType). same_key f.0 key) 0 (static_fields tree) n at, static_fields_few tree legal)
