-- What a machine holds at first is what the definition of its initial state says.
use Rattle.std.proofs.Common.{◌≡◌, ℕ, suc, Bool, true, false, cond, List, [], ◌∷◌, ◌++◌, map, filter, length, Option, Some, None, option_map, option_and_then, slice_get, refl, sym, ap, ◌∙◌}
use Rattle.std.specs.Prelude.{IsSome, option_to_list}
use Rattle.std.specs.List.{flat_map}
use Rattle.std.specs.Option.{option_map_or}
use Rattle.std.proofs.lemmas.List.{map-append}
use Rattle.std.proofs.lemmas.Option.{slice_get-map}
use Rattle.cil_model.specs.declared.limits.Limits.{Limits}
use Rattle.cil_model.specs.declared.types.ClassName.{ClassName}
use Rattle.cil_model.specs.declared.types.DeclaredType.{DeclaredType}
use Rattle.cil_model.specs.declared.trees.Class.{Class}
use Rattle.cil_model.specs.declared.trees.Field.{Field}
use Rattle.cil_model.specs.declared.trees.Method.{Method}
use Rattle.cil_model.specs.declared.trees.Tree.{Tree}
use Rattle.cil_model.specs.Bodies.{entry_points}
use Rattle.cil_model.specs.Chains.{fields_declared}
use Rattle.cil_model.specs.Declarations.{Declaration, source_name}
use Rattle.cil_model.specs.Fields.{FieldKey, keyed_fields, static_fields}
use Rattle.cil_model.specs.Legality.{IsLegal}
use Rattle.cil_model.specs.Mentions.{literals_of}
use Rattle.cil_model.specs.Same.{same_flag}
use Rattle.cil_model.proofs.Lists.{none_is_some}
use Rattle.cil_model.proofs.Legal.{entry_alone}
use Rattle.name_tables.specs.declared.ids.MethodId.{MethodId}
use Rattle.name_tables.specs.Numbers.{declarations, method_at, source_entry}
use Rattle.resolved_code.proofs.Numbers.Classes.{FoundAt, found_at, number_of_index as class_of_index}
use Rattle.phase_handshake.specs.Handshakes.{Handshakes, first_handshakes}
use Rattle.simulation.specs.collector.Phases.{no_progress}
use Rattle.simulation.specs.collector.declared.progress.Progress.{Progress}
use Rattle.simulation.specs.resolved_code.Contents.{IsEntryPoint}
use Rattle.object_memory.specs.declared.addresses.Addr.{Addr}
use Rattle.object_memory.specs.declared.values.Value.{Value}
use Rattle.object_memory.specs.declared.values.Value.TheVariants.{Ref}
use Rattle.object_memory.specs.Objects.{Objects, no_objects}
use Rattle.simulation.specs.loaded_program.AllMethods.{all_methods}
use Rattle.simulation.specs.loaded_program.MethodNumbers.{number_of}
use Rattle.cil_model.specs.ValueKinds.{kind_of_type}
use Rattle.simulation.proofs.loaded_program.NumberLaws.{number_of_index}
use Rattle.threads_monitors.specs.Frames.{zero_value}
use Rattle.threads_monitors.specs.declared.threads.Thread.{Thread}
use Rattle.simulation.specs.interpreter.Calls.{chosen_method, chosen_at, chosen_by, class_at}
use Rattle.simulation.proofs.interpreter.MethodsToRun.{there_is}
use Rattle.simulation.specs.loaded_program.LoadedPrograms.{target_in}
use Rattle.simulation.proofs.loaded_program.OperandLaws.{then_some}
use Rattle.simulation.specs.Transitions.{machine_state_at, initial_machine_state, run_member, thread_at, thread_for}
use Rattle.interleaving_core.specs.Statics.{declared_fields, zeros_of}

-- the zero of a field by its type
abbrev zero_of_typed : FieldKey × DeclaredType → Value
zero_of_typed f = zero_value (kind_of_type f.1)

-- the static ones among fields are those with the flag
flagged : (fields : List Field) → filter (λ (f : Field). same_flag f.is_static true) fields ≡ filter (λ (f : Field). f.is_static) fields
flagged [] = refl
flagged (f ∷ fields) = by_flag f.is_static (flagged fields)
  where
    by_flag : (b : Bool) → filter (λ (x : Field). same_flag x.is_static true) fields ≡ filter (λ (x : Field). x.is_static) fields →
        cond (same_flag b true) (f ∷ filter (λ (x : Field). same_flag x.is_static true) fields) (filter (λ (x : Field). same_flag x.is_static true) fields) ≡ cond b (f ∷ filter (λ (x : Field). x.is_static) fields) (filter (λ (x : Field). x.is_static) fields)
    by_flag true rest = ap (λ xs. f ∷ xs) rest
    by_flag false rest = rest

-- zeros of keyed fields are zeros of the fields
keyed_zeros : (owner : ClassName) (fields : List Field) → map zero_of_typed (map (λ (f : Field). (record { declared_in = owner; name = f.name }, f.field_type)) fields) ≡ map (λ (f : Field). zero_value (kind_of_type f.field_type)) fields
keyed_zeros owner [] = refl
keyed_zeros owner (f ∷ fields) = ap (λ xs. zero_value (kind_of_type f.field_type) ∷ xs) (keyed_zeros owner fields)

module _ (tree : Tree) where
  -- the zeros of a class's static fields
  own_zeros : (c : Class) → fields_declared tree (source_name c) ≡ declared_fields c → map zero_of_typed (keyed_fields tree true (source_name c)) ≡ zeros_of (declared_fields c)
  own_zeros c is =
      keyed_zeros (source_name c) (filter (λ (f : Field). same_flag f.is_static true) (fields_declared tree (source_name c))) ∙
      ap (map (λ (f : Field). zero_value (kind_of_type f.field_type))) (flagged (fields_declared tree (source_name c))) ∙ ap zeros_of is

  -- those of several classes
  all_zeros : (cs : List Class) → ((n : ℕ) (c : Class) → slice_get cs n ≡ Some c → fields_declared tree (source_name c) ≡ declared_fields c) →
      map zero_of_typed (flat_map (λ (c : Class). keyed_fields tree true (source_name c)) cs) ≡ flat_map (λ (c : Class). zeros_of (declared_fields c)) cs
  all_zeros [] each = refl
  all_zeros (c ∷ cs) each =
      map-append zero_of_typed (keyed_fields tree true (source_name c)) (flat_map (λ (x : Class). keyed_fields tree true (source_name x)) cs) ∙
      ap (λ xs. xs ++ map zero_of_typed (flat_map (λ (x : Class). keyed_fields tree true (source_name x)) cs)) (own_zeros c (each 0 c refl)) ∙
      ap (λ xs. zeros_of (declared_fields c) ++ xs) (all_zeros cs (λ n x at. each (suc n) x at))

  module _ (legal : IsLegal tree) where
    -- a class of the source has the fields that it declares
    fields_of_source : (n : ℕ) (c : Class) → slice_get tree.classes n ≡ Some c → fields_declared tree (source_name c) ≡ declared_fields c
    fields_of_source n c at =
        let index : slice_get (declarations tree) (suc (suc (suc (suc (suc n))))) ≡ Some (source_entry c) = slice_get-map source_entry tree.classes n ∙ ap (option_map source_entry) at in
        let found : FoundAt tree (source_name c) (suc (suc (suc (suc (suc n))))) = found_at tree (source_name c) (suc (suc (suc (suc (suc n))))) (class_of_index tree legal (suc (suc (suc (suc (suc n))))) (source_entry c) index) in
        let both : Some (source_name c, found.0) ≡ Some (source_entry c) = sym found.2 ∙ index in
        ap (λ o. option_map_or (λ (d : Declaration). d.fields) o []) found.1 ∙ ap (λ (o : Option (ClassName × Declaration)). option_map_or (λ (e : ClassName × Declaration). e.1.fields) o []) both

    -- the zeros of all static fields
    statics_at_first : map zero_of_typed (static_fields tree) ≡ flat_map (λ (c : Class). zeros_of (declared_fields c)) tree.classes
    statics_at_first = all_zeros tree.classes fields_of_source

    -- the entry point is there, and the first
    pub entry_there : (number : MethodId) → IsEntryPoint tree number →
        (found : ClassName × Method) × (method_at tree (number.class, number.index) ≡ Some found) × (slice_get (entry_points tree) 0 ≡ Some found)
    entry_there number is = by_member (method_at tree (number.class, number.index)) refl is
      where
        by_member : (o : Option (ClassName × Method)) → method_at tree (number.class, number.index) ≡ o → entry_points tree ≡ option_to_list o →
            (found : ClassName × Method) × (method_at tree (number.class, number.index) ≡ Some found) × (slice_get (entry_points tree) 0 ≡ Some found)
        by_member (Some found) at points = (found, at, ap (λ xs. slice_get xs 0) points)
        by_member None at points = none_is_some (entry_alone tree legal).0 (ap (λ xs. slice_get xs 0) (sym points ∙ (entry_alone tree legal).1))

    module _ (limits : Limits) where
      -- the state of a machine whose thread is at the entry point
      pub machine_state_opens : (found : ClassName × Method) (n : ℕ) → slice_get (entry_points tree) 0 ≡ Some found → slice_get (all_methods tree) n ≡ Some found →
          initial_machine_state tree limits ≡ Some (machine_state_at tree limits found n)
      machine_state_opens found n entry there =
          ap (option_and_then (λ (e : ClassName × Method). option_map (machine_state_at tree limits e) (number_of tree e))) entry ∙
          ap (option_map (machine_state_at tree limits found)) (number_of_index tree legal n found there)

      -- part by part
      pub opened_as : (found : ClassName × Method) (n : ℕ) → slice_get (entry_points tree) 0 ≡ Some found → slice_get (all_methods tree) n ≡ Some found →
          (threads : List Thread) → threads ≡ thread_at limits found [] n ∷ [] → (posts : Handshakes) → posts ≡ first_handshakes → (progress : Progress) → progress ≡ no_progress → (objects : Objects) → objects ≡ no_objects limits.words (length (literals_of tree)) →
          (statics : List Value) → statics ≡ flat_map (λ (c : Class). zeros_of (declared_fields c)) tree.classes → (printed : List ℕ) → printed ≡ [] →
          initial_machine_state tree limits ≡ Some (record { tree = tree; limits = limits; threads = threads; posts = posts; progress = progress; objects = objects; statics = statics; printed = printed })
      opened_as found n entry there threads t posts h progress g objects o statics s printed p =
          machine_state_opens found n entry there ∙
          ap (λ (x : List Thread). Some (record { tree = tree; limits = limits; threads = x; posts = first_handshakes; progress = no_progress; objects = no_objects limits.words (length (literals_of tree)); statics = map zero_of_typed (static_fields tree); printed = [] })) (sym t) ∙
          ap (λ (x : Handshakes). Some (record { tree = tree; limits = limits; threads = threads; posts = x; progress = no_progress; objects = no_objects limits.words (length (literals_of tree)); statics = map zero_of_typed (static_fields tree); printed = [] })) (sym h) ∙
          ap (λ (x : Progress). Some (record { tree = tree; limits = limits; threads = threads; posts = posts; progress = x; objects = no_objects limits.words (length (literals_of tree)); statics = map zero_of_typed (static_fields tree); printed = [] })) (sym g) ∙
          ap (λ (x : Objects). Some (record { tree = tree; limits = limits; threads = threads; posts = posts; progress = progress; objects = x; statics = map zero_of_typed (static_fields tree); printed = [] })) (sym o) ∙
          ap (λ (x : List Value). Some (record { tree = tree; limits = limits; threads = threads; posts = posts; progress = progress; objects = objects; statics = x; printed = [] })) (statics_at_first ∙ sym s) ∙
          ap (λ (x : List ℕ). Some (record { tree = tree; limits = limits; threads = threads; posts = posts; progress = progress; objects = objects; statics = statics; printed = x })) (sym p)

      -- the thread that begins on an object is at the method that is chosen for it
      pub thread_for_chosen : (o : Objects) (a : Addr) (found : ClassName × Method) (n : ℕ) → chosen_at tree o a run_member ≡ Some found → slice_get (all_methods tree) n ≡ Some found →
          thread_for tree limits o a ≡ Some (thread_at limits found (Ref a ∷ []) n)
      thread_for_chosen o a found n chosen_method there =
          ap (option_and_then (λ (e : ClassName × Method). option_map (thread_at limits e (Ref a ∷ [])) (number_of tree e))) chosen_method ∙
          ap (option_map (thread_at limits found (Ref a ∷ []))) (number_of_index tree legal n found there)

  -- one is chosen where a thread begins
  pub chosen_there : (limits : Limits) (o : Objects) (a : Addr) → IsSome (thread_for tree limits o a) → IsSome (chosen_at tree o a run_member)
  chosen_there limits o a there = by_chosen (chosen_at tree o a run_member) there
    where
      by_chosen : (c : Option (ClassName × Method)) → IsSome (option_and_then (λ (e : ClassName × Method). option_map (thread_at limits e (Ref a ∷ [])) (number_of tree e)) c) → IsSome c
      by_chosen (Some e) h = refl
      by_chosen None h = h

  -- the Run that is named, the object's class, and the method that is chosen
  pub record Begun (o : Objects) (a : Addr) : Type 0 where
    pub named : ClassName × Method
    pub class : Option ℕ
    pub run : ClassName × Method
    pub named_is : method_at tree (run_member.class, run_member.index) ≡ Some named
    pub class_is : class_at o a ≡ Some class
    pub run_is : chosen_by tree named class ≡ Some run
    pub chosen_is : chosen_at tree o a run_member ≡ Some run

  pub begun : (limits : Limits) (o : Objects) (a : Addr) → IsSome (thread_for tree limits o a) → Begun o a
  begun limits o a there =
      let run = there_is (chosen_at tree o a run_member) (chosen_there limits o a there) in
      let named = then_some (chosen_method tree o a) (method_at tree (run_member.class, run_member.index)) run.0 run.1 in
      let class = then_some (chosen_by tree named.0) (class_at o a) run.0 named.2 in
      record { named = named.0; class = class.0; run = run.0; named_is = named.1; class_is = class.1; run_is = class.2; chosen_is = run.1 }

  -- it is the target of the Run that is named
  pub target_of_run : (o : Objects) (a : Addr) (begun : Begun o a) (class : Option ℕ) → class_at o a ≡ Some class → (number : ℕ) → slice_get (all_methods tree) number ≡ Some begun.named → target_in tree number class ≡ Some begun.run
  target_of_run o a begun class class_is number number_is =
      let e = begun.class_is in
      let same : begun.class ≡ class = cc in
      ap (option_and_then (λ found. chosen_by tree found class)) number_is ∙ ap (chosen_by tree begun.named) (sym same) ∙ begun.run_is
