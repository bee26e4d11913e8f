-- Loads and stores of static fields do the same on both machines.
use Rattle.std.proofs.Common.{◌≡◌, ◌<◌, ◌+◌, ◌^◌, ℕ, Bool, true, IsTrue, ◌&&◌, if◌then◌else◌, List, [], ◌∷◌, find, length, Some, None, option_and_then, slice_get, slice_set, refl, sym, ap, ◌∙◌, subst, arith, option_map}
use Rattle.std.specs.Prelude.{nat_lt}
use Rattle.std.specs.List.{list_any}
use Rattle.std.proofs.lemmas.Bool.{and_from}
use Rattle.std.proofs.lemmas.Bool.Decides.{nat_tests}
use Rattle.std.proofs.lemmas.List.{append-nil}
use Rattle.std.proofs.lemmas.Option.{slice_get_within}
use Rattle.interpreter.specs.cil_model.declared.instructions.Instruction.{Instruction}
use Rattle.interpreter.specs.cil_model.declared.instructions.Instruction.TheVariants as Named
use Rattle.interpreter.specs.cil_model.declared.instructions.FieldReference.{FieldReference}
use Rattle.interpreter.specs.cil_model.declared.trees.Field.{Field}
use Rattle.interpreter.specs.cil_model.declared.trees.Tree.{Tree}
use Rattle.interpreter.specs.cil_model.declared.types.ClassName.{ClassName}
use Rattle.interpreter.specs.cil_model.Same.{same_class, same_text, same_type, same_flag}
use Rattle.interpreter.specs.cil_model.Chains.{chain_of, fields_declared, find_field}
use Rattle.interpreter.specs.cil_model.Fields.{FieldKey, same_key, static_fields, static_slot}
use Rattle.interpreter.proofs.cil_model.Lists.{find_passes}
use Rattle.interpreter.proofs.cil_model.SameLaws.{both_second, same_flag_equal, never}
use Rattle.interpreter.specs.name_tables.declared.ids.FieldId.{FieldId}
use Rattle.interpreter.specs.reference_machine.Values.{Value as StateValue}
use Rattle.interpreter.specs.reference_machine.States.{Frame as StateFrame, State, entry_at, replaced_entry}
use Rattle.interpreter.specs.reference_machine.Effects.{StepContext, when_some as state_given, onward as onward_frame}
use Rattle.interpreter.specs.reference_machine.Steps.{execute, key_of, next}
use Rattle.interpreter.specs.reference_machine.TypedStates.{HaveFieldTypes}
use Rattle.interpreter.proofs.reference_machine.Programs.DeclaredFields.{static_field_there}
use Rattle.interpreter.proofs.reference_machine.Programs.VirtualTargets.{nearest_at}
use Rattle.simulation.proofs.ProgramSizes.ClassesAndFields.{static_slot_small}
use Rattle.interpreter.specs.resolved_code.ResolvedPrograms.{IsField}
use Rattle.interpreter.specs.resolved_code.declared.operations.Operation.{Operation}
use Rattle.interpreter.specs.resolved_code.declared.operations.Operation.TheVariants as Resolved
use Rattle.interpreter.specs.object_memory.declared.values.Value.{Value}
use Rattle.interpreter.specs.object_memory.Objects.{Objects}
use Rattle.interpreter.specs.instructions.barriers.Barriers.{is_static_storable, stored_static}
use Rattle.interpreter.specs.threads_monitors.Frames.{Frames, with_pc, with_stack}
use Rattle.interpreter.specs.threads_monitors.declared.effects.Effect.TheVariants.{Continues}
use Rattle.interpreter.specs.instructions.Frames.{when_some, value_pushed, onward, Transition}
use Rattle.interpreter.specs.instructions.ObjectTransitions.{load_static_transition, store_static_transition, StaticTransition, with_statics}
use Rattle.interpreter.specs.declared.outcomes.InstructionOutcome.TheVariants.{OwnEffect}
use Rattle.interpreter.specs.loaded_program.declared.instructions.LinkedInstruction.TheVariants as Linked
use Rattle.interpreter.specs.Instructions.{operation_transition, of_statics, answer_of, of_frames}
use Rattle.interpreter.proofs.LinkedTransitions.{link_does}
use Rattle.interpreter.specs.loaded_program.Operands.{small, static_in, static_at}
use Rattle.simulation.specs.Agreement.{Agree}
use Rattle.simulation.specs.Refines.{Names, IsValue}
use Rattle.simulation.proofs.ListLaws.AgreeingLists.{agree_get, agree_set}
use Rattle.simulation.proofs.Instructions.FrameProgress.{own_frame, leaves_is, onward_is, next_alike, onward_alike}
use Rattle.simulation.proofs.Instructions.Correspondence.{IsSetting, DoesAlike}
use Rattle.simulation.proofs.Instructions.StackOperands.{fine, one_operand}
use Rattle.simulation.proofs.Instructions.ObjectInstructionParts.{alike_transition, given_alike, known_alike}
use Rattle.simulation.proofs.Memory.FieldPositions.{HasPosition, has_position, key_there, replaced_is}
use Rattle.simulation.proofs.Memory.MemoryModels.{MemoryModel, IsModelled, mutator_in}

-- a number below the bound passes as one of 32 bits
pub is_small : (n : ℕ) → n < 2 ^ 32 → small n ≡ Some n
is_small n h = ap (λ b. if b then Some n else None) test
  where
    test : nat_lt n (2 ^ 32) ≡ true
    test = grind (arith, nat_tests)

-- what a look-up of fields asks of one
abbrev pub asked : Bool → FieldReference → Field → Bool
asked is_static r f = same_text f.name r.name && same_type f.field_type r.field_type && same_flag f.is_static is_static

module _ (tree : Tree) (flag : Bool) (r : FieldReference) (d : ClassName) (g : Field) (finds : find_field tree flag r ≡ Some (d, g)) where
  -- the field that is found is one of its class, which is in the owner's chain
  pub found_in : (find (asked flag r) (fields_declared tree d) ≡ Some g) × IsTrue (list_any (same_class d) (chain_of tree r.owner))
  found_in = nearest_at (λ c. find (asked flag r) (fields_declared tree c)) (chain_of tree r.owner) d g finds

  -- it is static or not, as the look-up asks
  pub found_flag : g.is_static ≡ flag
  found_flag = same_flag_equal g.is_static flag (both_second _ _ (find_passes (asked flag r) (fields_declared tree d) g found_in.0))

module _ (here : StepContext) (model : MemoryModel here.tree) (name : Names) (m : Frames) (o : Objects) (statics : List Value) (printed : List ℕ) (s : State) (f : StateFrame) (below : List StateFrame) where
  abbrev HoldsStatic : Value → FieldKey × StateValue → Type 0
  HoldsStatic v x = IsValue name v x.1

  -- ---- the number of a static field

  module _ (i : Instruction) (operation : Operation) (at : IsSetting here model name m o statics printed s f below i operation) (r : FieldReference) (field : FieldId) (is : IsField here.tree true r field) where
    -- its key, and the entry under it
    abbrev key : FieldKey
    key = key_of (is.declared_in, is.found)

    field_index : HasPosition key (static_fields here.tree) s.statics
    field_index = has_position here.tree s key (static_fields here.tree) [] s.statics (subst (λ fs. HaveFieldTypes here.tree s s.statics fs) (sym (append-nil (static_fields here.tree))) at.running.typed.statics)
        (key_there key r.field_type (static_fields here.tree) (static_field_there here.tree at.running.accepted.legal r is.declared_in is.found is.finds))

    -- the index of the entry is the number that the machine computes
    number_is : static_at here.tree field ≡ Some field_index.index
    number_is =
        let slot : static_slot here.tree key ≡ Some field_index.index = (let e : 0 + field_index.index ≡ field_index.index = omega arith in field_index.position 0 ∙ ap Some e) in
        ap (option_and_then (static_in here.tree)) is.has_id ∙ ap (λ b. if b then option_and_then small (static_slot here.tree key) else None) (found_flag here.tree true r is.declared_in is.found is.finds) ∙
        ap (option_and_then small) slot ∙ is_small field_index.index (static_slot_small here.tree at.running.accepted.legal key field_index.index slot)

    -- the machine holds the same value there
    held : (v : Value) × (slice_get statics field_index.index ≡ Some v) × IsValue name v field_index.entry.1
    held = agree_get HoldsStatic statics s.statics (model.statics name o statics s at.memory.fits) field_index.index field_index.entry field_index.there

  -- ---- ldsfld

  module _ (r : FieldReference) (field : FieldId) (is : IsField here.tree true r field) (at : IsSetting here model name m o statics printed s f below (Named.LoadStaticField r) (Resolved.LoadStaticField field)) where
    -- the transition, by the number of the field
    abbrev loads : ℕ → Transition
    loads n = load_static_transition n m statics

    -- once the value is found
    load_after : (n : ℕ) (v : Value) (u : StateValue) → slice_get statics n ≡ Some v → IsValue name v u → DoesAlike here model name m o statics printed s f below (of_frames o statics printed (loads n)) (next here s f below (u ∷ f.stack))
    load_after n v u there refines = record {
      answer = answer_of (with_pc (with_stack m (v ∷ m.running.stack)) (m.running.pc + 1)) o statics printed (OwnEffect Continues);
      is = ap (λ x. of_frames o statics printed (when_some x (λ w. value_pushed w m))) there ∙
          ap (of_frames o statics printed) (leaves_is here model name m o statics printed s f below (Named.LoadStaticField r) (Resolved.LoadStaticField field) at v m.running.stack (omega arith));
      refuses = λ _ h. never h;
      alike = λ refused. next_alike here model name m o statics printed s f below (Named.LoadStaticField r) (Resolved.LoadStaticField field) at (v ∷ m.running.stack) (u ∷ f.stack) (refines, (own_frame here model name m o statics printed s f below (Named.LoadStaticField r) (Resolved.LoadStaticField field) at).stack);
    }

    -- the whole instruction
    pub load_static_field_alike : DoesAlike here model name m o statics printed s f below (operation_transition here.tree (mutator_in here model) (Resolved.LoadStaticField field) m o statics printed) (execute here s f below (Named.LoadStaticField r))
    load_static_field_alike =
        let own = field_index (Named.LoadStaticField r) (Resolved.LoadStaticField field) at r field is in
        let there = held (Named.LoadStaticField r) (Resolved.LoadStaticField field) at r field is in
        alike_transition here model name m o statics printed s f below (Named.LoadStaticField r) (Resolved.LoadStaticField field) at _ (of_frames o statics printed (loads own.index)) _
        (link_does here.tree (mutator_in here model) m o statics printed (Resolved.LoadStaticField field) (Linked.LoadStaticField own.index) (ap (option_map (λ n. Linked.LoadStaticField n)) (number_is (Named.LoadStaticField r) (Resolved.LoadStaticField field) at r field is)))
        (known_alike here model name m o statics printed s f below (Named.LoadStaticField r) (Resolved.LoadStaticField field) at _ (find_field here.tree true r) (is.declared_in, is.found) is.finds _
        (fine here model name m o statics printed s f below (Named.LoadStaticField r) (Resolved.LoadStaticField field) at) (λ typed.
        known_alike here model name m o statics printed s f below (Named.LoadStaticField r) (Resolved.LoadStaticField field) at _ (entry_at same_key (key_of (is.declared_in, is.found)) s.statics) own.entry.1 own.found _ typed (λ typed'.
        load_after own.index there.0 own.entry.1 there.1 there.2)))

  -- ---- stsfld

  module _ (r : FieldReference) (field : FieldId) (is : IsField here.tree true r field) (at : IsSetting here model name m o statics printed s f below (Named.StoreStaticField r) (Resolved.StoreStaticField field)) where
    -- the transition, by the number of the field
    abbrev stores : ℕ → Value → Frames → StaticTransition
    stores n v k = if nat_lt n (length statics) && is_static_storable model.phase o v then with_statics (stored_static model.phase o statics n v) (onward k) else None

    -- the number is one of the static fields
    inside : (n : ℕ) → n < length statics → nat_lt n (length statics) ≡ true
    inside n h = grind (arith, nat_tests)

    -- once the fields agree
    store_after : (n : ℕ) (v : Value) (u : StateValue) → IsValue name v u → (entries : List (FieldKey × StateValue)) → n < length statics → Agree HoldsStatic (slice_set statics n v) entries → (rest : List Value) (rest' : List StateValue) → Agree (IsValue name) rest rest' →
        DoesAlike here model name m o statics printed s f below (of_statics o statics printed (stores n v (with_stack m rest))) (onward_frame f below (record s { statics = entries }) rest')
    store_after n v u is entries near agree rest rest' k = record {
      answer = answer_of (with_pc (with_stack m rest) (m.running.pc + 1)) memory_after.0 memory_after.1 printed (OwnEffect Continues);
      is = ap (λ b. of_statics o statics printed (if b then with_statics memory_after (onward (with_stack m rest)) else None))
          (and_from (nat_lt n (length statics)) (is_static_storable model.phase o v) (inside n near) (model.static_storable name o statics s at.memory.fits v u is)) ∙
          ap (λ x. of_statics o statics printed (with_statics memory_after x)) (onward_is here model name m o statics printed s f below (Named.StoreStaticField r) (Resolved.StoreStaticField field) at rest);
      refuses = λ _ h. never h;
      alike = λ refused. onward_alike here model name m o statics printed s f below (Named.StoreStaticField r) (Resolved.StoreStaticField field) at name (λ b n' e. e) memory_after.0 memory_after.1 printed (record s { statics = entries }) refl memory rest rest' k;
    }
      where
        memory_after : Objects × List Value
        memory_after = stored_static model.phase o statics n v

        memory : IsModelled here.tree model name memory_after.0 memory_after.1 printed (record s { statics = entries })
        memory = record { fits = model.static_stores name o statics s at.memory.fits n v u near is entries agree; printed_is = at.memory.printed_is }

    -- the whole instruction
    pub store_static_field_alike : DoesAlike here model name m o statics printed s f below (operation_transition here.tree (mutator_in here model) (Resolved.StoreStaticField field) m o statics printed) (execute here s f below (Named.StoreStaticField r))
    store_static_field_alike =
        let own = field_index (Named.StoreStaticField r) (Resolved.StoreStaticField field) at r field is in
        let there = held (Named.StoreStaticField r) (Resolved.StoreStaticField field) at r field is in
        let key' : FieldKey = key_of (is.declared_in, is.found) in
        alike_transition here model name m o statics printed s f below (Named.StoreStaticField r) (Resolved.StoreStaticField field) at _ (of_statics o statics printed (store_static_transition model.phase own.index m o statics)) _
        (link_does here.tree (mutator_in here model) m o statics printed (Resolved.StoreStaticField field) (Linked.StoreStaticField own.index) (ap (option_map (λ n. Linked.StoreStaticField n)) (number_is (Named.StoreStaticField r) (Resolved.StoreStaticField field) at r field is)))
        (one_operand here model name m o statics printed s f below (Named.StoreStaticField r) (Resolved.StoreStaticField field) at (of_statics o statics printed) (stores own.index)
        (λ v rest. state_given (find_field here.tree true r) (λ found. state_given (replaced_entry (key_of found) v s.statics) (λ entries. onward_frame f below (record s { statics = entries }) rest)))
        (fine here model name m o statics printed s f below (Named.StoreStaticField r) (Resolved.StoreStaticField field) at)
        (λ v rest u rest' is' is'' refines k shorter typed.
        known_alike here model name m o statics printed s f below (Named.StoreStaticField r) (Resolved.StoreStaticField field) at _ (find_field here.tree true r) (is.declared_in, is.found) is.finds _ typed (λ typed'.
        given_alike here model name m o statics printed s f below (Named.StoreStaticField r) (Resolved.StoreStaticField field) at _ (replaced_entry key' u s.statics) _ typed' (λ entries replaced typed''.
        store_after own.index v u refines entries (slice_get_within statics own.index there.0 there.1)
        (subst (λ es. Agree HoldsStatic (slice_set statics own.index v) es) (sym (replaced_is key' u s.statics entries replaced ∙ own.changed u)) (agree_set HoldsStatic statics s.statics (model.statics name o statics s at.memory.fits) own.index v (own.entry.0, u) refines))
        rest rest' k))))
