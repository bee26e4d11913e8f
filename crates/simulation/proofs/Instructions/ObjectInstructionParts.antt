-- The common parts of instructions on objects, arrays and static fields do the same on both machines.
use Rattle.std.proofs.Common.{◌≡◌, ◌≤◌, ◌<◌, ◌+◌, ◌==◌, ℕ, ℤ, pos, negsuc, Bool, true, false, IsTrue, if◌then◌else◌, List, ◌∷◌, length, Option, Some, None, option_map, slice_get, refl, inr, sym, ap, ◌∙◌, subst, arith}
use Rattle.std.specs.Prelude.{nat_lt}
use Rattle.std.specs.Option.{option_map_or}
use Rattle.std.proofs.lemmas.Option.{slice_get_within}
use Rattle.std.proofs.lemmas.Bool.{lt-ltb, le-ltb}
use Rattle.interpreter.specs.cil_model.declared.instructions.Instruction.{Instruction}
use Rattle.interpreter.specs.cil_model.declared.reports.Fault.{Fault}
use Rattle.interpreter.specs.cil_model.declared.reports.Fault.TheVariants.{NullReference, IndexOutOfRange}
use Rattle.interpreter.specs.cil_model.declared.types.DeclaredType.{DeclaredType}
use Rattle.interpreter.specs.reference_machine.Values.{ObjectName, Born, Value as StateValue}
use Rattle.interpreter.specs.reference_machine.States.{HeapObject, Frame as StateFrame, State, array_at, with_object}
use Rattle.interpreter.specs.reference_machine.Arithmetic.{as_index}
use Rattle.interpreter.specs.reference_machine.Effects.{StepContext, Effect as StateEffect, Raises as StateRaises, Sticks, when_some as state_given, not_null, onward as onward_frame}
use Rattle.interpreter.specs.reference_machine.Steps.{element, in_range as state_in_range}
use Rattle.interpreter.proofs.reference_machine.TypedStates.RunningFrames.{IsTypedEffect}
use Rattle.interpreter.specs.resolved_code.declared.operations.Operation.{Operation}
use Rattle.interpreter.specs.object_memory.declared.addresses.Addr.{Addr}
use Rattle.interpreter.specs.object_memory.declared.values.Value.{Value}
use Rattle.interpreter.specs.cil_model.declared.values.ValueKind.{ValueKind}
use Rattle.interpreter.specs.object_memory.Cells.{Cell, store_slot as with_cell_slot}
use Rattle.interpreter.specs.object_memory.Values.{value_word, value_in}
use Rattle.interpreter.specs.object_memory.Objects.{Objects, object_cell}
use Rattle.collector.specs.References.{holds_reference, is_reference_value}
use Rattle.interpreter.specs.instructions.barriers.Barriers.{is_storable, stored_value}
use Rattle.interpreter.specs.threads_monitors.Frames.{Frames, with_pc, with_stack}
use Rattle.interpreter.specs.threads_monitors.declared.effects.Effect.TheVariants.{Continues, Raises}
use Rattle.interpreter.specs.instructions.Frames.{when_some, onward, value_pushed}
use Rattle.interpreter.specs.instructions.ObjectTransitions.{ObjectTransition, with_objects, object_of, index_in, index_of, slots_of, load_slot, store_slot, checked_index, in_range}
use Rattle.interpreter.specs.declared.outcomes.InstructionOutcome.TheVariants.{OwnEffect}
use Rattle.interpreter.specs.Instructions.{MachineTransition, of_objects, answer_of}
use Rattle.simulation.specs.Agreement.{Agree}
use Rattle.simulation.specs.Refines.{Names, IsValue, int32, null_reference, reference, IsWord, IsCell}
use Rattle.simulation.proofs.ListLaws.AgreeingLists.{agree_length}
use Rattle.simulation.proofs.Instructions.Correspondence.{IsSetting, DoesAlike, refused_fault}
use Rattle.simulation.proofs.Instructions.FrameProgress.{leaves_is, onward_is, next_alike, onward_alike}
use Rattle.simulation.proofs.Memory.NamedAddresses.{named_is_not_null}
use Rattle.simulation.proofs.Memory.ObjectsAtAddresses.{IsArrayThere, array_there}
use Rattle.interpreter.proofs.cil_model.SameLaws.{never}
use Rattle.interpreter.proofs.cil_model.Lists.{none_is_outside}
use Rattle.simulation.proofs.Memory.ReferenceSlots.{IsLinked}
use Rattle.simulation.proofs.Memory.MemoryModels.{MemoryModel, IsModelled}

module _ (here : StepContext) (model : MemoryModel here.tree) (name : Names) (m : Frames) (o : Objects) (statics : List Value) (printed : List ℕ) (s : State) (f : StateFrame) (below : List StateFrame) (i : Instruction) (operation : Operation)
    (at : IsSetting here model name m o statics printed s f below i operation) where
  -- the machine does what the reference machine does
  abbrev pub Alike : MachineTransition → StateEffect → Type 0
  Alike transition e = DoesAlike here model name m o statics printed s f below transition e

  -- the effect is typed, so the instruction isn't stuck
  abbrev pub Fine : StateEffect → Type 0
  Fine e = IsTypedEffect here.tree e

  -- a transition on objects as one of the machine
  abbrev pub objects_transition : ObjectTransition → MachineTransition
  objects_transition transition = of_objects o statics printed transition

  -- ---- equal transitions, and what is there

  -- a transition that is equal to one that does alike
  pub alike_transition : (transition transition' : MachineTransition) (e : StateEffect) → transition ≡ transition' → Alike transition' e → Alike transition e
  alike_transition transition transition' e same h = subst (λ t. Alike t e) (sym same) h

  -- what isn't stuck is there
  pub given_alike : {X : Type 0} (transition : MachineTransition) (x : Option X) (go : X → StateEffect) → Fine (state_given x go) → ((y : X) → x ≡ Some y → Fine (go y) → Alike transition (go y)) → Alike transition (state_given x go)
  given_alike transition None go t each = elim t [ ]
  given_alike transition (Some y) go t each = each y refl t

  -- what is known to be there
  pub known_alike : {X : Type 0} (transition : MachineTransition) (x : Option X) (y : X) → x ≡ Some y → (go : X → StateEffect) → Fine (state_given x go) → (Fine (go y) → Alike transition (go y)) → Alike transition (state_given x go)
  known_alike {X} transition x y is go t each = subst (λ (z : Option X). Fine (state_given z go) → Alike transition (state_given z go)) (sym is) each t

  -- ---- how an instruction ends

  -- a fault, with nothing changed
  pub raised_alike : (k : Frames) (x : Fault) → Alike (objects_transition (Some (k, o, Raises x))) (StateRaises x)
  raised_alike k x = record { answer = answer_of k o statics printed (OwnEffect (Raises x)); is = refl; refuses = λ _ h. inr (refused_fault x h); alike = λ r. (refl, (refl, refl, refl)) }

  -- a value is left
  pub left_alike : (v : Value) (u : StateValue) → IsValue name v u → (rest : List Value) (rest' : List StateValue) → Agree (IsValue name) rest rest' → length rest ≤ length m.running.stack →
      Alike (objects_transition (with_objects o (value_pushed v (with_stack m rest)))) (onward_frame f below s (u ∷ rest'))
  left_alike v u is rest rest' k shorter = record {
    answer = answer_of (with_pc (with_stack m (v ∷ rest)) (m.running.pc + 1)) o statics printed (OwnEffect Continues);
    is = ap (λ t. objects_transition (with_objects o t)) (leaves_is here model name m o statics printed s f below i operation at v rest shorter);
    refuses = λ _ h. never h;
    alike = λ r. next_alike here model name m o statics printed s f below i operation at (v ∷ rest) (u ∷ rest') (is, k);
  }

  -- another memory is left
  stored_alike : (o' : Objects) (s' : State) → s'.threads ≡ s.threads → IsModelled here.tree model name o' statics printed s' → (rest : List Value) (rest' : List StateValue) → Agree (IsValue name) rest rest' →
      Alike (objects_transition (with_objects o' (onward (with_stack m rest)))) (onward_frame f below s' rest')
  stored_alike o' s' others memory rest rest' k = record {
    answer = answer_of (with_pc (with_stack m rest) (m.running.pc + 1)) o' statics printed (OwnEffect Continues);
    is = ap (λ t. objects_transition (with_objects o' t)) (onward_is here model name m o statics printed s f below i operation at rest);
    refuses = λ _ h. never h;
    alike = λ r. onward_alike here model name m o statics printed s f below i operation at name (λ b n is. is) o' statics printed s' others memory rest rest' k;
  }

  -- the memory with another word in a slot of an object, which changes alike
  memory_with : (a : Addr) (n : ℕ) → name a.number ≡ Some (Born n) → (cell : Cell) → object_cell o a ≡ Some cell → (slot : ℕ) (v : Value) (u : StateValue) → slot < length cell.slots → is_reference_value v ≡ holds_reference here.tree cell.kind slot → IsValue name v u →
      (object : HeapObject) → IsLinked here.tree cell.kind object.contents → IsCell here.tree name (with_cell_slot slot (value_word v) cell) object → IsModelled here.tree model name (stored_value model.phase o a slot v) statics printed (with_object s (Born n) object)
  memory_with a n named cell lies slot v u inside sort is object linked refines = record {
    fits = model.slots name o statics s at.memory.fits at.running.typed a n named cell lies slot v u inside sort is object linked refines;
    printed_is = at.memory.printed_is;
  }

  -- ---- slots

  module _ (a : Addr) (cell : Cell) (lies : object_cell o a ≡ Some cell) (slot word : ℕ) (there : slice_get cell.slots slot ≡ Some word) where
    -- a transition that asks for a slot that is there
    slot_transition : (go : ℕ → ObjectTransition) → objects_transition (when_some (slots_of o a) (λ slots. when_some (slice_get slots slot) go)) ≡ objects_transition (go word)
    slot_transition go = ap (λ (c : Option Cell). objects_transition (when_some (option_map (λ (y : Cell). y.slots) c) (λ slots. when_some (slice_get slots slot) go))) lies ∙ ap (λ x. objects_transition (when_some x go)) there

    -- its value is loaded
    pub loaded_alike : (kind : ValueKind) (u : StateValue) → IsValue name (value_in kind word) u → (rest : List Value) (rest' : List StateValue) → Agree (IsValue name) rest rest' → length rest ≤ length m.running.stack →
        Alike (objects_transition (load_slot kind slot a (with_stack m rest) o)) (onward_frame f below s (u ∷ rest'))
    loaded_alike kind u refines rest rest' k shorter =
        alike_transition (objects_transition (load_slot kind slot a (with_stack m rest) o)) (objects_transition (with_objects o (value_pushed (value_in kind word) (with_stack m rest)))) (onward_frame f below s (u ∷ rest'))
        (slot_transition (λ w. with_objects o (value_pushed (value_in kind w) (with_stack m rest)))) (left_alike (value_in kind word) u refines rest rest' k shorter)

    -- another value is stored there, and the object changes alike
    pub replaced_alike : (n : ℕ) → name a.number ≡ Some (Born n) → (v : Value) (u : StateValue) → IsValue name v u → is_reference_value v ≡ holds_reference here.tree cell.kind slot → (object : HeapObject) → IsLinked here.tree cell.kind object.contents → IsCell here.tree name (with_cell_slot slot (value_word v) cell) object → (rest : List Value) (rest' : List StateValue) → Agree (IsValue name) rest rest' →
        Alike (objects_transition (store_slot model.phase v slot a (with_stack m rest) o)) (onward_frame f below (with_object s (Born n) object) rest')
    replaced_alike n named v u is sort object linked refines rest rest' k =
        alike_transition (objects_transition (store_slot model.phase v slot a (with_stack m rest) o)) (objects_transition stored) (onward_frame f below (with_object s (Born n) object) rest')
        (slot_transition (λ w. if is_storable model.phase o a slot v then stored else None) ∙
        ap (λ b. objects_transition (if b then stored else None)) (model.storable name o statics s at.memory.fits a n named cell lies slot v u (slice_get_within cell.slots slot word there) is))
        (stored_alike (stored_value model.phase o a slot v) (with_object s (Born n) object) refl (memory_with a n named cell lies slot v u (slice_get_within cell.slots slot word there) sort is object linked refines) rest rest' k)
      where
        stored : ObjectTransition
        stored = with_objects (stored_value model.phase o a slot v) (onward (with_stack m rest))

  -- ---- operands

  -- an object; null raises the fault
  pub object_alike : (v : Value) (u : StateValue) → IsValue name v u → (k : Frames) (go : Addr → ObjectTransition) (go' : ObjectName → StateEffect) → Fine (not_null u NullReference go') →
      ((a : Addr) (n : ObjectName) → name a.number ≡ Some n → Fine (go' n) → Alike (objects_transition (go a)) (go' n)) →
      Alike (objects_transition (object_of v k o go)) (not_null u NullReference go')
  object_alike v u null_reference k go go' t each = raised_alike k NullReference
  object_alike v u (reference a n is) k go go' t each =
      alike_transition (objects_transition (if a.number == 0 then Some (k, o, Raises NullReference) else go a)) (objects_transition (go a)) (go' n)
      (ap (λ b. objects_transition (if b then Some (k, o, Raises NullReference) else go a)) (named_is_not_null here.tree name o s (model.reads name o statics s at.memory.fits at.running.typed) a.number n is)) (each a n is t)
  object_alike v u _ k go go' t each = elim t [ ]

  -- an index or a length
  pub same_index : (v : Value) (u : StateValue) → IsValue name v u → index_in v ≡ as_index u
  same_index v u (int32 z fits) = refl
  same_index v u _ = refl

  -- ---- elements

  -- the transition by whether an index is inside
  abbrev transition_by : ℕ → Frames → (ℕ → ObjectTransition) → Bool → MachineTransition
  transition_by n k go b = objects_transition (in_range (if b then Some n else None) k o go)

  -- an index inside of the array
  slot_alike : (z : ℤ) (slots : List ℕ) (elements : List StateValue) → length slots ≡ length elements → (k : Frames) (go : ℕ → ObjectTransition) (go' : ℕ → StateValue → StateEffect) → Fine (state_in_range here s f below (slice_get elements) go' z) →
      ((slot : ℕ) (old : StateValue) → slice_get elements slot ≡ Some old → Fine (go' slot old) → Alike (objects_transition (go slot)) (go' slot old)) →
      Alike (objects_transition (in_range (checked_index z (length slots)) k o go)) (state_in_range here s f below (slice_get elements) go' z)
  slot_alike (negsuc n) slots elements same k go go' t each = raised_alike k IndexOutOfRange
  slot_alike (pos n) slots elements same k go go' t each = by_value (slice_get elements n) refl t
    where
      by_value : (x : Option StateValue) → slice_get elements n ≡ x → Fine (option_map_or (go' n) x (StateRaises IndexOutOfRange)) → Alike (transition_by n k go (nat_lt n (length slots))) (option_map_or (go' n) x (StateRaises IndexOutOfRange))
      by_value None is t' =
          let far : length elements ≤ n = none_is_outside elements n is in
          alike_transition (transition_by n k go (nat_lt n (length slots))) (transition_by n k go false) (StateRaises IndexOutOfRange) (ap (transition_by n k go) (le-ltb n (length slots) (omega (arith, far, same)))) (raised_alike k IndexOutOfRange)
      by_value (Some old) is t' =
          let near : n < length elements = slice_get_within elements n old is in
          alike_transition (transition_by n k go (nat_lt n (length slots))) (transition_by n k go true) (go' n old) (ap (transition_by n k go) (lt-ltb n (length slots) (omega (arith, near, same)))) (each n old is t')

  -- the parts of an element's transition
  abbrev slots_transition : Frames → (Addr → ℕ → ObjectTransition) → Addr → ℤ → List ℕ → ObjectTransition
  slots_transition k go a z slots = in_range (checked_index z (length slots)) k o (λ slot. go a slot)

  -- by the index
  abbrev index_transition : Frames → (Addr → ℕ → ObjectTransition) → Addr → ℤ → ObjectTransition
  index_transition k go a z = when_some (slots_of o a) (slots_transition k go a z)

  -- by whether the elements pass the test
  abbrev tested_by : (ObjectName → DeclaredType → ℕ → StateValue → StateEffect) → ObjectName → DeclaredType → List StateValue → ℤ → Bool → StateEffect
  tested_by go' n type elements z b = if b then state_in_range here s f below (slice_get elements) (go' n type) z else Sticks

  -- an element of an array that passes the test
  pub element_alike : (test : DeclaredType → Bool) (v w : Value) (u x : StateValue) → IsValue name v u → IsValue name w x → (k : Frames) (go : Addr → ℕ → ObjectTransition) (go' : ObjectName → DeclaredType → ℕ → StateValue → StateEffect) →
      Fine (element here s f below test u x go') →
      ((a : Addr) (n : ObjectName) (t : DeclaredType) (elements : List StateValue) → name a.number ≡ Some n → array_at s n ≡ Some (t, elements) → IsArrayThere here.tree name o s (model.reads name o statics s at.memory.fits at.running.typed) a n t elements → IsTrue (test t) →
      (slot : ℕ) (old : StateValue) → slice_get elements slot ≡ Some old → Fine (go' n t slot old) → Alike (objects_transition (go a slot)) (go' n t slot old)) →
      Alike (objects_transition (object_of v k o (λ a. index_of w (λ z. when_some (slots_of o a) (λ slots. in_range (checked_index z (length slots)) k o (λ slot. go a slot)))))) (element here s f below test u x go')
  element_alike test v w u x is is' k go go' t each = object_alike v u is k _ _ t at_address
    where
      in_array : (a : Addr) (n : ObjectName) (type : DeclaredType) (elements : List StateValue) → name a.number ≡ Some n → array_at s n ≡ Some (type, elements) → (z : ℤ) (b : Bool) → test type ≡ b → Fine (tested_by go' n type elements z b) →
          IsArrayThere here.tree name o s (model.reads name o statics s at.memory.fits at.running.typed) a n type elements → Alike (objects_transition (index_transition k go a z)) (tested_by go' n type elements z b)
      in_array a n type elements named there z false passed t' array = elim t' [ ]
      in_array a n type elements named there z true passed t' array =
          alike_transition (objects_transition (index_transition k go a z)) (objects_transition (slots_transition k go a z array.thing.cell.slots)) (tested_by go' n type elements z true)
          (ap (λ (c : Option Cell). objects_transition (when_some (option_map (λ (y : Cell). y.slots) c) (slots_transition k go a z))) array.thing.lies)
          (slot_alike z array.thing.cell.slots elements (agree_length (IsWord name) array.thing.cell.slots elements array.values) k (go a) (go' n type) t' (each a n type elements named there array passed))

      at_address : (a : Addr) (n : ObjectName) → name a.number ≡ Some n → Fine (state_given (as_index x) (λ z. state_given (array_at s n) (λ (held : DeclaredType × List StateValue). tested_by go' n held.0 held.1 z (test held.0)))) →
          Alike (objects_transition (index_of w (index_transition k go a))) (state_given (as_index x) (λ z. state_given (array_at s n) (λ (held : DeclaredType × List StateValue). tested_by go' n held.0 held.1 z (test held.0))))
      at_address a n named t' =
          given_alike (objects_transition (index_of w (index_transition k go a))) (as_index x) _ t' (λ z index t''.
          alike_transition (objects_transition (index_of w (index_transition k go a))) (objects_transition (index_transition k go a z)) _ (ap (λ j. objects_transition (when_some j (index_transition k go a))) (same_index w x is' ∙ index))
          (given_alike (objects_transition (index_transition k go a z)) (array_at s n) _ t'' (λ held there t'''.
          in_array a n held.0 held.1 named there z (test held.0) refl t''' (array_there here.tree name o s (model.reads name o statics s at.memory.fits at.running.typed) a n held.0 held.1 named there))))
