-- Instructions that touch frames alone do the same on both machines.
use Rattle.std.proofs.Common.{◌≡◌, ◌<◌, ◌+◌, ℕ, ℤ, not, List, ◌∷◌, map, Some, None, option_map, slice_get, slice_set, sym, ap, ◌∙◌, subst, arith, ◌≤◌, pos, negsuc, Bool, true, false, [], length, Option, Result, Ok, Err, refl, inr}
use Rattle.std.specs.Prelude.{if◌then◌else◌, nat_lt}
use Rattle.std.specs.Int.{w32, cast_unsigned}
use Rattle.std.proofs.lemmas.Option.{slice_get-map, slice_get_within, same_Some}
use Rattle.std.proofs.lemmas.Bool.{lt-ltb}
use Rattle.interpreter.specs.cil_model.declared.instructions.Instruction.{Instruction}
use Rattle.interpreter.specs.cil_model.declared.instructions.Instruction.TheVariants as Named
use Rattle.interpreter.specs.cil_model.declared.instructions.BinaryOperation.{BinaryOperation}
use Rattle.interpreter.specs.cil_model.declared.instructions.UnaryOperation.{UnaryOperation}
use Rattle.interpreter.specs.cil_model.declared.instructions.ShiftOperation.{ShiftOperation}
use Rattle.interpreter.specs.cil_model.declared.instructions.Comparison.{Comparison}
use Rattle.interpreter.specs.cil_model.declared.instructions.BranchCondition.{BranchCondition}
use Rattle.interpreter.specs.cil_model.declared.instructions.BranchCondition.TheVariants as conditions
use Rattle.interpreter.specs.cil_model.Bodies.{lines_of, pc_of, at_index}
use Rattle.interpreter.specs.cil_model.Mentions.{literals_of}
use Rattle.interpreter.specs.reference_machine.Values.{Literal, Reference, Value as StateValue, same_kind}
use Rattle.interpreter.specs.reference_machine.Arithmetic.{binary_value, unary_value, shift_value, compare_values, branch_values, is_set as is_set_value, not_option, convert_32, convert_64, one_or_zero as one_or_zero_value}
use Rattle.interpreter.specs.reference_machine.States.{Frame as StateFrame, State, same_kind_or_none}
use Rattle.interpreter.specs.reference_machine.Effects.{StepContext, Goes, when_some as given_value, unless_fault, after, Effect as StateEffect, Raises as StateRaises, Sticks}
use Rattle.interpreter.specs.reference_machine.Steps.{next, branch_if as branch_to, store_at as stored_value, switch_on as switch_labels, execute, jump as jump_to, to_label}
use Rattle.interpreter.specs.resolved_code.declared.operations.Operation.{Operation}
use Rattle.interpreter.specs.resolved_code.declared.operations.Operation.TheVariants as Resolved
use Rattle.interpreter.specs.object_memory.declared.addresses.TheConstants.{ADDRESSES, FIRST_LITERAL}
use Rattle.interpreter.specs.object_memory.declared.values.Value.{Value}
use Rattle.interpreter.specs.object_memory.Cells.{literal}
use Rattle.interpreter.specs.object_memory.Objects.{Objects}
use Rattle.interpreter.specs.threads_monitors.Frames.{Frames, with_stack, with_argument, with_local, with_pc}
use Rattle.interpreter.specs.instructions.Frames.{value_pushed, onward, store_in, result_pushed, binary_result, unary_result, shift_result, comparison, branch_test, one_or_zero, is_set, in_32_bits, in_64_bits, branch_if, switch_on, Transition, jump, with_top, when_some, to_pc}
use Rattle.interpreter.specs.loaded_program.declared.instructions.LinkedInstruction.TheVariants as Linked
use Rattle.interpreter.specs.Instructions.{of_frames, operation_transition, answer_of}
use Rattle.interpreter.proofs.LinkedTransitions.{link_does}
use Rattle.simulation.specs.Agreement.{Agree}
use Rattle.simulation.specs.Refines.{Names, IsValue, int32, int64, null_reference, reference, IsFrame, AreFrames}
use Rattle.simulation.proofs.ListLaws.AgreeingLists.{agree_set, agree_length}
use Rattle.simulation.proofs.Instructions.Correspondence.{IsSetting, DoesAlike, refused_fault}
use Rattle.simulation.proofs.Instructions.FrameProgress.{own_frame, index_is_small, onward_is, leaves_is, moved_frames, next_alike, jump_alike}
use Rattle.simulation.proofs.Instructions.StackOperands.{fine, one_operand, two_operands}
use Rattle.simulation.proofs.Instructions.MatchingResults.{IsResult, Same, Opposite, meets_opposite, Meets, meets_at}
use Rattle.simulation.proofs.Instructions.ValueOperations.{comparison_meets, branch_test_meets, is_set_meets, binary_meets, unary_meets, shift_meets, narrow_meets, wide_meets, one_or_zero_alike}
use Rattle.simulation.proofs.Memory.MemoryModels.{MemoryModel, mutator_in}
use Rattle.std.specs.Option.{option_map_or}
use Rattle.interpreter.specs.cil_model.declared.limits.TheConstants.{MOST_INSTRUCTIONS}
use Rattle.interpreter.specs.cil_model.declared.reports.Fault.{Fault}
use Rattle.interpreter.specs.cil_model.declared.trees.Code.{Code}
use Rattle.interpreter.specs.cil_model.declared.trees.Line.{Line}
use Rattle.interpreter.specs.cil_model.Stacks.{take_one, take_two}
use Rattle.interpreter.proofs.reference_machine.TypedStates.RunningFrames.{IsTypedEffect}
use Rattle.interpreter.specs.threads_monitors.declared.effects.Effect.TheVariants.{Continues, Raises}
use Rattle.interpreter.specs.declared.outcomes.InstructionOutcome.TheVariants.{OwnEffect}
use Rattle.simulation.proofs.ProgramSizes.Methods.{instructions_few}
use Rattle.simulation.proofs.ListLaws.TestsAndLengths.{found_within}
use Rattle.interpreter.proofs.cil_model.SameLaws.{never}
use Rattle.interpreter.proofs.cil_model.Lists.{none_is_some}

-- ---- A frame continues with what was computed of its operands alike on both machines.

module _ (here : StepContext) (model : MemoryModel here.tree) (name : Names) (m : Frames) (o : Objects) (statics : List Value) (printed : List ℕ) (s : State) (f : StateFrame) (below : List StateFrame) (i : Instruction) (operation : Operation)
    (at : IsSetting here model name m o statics printed s f below i operation) where
  -- both do the same
  abbrev pub Alike : Transition → StateEffect → Type 0
  Alike transition e = DoesAlike here model name m o statics printed s f below (of_frames o statics printed transition) e

  -- the reference machine isn't stuck
  abbrev pub Typed : StateEffect → Type 0
  Typed e = IsTypedEffect here.tree e

  -- a stack that represents the other
  abbrev pub Occurs : List Value → List StateValue → Type 0
  Occurs vs us = Agree (IsValue name) vs us

  frame : IsFrame here.tree name m.running f
  frame = own_frame here model name m o statics printed s f below i operation at

  -- ---- to another instruction

  -- on to the next instruction, with other values
  pub changed_does : (arguments locals stack : List Value) (arguments' locals' stack' : List StateValue) → Occurs arguments arguments' → Occurs locals locals' → Occurs stack stack' →
      Alike (onward (record m { running = record m.running { arguments = arguments; locals = locals; stack = stack } })) (Goes (after (record f { arguments = arguments'; locals = locals' }) stack' ∷ below) s)
  changed_does arguments locals stack arguments' locals' stack' h k l =
      let moved : ℕ → Frames = λ pc. record m { running = record m.running { pc = pc; arguments = arguments; locals = locals; stack = stack } } in
      record {
        answer = answer_of (moved (m.running.pc + 1)) o statics printed (OwnEffect Continues);
        is = ap (λ b. of_frames o statics printed (if b then Some (moved (m.running.pc + 1), Continues) else None)) (index_is_small here model name m o statics printed s f below i operation at);
        refuses = λ _ h. never h;
        alike = λ r. record {
          running = after (record f { arguments = arguments'; locals = locals' }) stack';
          waiting = below;
          state = s;
          is = refl;
          names = name;
          extends = λ a n is. is;
          others = refl;
          frames = subst (λ p. AreFrames here.tree here.limits name (moved (p + 1)) (after (record f { arguments = arguments'; locals = locals' }) stack' ∷ below)) (sym frame.pc)
              (moved_frames here model name m o statics printed s f below i operation at name (λ a n is. is) arguments locals stack arguments' locals' stack' (f.pc + 1) h k l);
          memory = at.memory;
        };
      }

  -- with another stack
  pub onward_does : (rest : List Value) (rest' : List StateValue) → Occurs rest rest' → Alike (onward (with_stack m rest)) (next here s f below rest')
  onward_does rest rest' k =
      record {
        answer = answer_of (with_pc (with_stack m rest) (m.running.pc + 1)) o statics printed (OwnEffect Continues);
        is = ap (of_frames o statics printed) (onward_is here model name m o statics printed s f below i operation at rest);
        refuses = λ _ h. never h;
        alike = λ r. next_alike here model name m o statics printed s f below i operation at rest rest' k;
      }

  -- with one value more
  pub leaves_does : (v : Value) (u : StateValue) → IsValue name v u → (rest : List Value) (rest' : List StateValue) → Occurs rest rest' → length rest ≤ length m.running.stack → Alike (value_pushed v (with_stack m rest)) (next here s f below (u ∷ rest'))
  leaves_does v u h rest rest' k shorter =
      record {
        answer = answer_of (with_pc (with_stack m (v ∷ rest)) (m.running.pc + 1)) o statics printed (OwnEffect Continues);
        is = ap (of_frames o statics printed) (leaves_is here model name m o statics printed s f below i operation at v rest shorter);
        refuses = λ _ h. never h;
        alike = λ r. next_alike here model name m o statics printed s f below i operation at (v ∷ rest) (u ∷ rest') (h, k);
      }

  -- with one value more on the whole stack
  pub pushes_does : (v : Value) (u : StateValue) → IsValue name v u → Alike (value_pushed v m) (next here s f below (u ∷ f.stack))
  pushes_does v u h = leaves_does v u h m.running.stack f.stack frame.stack (omega arith)

  -- with a result, or a fault
  pub result_does : (r : Result Value Fault) (r' : Result StateValue Fault) → IsResult name r r' → (rest : List Value) (rest' : List StateValue) → Occurs rest rest' → length rest ≤ length m.running.stack →
      Alike (result_pushed (with_stack m rest) r) (unless_fault r' (λ u. next here s f below (u ∷ rest')))
  result_does (Ok v) (Ok u) h rest rest' k shorter = leaves_does v u h rest rest' k shorter
  result_does (Err x) (Err y) h rest rest' k shorter = record { answer = answer_of (with_stack m rest) o statics printed (OwnEffect (Raises x)); is = refl; refuses = λ _ refused. inr (ap StateRaises (sym h) ∙ refused_fault x refused); alike = λ r. (ap StateRaises (sym h), (refl, refl, refl)) }
  result_does _ _ h rest rest' k shorter = elim h [ ]

  -- ---- to a label

  module _ (label : List ℕ) (pc : ℕ) (is : pc_of label (lines_of f.method) ≡ Some pc) where
    -- it is that of an instruction, and those are few
    label_is_small : nat_lt pc MOST_INSTRUCTIONS ≡ true
    label_is_small =
        let typed = at.running.frame in
        let lines : lines_of f.method ≡ typed.code.lines = ap (λ (c : Option Code). option_map_or (λ (code : Code). code.lines) c []) typed.has_code in
        let inside : pc < 0 + length typed.code.lines = subst (λ (ls : List Line). pc < 0 + length ls) lines (found_within _ 0 (lines_of f.method) pc is) in
        let few : length typed.code.lines ≤ MOST_INSTRUCTIONS = instructions_few here.tree at.running.accepted.legal f.owner typed.is_declared.0 f.method typed.is_declared.1 typed.code typed.has_code in
        lt-ltb pc MOST_INSTRUCTIONS (omega (arith, inside, few))

    pub jump_does : (rest : List Value) (rest' : List StateValue) → Occurs rest rest' → Alike (jump pc (with_stack m rest)) (jump_to here s f below label rest')
    jump_does rest rest' k =
        subst (λ p. Alike (jump pc (with_stack m rest)) (given_value p (λ q. Goes (record f { pc = q; stack = rest' } ∷ below) s))) (sym is)
        (record {
          answer = answer_of (with_pc (with_stack m rest) pc) o statics printed (OwnEffect Continues);
          is = ap (λ b. of_frames o statics printed (if b then Some (with_pc (with_stack m rest) pc, Continues) else None)) label_is_small;
          refuses = λ _ h. never h;
          alike = λ r. jump_alike here model name m o statics printed s f below i operation at pc rest rest' k;
        })

    -- there or on, by the same test
    pub branch_does : (a b : Bool) → a ≡ b → (rest : List Value) (rest' : List StateValue) → Occurs rest rest' → Alike (branch_if a pc (with_stack m rest)) (branch_to here s f below b label rest')
    branch_does a b e rest rest' k = subst (λ c. Alike (branch_if a pc (with_stack m rest)) (branch_to here s f below c label rest')) e (by_test a)
      where
        by_test : (c : Bool) → Alike (branch_if c pc (with_stack m rest)) (branch_to here s f below c label rest')
        by_test true = jump_does rest rest' k
        by_test false = onward_does rest rest' k

  -- the label of a number and its pc
  pub to_label_does : (pc : Option ℕ) (label : Option (List ℕ)) → option_map (λ l. pc_of l (lines_of f.method)) label ≡ option_map Some pc →
      (rest : List Value) (rest' : List StateValue) → Occurs rest rest' → Alike (to_pc pc (with_stack m rest)) (to_label here s f below label rest')
  to_label_does None None is rest rest' k = onward_does rest rest' k
  to_label_does (Some pc) (Some label) is rest rest' k = jump_does label pc (same_Some (pc_of label (lines_of f.method)) (Some pc) is) rest rest' k
  to_label_does (Some pc) None is rest rest' k = none_is_some (Some pc) is
  to_label_does None (Some label) is rest rest' k = none_is_some (pc_of label (lines_of f.method)) (sym is)

  -- ---- with what was computed

  module _ {X Y : Type 0} (R : X → Y → Type 0) where
    -- with what is there
    pub given_alike : (answer : Option X) (answer' : Option Y) (go : X → Transition) (go' : Y → StateEffect) → Meets R answer answer' → Typed (given_value answer' go') →
        ((x : X) (y : Y) → R x y → Typed (go' y) → Alike (go x) (go' y)) → Alike (when_some answer go) (given_value answer' go')
    given_alike answer None go go' h t each = elim t [ ]
    given_alike (Some x) (Some y) go go' h t each = each x y h t
    given_alike None (Some y) go go' h t each = elim h [ ]

    -- of one operand
    pub one_given : (result : Value → Option X) (result' : StateValue → Option Y) (go : X → Frames → Transition) (go' : Y → List StateValue → StateEffect) →
        ((v : Value) (u : StateValue) → IsValue name v u → Meets R (result v) (result' u)) →
        Typed (take_one Sticks f.stack (λ u rest. given_value (result' u) (λ y. go' y rest))) →
        ((x : X) (y : Y) → R x y → (rest : List Value) (rest' : List StateValue) → Occurs rest rest' → length rest ≤ length m.running.stack → Typed (go' y rest') → Alike (go x (with_stack m rest)) (go' y rest')) →
        Alike (with_top m (λ v n. when_some (result v) (λ x. go x n))) (take_one Sticks f.stack (λ u rest. given_value (result' u) (λ y. go' y rest)))
    one_given result result' go go' meets t each =
        one_operand here model name m o statics printed s f below i operation at (of_frames o statics printed) (λ v n. when_some (result v) (λ x. go x n)) (λ u rest. given_value (result' u) (λ y. go' y rest)) t
        (λ v rest u rest' is is' h k shorter t'.
        given_alike (result v) (result' u) (λ x. go x (with_stack m rest)) (λ y. go' y rest') (meets v u h) t' (λ x y r t''. each x y r rest rest' k shorter t''))

    -- of two operands
    pub two_given : (result : Value → Value → Option X) (result' : StateValue → StateValue → Option Y) (go : X → Frames → Transition) (go' : Y → List StateValue → StateEffect) →
        ((v w : Value) (u x : StateValue) → IsValue name v u → IsValue name w x → Meets R (result v w) (result' u x)) →
        Typed (take_two Sticks f.stack (λ u x rest. given_value (result' u x) (λ y. go' y rest))) →
        ((x : X) (y : Y) → R x y → (rest : List Value) (rest' : List StateValue) → Occurs rest rest' → length rest ≤ length m.running.stack → Typed (go' y rest') → Alike (go x (with_stack m rest)) (go' y rest')) →
        Alike (with_top m (λ w n. with_top n (λ v k. when_some (result v w) (λ x. go x k)))) (take_two Sticks f.stack (λ u x rest. given_value (result' u x) (λ y. go' y rest)))
    two_given result result' go go' meets t each =
        two_operands here model name m o statics printed s f below i operation at (of_frames o statics printed) (λ v w n. when_some (result v w) (λ x. go x n)) (λ u x rest. given_value (result' u x) (λ y. go' y rest)) t
        (λ v w rest u x rest' is is' h h' k shorter t'.
        given_alike (result v w) (result' u x) (λ z. go z (with_stack m rest)) (λ y. go' y rest') (meets v w u x h h') t' (λ z y r t''. each z y r rest rest' k (omega (arith, shorter)) t''))

  -- a value of one operand takes its place
  pub value_does : (result : Value → Option Value) (result' : StateValue → Option StateValue) →
      ((v : Value) (u : StateValue) → IsValue name v u → Meets (IsValue name) (result v) (result' u)) →
      Typed (take_one Sticks f.stack (λ u rest. given_value (result' u) (λ x. next here s f below (x ∷ rest)))) →
      Alike (with_top m (λ v n. when_some (result v) (λ x. value_pushed x n))) (take_one Sticks f.stack (λ u rest. given_value (result' u) (λ x. next here s f below (x ∷ rest))))
  value_does result result' meets typed =
      one_given (IsValue name) result result' value_pushed (λ u rest. next here s f below (u ∷ rest)) meets typed (λ v u h rest rest' k shorter t. leaves_does v u h rest rest' k shorter)

  -- ---- arguments and locals of a frame

  -- the value at a signed index
  values_meet : (vs : List Value) (us : List StateValue) → Occurs vs us → (n : ℤ) → Meets (IsValue name) (at_index vs n) (at_index us n)
  values_meet vs us h (pos n) = meets_at (IsValue name) vs us h n
  values_meet vs us h (negsuc n) = tt

  -- it is pushed
  pub load_does : (vs : List Value) (us : List StateValue) → Occurs vs us → (n : ℤ) →
      Typed (given_value (at_index us n) (λ u. next here s f below (u ∷ f.stack))) →
      Alike (when_some (at_index vs n) (λ v. value_pushed v m)) (given_value (at_index us n) (λ u. next here s f below (u ∷ f.stack)))
  load_does vs us h n typed =
      given_alike (IsValue name) (at_index vs n) (at_index us n) (λ v. value_pushed v m) (λ u. next here s f below (u ∷ f.stack)) (values_meet vs us h n) typed (λ v u k t. pushes_does v u k)

  -- a value is stored at an index that exists
  pub store_does : (vs : List Value) (us : List StateValue) → Occurs vs us → (n : ℤ) (u : StateValue) (store : ℕ → Frames) (go : List StateValue → StateEffect) →
      Typed (given_value (stored_value here s f below n u us) go) →
      ((k : ℕ) → Alike (onward (store k)) (go (slice_set us k u))) →
      Alike (store_in store vs n) (given_value (stored_value here s f below n u us) go)
  store_does vs us h (negsuc n) u store go typed each = elim typed [ ]
  store_does vs us h (pos n) u store go typed each = by_old (slice_get us n) refl typed
    where
      by_old : (old : Option StateValue) → slice_get us n ≡ old → Typed (given_value (same_kind_or_none old u (slice_set us n u)) go) →
          Alike (store_in store vs (pos n)) (given_value (same_kind_or_none old u (slice_set us n u)) go)
      by_old None is t = elim t [ ]
      by_old (Some old) is t = by_kind (same_kind old u) t
        where
          inside : n < length vs
          inside = subst (λ k. n < k) (sym (agree_length (IsValue name) vs us h)) (slice_get_within us n old is)

          by_kind : (same : Bool) → Typed (given_value (if same then Some (slice_set us n u) else None) go) → Alike (store_in store vs (pos n)) (given_value (if same then Some (slice_set us n u) else None) go)
          by_kind true t' = subst (λ b. Alike (if b then onward (store n) else None) (go (slice_set us n u))) (sym (lt-ltb n (length vs) inside)) (each n)
          by_kind false t' = elim t' [ ]

-- ---- Instructions that touch frames alone do the same on both machines.

module _ (here : StepContext) (model : MemoryModel here.tree) (name : Names) (m : Frames) (o : Objects) (statics : List Value) (printed : List ℕ) (s : State) (f : StateFrame) (below : List StateFrame) where
  -- a machine at an instruction
  abbrev At : Instruction → Operation → Type 0
  At i operation = IsSetting here model name m o statics printed s f below i operation

  -- it does the same as the reference machine
  abbrev Does : Instruction → Operation → Type 0
  Does i operation = DoesAlike here model name m o statics printed s f below (operation_transition here.tree (mutator_in here model) operation m o statics printed) (execute here s f below i)

  -- ---- constants

  pub no_operation_alike : At Named.NoOperation Resolved.NoOperation → Does Named.NoOperation Resolved.NoOperation
  no_operation_alike at = onward_does here model name m o statics printed s f below _ _ at m.running.stack f.stack (own_frame here model name m o statics printed s f below _ _ at).stack

  pub load_int32_alike : (z : ℤ) → At (Named.LoadInt32 z) (Resolved.LoadInt32 z) → Does (Named.LoadInt32 z) (Resolved.LoadInt32 z)
  load_int32_alike z at = pushes_does here model name m o statics printed s f below _ _ at _ _ (int32 z at.constant)

  pub load_int64_alike : (z : ℤ) → At (Named.LoadInt64 z) (Resolved.LoadInt64 z) → Does (Named.LoadInt64 z) (Resolved.LoadInt64 z)
  load_int64_alike z at = pushes_does here model name m o statics printed s f below _ _ at _ _ (int64 z at.constant)

  pub load_null_alike : At Named.LoadNull Resolved.LoadNull → Does Named.LoadNull Resolved.LoadNull
  load_null_alike at = pushes_does here model name m o statics printed s f below _ _ at _ _ null_reference

  -- the address of a literal is that of its characters
  pub load_string_alike : (characters : List ℕ) (number : ℕ) → slice_get (literals_of here.tree) number ≡ Some characters →
      At (Named.LoadString characters) (Resolved.LoadString number) → Does (Named.LoadString characters) (Resolved.LoadString number)
  load_string_alike characters number is at =
      let named : name (literal number).number ≡ Some (Literal characters) = (model.reads name o statics s at.memory.fits at.running.typed).each_literal number characters is in
      let small : FIRST_LITERAL + number < ADDRESSES = (model.reads name o statics s at.memory.fits at.running.typed).small (literal number).number (Literal characters) named in
      let few : number < FIRST_LITERAL = omega (arith, small) in
      subst (λ transition. DoesAlike here model name m o statics printed s f below transition (next here s f below (Reference (Literal characters) ∷ f.stack)))
      (sym (link_does here.tree (mutator_in here model) m o statics printed (Resolved.LoadString number) (Linked.LoadString (literal number)) (ap (λ b. if b then Some (Linked.LoadString (literal number)) else None) (lt-ltb number FIRST_LITERAL few))))
      (pushes_does here model name m o statics printed s f below _ _ at _ _ (reference (literal number) (Literal characters) named))

  -- ---- arguments and locals

  pub load_argument_alike : (n : ℤ) → At (Named.LoadArgument n) (Resolved.LoadArgument n) → Does (Named.LoadArgument n) (Resolved.LoadArgument n)
  load_argument_alike n at = load_does here model name m o statics printed s f below _ _ at m.running.arguments f.arguments (own_frame here model name m o statics printed s f below _ _ at).arguments n (fine here model name m o statics printed s f below _ _ at)

  pub load_local_alike : (n : ℤ) → At (Named.LoadLocal n) (Resolved.LoadLocal n) → Does (Named.LoadLocal n) (Resolved.LoadLocal n)
  load_local_alike n at = load_does here model name m o statics printed s f below _ _ at m.running.locals f.locals (own_frame here model name m o statics printed s f below _ _ at).locals n (fine here model name m o statics printed s f below _ _ at)

  pub store_argument_alike : (n : ℤ) → At (Named.StoreArgument n) (Resolved.StoreArgument n) → Does (Named.StoreArgument n) (Resolved.StoreArgument n)
  store_argument_alike n at =
      let own = own_frame here model name m o statics printed s f below _ _ at in
      one_operand here model name m o statics printed s f below _ _ at (of_frames o statics printed) (λ v k. store_in (λ i. with_argument k i v) k.running.arguments n)
      (λ u rest. given_value (stored_value here s f below n u f.arguments) (λ arguments. Goes (after (record f { arguments = arguments }) rest ∷ below) s)) (fine here model name m o statics printed s f below _ _ at)
      (λ v rest u rest' is is' h k shorter t.
      store_does here model name m o statics printed s f below _ _ at m.running.arguments f.arguments own.arguments n u (λ i. with_argument (with_stack m rest) i v) (λ arguments. Goes (after (record f { arguments = arguments }) rest' ∷ below) s) t
      (λ i. changed_does here model name m o statics printed s f below _ _ at (slice_set m.running.arguments i v) m.running.locals rest (slice_set f.arguments i u) f.locals rest' (agree_set (IsValue name) m.running.arguments f.arguments own.arguments i v u h) own.locals k))

  pub store_local_alike : (n : ℤ) → At (Named.StoreLocal n) (Resolved.StoreLocal n) → Does (Named.StoreLocal n) (Resolved.StoreLocal n)
  store_local_alike n at =
      let own = own_frame here model name m o statics printed s f below _ _ at in
      one_operand here model name m o statics printed s f below _ _ at (of_frames o statics printed) (λ v k. store_in (λ i. with_local k i v) k.running.locals n)
      (λ u rest. given_value (stored_value here s f below n u f.locals) (λ locals. Goes (after (record f { locals = locals }) rest ∷ below) s)) (fine here model name m o statics printed s f below _ _ at)
      (λ v rest u rest' is is' h k shorter t.
      store_does here model name m o statics printed s f below _ _ at m.running.locals f.locals own.locals n u (λ i. with_local (with_stack m rest) i v) (λ locals. Goes (after (record f { locals = locals }) rest' ∷ below) s) t
      (λ i. changed_does here model name m o statics printed s f below _ _ at m.running.arguments (slice_set m.running.locals i v) rest f.arguments (slice_set f.locals i u) rest' own.arguments (agree_set (IsValue name) m.running.locals f.locals own.locals i v u h) k))

  -- ---- the stack

  pub duplicate_alike : At Named.Duplicate Resolved.Duplicate → Does Named.Duplicate Resolved.Duplicate
  duplicate_alike at =
      one_operand here model name m o statics printed s f below _ _ at (of_frames o statics printed) (λ v n. value_pushed v m) (λ u rest. next here s f below (u ∷ u ∷ rest)) (fine here model name m o statics printed s f below _ _ at)
      (λ v rest u rest' is is' h k shorter t. subst (λ stack. Alike here model name m o statics printed s f below _ _ at (value_pushed v m) (next here s f below (u ∷ stack))) is' (pushes_does here model name m o statics printed s f below _ _ at v u h))

  pub pop_alike : At Named.Pop Resolved.Pop → Does Named.Pop Resolved.Pop
  pop_alike at =
      one_operand here model name m o statics printed s f below _ _ at (of_frames o statics printed) (λ v n. onward n) (λ u rest. next here s f below rest) (fine here model name m o statics printed s f below _ _ at) (λ v rest u rest' is is' h k shorter t. onward_does here model name m o statics printed s f below _ _ at rest rest' k)

  -- ---- arithmetic

  pub binary_alike : (op : BinaryOperation) → At (Named.Binary op) (Resolved.Binary op) → Does (Named.Binary op) (Resolved.Binary op)
  binary_alike op at =
      two_given here model name m o statics printed s f below _ _ at (IsResult name) (binary_result op) (binary_value op) (λ r n. result_pushed n r) (λ r rest. unless_fault r (λ u. next here s f below (u ∷ rest)))
      (binary_meets name op) (fine here model name m o statics printed s f below _ _ at) (λ r r' h rest rest' k shorter t. result_does here model name m o statics printed s f below _ _ at r r' h rest rest' k shorter)

  pub unary_alike : (op : UnaryOperation) → At (Named.Unary op) (Resolved.Unary op) → Does (Named.Unary op) (Resolved.Unary op)
  unary_alike op at = value_does here model name m o statics printed s f below _ _ at (unary_result op) (unary_value op) (unary_meets name op) (fine here model name m o statics printed s f below _ _ at)

  pub shift_alike : (op : ShiftOperation) → At (Named.Shift op) (Resolved.Shift op) → Does (Named.Shift op) (Resolved.Shift op)
  shift_alike op at =
      two_given here model name m o statics printed s f below _ _ at (IsValue name) (shift_result op) (shift_value op) value_pushed (λ u rest. next here s f below (u ∷ rest))
      (shift_meets name op) (fine here model name m o statics printed s f below _ _ at) (λ v u h rest rest' k shorter t. leaves_does here model name m o statics printed s f below _ _ at v u h rest rest' k shorter)

  pub compare_alike : (op : Comparison) → At (Named.Compare op) (Resolved.Compare op) → Does (Named.Compare op) (Resolved.Compare op)
  compare_alike op at =
      two_given here model name m o statics printed s f below _ _ at Same (comparison model.phase o op) (compare_values op) (λ holds n. value_pushed (one_or_zero holds) n) (λ holds rest. next here s f below (one_or_zero_value holds ∷ rest))
      (comparison_meets here.tree model name o statics s at.memory.fits op) (fine here model name m o statics printed s f below _ _ at) (λ a b e rest rest' k shorter t. leaves_does here model name m o statics printed s f below _ _ at (one_or_zero a) (one_or_zero_value b) (one_or_zero_alike name a b e) rest rest' k shorter)

  pub convert_int32_alike : At Named.ConvertInt32 Resolved.ConvertInt32 → Does Named.ConvertInt32 Resolved.ConvertInt32
  convert_int32_alike at = value_does here model name m o statics printed s f below _ _ at in_32_bits convert_32 (narrow_meets name) (fine here model name m o statics printed s f below _ _ at)

  pub convert_int64_alike : At Named.ConvertInt64 Resolved.ConvertInt64 → Does Named.ConvertInt64 Resolved.ConvertInt64
  convert_int64_alike at = value_does here model name m o statics printed s f below _ _ at in_64_bits convert_64 (wide_meets name) (fine here model name m o statics printed s f below _ _ at)

  -- ---- branches

  pub branch_alike : (condition : BranchCondition) (label : List ℕ) (pc : ℕ) → pc_of label (lines_of f.method) ≡ Some pc → At (Named.Branch condition label) (Resolved.Branch condition pc) → Does (Named.Branch condition label) (Resolved.Branch condition pc)
  branch_alike conditions.Always label pc is at = jump_does here model name m o statics printed s f below _ _ at label pc is m.running.stack f.stack (own_frame here model name m o statics printed s f below _ _ at).stack
  branch_alike conditions.IfTrue label pc is at =
      one_given here model name m o statics printed s f below _ _ at Same is_set is_set_value (λ holds n. branch_if holds pc n) (λ holds rest. branch_to here s f below holds label rest)
      (is_set_meets here.tree model name o statics s at.memory.fits at.running.typed) (fine here model name m o statics printed s f below _ _ at) (λ a b e rest rest' k shorter t. branch_does here model name m o statics printed s f below _ _ at label pc is a b e rest rest' k)
  branch_alike conditions.IfFalse label pc is at =
      one_given here model name m o statics printed s f below _ _ at Opposite is_set (λ u. not_option (is_set_value u)) (λ holds n. branch_if (not holds) pc n) (λ holds rest. branch_to here s f below holds label rest)
      (λ v u h. meets_opposite (is_set v) (is_set_value u) (is_set_meets here.tree model name o statics s at.memory.fits at.running.typed v u h)) (fine here model name m o statics printed s f below _ _ at)
      (λ a b e rest rest' k shorter t. branch_does here model name m o statics printed s f below _ _ at label pc is (not a) b e rest rest' k)
  branch_alike (conditions.Compare op) label pc is at =
      two_given here model name m o statics printed s f below _ _ at Same (branch_test model.phase o op) (branch_values op) (λ holds n. branch_if holds pc n) (λ holds rest. branch_to here s f below holds label rest)
      (branch_test_meets here.tree model name o statics s at.memory.fits op) (fine here model name m o statics printed s f below _ _ at) (λ a b e rest rest' k shorter t. branch_does here model name m o statics printed s f below _ _ at label pc is a b e rest rest' k)

  pub switch_alike : (labels : List (List ℕ)) (pcs : List ℕ) → map (λ label. pc_of label (lines_of f.method)) labels ≡ map Some pcs →
      At (Named.Switch labels) (Resolved.Switch pcs) → Does (Named.Switch labels) (Resolved.Switch pcs)
  switch_alike labels pcs is at =
      one_operand here model name m o statics printed s f below _ _ at (of_frames o statics printed) (switch_on pcs) (switch_labels here s f below labels) (fine here model name m o statics printed s f below _ _ at) (λ v rest u rest' is' is'' h k shorter t. by_value v u h rest rest' k t)
    where
      chosen : (n : ℕ) → option_map (λ label. pc_of label (lines_of f.method)) (slice_get labels n) ≡ option_map Some (slice_get pcs n)
      chosen n = sym (slice_get-map (λ label. pc_of label (lines_of f.method)) labels n) ∙ ap (λ xs. slice_get xs n) is ∙ slice_get-map Some pcs n

      by_value : (v : Value) (u : StateValue) → IsValue name v u → (rest : List Value) (rest' : List StateValue) → Agree (IsValue name) rest rest' → Typed here model name m o statics printed s f below _ _ at (switch_labels here s f below labels u rest') →
          Alike here model name m o statics printed s f below _ _ at (switch_on pcs v (with_stack m rest)) (switch_labels here s f below labels u rest')
      by_value v u (int32 z fits) rest rest' k t = to_label_does here model name m o statics printed s f below _ _ at (slice_get pcs (cast_unsigned w32 z)) (slice_get labels (cast_unsigned w32 z)) (chosen (cast_unsigned w32 z)) rest rest' k
      by_value v u h rest rest' k t = elim t [ ]
