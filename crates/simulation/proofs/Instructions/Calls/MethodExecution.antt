-- A method that is found runs alike on both machines: an action of its own, or a frame.
-- A return does the same on both machines.
use Rattle.std.proofs.Common.{List, length, take, drop, reverse, Option, Some, None, ◌≡◌, ◌≤◌, ◌+◌, ℕ, suc, Bool, true, false, ◌&&◌, ◌∷◌, refl, ap, ◌∙◌, arith, ◌<◌, [], sym, subst}
use Rattle.std.specs.Prelude.{if◌then◌else◌, nat_lt, nat_le, ◌==◌, is_some}
use Rattle.std.specs.Option.{option_map_or}
use Rattle.interpreter.specs.cil_model.declared.reports.Fault.TheVariants.{StackOverflow}
use Rattle.interpreter.specs.cil_model.Bodies.{argument_types, code_of}
use Rattle.interpreter.specs.reference_machine.Values.{Value as StateValue, ObjectName, Reference, is_of_kind}
use Rattle.interpreter.specs.reference_machine.Effects.{Effect as StateEffect, Raises as StateRaises, StepContext, Goes, when_some as given_there, new_frame as new_state_frame, after, Sticks, return_value as returned_frames}
use Rattle.interpreter.specs.reference_machine.BuiltIn.{Action, action_of, act}
use Rattle.interpreter.specs.reference_machine.Steps.{is_too_deep, frame_for, push_and_advance, push_and_advance_value, execute}
use Rattle.interpreter.proofs.reference_machine.TypedStates.RunningFrames.{IsTypedEffect}
use Rattle.interpreter.specs.loaded_program.MethodNumbers.{number_of}
use Rattle.interpreter.specs.instructions.Frames.{when_some, Transition}
use Rattle.interpreter.specs.instructions.ObjectTransitions.{with_objects}
use Rattle.interpreter.specs.instructions.Calls.{call_transition, is_full, at_next_pc, enter_callee, return_to_caller, return_by}
use Rattle.interpreter.specs.Calls.{CallTransition, act_transition, called_method, with_console}
use Rattle.interpreter.specs.Instructions.{of_calls, answer_of, operation_transition, of_frames}
use Rattle.simulation.proofs.Instructions.Calls.Statements.{MethodsRunAlike}
use Rattle.simulation.proofs.Instructions.Correspondence.{DoesAlike, IsSetting, GoesAlike}
use Rattle.simulation.proofs.Memory.MemoryModels.{mutator_in, MemoryModel}
use Rattle.simulation.proofs.Instructions.Calls.MethodNumbers.{method_id_is, HasId}
use Rattle.simulation.proofs.Instructions.Calls.BuiltInMembers.{acts_alike}
use Rattle.std.proofs.lemmas.Bool.Decides.{nat_tests}
use Rattle.interpreter.specs.cil_model.declared.instructions.Instruction.{Instruction}
use Rattle.interpreter.specs.cil_model.declared.limits.TheConstants.{MOST_ARGUMENTS, MOST_LOCALS}
use Rattle.interpreter.specs.cil_model.declared.types.ClassName.{ClassName}
use Rattle.interpreter.specs.cil_model.declared.trees.Method.{Method}
use Rattle.interpreter.specs.cil_model.declared.trees.Code.{Code}
use Rattle.interpreter.specs.reference_machine.States.{Frame as StateFrame, State}
use Rattle.interpreter.specs.reference_machine.TypedStates.{IsTypedFrame, AreWaiting, gives as type_gives}
use Rattle.interpreter.specs.resolved_code.declared.operations.Operation.{Operation}
use Rattle.interpreter.specs.object_memory.declared.values.Value.{Value}
use Rattle.interpreter.specs.object_memory.Objects.{Objects}
use Rattle.interpreter.specs.loaded_program.LocalKinds.{local_kinds}
use Rattle.interpreter.specs.threads_monitors.Frames.{Frames, with_pc, with_call, Frame, size, with_running, return_frames, returned_to}
use Rattle.interpreter.specs.threads_monitors.declared.effects.Effect.TheVariants.{Continues, Raises, Returns}
use Rattle.interpreter.specs.declared.outcomes.InstructionOutcome.TheVariants.{OwnEffect}
use Rattle.simulation.proofs.ProgramSizes.Methods.{arguments_few, locals_few}
use Rattle.simulation.specs.MachineStates.{frame_room}
use Rattle.simulation.specs.Refines.{Names, IsValue, IsFrame, AreFrames, reference, IsObject}
use Rattle.simulation.proofs.ListLaws.AgreeingLists.{agree_length, agree_take, agree_drop, agree_reverse}
use Rattle.simulation.proofs.Instructions.FrameProgress.{own_frame, index_is_small, room_left}
use Rattle.simulation.proofs.Memory.InitialValues.{locals_refine, local_count}
use Rattle.interpreter.proofs.cil_model.SameLaws.{never, if_false, if_true}
use Rattle.interpreter.specs.cil_model.declared.instructions.Instruction.TheVariants as Named
use Rattle.interpreter.specs.cil_model.declared.types.DeclaredType.{DeclaredType}
use Rattle.interpreter.specs.resolved_code.declared.operations.Operation.TheVariants as Resolved
use Rattle.interpreter.specs.object_memory.declared.addresses.Addr.{Addr}
use Rattle.interpreter.specs.object_memory.declared.values.Value.TheVariants.{Ref}
use Rattle.interpreter.proofs.LinkedTransitions.{return_does}
use Rattle.simulation.specs.Agreement.{Agree}
use Rattle.simulation.proofs.Instructions.StackOperands.{fine, one_operand}

-- ---- A call puts a frame on the frames of both machines, where there may be one more.

-- ---- the limit of frames

full_test : (a b c d : ℕ) → a ≡ b → c ≡ d → suc a ≤ d → (a + 1 == c) ≡ nat_le d (suc b)
full_test a b c d same depth few = by_test (nat_le d (suc b)) refl
  where
    by_test : (t : Bool) → nat_le d (suc b) ≡ t → (a + 1 == c) ≡ t
    by_test true e = grind (arith, nat_tests, same, depth, few, e)
    by_test false e = grind (arith, nat_tests, same, depth, few, e)

-- there may be one more
not_full_test : (a b c d : ℕ) → a ≡ b → c ≡ d → nat_le d (suc b) ≡ false → (nat_lt (a + 1) c ≡ true) × (suc (suc a) ≤ d)
not_full_test a b c d same depth e = (grind (arith, nat_tests, same, depth, e), grind (arith, nat_tests, same, depth, e))

-- and arguments and locals for which a frame has room
few_test : (a l r x : ℕ) → a ≤ MOST_ARGUMENTS → l ≡ x → x ≤ MOST_LOCALS → r ≡ frame_room → nat_le (a + l) r ≡ true
few_test a l r x one same two room = grind (arith, nat_tests, one, same, two, room)

module _ (here : StepContext) (model : MemoryModel here.tree) (name : Names) (m : Frames) (o : Objects) (statics : List Value) (printed : List ℕ) (s : State) (f : StateFrame) (below : List StateFrame) (i : Instruction) (operation : Operation)
    (at : IsSetting here model name m o statics printed s f below i operation) where
  -- both machines have the same number below
  frames_below : length m.below ≡ length below
  frames_below = agree_length (IsFrame here.tree name) m.below below at.frames.frames.1

  -- so both are at the limit, or neither
  pub full_alike : is_full m ≡ is_too_deep here s f below
  full_alike = full_test (length m.below) (length below) m.depth here.limits.depth frames_below at.frames.depth at.frames.few

  module _ (found : ClassName × Method) (has_id : HasId here.tree found) where
    abbrev count : ℕ
    count = length (argument_types found.1 found.0)

    -- ---- a frame for the method

    module _ (enough : nat_le count (length f.stack) ≡ true) (shallow : is_too_deep here s f below ≡ false) (code : Code) (coded : code_of found.1.kind ≡ Some code)
        (typed : IsTypedFrame here.tree s None (new_state_frame found.0 found.1 code (reverse (take count f.stack)) None)) where
      abbrev entered_frames : Frames
      entered_frames = with_call (with_pc m (m.running.pc + 1)) has_id.number count (local_kinds found.1) None

      small_enough : nat_le (count + length (local_kinds found.1)) m.room ≡ true
      small_enough =
          few_test count (length (local_kinds found.1)) m.room (length code.locals)
          (arguments_few here.tree at.running.accepted.legal found.0 typed.is_declared.0 found.1 typed.is_declared.1) (local_count found.1 code coded)
          (locals_few here.tree at.running.accepted.legal found.0 typed.is_declared.0 found.1 typed.is_declared.1 code coded) at.frames.room

      operands_there : nat_le count (length m.running.stack) ≡ true
      operands_there = ap (nat_le count) (agree_length (IsValue name) m.running.stack f.stack (own_frame here model name m o statics printed s f below i operation at).stack) ∙ enough

      abbrev deeper : (nat_lt (length m.below + 1) m.depth ≡ true) × (suc (suc (length m.below)) ≤ here.limits.depth)
      deeper = not_full_test (length m.below) (length below) m.depth here.limits.depth frames_below at.frames.depth shallow

      entered_is : enter_callee (called_method found has_id.number) None (with_pc m (m.running.pc + 1)) ≡ Some (entered_frames, Continues)
      entered_is =
          ap (λ b. if b && nat_le count (length m.running.stack) && nat_le (count + length (local_kinds found.1)) m.room then Some (entered_frames, Continues) else None) deeper.0 ∙
          ap (λ b. if b && nat_le (count + length (local_kinds found.1)) m.room then Some (entered_frames, Continues) else None) operands_there ∙
          ap (λ b. if b then Some (entered_frames, Continues) else None) small_enough

      called_is : call_transition (called_method found has_id.number) m ≡ Some (entered_frames, Continues)
      called_is =
          ap (λ b. if b then Some (m, Raises StackOverflow) else at_next_pc m (enter_callee (called_method found has_id.number) None)) (full_alike ∙ shallow) ∙
          ap (λ b. if b then enter_callee (called_method found has_id.number) None (with_pc m (m.running.pc + 1)) else None) (index_is_small here model name m o statics printed s f below i operation at) ∙
          entered_is

      frames_entered : AreFrames here.tree here.limits name entered_frames (new_state_frame found.0 found.1 code (reverse (take count f.stack)) None ∷ after f (drop count f.stack) ∷ below)
      frames_entered =
          let own : IsFrame here.tree name m.running f = own_frame here model name m o statics printed s f below i operation at in
          record {
            frames = (
              record {
                method = has_id.there;
                pc = refl;
                arguments = agree_reverse (IsValue name) (take count m.running.stack) (take count f.stack) (agree_take (IsValue name) count m.running.stack f.stack own.stack);
                locals = locals_refine name found.1 code coded;
                stack = tt;
                constructed = tt;
              },
              (
                record {
                  method = own.method;
                  pc = ap (λ n. n + 1) own.pc;
                  arguments = own.arguments;
                  locals = own.locals;
                  stack = agree_drop (IsValue name) count m.running.stack f.stack own.stack;
                  constructed = own.constructed;
                },
                at.frames.frames.1,
              ),
            );
            depth = at.frames.depth;
            few = deeper.1;
            room = at.frames.room;
          }

      goes_into : GoesAlike here model name m o statics printed s f below (answer_of entered_frames o statics printed (OwnEffect Continues))
          (Goes (new_state_frame found.0 found.1 code (reverse (take count f.stack)) None ∷ after f (drop count f.stack) ∷ below) s)
      goes_into = record {
        running = new_state_frame found.0 found.1 code (reverse (take count f.stack)) None;
        waiting = after f (drop count f.stack) ∷ below;
        state = s;
        is = refl;
        names = name;
        extends = λ a n e. e;
        others = refl;
        frames = frames_entered;
        memory = at.memory;
      }

    -- ---- a method with code

    abbrev Alike : StateEffect → Type 0
    Alike e = DoesAlike here model name m o statics printed s f below (of_calls o statics printed (when_some (number_of here.tree found) (λ n. with_console printed (with_objects o (call_transition (called_method found n) m))))) e

    abbrev framed : StateEffect
    framed = frame_for here s f below found.0 found.1 (reverse (take count f.stack)) None s (drop count f.stack)

    transition_is : of_calls o statics printed (when_some (number_of here.tree found) (λ n. with_console printed (with_objects o (call_transition (called_method found n) m)))) ≡ of_calls o statics printed (with_console printed (with_objects o (call_transition (called_method found has_id.number) m)))
    transition_is = ap (λ x. of_calls o statics printed (when_some x (λ n. with_console printed (with_objects o (call_transition (called_method found n) m))))) has_id.is

    pub enters_alike : nat_le count (length f.stack) ≡ true → IsTypedEffect here.tree (if is_too_deep here s f below then StateRaises StackOverflow else framed) → Alike (if is_too_deep here s f below then StateRaises StackOverflow else framed)
    enters_alike enough typed = by_depth (is_too_deep here s f below) refl typed
      where
        by_code : is_too_deep here s f below ≡ false → (c : Option Code) → code_of found.1.kind ≡ c →
            IsTypedEffect here.tree (given_there c (λ code. Goes (new_state_frame found.0 found.1 code (reverse (take count f.stack)) None ∷ after f (drop count f.stack) ∷ below) s)) →
            Alike (given_there c (λ code. Goes (new_state_frame found.0 found.1 code (reverse (take count f.stack)) None ∷ after f (drop count f.stack) ∷ below) s))
        by_code shallow None coded t = elim t [ ]
        by_code shallow (Some code) coded t =
            record {
              answer = answer_of (entered_frames enough shallow code coded t.1.0) o statics printed (OwnEffect Continues);
              is = transition_is ∙ ap (λ x. of_calls o statics printed (with_console printed (with_objects o x))) (called_is enough shallow code coded t.1.0);
              refuses = λ _ h. never h;
              alike = λ r. goes_into enough shallow code coded t.1.0;
            }

        by_depth : (b : Bool) → is_too_deep here s f below ≡ b → IsTypedEffect here.tree (if b then StateRaises StackOverflow else framed) → Alike (if b then StateRaises StackOverflow else framed)
        by_depth true deep t =
            record {
              answer = answer_of m o statics printed (OwnEffect (Raises StackOverflow));
              is = transition_is ∙ ap (λ b. of_calls o statics printed (with_console printed (with_objects o (if b then Some (m, Raises StackOverflow) else at_next_pc m (enter_callee (called_method found has_id.number) None))))) (full_alike ∙ deep);
              refuses = λ _ h. never h;
              alike = λ r. (refl, (refl, refl, refl));
            }
        by_depth false shallow t = by_code shallow (code_of found.1.kind) refl t

-- ---- A method that is found runs alike on both machines: an action of its own, or a frame.

pub methods_run_alike : MethodsRunAlike
methods_run_alike here model name m o statics printed s f below i operation at found class index index_is enough typed = by_action (action_of found.0 found.1) typed
  where
    arguments : List StateValue
    arguments = reverse (take (length (argument_types found.1 found.0)) f.stack)

    rest : List StateValue
    rest = drop (length (argument_types found.1 found.0)) f.stack

    framed : StateEffect
    framed = if is_too_deep here s f below then StateRaises StackOverflow else frame_for here s f below found.0 found.1 (reverse (take (length (argument_types found.1 found.0)) f.stack)) None s (drop (length (argument_types found.1 found.0)) f.stack)

    called : CallTransition
    called = when_some (number_of here.tree found) (λ n. with_console printed (with_objects o (call_transition (called_method found n) m)))

    by_action : (a : Option Action) → IsTypedEffect here.tree (option_map_or (λ x. act here s f below x arguments rest) a framed) →
        DoesAlike here model name m o statics printed s f below (of_calls o statics printed (option_map_or (λ x. act_transition here.tree (mutator_in here model) x m o printed) a called)) (option_map_or (λ x. act here s f below x arguments rest) a framed)
    by_action None t = enters_alike here model name m o statics printed s f below i operation at found (method_id_is here.tree at.running.accepted.legal class index found index_is) enough t
    by_action (Some a) t = acts_alike here model name m o statics printed s f below i operation at a (length (argument_types found.1 found.0)) enough t

-- ---- A return does the same on both machines.

-- ---- what a frame is given

some_below : (gs : List Frame) (n : ℕ) → n ≡ suc (length gs) → (n == 0) ≡ false
some_below gs n is = grind (arith, nat_tests, is)

-- without a frame below the thread is done
gives_done : (v : Option Value) (k : Frames) → k.below ≡ [] → return_to_caller v k ≡ Some (k, Returns)
gives_done v k is = if_true (length k.below == 0) (Some (k, Returns)) _ (ap (λ (l : List Frame). length l == 0) is)

-- else that continues, with the value, where there is one
gives_none : (k : Frames) (g : Frame) (gs : List Frame) → k.below ≡ g ∷ gs → return_to_caller None k ≡ Some (record k { running = g; below = gs }, Continues)
gives_none k g gs is =
    if_false (length k.below == 0) (Some (k, Returns)) (Some (return_frames k, Continues)) (some_below gs (length k.below) (ap (λ (l : List Frame). length l) is)) ∙
    ap (λ l. Some (returned_to k l, Continues)) is

gives_some : (v : Value) (k : Frames) (g : Frame) (gs : List Frame) → k.below ≡ g ∷ gs → nat_lt (size g) k.room ≡ true → return_to_caller (Some v) k ≡ Some (record k { running = record g { stack = v ∷ g.stack }; below = gs }, Continues)
gives_some v k g gs is room =
    let pushed : Frames → Transition = λ n. if nat_lt (size n.running) n.room then Some (record n { running = record n.running { stack = v ∷ n.running.stack } }, Continues) else None in
    if_false (length k.below == 0) (Some (k, Returns)) (pushed (return_frames k)) (some_below gs (length k.below) (ap (λ (l : List Frame). length l) is)) ∙
    ap (λ l. pushed (returned_to k l)) is ∙ if_true (nat_lt (size g) k.room) _ None room

-- a value that represents the other, or none for none
abbrev IsGiven : Names → Option Value → Option StateValue → Type 0
IsGiven name None None = Unit {0}
IsGiven name (Some v) (Some u) = IsValue name v u
IsGiven name _ _ = ⊥

module _ (here : StepContext) (model : MemoryModel here.tree) (name : Names) (m : Frames) (o : Objects) (statics : List Value) (printed : List ℕ) (s : State) (f : StateFrame) (below : List StateFrame)
    (at : IsSetting here model name m o statics printed s f below Named.Return Resolved.Return) where
  abbrev ReturnsAlike : Transition → StateEffect → Type 0
  ReturnsAlike transition e = DoesAlike here model name m o statics printed s f below (of_frames o statics printed transition) e

  -- back in the frame below, with another stack
  returns_to : (g : Frame) (gs : List Frame) (g' : StateFrame) (gs' : List StateFrame) → m.below ≡ g ∷ gs → IsFrame here.tree name g g' → Agree (IsFrame here.tree name) gs gs' →
      (stack : List Value) (stack' : List StateValue) → Agree (IsValue name) stack stack' →
      GoesAlike here model name m o statics printed s f below (answer_of (record m { running = record g { stack = stack }; below = gs }) o statics printed (OwnEffect Continues)) (Goes (record g' { stack = stack' } ∷ gs') s)
  returns_to g gs g' gs' is h k stack stack' l =
      let few : length (m.running ∷ g ∷ gs) ≤ here.limits.depth = subst (λ bs. length (m.running ∷ bs) ≤ here.limits.depth) is at.frames.few in
      record {
        running = record g' { stack = stack' };
        waiting = gs';
        state = s;
        is = refl;
        names = name;
        extends = λ a n e. e;
        others = refl;
        frames = record {
          frames = (record { method = h.method; pc = h.pc; arguments = h.arguments; locals = h.locals; stack = l; constructed = h.constructed }, k);
          depth = at.frames.depth;
          few = omega (arith, few);
          room = at.frames.room;
        };
        memory = at.memory;
      }

  -- what the running frame gives, whatever is left in it
  leaves_alike : (r : Frame) (v : Option Value) (u : Option StateValue) → IsGiven name v u → ReturnsAlike (return_to_caller v (with_running m r)) (push_and_advance here s f below u)
  leaves_alike r v u when_some = by_below m.below below refl at.frames.frames.1 at.running.waiting v u when_some
    where
      has_room : (g : Frame) (g' : StateFrame) (gs' : List StateFrame) → IsFrame here.tree name g g' → AreWaiting here.tree s (type_gives s f) (g' ∷ gs') → nat_lt (size g) m.room ≡ true
      has_room g g' gs' h waiting =
          let left : size g < frame_room = room_left here.tree at.running.accepted.legal s (type_gives s f) g' waiting.0 name g h in
          let room : m.room ≡ frame_room = at.frames.room in
          grind (arith, nat_tests, left, room)

      by_below : (bs : List Frame) (bs' : List StateFrame) → m.below ≡ bs → Agree (IsFrame here.tree name) bs bs' → AreWaiting here.tree s (type_gives s f) bs' →
          (v : Option Value) (u : Option StateValue) → IsGiven name v u → ReturnsAlike (return_to_caller v (with_running m r)) (Goes (returned_frames u bs') s)
      by_below [] [] is h waiting v u k = record {
        answer = answer_of (with_running m r) o statics printed (OwnEffect Returns);
        is = ap (of_frames o statics printed) (gives_done v (with_running m r) is);
        refuses = λ _ h. never h;
        alike = λ x. (refl, (refl, refl, refl));
      }
      by_below (g ∷ gs) (g' ∷ gs') is h waiting None None k = record {
        answer = (answer_of (record m { running = g; below = gs }) o statics printed (OwnEffect Continues));
        is = ap (of_frames o statics printed) (gives_none (with_running m r) g gs is);
        refuses = λ _ h. never h;
        alike = λ x. returns_to g gs g' gs' is h.0 h.1 g.stack g'.stack h.0.stack;
      }
      by_below (g ∷ gs) (g' ∷ gs') is h waiting (Some v) (Some u) k = record {
        answer = (answer_of (record m { running = record g { stack = v ∷ g.stack }; below = gs }) o statics printed (OwnEffect Continues));
        is = ap (of_frames o statics printed) (gives_some v (with_running m r) g gs is (has_room g g' gs' h.0 waiting));
        refuses = λ _ h. never h;
        alike = λ x. returns_to g gs g' gs' is h.0 h.1 (v ∷ g.stack) (u ∷ g'.stack) (k, h.0.stack);
      }
      by_below [] (g' ∷ gs') is h waiting v u k = elim h [ ]
      by_below (g ∷ gs) [] is h waiting v u k = elim h [ ]
      by_below _ _ is h waiting _ _ k = elim k [ ]

  -- ---- returns

  abbrev ends_by : Option DeclaredType → StateEffect
  ends_by t = option_map_or (push_and_advance_value here s f below) t (push_and_advance here s f below None)

  -- by what the method returns
  by_type : (t : Option DeclaredType) → IsTypedEffect here.tree (ends_by t) → ReturnsAlike (return_by None (is_some t) m) (ends_by t)
  by_type None typed = leaves_alike m.running None None tt
  by_type (Some t) typed =
      one_operand here model name m o statics printed s f below Named.Return Resolved.Return at (of_frames o statics printed) (λ v n. return_to_caller (Some v) n) (λ u rest. if is_of_kind t u then push_and_advance here s f below (Some u) else Sticks) typed
      (λ v rest u rest' top top' h k shorter typed'. by_kind v rest u h (is_of_kind t u) typed')
    where
      by_kind : (v : Value) (rest : List Value) (u : StateValue) → IsValue name v u → (b : Bool) → IsTypedEffect here.tree (if b then push_and_advance here s f below (Some u) else Sticks) →
          ReturnsAlike (return_to_caller (Some v) (with_running m (record m.running { stack = rest }))) (if b then push_and_advance here s f below (Some u) else Sticks)
      by_kind v rest u h true t' = leaves_alike (record m.running { stack = rest }) (Some v) (Some u) h
      by_kind v rest u h false t' = elim t' [ ]

  abbrev returns_by : Option ObjectName → StateEffect
  returns_by n = option_map_or (λ x. push_and_advance here s f below (Some (Reference x))) n (ends_by f.method.signature.return_type)

  -- by what was constructed
  by_object : (a : Option Addr) (n : Option ObjectName) → IsObject name a n → IsTypedEffect here.tree (returns_by n) → ReturnsAlike (return_by a (is_some f.method.signature.return_type) m) (returns_by n)
  by_object None None h typed = by_type f.method.signature.return_type typed
  by_object (Some a) (Some n) h typed = leaves_alike m.running (Some (Ref a)) (Some (Reference n)) (reference a n h)
  by_object _ _ h typed = elim h [ ]

  pub return_alike : DoesAlike here model name m o statics printed s f below (operation_transition here.tree (mutator_in here model) Resolved.Return m o statics printed) (execute here s f below Named.Return)
  return_alike =
      let own : IsFrame here.tree name m.running f = own_frame here model name m o statics printed s f below Named.Return Resolved.Return at in
      subst (λ transition. DoesAlike here model name m o statics printed s f below transition (execute here s f below Named.Return)) (sym (return_does here.tree (mutator_in here model) m o statics printed (f.owner, f.method) own.method))
      (by_object m.running.constructed f.constructed own.constructed (fine here model name m o statics printed s f below Named.Return Resolved.Return at))
