-- A frame goes to its next instruction, or jumps, alike on both machines; and how much room its stack has.
use Rattle.std.proofs.Common.{◌≡◌, ◌≤◌, ◌<◌, ◌+◌, ◌≤ℤ◌, ℕ, ℤ, pos, suc, true, List, [], ◌∷◌, length, Option, Some, None, refl, sym, ap, ◌∙◌, subst, arith}
use Rattle.std.specs.Prelude.{nat_lt, if◌then◌else◌}
use Rattle.std.proofs.lemmas.Int.{ints}
use Rattle.std.proofs.lemmas.Option.{slice_get_within}
use Rattle.std.proofs.lemmas.Bool.{lt-ltb}
use Rattle.interpreter.specs.cil_model.declared.instructions.Instruction.{Instruction}
use Rattle.interpreter.specs.cil_model.declared.limits.TheConstants.{MOST_ARGUMENTS, MOST_LOCALS, MOST_STACK, MOST_INSTRUCTIONS}
use Rattle.interpreter.specs.cil_model.declared.trees.Tree.{Tree}
use Rattle.interpreter.specs.cil_model.declared.types.DeclaredType.{DeclaredType}
use Rattle.interpreter.specs.cil_model.TypeTree.{StackType}
use Rattle.interpreter.specs.cil_model.FlowRules.{give}
use Rattle.interpreter.specs.cil_model.Legality.{IsLegal}
use Rattle.interpreter.specs.cil_model.Typings.{AreBelow}
use Rattle.interpreter.specs.reference_machine.Values.{Value as StateValue}
use Rattle.interpreter.specs.reference_machine.States.{Frame as StateFrame, State}
use Rattle.interpreter.specs.reference_machine.Effects.{StepContext, Goes, after, onward as onward_frame}
use Rattle.reference_machine.specs.TypedStates.{HaveTypes, HaveStackTypes, IsTypedFrame}
use Rattle.interpreter.specs.resolved_code.declared.operations.Operation.{Operation}
use Rattle.interpreter.specs.object_memory.declared.values.Value.{Value}
use Rattle.interpreter.specs.object_memory.Objects.{Objects}
use Rattle.interpreter.specs.threads_monitors.Frames.{Frame, Frames, size, with_pc, with_stack}
use Rattle.interpreter.specs.threads_monitors.declared.effects.Effect.TheVariants.{Continues}
use Rattle.interpreter.specs.instructions.Frames.{onward, value_pushed}
use Rattle.interpreter.specs.declared.outcomes.InstructionOutcome.TheVariants.{OwnEffect}
use Rattle.simulation.proofs.ProgramSizes.Methods.{arguments_few, instructions_few, locals_few, stack_low}
use Rattle.simulation.specs.Agreement.{Agree}
use Rattle.simulation.specs.MachineStates.{frame_room}
use Rattle.simulation.specs.Refines.{Names, Extends, IsValue, IsFrame, AreFrames}
use Rattle.simulation.proofs.ListLaws.AgreeingLists.{agree_length}
use Rattle.simulation.proofs.Representation.MoreNames.{values_extend, frame_list_extends, object_extends}
use Rattle.simulation.proofs.Instructions.Correspondence.{IsSetting, GoesAlike}
use Rattle.simulation.proofs.Memory.MemoryModels.{MemoryModel, IsModelled}
use Rattle.interpreter.specs.Instructions.{answer_of}

-- ---- how long typed lists are

types_length : (tree : Tree) (s : State) (vs : List StateValue) (ts : List DeclaredType) → HaveTypes tree s vs ts → length vs ≡ length ts
types_length tree s [] [] h = refl
types_length tree s (v ∷ vs) (t ∷ ts) h = ap suc (types_length tree s vs ts h.1)
types_length tree s _ _ h = elim h [ ]

pub stack_length : (tree : Tree) (s : State) (vs : List StateValue) (ts : List StackType) → HaveStackTypes tree s vs ts → length vs ≡ length ts
stack_length tree s [] [] h = refl
stack_length tree s (v ∷ vs) (t ∷ ts) h = ap suc (stack_length tree s vs ts h.1)
stack_length tree s _ _ h = elim h [ ]

below_length : (tree : Tree) (as' bs : List StackType) → AreBelow tree as' bs → length as' ≡ length bs
below_length tree [] [] h = refl
below_length tree (a ∷ as') (b ∷ bs) h = ap suc (below_length tree as' bs h.1)
below_length tree _ _ h = elim h [ ]

-- ---- what room a typed frame leaves

at_most : (n : ℕ) (most : ℤ) → pos n ≤ℤ most → most ≤ℤ MOST_STACK → n ≤ 64
at_most n most h k = grind (arith, ints, h, k)

module _ (tree : Tree) (legal : IsLegal tree) (s : State) (given : Option DeclaredType) (f : StateFrame) (typed : IsTypedFrame tree s given f) where
  arguments_are_few : length f.arguments ≤ MOST_ARGUMENTS
  arguments_are_few = subst (λ n. n ≤ MOST_ARGUMENTS) (sym (types_length tree s f.arguments _ typed.arguments)) (arguments_few tree legal f.owner typed.is_declared.0 f.method typed.is_declared.1)

  locals_are_few : length f.locals ≤ MOST_LOCALS
  locals_are_few = subst (λ n. n ≤ MOST_LOCALS) (sym (types_length tree s f.locals _ typed.locals)) (locals_few tree legal f.owner typed.is_declared.0 f.method typed.is_declared.1 typed.code typed.has_code)

  -- what it was given beside
  given_length : (g : Option DeclaredType) (stack : List StackType) → length stack ≤ length (give g stack)
  given_length None stack = omega arith
  given_length (Some t) stack = omega arith

  stack_is_low : length f.stack ≤ 64
  stack_is_low =
      let mapped : List StackType = typed.reaches.0 in
      let height : length mapped ≤ 64 = at_most (length mapped) typed.code.max_stack (typed.is_typing.height f.pc mapped typed.reaches.1) (stack_low tree legal f.owner typed.is_declared.0 f.method typed.is_declared.1 typed.code typed.has_code) in
      let same : length (give given typed.stack) ≡ length mapped = below_length tree (give given typed.stack) mapped typed.reaches.2 in
      let own : length f.stack ≡ length typed.stack = stack_length tree s f.stack typed.stack typed.values in
      omega (arith, height, same, own, given_length given typed.stack)

  -- a frame that represents it has room for one value more
  pub room_left : (name : Names) (m : Frame) → IsFrame tree name m f → size m < frame_room
  room_left name m h =
      let one : length m.arguments ≡ length f.arguments = agree_length (IsValue name) m.arguments f.arguments h.arguments in
      let two : length m.locals ≡ length f.locals = agree_length (IsValue name) m.locals f.locals h.locals in
      let three : length m.stack ≡ length f.stack = agree_length (IsValue name) m.stack f.stack h.stack in
      omega (arith, one, two, three, arguments_are_few, locals_are_few, stack_is_low)

module _ (here : StepContext) (model : MemoryModel here.tree) (name : Names) (m : Frames) (o : Objects) (statics : List Value) (printed : List ℕ) (s : State) (f : StateFrame) (below : List StateFrame) (i : Instruction) (operation : Operation)
    (at : IsSetting here model name m o statics printed s f below i operation) where
  pub own_frame : IsFrame here.tree name m.running f
  own_frame = at.frames.frames.0

  has_room : (rest : List Value) → length rest ≤ length m.running.stack → nat_lt (length m.running.arguments + (length m.running.locals + length rest)) m.room ≡ true
  has_room rest shorter =
      let left : size m.running < frame_room = room_left here.tree at.running.accepted.legal s None f at.running.frame name m.running own_frame in
      lt-ltb _ m.room (subst (λ r. length m.running.arguments + (length m.running.locals + length rest) < r) (sym at.frames.room) (omega (arith, left, shorter)))

  -- a frame is at an instruction, and those are few
  pub index_is_small : nat_lt m.running.pc MOST_INSTRUCTIONS ≡ true
  index_is_small =
      let inside : f.pc < length at.running.frame.code.lines = slice_get_within at.running.frame.code.lines f.pc at.running.line at.running.at in
      let few : length at.running.frame.code.lines ≤ MOST_INSTRUCTIONS = instructions_few here.tree at.running.accepted.legal f.owner at.running.frame.is_declared.0 f.method at.running.frame.is_declared.1 at.running.frame.code at.running.frame.has_code in
      lt-ltb _ _ (subst (λ p. p < MOST_INSTRUCTIONS) (sym own_frame.pc) (omega (arith, inside, few)))

  -- on to the next instruction
  pub onward_is : (stack : List Value) → onward (with_stack m stack) ≡ Some (with_pc (with_stack m stack) (m.running.pc + 1), Continues)
  onward_is stack = ap (λ b. if b then Some (with_pc (with_stack m stack) (m.running.pc + 1), Continues) else None) index_is_small

  -- with a value more
  pub leaves_is : (v : Value) (rest : List Value) → length rest ≤ length m.running.stack → value_pushed v (with_stack m rest) ≡ Some (with_pc (with_stack m (v ∷ rest)) (m.running.pc + 1), Continues)
  leaves_is v rest shorter = ap (λ b. if b then onward (with_stack m (v ∷ rest)) else None) (has_room rest shorter) ∙ onward_is (v ∷ rest)

  -- the frames with another stack, at another pc, under more names
  pub moved_frames : (names : Names) → Extends name names → (arguments locals stack : List Value) (arguments' locals' stack' : List StateValue) (pc : ℕ) →
      Agree (IsValue names) arguments arguments' → Agree (IsValue names) locals locals' → Agree (IsValue names) stack stack' →
      AreFrames here.tree here.limits names (record m { running = record m.running { pc = pc; arguments = arguments; locals = locals; stack = stack } })
      (record f { pc = pc; arguments = arguments'; locals = locals'; stack = stack' } ∷ below)
  moved_frames names extends arguments locals stack arguments' locals' stack' pc h k l =
      record {
        frames = (
          record { method = own_frame.method; pc = refl; arguments = h; locals = k; stack = l; constructed = object_extends name names extends m.running.constructed f.constructed own_frame.constructed },
          frame_list_extends name names extends here.tree m.below below at.frames.frames.1,
        );
        depth = at.frames.depth;
        few = at.frames.few;
        room = at.frames.room;
      }

  -- on to the next instruction in another memory
  pub onward_alike : (names : Names) → Extends name names → (o' : Objects) (statics' : List Value) (printed' : List ℕ) (s' : State) → s'.threads ≡ s.threads → IsModelled here.tree model names o' statics' printed' s' →
      (stack : List Value) (stack' : List StateValue) → Agree (IsValue names) stack stack' →
      GoesAlike here model name m o statics printed s f below (answer_of (with_pc (with_stack m stack) (m.running.pc + 1)) o' statics' printed' (OwnEffect Continues)) (onward_frame f below s' stack')
  onward_alike names extends o' statics' printed' s' others memory stack stack' h =
      record {
        running = after f stack';
        waiting = below;
        state = s';
        is = refl;
        names = names;
        extends = extends;
        others = others;
        frames = subst (λ p. AreFrames here.tree here.limits names (with_pc (with_stack m stack) (p + 1)) (after f stack' ∷ below)) (sym own_frame.pc)
            (moved_frames names extends m.running.arguments m.running.locals stack f.arguments f.locals stack' (f.pc + 1)
            (values_extend name names extends m.running.arguments f.arguments own_frame.arguments) (values_extend name names extends m.running.locals f.locals own_frame.locals) h);
        memory = memory;
      }

  same_names : Extends name name
  same_names a n is = is

  -- on to the next instruction with another stack alone
  pub next_alike : (stack : List Value) (stack' : List StateValue) → Agree (IsValue name) stack stack' →
      GoesAlike here model name m o statics printed s f below (answer_of (with_pc (with_stack m stack) (m.running.pc + 1)) o statics printed (OwnEffect Continues)) (onward_frame f below s stack')
  next_alike stack stack' h = onward_alike name same_names o statics printed s refl at.memory stack stack' h

  -- on to another pc of the method with another stack
  pub jump_alike : (pc : ℕ) (stack : List Value) (stack' : List StateValue) → Agree (IsValue name) stack stack' →
      GoesAlike here model name m o statics printed s f below (answer_of (with_pc (with_stack m stack) pc) o statics printed (OwnEffect Continues)) (Goes (record f { pc = pc; stack = stack' } ∷ below) s)
  jump_alike pc stack stack' h =
      record {
        running = record f { pc = pc; stack = stack' };
        waiting = below;
        state = s;
        is = refl;
        names = name;
        extends = same_names;
        others = refl;
        frames = moved_frames name same_names m.running.arguments m.running.locals stack f.arguments f.locals stack' pc own_frame.arguments own_frame.locals h;
        memory = at.memory;
      }
