-- A frame that is at an instruction: what its typing says there, and what lets it continue.
use Rattle.std.proofs.Common.{◌≡◌, ℕ, ◌+◌, ◌<◌, Bool, true, false, IsTrue, List, [], ◌∷◌, length, Option, Some, None, option_map, slice_get, Contains, refl, sym, ap, ◌∙◌, subst, arith}
use Rattle.std.specs.Option.{option_map_or}
use Rattle.std.proofs.lemmas.Option.{slice_get-get_or, slice_get_within}
use Rattle.cil_model.specs.declared.instructions.Instruction.{Instruction}
use Rattle.cil_model.specs.declared.trees.Tree.{Tree}
use Rattle.cil_model.specs.declared.trees.Code.{Code}
use Rattle.cil_model.specs.declared.trees.Line.{Line}
use Rattle.cil_model.specs.Bodies.{lines_of, argument_types, falls_through, labels_of, pc_of}
use Rattle.cil_model.specs.FlowRules.{flow}
use Rattle.cil_model.specs.TypeTree.{StackType}
use Rattle.cil_model.specs.Typings.{Reaches, ReachesLabel, FlowsOn, IsAccepted}
use Rattle.reference_machine.specs.Values.{Value}
use Rattle.reference_machine.specs.States.{Frame, State}
use Rattle.reference_machine.specs.Effects.{StepContext, Effect, Goes, Blocks, Raises, Sticks, when_some, onward}
use Rattle.reference_machine.specs.Steps.{instruction_at, next, jump, branch_if}
use Rattle.reference_machine.specs.Growth.{Follows}
use Rattle.reference_machine.proofs.Runs.StateChanges.{follows_itself}
use Rattle.reference_machine.specs.TypedStates.{HaveTypes, HaveStackTypes, IsTypedFrame, gives, AreWaiting, AreTypedFrames, IsTyped}
use Rattle.reference_machine.proofs.TypedStates.ValueTypes.{frame_keeps, gives_keeps, waiting_keep, values_keep, stack_above}

-- an effect that leaves a typed state and typed frames, and isn't stuck
abbrev pub IsTypedEffect : Tree → Effect → Type 0
IsTypedEffect tree (Goes [] s) = IsTyped tree s
IsTypedEffect tree (Goes (f ∷ fs) s) = IsTyped tree s × AreTypedFrames tree s (f ∷ fs)
IsTypedEffect tree Blocks = Unit {0}
IsTypedEffect tree (Raises x) = Unit {0}
IsTypedEffect tree Sticks = ⊥

-- a typed frame of an accepted program, above others, whose next instruction is this one
pub record IsRunning (here : StepContext) (s : State) (f : Frame) (below : List Frame) (i : Instruction) : Type 0 where
  pub accepted : IsAccepted here.tree
  pub typed : IsTyped here.tree s
  pub frame : IsTypedFrame here.tree s None f
  pub waiting : AreWaiting here.tree s (gives s f) below
  pub line : Line
  pub at : slice_get frame.code.lines f.pc ≡ Some line
  pub is : line.instruction ≡ i
  -- the stack as the typing has it here
  pub stack : List StackType
  pub values : HaveStackTypes here.tree s f.stack stack
  pub result : List StackType
  pub flows : flow here.tree (argument_types f.method f.owner) frame.code.locals f.method.signature.return_type i stack ≡ Some result
  pub on : FlowsOn here.tree frame.code frame.typing f.pc line result

module _ (here : StepContext) (s : State) (f : Frame) (below : List Frame) (i : Instruction) (running : IsRunning here s f below i) where
  -- continues at a pc that a stack reaches, with values of that stack, in a state that follows
  pub moved : (s' : State) → IsTyped here.tree s' → Follows s s' → (arguments locals rest : List Value) (pc : ℕ) (types : List StackType) →
      HaveTypes here.tree s' arguments (argument_types f.method f.owner) → HaveTypes here.tree s' locals running.frame.code.locals →
      HaveStackTypes here.tree s' rest types → Reaches here.tree running.frame.typing types pc →
      IsTypedEffect here.tree (Goes (record f { pc = pc; arguments = arguments; locals = locals; stack = rest } ∷ below) s')
  moved s' typed follows arguments locals rest pc types argument_values local_values stack_values reaches =
      let kept : IsTypedFrame here.tree s' None f = frame_keeps here.tree s s' follows None f running.frame in (
        typed,
        (
          record {
            code = running.frame.code;
            typing = running.frame.typing;
            is_declared = running.frame.is_declared;
            has_code = running.frame.has_code;
            is_typing = running.frame.is_typing;
            arguments = argument_values;
            locals = local_values;
            stack = types;
            values = stack_values;
            reaches = reaches;
            constructs = λ n e. let made = kept.constructs n e in record { own = made.own; is = made.is; monitor = made.monitor; nothing_returned = made.nothing_returned };
          },
          subst (λ d. AreWaiting here.tree s' d below) (sym (gives_keeps here.tree s s' follows None f running.frame)) (waiting_keep here.tree s s' follows (gives s f) below running.waiting),
        ),
      )

  -- on to the next instruction in a state that follows, with a stack of the types that the instruction results in
  pub onward_typed : IsTrue (falls_through i) → (s' : State) → IsTyped here.tree s' → Follows s s' → (rest : List Value) → HaveStackTypes here.tree s' rest running.result → IsTypedEffect here.tree (onward f below s' rest)
  onward_typed falls s' typed follows rest values =
      moved s' typed follows f.arguments f.locals rest (f.pc + 1) running.result
      (values_keep here.tree s s' follows f.arguments _ running.frame.arguments) (values_keep here.tree s s' follows f.locals _ running.frame.locals) values
      (running.on.falls (subst (λ x. IsTrue (falls_through x)) (sym running.is) falls))

  -- the same in the same state
  pub next_typed : IsTrue (falls_through i) → (rest : List Value) → HaveStackTypes here.tree s rest running.result → IsTypedEffect here.tree (next here s f below rest)
  next_typed falls rest values = onward_typed falls s running.typed (follows_itself s) rest values

  own_lines : lines_of f.method ≡ running.frame.code.lines
  own_lines = ap (λ (c : Option Code). option_map_or (λ (code : Code). code.lines) c []) running.frame.has_code

  -- on to the instruction of a label of the instruction's
  pub jump_typed : (label : List ℕ) → Contains (labels_of i) label → (rest : List Value) → HaveStackTypes here.tree s rest running.result → IsTypedEffect here.tree (jump here s f below label rest)
  jump_typed label named rest values =
      by_index (pc_of label (lines_of f.method)) (subst (λ x. ReachesLabel here.tree running.frame.typing running.result (pc_of label x)) (sym own_lines) (running.on.branches label (subst (λ x. Contains (labels_of x) label) (sym running.is) named)))
    where
      by_index : (o : Option ℕ) → ReachesLabel here.tree running.frame.typing running.result o → IsTypedEffect here.tree (when_some o (λ pc. Goes (record f { pc = pc; stack = rest } ∷ below) s))
      by_index None reaches = elim reaches [ ]
      by_index (Some pc) reaches =
          moved s running.typed (follows_itself s) f.arguments f.locals rest pc running.result running.frame.arguments running.frame.locals values reaches

  -- on to either
  pub branch_typed : IsTrue (falls_through i) → (holds : Bool) (label : List ℕ) → Contains (labels_of i) label → (rest : List Value) → HaveStackTypes here.tree s rest running.result →
      IsTypedEffect here.tree (branch_if here s f below holds label rest)
  branch_typed falls true label named rest values = jump_typed label named rest values
  branch_typed falls false label named rest values = next_typed falls rest values

-- ---- what a live thread's running frame is at

there_is : {X : Type 0} (xs : List X) (n m : ℕ) → m ≡ length xs → n < m → (x : X) × (slice_get xs n ≡ Some x)
there_is [] n m e below = absurd (grind (arith))
there_is (x ∷ xs) n m e below = (_, slice_get-get_or (x ∷ xs) n x (subst (λ k. n < k) e below))

module _ (here : StepContext) (accepted : IsAccepted here.tree) (s : State) (typed : IsTyped here.tree s) (f : Frame) (below : List Frame) (frames : AreTypedFrames here.tree s (f ∷ below)) where
  -- it is at an instruction, which its typing allows
  pub runs_at : (i : Instruction) × (instruction_at f ≡ Some i) × IsRunning here s f below i
  runs_at =
      let frame : IsTypedFrame here.tree s None f = frames.0 in
      let stack : List StackType = frame.reaches.0 in
      let mapped : slice_get frame.typing f.pc ≡ Some (Some stack) = frame.reaches.1 in
      let line : (l : Line) × (slice_get frame.code.lines f.pc ≡ Some l) = there_is frame.code.lines f.pc (length frame.typing) frame.is_typing.whole (slice_get_within frame.typing f.pc (Some stack) mapped) in
      let flowing = frame.is_typing.each f.pc line.0 stack line.1 mapped in
      let lines : lines_of f.method ≡ frame.code.lines = ap (λ (c : Option Code). option_map_or (λ (code : Code). code.lines) c []) frame.has_code in (
        line.0.instruction,
        ap (λ x. option_map (λ (l : Line). l.instruction) (slice_get x f.pc)) lines ∙ ap (option_map (λ (l : Line). l.instruction)) line.1,
        record {
          accepted = accepted;
          typed = typed;
          frame = frame;
          waiting = frames.1;
          line = line.0;
          at = line.1;
          is = refl;
          stack = stack;
          values = stack_above here.tree accepted.legal s f.stack frame.stack stack frame.reaches.2 frame.values;
          result = flowing.0;
          flows = flowing.1;
          on = flowing.2;
        },
      )
