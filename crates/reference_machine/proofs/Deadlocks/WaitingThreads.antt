-- In a typed state a thread waits exactly where its next instruction blocks.
use Rattle.std.proofs.Common.{◌≡◌, ◌+◌, ◌==◌, is_none, ℕ, nat_le, Bool, true, false, if◌then◌else◌, List, [], ◌∷◌, length, Option, Some, None, option_and_then, slice_get, refl, sym, ap, ◌∙◌, subst, arith}
use Rattle.std.specs.Option.{option_map_or}
use Rattle.std.proofs.lemmas.Option.{option_and_then_some, same_Some}
use Rattle.cil_model.specs.declared.instructions.Instruction.{Instruction}
use Rattle.cil_model.specs.declared.instructions.Instruction.TheVariants.{Call, CallVirtual}
use Rattle.cil_model.specs.declared.instructions.MethodReference.{MethodReference}
use Rattle.cil_model.specs.declared.reports.End.{End}
use Rattle.cil_model.specs.declared.reports.Fault.TheVariants.{StackOverflow, ThreadState}
use Rattle.cil_model.specs.declared.trees.Method.{Method}
use Rattle.cil_model.specs.declared.types.ClassName.{ClassName}
use Rattle.cil_model.specs.declared.types.DeclaredType.{DeclaredType}
use Rattle.cil_model.specs.Bodies.{reference_operands, virtual_reference}
use Rattle.cil_model.specs.Chains.{find_method, is_thread_class, is_virtual}
use Rattle.cil_model.specs.Legality.{IsLegal}
use Rattle.cil_model.specs.Slots.{target}
use Rattle.cil_model.specs.Typings.{IsAccepted}
use Rattle.cil_model.proofs.Lists.{none_is_some}
use Rattle.cil_model.proofs.SameLaws.{not_both}
use Rattle.reference_machine.specs.BuiltIn.{Action, Enter, Join, action_of, act, enter, join}
use Rattle.reference_machine.specs.Effects.{StepContext, Effect, Blocks, Raises, Sticks, when_some, pop_many, are_of_kinds, onward}
use Rattle.reference_machine.specs.States.{Monitor, Free, Held, HeapObject, Frame, Thread, State, class_of, is_live, is_live_thread, monitor_of, object_at, with_monitor}
use Rattle.reference_machine.specs.Steps.{instruction_at, effect_of, execute, frame_for, is_too_deep, operands, run_method, run_virtual}
use Rattle.reference_machine.specs.Values.{ObjectName, Value, Reference}
use Rattle.reference_machine.specs.TypedStates.{AreTypedFrames, IsTyped}
use Rattle.reference_machine.proofs.TypedSteps.AllInstructions.{instruction_typed}
use Rattle.reference_machine.proofs.Programs.MethodTypings.{found_is_declared}
use Rattle.reference_machine.proofs.TypedStates.RunningFrames.{IsTypedEffect, runs_at}
use Rattle.reference_machine.specs.Waits.{Wait, ForMonitor, ForEnd, action_found, called_action, end_awaited, held_by_another, top_object, wait_by, wait_in, wait_of, wait_of_thread}
use Rattle.reference_machine.proofs.Programs.ActingMembers.{acting_is_not_virtual}
use Rattle.reference_machine.proofs.Deadlocks.SingleOperand.{one_operand}
use Rattle.reference_machine.proofs.Deadlocks.BlockingInstructions.{IsWaiting, effect_keeps, waits_by_top}
use Rattle.reference_machine.proofs.Runs.InstructionEffects.{allowed_blocks}

-- ---- what blocks waits

-- where a frame's instruction blocks, its thread waits
pub blocked_waits : (here : StepContext) → IsLegal here.tree → (s : State) (f : Frame) (below : List Frame) → effect_of here s (f ∷ below) ≡ Blocks → IsWaiting here s f
blocked_waits here legal s f below h = allowed_blocks (effect_of here s (f ∷ below)) (effect_keeps here s f below) h

-- ---- what waits blocks

module _ (here : StepContext) (s : State) (f : Frame) (below : List Frame) where
  -- where one operand is taken and nothing is stuck, it is the topmost value
  abbrev TakesOne : List Value → Effect → (List Value → List Value → Effect) → Type 0
  TakesOne stack e go = (v : Value) × (rest : List Value) × (stack ≡ v ∷ rest) × (e ≡ go (v ∷ []) rest)

  takes_one : (types : List DeclaredType) (go : List Value → List Value → Effect) → length types ≡ 1 → IsTypedEffect here.tree (operands here s f below types go) → TakesOne f.stack (operands here s f below types go) go
  takes_one (t ∷ []) go one typed = by_stack f.stack typed
    where
      taken : List Value → Effect
      taken stack = pop_many 1 stack (λ arguments rest. if are_of_kinds (t ∷ []) arguments then go arguments rest else Sticks)

      by_kind : (v : Value) (rest : List Value) (b : Bool) → IsTypedEffect here.tree (if b then go (v ∷ []) rest else Sticks) → (if b then go (v ∷ []) rest else Sticks) ≡ go (v ∷ []) rest
      by_kind v rest true typed' = refl
      by_kind v rest false typed' = elim typed' [ ]

      by_height : (v : Value) (rest : List Value) (b : Bool) → IsTypedEffect here.tree (if b then if are_of_kinds (t ∷ []) (v ∷ []) then go (v ∷ []) rest else Sticks else Sticks) →
          (if b then if are_of_kinds (t ∷ []) (v ∷ []) then go (v ∷ []) rest else Sticks else Sticks) ≡ go (v ∷ []) rest
      by_height v rest true typed' = by_kind v rest (are_of_kinds (t ∷ []) (v ∷ [])) typed'
      by_height v rest false typed' = elim typed' [ ]

      by_stack : (stack : List Value) → IsTypedEffect here.tree (taken stack) → TakesOne stack (taken stack) go
      by_stack [] typed' = elim typed' [ ]
      by_stack (v ∷ rest) typed' = (v, rest, refl, by_height v rest (nat_le 1 (length (v ∷ rest))) typed')
  takes_one _ go one typed = absurd (omega (arith, one))

  -- ---- an action on its one operand

  module _ (w : Wait) (rest : List Value) where
    abbrev Blocking : Action → Value → Type 0
    Blocking a v = wait_by s here.thread a (v ∷ []) ≡ Some w → IsTypedEffect here.tree (act here s f below a (v ∷ []) rest) → act here s f below a (v ∷ []) rest ≡ Blocks

    enter_blocks : (v : Value) → Blocking Enter v
    enter_blocks (Reference n) h typed = by_monitor (monitor_of s n) h
      where
        by_owner : (owner count : ℕ) (b : Bool) → (if b then None else Some (ForMonitor n owner)) ≡ Some w → (if b then onward f below (with_monitor s n (Held here.thread (count + 1))) rest else Blocks) ≡ Blocks
        by_owner owner count true e = none_is_some w e
        by_owner owner count false e = refl

        by_monitor : (m : Option Monitor) → option_and_then (held_by_another n here.thread) m ≡ Some w → when_some m (enter here s f below n rest) ≡ Blocks
        by_monitor None e = none_is_some w e
        by_monitor (Some Free) e = none_is_some w e
        by_monitor (Some (Held owner count)) e = by_owner owner count (owner == here.thread) e
    enter_blocks _ h typed = none_is_some w h

    join_blocks : (v : Value) → Blocking Join v
    join_blocks (Reference n) h typed = by_class (class_of s n) typed
      where
        by_life : (k : ℕ) (b : Bool) → (if b then Some (ForEnd k) else None) ≡ Some w → (if b then Blocks else onward f below s rest) ≡ Blocks
        by_life k true e = refl
        by_life k false e = none_is_some w e

        by_thread : (u : Option ℕ) → option_and_then (end_awaited s) u ≡ Some w → option_map_or (λ k. if is_live s k then Blocks else onward f below s rest) u (Raises ThreadState) ≡ Blocks
        by_thread None e = none_is_some w e
        by_thread (Some k) e = by_life k (is_live s k) e

        by_object : (o : Option HeapObject) → option_and_then (λ (x : HeapObject). option_and_then (end_awaited s) x.thread) o ≡ Some w → when_some o (join here s f below rest) ≡ Blocks
        by_object None e = none_is_some w e
        by_object (Some o) e = by_thread o.thread e

        by_test : (b : Bool) → IsTypedEffect here.tree (if b then when_some (object_at s n) (join here s f below rest) else Sticks) → (if b then when_some (object_at s n) (join here s f below rest) else Sticks) ≡ Blocks
        by_test true typed' = by_object (object_at s n) h
        by_test false typed' = elim typed' [ ]

        by_class : (c : Option ClassName) → IsTypedEffect here.tree (when_some c (λ k. if is_thread_class here.tree k then when_some (object_at s n) (join here s f below rest) else Sticks)) →
            when_some c (λ k. if is_thread_class here.tree k then when_some (object_at s n) (join here s f below rest) else Sticks) ≡ Blocks
        by_class None typed' = elim typed' [ ]
        by_class (Some c) typed' = by_test (is_thread_class here.tree c) typed'
    join_blocks _ h typed = none_is_some w h

    act_blocks : (a : Action) (v : Value) → Blocking a v
    act_blocks Enter v h typed = enter_blocks v h typed
    act_blocks Join v h typed = join_blocks v h typed
    act_blocks _ v h typed = none_is_some w h

    -- what is waited for is an object
    pub waits_for_object : (a : Action) (stack : List Value) → wait_by s here.thread a stack ≡ Some w → (n : ObjectName) × (top_object stack ≡ Some n)
    waits_for_object Enter stack h = option_and_then_some (λ n. option_and_then (held_by_another n here.thread) (monitor_of s n)) (top_object stack) w h (λ n top e. (n, top))
    waits_for_object Join stack h = option_and_then_some (λ n. option_and_then (λ (o : HeapObject). option_and_then (end_awaited s) o.thread) (object_at s n)) (top_object stack) w h (λ n top e. (n, top))
    waits_for_object _ stack h = none_is_some w h

  -- ---- a call of a member that acts on an object

  module _ (legal : IsLegal here.tree) (a : Action) (n : ObjectName) (top : top_object f.stack ≡ Some n) where
    -- the effect is that of the action on the topmost value
    abbrev Acts : Effect → Type 0
    Acts e = (rest : List Value) × (f.stack ≡ Reference n ∷ rest) × (e ≡ act here s f below a (Reference n ∷ []) rest)

    top_is : (v : Value) (rest : List Value) → top_object (v ∷ rest) ≡ Some n → v ≡ Reference n
    top_is (Reference k) rest e = ap Reference (same_Some k n e)
    top_is _ rest e = none_is_some n e

    -- a method that acts
    run_acts : (method : ClassName × Method) → action_of method.0 method.1 ≡ Some a → (rest : List Value) → run_method here s f below method (Reference n ∷ []) rest ≡ act here s f below a (Reference n ∷ []) rest
    run_acts method acts rest =
        ap (λ o. option_map_or (λ x. act here s f below x (Reference n ∷ []) rest) o (if is_too_deep here s f below then Raises StackOverflow else frame_for here s f below method.0 method.1 (Reference n ∷ []) None s rest)) acts

    -- the same, where it is called on the object
    virtual_acts : (method : ClassName × Method) → action_of method.0 method.1 ≡ Some a → is_virtual method.1.kind ≡ false → (rest : List Value) →
        run_virtual here s f below method (Reference n ∷ []) rest ≡ act here s f below a (Reference n ∷ []) rest
    virtual_acts method acts plain rest =
        ap (λ b. when_some (if b then option_and_then (λ d. target here.tree d method.0 method.1) (class_of s n) else Some method) (λ chosen. run_method here s f below chosen (Reference n ∷ []) rest)) plain ∙ run_acts method acts rest

    taken_acts : (e : Effect) (go : List Value → List Value → Effect) → TakesOne f.stack e go → ((rest : List Value) → go (Reference n ∷ []) rest ≡ act here s f below a (Reference n ∷ []) rest) → Acts e
    taken_acts e go (v, rest, stack, is) each =
        let same : v ≡ Reference n = top_is v rest (ap top_object (sym stack) ∙ top) in
        (rest, stack ∙ ap (λ x. x ∷ rest) same, is ∙ (ap (λ x. go (x ∷ []) rest) same ∙ each rest))

    call_acts : (is_instance : Bool) (r : MethodReference) (o : Option (ClassName × Method)) → find_method here.tree is_instance r ≡ o → action_found o ≡ Some a →
        IsTypedEffect here.tree (when_some o (λ x. operands here s f below (reference_operands is_instance r) (run_method here s f below x))) → Acts (when_some o (λ x. operands here s f below (reference_operands is_instance r) (run_method here s f below x)))
    call_acts is_instance r None e acts typed = none_is_some a acts
    call_acts is_instance r (Some x) e acts typed =
        taken_acts (operands here s f below (reference_operands is_instance r) (run_method here s f below x)) (run_method here s f below x)
        (takes_one (reference_operands is_instance r) (run_method here s f below x) (one_operand here.tree legal is_instance r x.0 x.1 a e acts) typed) (run_acts x acts)

    call_virtual_acts : (r : MethodReference) (o : Option (ClassName × Method)) → find_method here.tree true r ≡ o → action_found o ≡ Some a →
        IsTypedEffect here.tree (when_some o (λ x. operands here s f below (reference_operands true r) (run_virtual here s f below x))) → Acts (when_some o (λ x. operands here s f below (reference_operands true r) (run_virtual here s f below x)))
    call_virtual_acts r None e acts typed = none_is_some a acts
    call_virtual_acts r (Some x) e acts typed =
        taken_acts (operands here s f below (reference_operands true r) (run_virtual here s f below x)) (run_virtual here s f below x)
        (takes_one (reference_operands true r) (run_virtual here s f below x) (one_operand here.tree legal true r x.0 x.1 a e acts) typed)
        (virtual_acts x acts (acting_is_not_virtual here.tree x.0 x.1 a (found_is_declared here.tree true r x.0 x.1 e) acts))

    acts_at : (i : Instruction) → called_action here.tree i ≡ Some a → IsTypedEffect here.tree (execute here s f below i) → Acts (execute here s f below i)
    acts_at (Call is_instance r) acts typed = call_acts is_instance r (find_method here.tree is_instance r) refl acts typed
    acts_at (CallVirtual owner name signature) acts typed = call_virtual_acts (virtual_reference owner name signature) (find_method here.tree true (virtual_reference owner name signature)) refl acts typed
    acts_at _ acts typed = none_is_some a acts

-- In a typed state, where a frame's instruction calls a member that acts, and the topmost value is an object, its effect is that of the
-- action on the object.
pub calling_acts : (here : StepContext) → IsAccepted here.tree → (s : State) → IsTyped here.tree s → (f : Frame) (below : List Frame) → AreTypedFrames here.tree s (f ∷ below) →
    (i : Instruction) → instruction_at f ≡ Some i → (a : Action) → called_action here.tree i ≡ Some a → (n : ObjectName) → top_object f.stack ≡ Some n →
    (rest : List Value) × (f.stack ≡ Reference n ∷ rest) × (effect_of here s (f ∷ below) ≡ act here s f below a (Reference n ∷ []) rest) × IsTypedEffect here.tree (act here s f below a (Reference n ∷ []) rest)
calling_acts here accepted s typed f below frames i at a acts n top =
    let runs = runs_at here accepted s typed f below frames in
    let same : runs.0 ≡ i = same_Some runs.0 i (sym runs.1 ∙ at) in
    let done : IsTypedEffect here.tree (execute here s f below i) = subst (λ x. IsTypedEffect here.tree (execute here s f below x)) same (instruction_typed here s f below runs.0 runs.2) in
    let is = acts_at here s f below accepted.legal a n top i acts done in
    (is.0, is.1, ap (λ x. when_some x (execute here s f below)) at ∙ is.2, subst (IsTypedEffect here.tree) is.2 done)

-- the instruction of a frame whose thread waits blocks
pub waiting_blocks : (here : StepContext) → IsAccepted here.tree → (s : State) → IsTyped here.tree s → (f : Frame) (below : List Frame) → AreTypedFrames here.tree s (f ∷ below) → IsWaiting here s f → effect_of here s (f ∷ below) ≡ Blocks
waiting_blocks here accepted s typed f below frames (w, waits) =
    option_and_then_some (λ x. option_and_then (λ a. wait_by s here.thread a f.stack) (called_action here.tree x)) (instruction_at f) w waits (λ i at own.
    option_and_then_some (λ a. wait_by s here.thread a f.stack) (called_action here.tree i) w own (λ a acts h. by_object i at a acts h (waits_for_object here s f below w [] a f.stack h)))
  where
    by_object : (i : Instruction) → instruction_at f ≡ Some i → (a : Action) → called_action here.tree i ≡ Some a → wait_by s here.thread a f.stack ≡ Some w → (n : ObjectName) × (top_object f.stack ≡ Some n) →
        effect_of here s (f ∷ below) ≡ Blocks
    by_object i at a acts h (n, top) =
        let is = calling_acts here accepted s typed f below frames i at a acts n top in
        let own : wait_by s here.thread a (Reference n ∷ []) ≡ Some w = sym (waits_by_top s here.thread a (Reference n) is.0) ∙ (ap (wait_by s here.thread a) (sym is.1) ∙ h) in
        is.2 ∙ act_blocks here s f below w is.0 a (Reference n) own is.3

-- ---- a live thread

live_has_none : (e : Option End) → is_none e ≡ true → e ≡ None
live_has_none None h = refl
live_has_none (Some e) h = not_both false refl h

module _ (here : StepContext) (s : State) (x : Thread) (there : slice_get s.threads here.thread ≡ Some x) (lives : is_live_thread x ≡ true) where
  -- what it waits for is what its running frame waits for
  own_wait : wait_of here.tree s here.thread ≡ option_and_then (wait_in here.tree s here.thread) (slice_get x.frames 0)
  own_wait =
      ap (option_and_then (wait_of_thread here.tree s here.thread)) there
      ∙ ap (λ b. if b then option_and_then (wait_in here.tree s here.thread) (slice_get x.frames 0) else None) lives

  of_frames : (fs : List Frame) → x.frames ≡ fs → wait_of here.tree s here.thread ≡ option_and_then (wait_in here.tree s here.thread) (slice_get fs 0)
  of_frames fs are = own_wait ∙ ap (λ (l : List Frame). option_and_then (wait_in here.tree s here.thread) (slice_get l 0)) are

  -- where it waits, its next instruction blocks
  pub waiting_thread_blocks : IsAccepted here.tree → IsTyped here.tree s → (w : Wait) → wait_of here.tree s here.thread ≡ Some w → effect_of here s x.frames ≡ Blocks
  waiting_thread_blocks accepted typed w waits = by_frames x.frames refl
    where
      by_frames : (fs : List Frame) → x.frames ≡ fs → effect_of here s x.frames ≡ Blocks
      by_frames [] are = none_is_some w (sym (of_frames [] are) ∙ waits)
      by_frames (f ∷ below) are =
          ap (effect_of here s) are
          ∙ waiting_blocks here accepted s typed f below (subst (AreTypedFrames here.tree s) are (typed.threads here.thread x there (live_has_none x.ended lives))) (w, sym (of_frames (f ∷ below) are) ∙ waits)

  -- and where that blocks, it waits
  pub blocked_thread_waits : IsLegal here.tree → effect_of here s x.frames ≡ Blocks → (w : Wait) × (wait_of here.tree s here.thread ≡ Some w)
  blocked_thread_waits legal blocked = by_frames x.frames refl
    where
      by_frames : (fs : List Frame) → x.frames ≡ fs → (w : Wait) × (wait_of here.tree s here.thread ≡ Some w)
      by_frames [] are = let wrong : Sticks ≡ Blocks = sym (ap (effect_of here s) are) ∙ blocked in absurd cc
      by_frames (f ∷ below) are = let waits = blocked_waits here legal s f below (sym (ap (effect_of here s) are) ∙ blocked) in (waits.0, of_frames (f ∷ below) are ∙ waits.1)
