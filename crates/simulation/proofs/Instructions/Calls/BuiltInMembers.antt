-- Built-in members do the same on both machines.
use Rattle.std.proofs.Common.{◌≡◌, ◌+◌, ℕ, true, List, [], ◌∷◌, ◌++◌, length, take, drop, reverse, Option, Some, None, option_map, refl, sym, ap, ◌∙◌, subst, slice_get, zero, suc, arith, ◌≤◌, ◌-◌, ◌^◌, Bool, false, ◌&&◌, ◌||◌, option_and_then, inr}
use Rattle.std.specs.Prelude.{nat_le, if◌then◌else◌, nat_lt, ◌==◌, is_some}
use Rattle.interpreter.specs.cil_model.declared.instructions.Instruction.{Instruction}
use Rattle.interpreter.specs.cil_model.Mentions.{literals_of}
use Rattle.interpreter.specs.reference_machine.Values.{Value as StateValue, Born, Literal, ObjectName, Reference}
use Rattle.interpreter.specs.reference_machine.States.{Frame as StateFrame, State, Monitor as StateMonitor, Free as IsFree, Held as IsHeld, with_monitor as with_state_monitor}
use Rattle.interpreter.specs.reference_machine.Effects.{StepContext, Effect as StateEffect, when_some as given_there, onward as onward_frame, Blocks as StateBlocks, Raises as StateRaises}
use Rattle.interpreter.specs.reference_machine.BuiltIn.{Action, Construct, Write, Enter, Exit, Start, Join, act, line_of as state_line_of, enter, exit}
use Rattle.interpreter.proofs.reference_machine.TypedStates.RunningFrames.{IsTypedEffect}
use Rattle.interpreter.specs.resolved_code.declared.operations.Operation.{Operation}
use Rattle.interpreter.specs.object_memory.declared.addresses.Addr.{Addr}
use Rattle.interpreter.specs.object_memory.declared.values.Value.{Value}
use Rattle.interpreter.specs.object_memory.declared.values.Value.TheVariants.{Ref}
use Rattle.interpreter.specs.object_memory.Cells.{null, literal_number}
use Rattle.interpreter.specs.object_memory.Objects.{Objects, monitor_at}
use Rattle.interpreter.specs.threads_monitors.Frames.{Frames, with_pc, with_stack}
use Rattle.interpreter.specs.threads_monitors.declared.effects.Effect.{Effect}
use Rattle.interpreter.specs.threads_monitors.declared.effects.Effect.TheVariants.{Continues, Blocks, Raises}
use Rattle.interpreter.specs.instructions.Frames.{when_some, top_of, onward}
use Rattle.interpreter.specs.instructions.ObjectTransitions.{with_objects}
use Rattle.interpreter.specs.instructions.BuiltInTransitions.{line_of, print_bytes as printed_line, reference_from, pop_if_continues, is_countable}
use Rattle.interpreter.specs.Calls.{CallTransition, act_transition, request_outcome, with_console, top_reference, call_answer}
use Rattle.interpreter.specs.Instructions.{of_calls, answer_of}
use Rattle.interpreter.specs.declared.outcomes.InstructionOutcome.{InstructionOutcome}
use Rattle.interpreter.specs.declared.outcomes.InstructionOutcome.TheVariants.{OwnEffect, Starts, Joins}
use Rattle.simulation.specs.Agreement.{Agree}
use Rattle.simulation.specs.Refines.{Names, IsValue, null_reference, reference, native, IsLiteralAt, IsMonitor}
use Rattle.simulation.proofs.Instructions.Correspondence.{IsSetting, AsksFor, DoesAlike, refused_fault}
use Rattle.simulation.proofs.Instructions.FrameProgress.{own_frame, next_alike, onward_alike, onward_is}
use Rattle.interpreter.proofs.cil_model.SameLaws.{never}
use Rattle.simulation.proofs.Memory.MemoryModels.{MemoryModel, mutator_in, IsModelled, IsReadable}
use Rattle.std.specs.Option.{option_map_or}
use Rattle.interpreter.specs.cil_model.declared.trees.Tree.{Tree}
use Rattle.simulation.proofs.Memory.NamedAddresses.{named_is_not_null}
use Rattle.interpreter.proofs.cil_model.Lists.{none_is_some}
use Rattle.std.proofs.lemmas.Bool.Decides.{nat_tests}
use Rattle.std.proofs.lemmas.List.{length-reverse}
use Rattle.std.proofs.lemmas.Bool.{and_from}
use Rattle.interpreter.specs.cil_model.declared.limits.Limits.{Limits}
use Rattle.interpreter.specs.cil_model.declared.limits.TheConstants.{MOST_BUDGET}
use Rattle.interpreter.specs.cil_model.declared.reports.Fault.{Fault}
use Rattle.interpreter.specs.cil_model.declared.reports.Fault.TheVariants.{ArgumentNull, SynchronizationLock}
use Rattle.simulation.specs.Counts.{IsCountedMonitor}
use Rattle.interpreter.specs.object_memory.declared.monitors.Monitor.{Monitor}
use Rattle.interpreter.specs.object_memory.declared.monitors.Monitor.TheVariants.{Free, Held}
use Rattle.interpreter.specs.instructions.barriers.Barriers.{is_monitor_storable, stored_monitor}
use Rattle.interpreter.specs.threads_monitors.Monitors.{enter_monitor, leave_monitor, with_monitor_or, with_entry, with_exit}
use Rattle.simulation.proofs.Memory.Monitors.{IsMonitorAt, IsChanged, monitor_there}

-- ---- Monitors are entered and left alike on both machines.

-- so few entries can be counted
few_entries : (count leave_monitor budget : ℕ) → count + leave_monitor ≤ budget → budget ≤ MOST_BUDGET → nat_lt count (2 ^ 32 - 1) ≡ true
few_entries count leave_monitor budget h k = grind (arith, nat_tests, h, k)

countable : (limits : Limits) (s : State) (w : Monitor) (w' : StateMonitor) → limits.budget ≤ MOST_BUDGET → IsMonitor w w' → IsCountedMonitor limits s w' → is_countable (Some w) ≡ true
countable limits s Free IsFree k h c = grind (arith, nat_tests)
countable limits s (Held owner count) (IsHeld owner' count') k h c =
    let few : nat_lt count' (2 ^ 32 - 1) ≡ true = few_entries count' c.0.steps_left limits.budget c.2 k in
    ap (λ x. nat_lt x (2 ^ 32 - 1)) h.1 ∙ few
countable limits s _ _ k h c = elim h [ ]

-- an entry less, of the same number
lowered : (thread count : ℕ) → IsMonitor (if nat_le count 1 then Free else Held thread (count - 1)) (if nat_le count 1 then IsFree else IsHeld thread (count - 1))
lowered thread count = by_test (nat_le count 1)
  where
    by_test : (b : Bool) → IsMonitor (if b then Free else Held thread (count - 1)) (if b then IsFree else IsHeld thread (count - 1))
    by_test true = tt
    by_test false = (refl, refl)

module _ (here : StepContext) (model : MemoryModel here.tree) (name : Names) (m : Frames) (o : Objects) (statics : List Value) (printed : List ℕ) (s : State) (f : StateFrame) (below : List StateFrame) (i : Instruction) (operation : Operation)
    (at : IsSetting here model name m o statics printed s f below i operation)
    (rest : List Value) (rest' : List StateValue) (others : Agree (IsValue name) rest rest') where
  abbrev MonitorAlike : CallTransition → StateEffect → Type 0
  MonitorAlike transition e = DoesAlike here model name m o statics printed s f below (of_calls o statics printed transition) e

  -- what a transition carries: the objects, and its outcome
  abbrev carrying : Objects × Effect → CallTransition
  carrying x = with_console printed (pop_if_continues m (with_stack m rest) x)

  blocks_alike : (transition : CallTransition) → transition ≡ carrying (o, Blocks) → MonitorAlike transition StateBlocks
  blocks_alike transition is = record { answer = answer_of m o statics printed (OwnEffect Blocks); is = ap (of_calls o statics printed) is; refuses = λ _ h. never h; alike = λ r. (refl, refl, (refl, refl, refl)) }

  raises_alike : (transition : CallTransition) (x : Fault) → transition ≡ carrying (o, Raises x) → MonitorAlike transition (StateRaises x)
  raises_alike transition x is = record { answer = answer_of m o statics printed (OwnEffect (Raises x)); is = ap (of_calls o statics printed) is; refuses = λ _ h. inr (refused_fault x h); alike = λ r. (refl, (refl, refl, refl)) }

  -- ---- an object, at its address

  module _ (a : Addr) (n : ObjectName) (named : name a.number ≡ Some n) (there : IsMonitorAt here.tree model name o statics printed here.limits s a n) (transition : CallTransition) where
    changes_alike : (new : Monitor) (changed : StateMonitor) → transition ≡ carrying (stored_monitor model.phase o a new, Continues) → IsMonitor new changed → MonitorAlike transition (onward_frame f below (with_state_monitor s n changed) rest')
    changes_alike new changed is h =
        let after : IsChanged here.tree model name o statics printed here.limits s a n new changed = there.changes new changed h in
        record {
          answer = answer_of (with_pc (with_stack m rest) (m.running.pc + 1)) (stored_monitor model.phase o a new) statics printed (OwnEffect Continues);
          is = ap (of_calls o statics printed) is ∙ ap (λ x. of_calls o statics printed (with_console printed (with_objects (stored_monitor model.phase o a new) x))) (onward_is here model name m o statics printed s f below i operation at rest);
          refuses = λ _ h. never h;
          alike = λ r. onward_alike here model name m o statics printed s f below i operation at name (λ b k e. e) (stored_monitor model.phase o a new) statics printed (with_state_monitor s n changed) after.others after.memory rest rest' others;
        }

    entry_alike : (w : Monitor) (w' : StateMonitor) → IsMonitor w w' → transition ≡ carrying (with_monitor_or model.phase o a Blocks (enter_monitor here.thread w)) → MonitorAlike transition (enter here s f below n rest' w')
    entry_alike Free IsFree h is = changes_alike (Held here.thread 1) (IsHeld here.thread 1) is (refl, refl)
    entry_alike (Held owner count) (IsHeld owner' count') h is =
        by_owner (owner' == here.thread) (is ∙ ap (λ x. carrying (with_monitor_or model.phase o a Blocks (if x == here.thread then Some (Held here.thread (count + 1)) else None))) h.0)
      where
        by_owner : (b : Bool) → transition ≡ carrying (with_monitor_or model.phase o a Blocks (if b then Some (Held here.thread (count + 1)) else None)) →
            MonitorAlike transition (if b then onward_frame f below (with_state_monitor s n (IsHeld here.thread (count' + 1))) rest' else StateBlocks)
        by_owner true e = changes_alike (Held here.thread (count + 1)) (IsHeld here.thread (count' + 1)) e (refl, ap (λ x. x + 1) h.1)
        by_owner false e = blocks_alike transition e
    entry_alike _ _ h is = elim h [ ]

    exit_alike : (w : Monitor) (w' : StateMonitor) → IsMonitor w w' → transition ≡ carrying (with_monitor_or model.phase o a (Raises SynchronizationLock) (leave_monitor here.thread w)) → MonitorAlike transition (exit here s f below n rest' w')
    exit_alike Free IsFree h is = raises_alike transition SynchronizationLock is
    exit_alike (Held owner count) (IsHeld owner' count') h is =
        by_owner (owner' == here.thread) (
        is ∙ ap (λ x. carrying (with_monitor_or model.phase o a (Raises SynchronizationLock) (if x == here.thread then Some (if nat_le count 1 then Free else Held here.thread (count - 1)) else None))) h.0 ∙
        ap (λ x. carrying (with_monitor_or model.phase o a (Raises SynchronizationLock) (if owner' == here.thread then Some (if nat_le x 1 then Free else Held here.thread (x - 1)) else None))) h.1
        )
      where
        by_owner : (b : Bool) → transition ≡ carrying (with_monitor_or model.phase o a (Raises SynchronizationLock) (if b then Some (if nat_le count' 1 then Free else Held here.thread (count' - 1)) else None)) →
            MonitorAlike transition (if b then onward_frame f below (with_state_monitor s n (if nat_le count' 1 then IsFree else IsHeld here.thread (count' - 1))) rest' else StateRaises SynchronizationLock)
        by_owner true e = changes_alike (if nat_le count' 1 then Free else Held here.thread (count' - 1)) (if nat_le count' 1 then IsFree else IsHeld here.thread (count' - 1)) e (lowered here.thread count')
        by_owner false e = raises_alike transition SynchronizationLock e
    exit_alike _ _ h is = elim h [ ]

  -- ---- the operand

  -- a monitor can be stored there
  abbrev storable : Addr → Bool
  storable b = is_monitor_storable model.phase o b

  module _ (a : Addr) (top : m.running.stack ≡ Ref a ∷ rest) where
    abbrev enters_by : Bool → Bool → Objects × Effect → CallTransition
    enters_by is_null can x = with_console printed (if is_null || can then pop_if_continues m (with_stack m rest) x else None)

    enter_is : act_transition here.tree (mutator_in here model) Enter m o printed ≡ enters_by (a.number == 0) (is_countable (monitor_at o a) && storable a) (with_entry (mutator_in here model) o a)
    enter_is = ap (λ x. with_console printed (reference_from x m (λ b k. if (b.number == 0) || (is_countable (monitor_at o b) && storable b) then pop_if_continues m k (with_entry (mutator_in here model) o b) else None))) top

    exit_is : act_transition here.tree (mutator_in here model) Exit m o printed ≡ enters_by (a.number == 0) (is_some (monitor_at o a) && storable a) (with_exit (mutator_in here model) o a)
    exit_is = ap (λ x. with_console printed (reference_from x m (λ b k. if (b.number == 0) || (is_some (monitor_at o b) && storable b) then pop_if_continues m k (with_exit (mutator_in here model) o b) else None))) top

    module _ (n : ObjectName) (named : name a.number ≡ Some n) where
      there : IsMonitorAt here.tree model name o statics printed here.limits s a n
      there = monitor_there here.tree model name o statics printed here.limits s at.memory at.running.accepted.legal at.running.typed at.counted a n named

      can_store : storable a ≡ true
      can_store = model.monitor_storable name o statics s at.memory.fits a n named

      not_null : (a.number == 0) ≡ false
      not_null = named_is_not_null here.tree name o s (model.reads name o statics s at.memory.fits at.running.typed) a.number n named

      enters_object : MonitorAlike (act_transition here.tree (mutator_in here model) Enter m o printed) (act here s f below Enter (Reference n ∷ []) rest')
      enters_object =
          subst (λ x. MonitorAlike (act_transition here.tree (mutator_in here model) Enter m o printed) (given_there x (enter here s f below n rest'))) (sym there.are.state_held) (
          entry_alike a n named there (act_transition here.tree (mutator_in here model) Enter m o printed) there.are.monitor there.are.state_monitor there.are.refines (
          enter_is ∙
          ap (λ b. enters_by b (is_countable (monitor_at o a) && storable a) (if b then (o, Raises ArgumentNull) else with_monitor_or model.phase o a Blocks (option_and_then (enter_monitor here.thread) (monitor_at o a)))) not_null ∙
          ap (λ x. enters_by false (is_countable x && storable a) (with_monitor_or model.phase o a Blocks (option_and_then (enter_monitor here.thread) x))) there.are.held ∙
          ap (λ b. enters_by false b (with_monitor_or model.phase o a Blocks (enter_monitor here.thread there.are.monitor)))
          (and_from (is_countable (Some there.are.monitor)) (storable a) (countable here.limits s there.are.monitor there.are.state_monitor at.budget there.are.refines there.counted) can_store)
          )
          )

      exits_object : MonitorAlike (act_transition here.tree (mutator_in here model) Exit m o printed) (act here s f below Exit (Reference n ∷ []) rest')
      exits_object =
          subst (λ x. MonitorAlike (act_transition here.tree (mutator_in here model) Exit m o printed) (given_there x (exit here s f below n rest'))) (sym there.are.state_held) (
          exit_alike a n named there (act_transition here.tree (mutator_in here model) Exit m o printed) there.are.monitor there.are.state_monitor there.are.refines (
          exit_is ∙
          ap (λ b. enters_by b (is_some (monitor_at o a) && storable a) (if b then (o, Raises ArgumentNull) else with_monitor_or model.phase o a (Raises SynchronizationLock) (option_and_then (leave_monitor here.thread) (monitor_at o a)))) not_null ∙
          ap (λ x. enters_by false (is_some x && storable a) (with_monitor_or model.phase o a (Raises SynchronizationLock) (option_and_then (leave_monitor here.thread) x))) there.are.held ∙
          ap (λ b. enters_by false b (with_monitor_or model.phase o a (Raises SynchronizationLock) (leave_monitor here.thread there.are.monitor))) can_store
          )
          )

  pub enters_alike : (v : Value) (u : StateValue) → m.running.stack ≡ v ∷ rest → IsValue name v u → IsTypedEffect here.tree (act here s f below Enter (u ∷ []) rest') →
      MonitorAlike (act_transition here.tree (mutator_in here model) Enter m o printed) (act here s f below Enter (u ∷ []) rest')
  enters_alike v u top null_reference t = raises_alike (act_transition here.tree (mutator_in here model) Enter m o printed) ArgumentNull (enter_is null top)
  enters_alike v u top (reference a n named) t = enters_object a top n named
  enters_alike v u top _ t = elim t [ ]

  pub exits_alike : (v : Value) (u : StateValue) → m.running.stack ≡ v ∷ rest → IsValue name v u → IsTypedEffect here.tree (act here s f below Exit (u ∷ []) rest') →
      MonitorAlike (act_transition here.tree (mutator_in here model) Exit m o printed) (act here s f below Exit (u ∷ []) rest')
  exits_alike v u top null_reference t = raises_alike (act_transition here.tree (mutator_in here model) Exit m o printed) ArgumentNull (exit_is null top)
  exits_alike v u top (reference a n named) t = exits_object a top n named
  exits_alike v u top _ t = elim t [ ]

-- ---- A built-in member that acts on one object finds it as its only operand.

-- where the uppermost values are one, it is the topmost
pub one_taken : {X : Type 0} (n : ℕ) (xs : List X) (x : X) → nat_le n (length xs) ≡ true → reverse (take n xs) ≡ x ∷ [] → xs ≡ x ∷ drop n xs
one_taken zero xs x enough is = absurd cc
one_taken (suc n) [] x enough is = absurd cc
one_taken (suc zero) (y ∷ ys) x enough is =
    let same : y ≡ x = cc in
    ap (λ z. z ∷ ys) same
one_taken {X} (suc (suc n)) (y ∷ []) x enough is = absurd (grind (arith, nat_tests, enough))
one_taken {X} (suc (suc n)) (y ∷ z ∷ zs) x enough is =
    let many : length (reverse (y ∷ z ∷ take n zs)) ≡ suc (suc (length (take n zs))) = length-reverse (y ∷ z ∷ take n zs) in
    let one : length (reverse (y ∷ z ∷ take n zs)) ≡ 1 = ap (λ (l : List X). length l) is in
    absurd (omega (arith, many, one))

module _ (here : StepContext) (s : State) (f : StateFrame) (below : List StateFrame) where
  -- without an operand it is stuck
  none_sticks : (a : Action) (rest : List StateValue) → IsTypedEffect here.tree (act here s f below a [] rest) → ⊥
  none_sticks Construct rest t = t
  none_sticks _ rest t = t

  -- and with two
  two_stick : (a : Action) (v w : StateValue) (vs rest : List StateValue) → IsTypedEffect here.tree (act here s f below a (v ∷ w ∷ vs) rest) → ⊥
  two_stick Construct v w vs rest t = t
  two_stick _ v w vs rest t = t

  -- so there is one
  pub single_operand : (a : Action) (arguments rest : List StateValue) → IsTypedEffect here.tree (act here s f below a arguments rest) → (v : StateValue) × (arguments ≡ v ∷ [])
  single_operand a [] rest t = absurd (none_sticks a rest t)
  single_operand a (v ∷ []) rest t = (v, refl)
  single_operand a (v ∷ w ∷ vs) rest t = absurd (two_stick a v w vs rest t)

-- ---- A line that is printed is the same on both machines.

module _ (tree : Tree) (name : Names) (o : Objects) (s : State) (heap : IsReadable tree name o s) where
  -- the line of a value
  pub line_alike : (v : Value) (u : StateValue) → IsValue name v u → (line : List ℕ) → state_line_of u ≡ Some line → line_of (literals_of tree) v ≡ Some line
  line_alike v u (native z fits) line is = none_is_some line is
  line_alike v u (reference a (Born n) named) line is = none_is_some line is
  line_alike v u (reference a (Literal characters) named) line is =
      let there : IsLiteralAt tree o s a.number characters = heap.literals a.number characters named in
      ap (λ b. option_map (λ text. text ++ 10 ∷ []) (if b then Some [] else option_map_or (slice_get (literals_of tree)) (literal_number a) None)) (named_is_not_null tree name o s heap a.number (Literal characters) named) ∙
      ap (λ x. option_map (λ text. text ++ 10 ∷ []) (option_map_or (slice_get (literals_of tree)) x None)) there.has_id ∙
      ap (option_map (λ text. text ++ 10 ∷ [])) there.is ∙ is
  line_alike v u _ line is = is

-- the memory once a line was printed
pub memory_printed : (tree : Tree) (model : MemoryModel tree) (name : Names) (o : Objects) (statics : List Value) (printed : List ℕ) (s : State) → IsModelled tree model name o statics printed s → (line : List ℕ) →
    IsModelled tree model name o statics (printed ++ line) (record s { printed = s.printed ++ line })
memory_printed tree model name o statics printed s memory line = record {
  fits = model.with_objects name o statics s (record s { printed = s.printed ++ line }) memory.fits (record { objects = refl; monitors = refl; statics = refl });
  printed_is = ap (λ x. x ++ line) memory.printed_is;
}

-- ---- Built-in members do the same on both machines.

module _ (here : StepContext) (model : MemoryModel here.tree) (name : Names) (m : Frames) (o : Objects) (statics : List Value) (print_bytes : List ℕ) (s : State) (f : StateFrame) (below : List StateFrame) (i : Instruction) (operation : Operation)
    (at : IsSetting here model name m o statics print_bytes s f below i operation) where
  abbrev Alike : CallTransition → StateEffect → Type 0
  Alike transition e = DoesAlike here model name m o statics print_bytes s f below (of_calls o statics print_bytes transition) e

  abbrev popped : List Value → Frames
  popped rest = with_pc (with_stack m rest) (m.running.pc + 1)

  onward_popped : (rest : List Value) → onward (with_stack m rest) ≡ Some (popped rest, Continues)
  onward_popped = onward_is here model name m o statics print_bytes s f below i operation at

  -- ---- an operand v that is the topmost of both stacks

  module _ (v : Value) (rest : List Value) (u : StateValue) (rest' : List StateValue) (top : m.running.stack ≡ v ∷ rest) (top' : f.stack ≡ u ∷ rest') (refines : IsValue name v u) (others : Agree (IsValue name) rest rest') where
    abbrev Acts : Action → Type 0
    Acts a = IsTypedEffect here.tree (act here s f below a (u ∷ []) rest') → Alike (act_transition here.tree (mutator_in here model) a m o print_bytes) (act here s f below a (u ∷ []) rest')

    constructs : Acts Construct
    constructs t = record {
      answer = answer_of (popped rest) o statics print_bytes (OwnEffect Continues);
      is = ap (λ x. of_calls o statics print_bytes (top_of x m (λ w n. with_console print_bytes (with_objects o (onward n))))) top ∙ ap (λ x. of_calls o statics print_bytes (with_console print_bytes (with_objects o x))) (onward_popped rest);
      refuses = λ _ h. never h;
      alike = λ r. next_alike here model name m o statics print_bytes s f below i operation at rest rest' others;
    }

    writes : Acts Write
    writes t = by_line (state_line_of u) refl t
      where
        by_line : (l : Option (List ℕ)) → state_line_of u ≡ l → IsTypedEffect here.tree (given_there l (λ line. onward_frame f below (record s { printed = s.printed ++ line }) rest')) →
            Alike (act_transition here.tree (mutator_in here model) Write m o print_bytes) (given_there l (λ line. onward_frame f below (record s { printed = s.printed ++ line }) rest'))
        by_line None is t' = elim t' [ ]
        by_line (Some line) is t' = record {
          answer = answer_of (popped rest) o statics (print_bytes ++ line) (OwnEffect Continues);
          is =
              ap (λ x. of_calls o statics print_bytes (option_map (λ (y : Frames × List ℕ × Effect). call_answer y.0 o y.1 (OwnEffect y.2)) (top_of x m (λ w n. when_some (line_of (literals_of here.tree) w) (λ l. printed_line l print_bytes n))))) top ∙
              ap (λ x. of_calls o statics print_bytes (option_map (λ (y : Frames × List ℕ × Effect). call_answer y.0 o y.1 (OwnEffect y.2)) (when_some x (λ l. printed_line l print_bytes (with_stack m rest)))))
              (line_alike here.tree name o s (model.reads name o statics s at.memory.fits at.running.typed) v u refines line is) ∙
              ap (λ x. of_calls o statics print_bytes (option_map (λ (y : Frames × List ℕ × Effect). call_answer y.0 o y.1 (OwnEffect y.2)) (option_map (λ (y : Frames × Effect). (y.0, print_bytes ++ line, y.1)) x))) (onward_popped rest);
          refuses = λ _ h. never h;
          alike = λ r.
              onward_alike here model name m o statics print_bytes s f below i operation at name (λ a n e. e) o statics (print_bytes ++ line) (record s { printed = s.printed ++ line }) refl
              (memory_printed here.tree model name o statics print_bytes s at.memory line) rest rest' others;
        }

    -- ---- what is asked of other threads

    asked : (action : Action) (a : Addr) (outcome : InstructionOutcome) → v ≡ Ref a → AsksFor here model name m o statics print_bytes s f below action a (answer_of m o statics print_bytes outcome) (act here s f below action (u ∷ []) rest')
    asked action a outcome is = record { operand = u; rest = rest'; stack = top'; refines = subst (λ x. IsValue name x u) is refines; is = refl; frames = refl; memory = (refl, refl, refl) }

    asks_is : (what : Addr → InstructionOutcome) (a : Addr) → v ≡ Ref a → of_calls o statics print_bytes (request_outcome what m o print_bytes) ≡ Some (answer_of m o statics print_bytes (what a))
    asks_is what a is = ap (λ x. of_calls o statics print_bytes (option_map (λ b. call_answer m o print_bytes (what b)) (top_reference x))) (top ∙ ap (λ x. x ∷ rest) is)

    starts_of : (a : Addr) → v ≡ Ref a → Alike (act_transition here.tree (mutator_in here model) Start m o print_bytes) (act here s f below Start (u ∷ []) rest')
    starts_of a is = record { answer = answer_of m o statics print_bytes (Starts a); is = asks_is Starts a is; refuses = λ _ h. never h; alike = λ r. asked Start a (Starts a) is }

    joins_of : (a : Addr) → v ≡ Ref a → Alike (act_transition here.tree (mutator_in here model) Join m o print_bytes) (act here s f below Join (u ∷ []) rest')
    joins_of a is = record { answer = answer_of m o statics print_bytes (Joins a); is = asks_is Joins a is; refuses = λ _ h. never h; alike = λ r. asked Join a (Joins a) is }

    starts : Acts Start
    starts = by_value v u refl refines
      where
        by_value : (w : Value) (x : StateValue) → v ≡ w → IsValue name w x → IsTypedEffect here.tree (act here s f below Start (x ∷ []) rest') → Alike (act_transition here.tree (mutator_in here model) Start m o print_bytes) (act here s f below Start (u ∷ []) rest')
        by_value w x is null_reference t = starts_of null is
        by_value w x is (reference a n named) t = starts_of a is
        by_value w x is _ t = elim t [ ]

    joins : Acts Join
    joins = by_value v u refl refines
      where
        by_value : (w : Value) (x : StateValue) → v ≡ w → IsValue name w x → IsTypedEffect here.tree (act here s f below Join (x ∷ []) rest') → Alike (act_transition here.tree (mutator_in here model) Join m o print_bytes) (act here s f below Join (u ∷ []) rest')
        by_value w x is null_reference t = joins_of null is
        by_value w x is (reference a n named) t = joins_of a is
        by_value w x is _ t = elim t [ ]

    -- ---- any of them

    acts : (a : Action) → Acts a
    acts Construct t = constructs t
    acts Write t = writes t
    acts Enter t = enters_alike here model name m o statics print_bytes s f below i operation at rest rest' others v u top refines t
    acts Exit t = exits_alike here model name m o statics print_bytes s f below i operation at rest rest' others v u top refines t
    acts Start t = starts t
    acts Join t = joins t

  -- ---- an action on the uppermost values

  pub acts_alike : (a : Action) (n : ℕ) → nat_le n (length f.stack) ≡ true → IsTypedEffect here.tree (act here s f below a (reverse (take n f.stack)) (drop n f.stack)) →
      Alike (act_transition here.tree (mutator_in here model) a m o print_bytes) (act here s f below a (reverse (take n f.stack)) (drop n f.stack))
  acts_alike a n enough typed = by_operand (single_operand here s f below a (reverse (take n f.stack)) (drop n f.stack) typed)
    where
      by_stack : (u : StateValue) → f.stack ≡ u ∷ drop n f.stack → IsTypedEffect here.tree (act here s f below a (u ∷ []) (drop n f.stack)) →
          (vs : List Value) → m.running.stack ≡ vs → Agree (IsValue name) vs (u ∷ drop n f.stack) → Alike (act_transition here.tree (mutator_in here model) a m o print_bytes) (act here s f below a (u ∷ []) (drop n f.stack))
      by_stack u top' t [] top h = elim h [ ]
      by_stack u top' t (v ∷ vs) top h = acts v vs u (drop n f.stack) top top' h.0 h.1 a t

      by_operand : (u : StateValue) × (reverse (take n f.stack) ≡ u ∷ []) → Alike (act_transition here.tree (mutator_in here model) a m o print_bytes) (act here s f below a (reverse (take n f.stack)) (drop n f.stack))
      by_operand (u, is) =
          let top' : f.stack ≡ u ∷ drop n f.stack = one_taken n f.stack u enough is in
          subst (λ x. Alike (act_transition here.tree (mutator_in here model) a m o print_bytes) (act here s f below a x (drop n f.stack))) (sym is)
          (by_stack u top' (subst (λ x. IsTypedEffect here.tree (act here s f below a x (drop n f.stack))) is typed) m.running.stack refl
          (subst (λ x. Agree (IsValue name) m.running.stack x) top' (own_frame here model name m o statics print_bytes s f below i operation at).stack))
