-- What a machine holds at first represents the initial state.
use Rattle.std.proofs.Common.{◌≡◌, ◌==◌, is_some, true, false, inl, inr, ℕ, IsTrue, List, [], ◌∷◌, length, Option, Some, None, option_map, option_and_then, slice_get, refl, sym, ap, ◌∙◌, arith, subst}
use Rattle.interpreter.specs.cil_model.declared.limits.Limits.{Limits}
use Rattle.interpreter.specs.cil_model.declared.trees.Code.{Code}
use Rattle.interpreter.specs.cil_model.declared.trees.Method.{Method}
use Rattle.interpreter.specs.cil_model.declared.trees.Tree.{Tree}
use Rattle.interpreter.specs.cil_model.declared.types.ClassName.{ClassName}
use Rattle.interpreter.specs.cil_model.Bodies.{code_of, entry_points, is_entry_point, source_methods}
use Rattle.interpreter.specs.cil_model.Chains.{methods_declared}
use Rattle.interpreter.specs.cil_model.Fields.{static_fields}
use Rattle.interpreter.specs.cil_model.Mentions.{literals_of}
use Rattle.interpreter.specs.cil_model.Ranges.{are_in_range}
use Rattle.interpreter.specs.cil_model.Typings.{IsAccepted}
use Rattle.interpreter.proofs.cil_model.Lists.{none_is_some}
use Rattle.interpreter.proofs.cil_model.Legal.{entry_alone}
use Rattle.interpreter.specs.reference_machine.Values.{ObjectName}
use Rattle.interpreter.specs.reference_machine.States.{Frame as StateFrame, Free as IsFree, State}
use Rattle.interpreter.specs.reference_machine.Runs.{initial_state, initial_state_at}
use Rattle.interpreter.proofs.reference_machine.TypedStates.InitialStates.{opens, initial_typed}
use Rattle.interpreter.proofs.reference_machine.Programs.SourceMethods.{kept_from, source_is_declared}
use Rattle.simulation.proofs.MonitorCounts.InitialStates.{initial_counted}
use Rattle.interpreter.specs.loaded_program.AllMethods.{all_methods}
use Rattle.interpreter.specs.loaded_program.MethodNumbers.{number_of}
use Rattle.interpreter.proofs.loaded_program.NumberLaws.{declared_has_id}
use Rattle.interpreter.specs.object_memory.declared.monitors.Monitor.TheVariants.{Free}
use Rattle.interpreter.specs.object_memory.Cells.{literal_number, null}
use Rattle.interpreter.specs.object_memory.Objects.{no_objects}
use Rattle.interpreter.specs.object_memory.Spaces.{Spaces}
use Rattle.interpreter.specs.object_memory.declared.addresses.Addr.{Addr}
use Rattle.interpreter.specs.cil_model.declared.reports.End.{End}
use Rattle.collector.specs.phase_handshake.Handshakes.{first_handshakes}
use Rattle.collector.specs.phase_handshake.declared.posts.Seat.{Seat}
use Rattle.interpreter.specs.threads_monitors.Frames.{Frames}
use Rattle.interpreter.specs.threads_monitors.Roots.{roots}
use Rattle.interpreter.specs.threads_monitors.declared.threads.ThreadStatus.TheVariants.{Live}
use Rattle.simulation.specs.MachineStates.{MachineState}
use Rattle.simulation.specs.Sound.{AreSeated, IsSound}
use Rattle.simulation.specs.Refines.{IsHeap, IsThread, StatusRefines, RefinesUnder, Represents}
use Rattle.simulation.specs.Transitions.{machine_state_at, initial_machine_state, thread_at}
use Rattle.simulation.proofs.ProgramSizes.LimitRanges.{budget_is_some, depth_is_some, most_words_are_few, words_are_few, words_are_within}
use Rattle.simulation.proofs.Memory.InitialValues.{fields_refine}
use Rattle.simulation.proofs.ListLaws.AgreeingLists.{agree_at}
use Rattle.simulation.proofs.CollectedHeap.VisibleNames.{permanent_passes}
use Rattle.simulation.proofs.Representation.RootReferences.{roots_pass, statics_pass}
use Rattle.collector.proofs.Addresses.Disjunctions.{or_second}
use Rattle.simulation.proofs.Threads.Seats.{first_alone, first_fits}
use Rattle.interpreter.specs.cil_model.declared.phases.Phase.TheVariants.{Idle}
use Rattle.collector.specs.Phases.{no_progress}
use Rattle.collector.specs.Holds.{Hold, hold_of, may_hold, passes, static_hold_of, static_may_hold}
use Rattle.collector.specs.Soundness.{IsListed, IsSoundHeap}
use Rattle.collector.proofs.PhaseChanges.BetweenCycles.{quiet_is_sound}
use Rattle.simulation.proofs.Representation.MoreNames.{beginning_refines}
use Rattle.simulation.proofs.Representation.LiteralNames.{same_for_each, free_first, literal_names, IsNamedLiteral, named_literal, literal_named, literals_small, literals_apart}
use Rattle.std.proofs.lemmas.Option.{same_Some}

module _ (tree : Tree) (limits : Limits) (accepted : IsAccepted tree) (in_range : IsTrue (are_in_range limits)) where
  -- no object is there but the literals
  first_heap : (entry : ClassName × Method) (code : Code) → IsHeap tree (literal_names tree) (no_objects limits.words (length (literals_of tree))) (initial_state_at tree limits entry code)
  first_heap entry code = record {
    null_unnamed = refl;
    small = literals_small tree accepted.legal;
    names = record {
      one = λ a b n is also. inl (literals_apart tree a b n is also);
      twins = λ a b n k is also twins. elim twins [ inl other ↦ none_is_some (record { number = b }) other | inr other ↦ none_is_some (record { number = a }) other ];
    };
    born = λ a n named. let x : IsNamedLiteral tree a _ = named_literal tree a _ named in let name = x.name in absurd cc;
    literals = λ a characters named. let x : IsNamedLiteral tree a _ = named_literal tree a _ named in let name = x.name in let same : x.characters ≡ characters = cc in let is : slice_get (literals_of tree) x.number ≡ Some characters = x.is ∙ ap Some same in record {
      number = x.number;
      has_id = x.has_id;
      is = is;
      monitor = Free;
      held = same_for_each (literals_of tree) x.number characters Free is;
      state_monitor = IsFree;
      state_held = free_first (literals_of tree) x.number characters is;
      refines = tt;
    };
    each_literal = literal_named tree;
  }

  -- it is sound
  first_sound : IsSoundHeap tree Idle false limits.max_words no_progress (no_objects limits.words (length (literals_of tree))).spaces
  first_sound =
      quiet_is_sound tree false limits.max_words no_progress (no_objects limits.words (length (literals_of tree))).spaces
      (record {
        spaces = record {
          old = record { start = inl refl; fits = omega arith; few = words_are_few limits in_range };
          new = record { start = inr refl; fits = omega arith; few = omega arith };
          apart = refl;
        };
        few = most_words_are_few limits in_range;
        held = refl;
        old_words = words_are_within limits in_range;
        new_words = omega arith;
        grows = λ cycle. absurd cc;
        none_new = λ early. refl;
        none_grey = λ idle. refl;
      })
      (λ a c lies. none_is_some c lies)

  -- the thread is at the beginning of the entry point
  first_refines : (entry : ClassName × Method) (code : Code) → code_of entry.1.kind ≡ Some code → (n : ℕ) → slice_get (all_methods tree) n ≡ Some entry → RefinesUnder (literal_names tree) (machine_state_at tree limits entry n) (initial_state_at tree limits entry code)
  first_refines entry code has_code n refines = record {
    memory = record { heap = first_heap entry code; static_values = fields_refine (literal_names tree) (static_fields tree); printed_is = refl };
    threads = (beginning_refines (literal_names tree) tree limits (depth_is_some limits in_range) entry code has_code n refines [] [] tt, tt);
  }

  -- each thread may hold the literals, and so may static fields
  literal_passes : (hold : Hold) (m : Spaces) (a : ℕ) (n : ObjectName) → literal_names tree a ≡ Some n → passes hold Idle m (record { number = a }) ≡ true
  literal_passes hold m a n is =
      let x : IsNamedLiteral tree a n = named_literal tree a n is in
      permanent_passes hold Idle m (record { number = a }) (or_second (a == 0) (is_some (literal_number (record { number = a }))) (ap is_some x.has_id))

  -- the first machine is sound
  initial_sound : (entry : ClassName × Method) (code : Code) (n : ℕ) → RefinesUnder (literal_names tree) (machine_state_at tree limits entry n) (initial_state_at tree limits entry code) → IsSound (machine_state_at tree limits entry n)
  initial_sound entry code n by = record {
    seated = fit;
    heap = first_sound;
    rounds = λ e. absurd cc;
    on_time = λ t seat is late. absurd (late (ap (λ (x : Seat). x.phase) (first_alone t seat is)));
    threads = λ t left fs seat at is a listed.
        let found = agree_at (IsThread tree limits (literal_names tree)) (machine_state_at tree limits entry n).threads (initial_state_at tree limits entry code).threads by.threads t (record { thread_status = Live fs; steps_left = left }) at in
        by_end fs seat a listed found.0.frames found.0.ended found.2.thread_status;
    statics = λ number v is.
        statics_pass (literal_names tree) (static_may_hold Idle m no_progress number) (permanent_passes (static_hold_of Idle no_progress number) Idle m null refl) (literal_passes (static_hold_of Idle no_progress number) m)
        (machine_state_at tree limits entry n).statics (initial_state_at tree limits entry code).statics by.memory.static_values number v is;
  }
    where
      fit : AreSeated first_handshakes (thread_at limits entry [] n ∷ [])
      fit = first_fits (thread_at limits entry [] n) refl

      m : Spaces
      m = (no_objects limits.words (length (literals_of tree))).spaces

      by_end : (fs : Frames) (seat : Seat) (a : Addr) → IsListed (roots fs) a → (gs : List StateFrame) (e : Option End) → StatusRefines tree limits (literal_names tree) (Live fs) gs e → may_hold first_handshakes m seat a ≡ true
      by_end fs seat a listed gs None h =
          let hold : Hold = hold_of first_handshakes m.has_marked seat in
          roots_pass (literal_names tree) (may_hold first_handshakes m seat) (permanent_passes hold Idle m null refl) (literal_passes hold m) tree fs gs h.frames a listed
      by_end fs seat a listed gs (Some e) h = elim h [ ]

  abbrev pub IsOpened : Type 0
  IsOpened = (c : MachineState) × (s : State) × (initial_machine_state tree limits ≡ Some c) × (initial_state tree limits ≡ Some s) × Represents c s

  module _ (entry : ClassName × Method) (alone : entry_points tree ≡ entry ∷ []) where
    entry_declared : (k : ℕ) × (slice_get (methods_declared tree entry.0) k ≡ Some entry.1)
    entry_declared =
        let found = kept_from (λ (x : ClassName × Method). is_entry_point x.1) (source_methods tree) 0 entry (ap (λ es. slice_get es 0) alone) in
        source_is_declared tree accepted.legal found.0 entry.0 entry.1 found.1

    opened_with : (code : Option Code) → code_of entry.1.kind ≡ code → IsOpened
    opened_with None is =
        let none : initial_state tree limits ≡ None = ap (λ es. option_and_then (λ (e : ClassName × Method). option_map (initial_state_at tree limits e) (code_of e.1.kind)) (slice_get es 0)) alone ∙ ap (option_map (initial_state_at tree limits entry)) is in
        none_is_some (opens tree limits accepted).0 (sym none ∙ (opens tree limits accepted).1)
    opened_with (Some code) is =
        let opened : initial_state tree limits ≡ Some (initial_state_at tree limits entry code) =
        ap (λ es. option_and_then (λ (e : ClassName × Method). option_map (initial_state_at tree limits e) (code_of e.1.kind)) (slice_get es 0)) alone ∙ ap (option_map (initial_state_at tree limits entry)) is in
        let has_id : (n : ℕ) × (number_of tree entry ≡ Some n) × (slice_get (all_methods tree) n ≡ Some entry) = declared_has_id tree accepted.legal entry_declared.0 entry entry_declared.1 in (
          machine_state_at tree limits entry has_id.0,
          initial_state_at tree limits entry code,
          ap (λ es. option_and_then (λ (e : ClassName × Method). option_map (machine_state_at tree limits e) (number_of tree e)) (slice_get es 0)) alone ∙ ap (option_map (machine_state_at tree limits entry)) has_id.1,
          opened,
          record {
            accepted = accepted;
            limits = in_range;
            typed = initial_typed tree limits accepted (initial_state_at tree limits entry code) opened;
            counted = initial_counted tree limits (budget_is_some limits in_range) (initial_state_at tree limits entry code) opened;
            sound = initial_sound entry code has_id.0 (first_refines entry code is has_id.0 has_id.2);
            refines = record { name = literal_names tree; by = first_refines entry code is has_id.0 has_id.2 };
          },
        )

-- what the initial machine state of each entry point has, that of the program has
pub initially : (tree : Tree) (limits : Limits) (P : MachineState → Type 0) → ((entry : ClassName × Method) (n : ℕ) → P (machine_state_at tree limits entry n)) → (c : MachineState) → initial_machine_state tree limits ≡ Some c → P c
initially tree limits P each c e = by_entry (slice_get (entry_points tree) 0) e
  where
    by_number : (entry : ClassName × Method) (n : Option ℕ) → option_map (machine_state_at tree limits entry) n ≡ Some c → P c
    by_number entry None h = none_is_some c h
    by_number entry (Some n) h = subst P (same_Some (machine_state_at tree limits entry n) c h) (each entry n)

    by_entry : (entry : Option (ClassName × Method)) → option_and_then (λ (x : ClassName × Method). option_map (machine_state_at tree limits x) (number_of tree x)) entry ≡ Some c → P c
    by_entry None h = none_is_some c h
    by_entry (Some entry) h = by_number entry (number_of tree entry) h

-- an accepted program has an initial machine state, which represents its initial state
pub initial_represents : (tree : Tree) (limits : Limits) → IsAccepted tree → IsTrue (are_in_range limits) →
    (c : MachineState) × (s : State) × (initial_machine_state tree limits ≡ Some c) × (initial_state tree limits ≡ Some s) × Represents c s
initial_represents tree limits accepted in_range =
    let entry = entry_alone tree accepted.legal in opened_with tree limits accepted in_range entry.0 entry.1 (code_of entry.0.1.kind) refl

-- so its initial machine state represents its initial state
pub opened_represents : (tree : Tree) (limits : Limits) → IsAccepted tree → IsTrue (are_in_range limits) → (c : MachineState) → initial_machine_state tree limits ≡ Some c → (s : State) → initial_state tree limits ≡ Some s → Represents c s
opened_represents tree limits accepted in_range c opens s begins =
    let opened = initial_represents tree limits accepted in_range in
    subst (λ (x : MachineState). Represents x s) (same_Some opened.0 c (sym opened.2 ∙ opens)) (subst (λ (x : State). Represents opened.0 x) (same_Some opened.1 s (sym opened.3 ∙ begins)) opened.4)
