-- The thread at an index of a machine, and the machine after a change of that thread.
use Rattle.std.proofs.Common.{◌≡◌, ◌<◌, ℕ, true, false, List, length, Option, Some, None, option_map, slice_get, slice_set, refl, sym, ap, ◌∙◌, subst}
use Rattle.std.specs.Prelude.{IsSome, slice_index_or}
use Rattle.std.specs.Option.{option_map_or}
use Rattle.std.proofs.lemmas.List.{set-get_or}
use Rattle.std.proofs.lemmas.Option.{get_or_from_slice_get, slice_get_read, slice_get_within}
use Rattle.cil_model.specs.declared.phases.Phase.{Phase}
use Rattle.cil_model.specs.declared.limits.Limits.{Limits}
use Rattle.cil_model.specs.declared.reports.Fault.{Fault}
use Rattle.cil_model.specs.declared.reports.Report.{Report}
use Rattle.cil_model.specs.declared.trees.Tree.{Tree}
use Rattle.object_memory.specs.declared.addresses.Addr.{Addr}
use Rattle.object_memory.specs.declared.values.Value.{Value}
use Rattle.object_memory.specs.Objects.{Objects}
use Rattle.threads_monitors.specs.Frames.{Frames}
use Rattle.threads_monitors.specs.Threads.{is_live, is_live_at, charge, start_fault, with_start}
use Rattle.threads_monitors.specs.declared.effects.Effect.{Effect}
use Rattle.threads_monitors.specs.declared.effects.Effect.TheVariants.{Raises}
use Rattle.threads_monitors.specs.declared.threads.ThreadStatus.TheVariants.{Live}
use Rattle.threads_monitors.specs.declared.threads.Thread.{Thread}
use Rattle.resolved_code.specs.declared.operations.Operation.{Operation}
use Rattle.threads_monitors.specs.declared.mutators.Mutator.{Mutator}
use Rattle.simulation.specs.ReadySteps.{IsReady}
use Rattle.simulation.specs.interpreter.Instructions.{IsDone, answer_of, HasSmallConstant, IsAt, operation_transition}
use Rattle.simulation.specs.interpreter.declared.outcomes.InstructionOutcome.{InstructionOutcome}
use Rattle.simulation.specs.MachineStates.{MachineState, mutator_of}
use Rattle.simulation.specs.Transitions.{after_request, answer_step, count_step, live_thread, start_thread, thread_for, seats_after}
use Rattle.interleaving_core.specs.FinishedSteps.{IsInstructed}
use Rattle.interleaving_core.proofs.Threads.HalfSteps.{live_there, thread_is}

-- ---- what was reached

-- a thread that was read at a number
pub read_there : (threads read : List Thread) (t i : ℕ) (thread : Thread) → read ≡ threads → i ≡ t → i < length read → thread ≡ slice_index_or read i thread → slice_get threads t ≡ Some thread
read_there threads read t i thread same number inside reads =
    subst (λ x. slice_get x t ≡ Some thread) same (subst (λ n. slice_get read n ≡ Some thread) number (slice_get_read read (length read) i thread refl inside reads))

-- a live thread's number leads to it
pub live_within : (threads : List Thread) (t i : ℕ) → i ≡ t → is_live_at threads t ≡ true → i < length threads
live_within threads t i same live =
    let there = live_there threads t live in
    slice_get_within threads i (live_thread there.0 there.1) (ap (slice_get threads) same ∙ there.2)

module _ (threads : List Thread) (t i : ℕ) (same : i ≡ t) (thread : Thread) (reads : thread ≡ slice_index_or threads i thread) where
  pub reached : (x : Thread) → slice_get threads t ≡ Some x → thread ≡ x
  reached x is = reads ∙ get_or_from_slice_get threads i x thread (ap (slice_get threads) same ∙ is)

  module _ (live : is_live_at threads t ≡ true) where
    -- it is the live one of that number
    pub reached_there : slice_get threads t ≡ Some thread
    reached_there = let there = live_there threads t live in there.2 ∙ ap Some (sym (reached (live_thread there.0 there.1) there.2))

    pub reached_live : is_live thread ≡ true
    reached_live = ap (λ o. option_map_or is_live o false) (sym reached_there) ∙ live

    pub reached_with : (m : Frames) → thread.thread_status ≡ Live m → slice_get threads t ≡ Some (live_thread thread.steps_left m)
    reached_with m e = reached_there ∙ ap Some (thread_is thread m e)

-- ---- the machine state afterwards

module _ (c : MachineState) (t i : ℕ) (same : i ≡ t) (thread : Thread) (reads : thread ≡ slice_index_or c.threads i thread) where
  module _ (left : ℕ) (m : Frames) (there : slice_get c.threads t ≡ Some (live_thread left m)) (new : Thread) (report : Report) where
    is_thread : thread ≡ live_thread left m
    is_thread = reached c.threads t i same thread reads (live_thread left m) there

    stored_at_index : (x : Thread × Report) → ◌≡◌ {A = Thread × Report} (new, report) x →
        ◌≡◌ {A = MachineState × Report} (record c { threads = slice_set c.threads t x.0; posts = seats_after c.posts t x.1 }, x.1) (record c { threads = slice_set c.threads i new; posts = seats_after c.posts t report }, report)
    stored_at_index x h =
        let by_index : ℕ → MachineState × Report = λ k. (record c { threads = slice_set c.threads k new; posts = seats_after c.posts t report }, report) in
        let by_thread : Thread × Report → MachineState × Report = λ y. (record c { threads = slice_set c.threads t y.0; posts = seats_after c.posts t y.1 }, y.1) in
        sym (ap by_index same ∙ ap by_thread h)

    -- once its step is counted
    pub counted_is : (effect : Effect) → ◌≡◌ {A = Thread × Report} (new, report) (charge effect thread) → count_step c t left effect m ≡ (record c { threads = slice_set c.threads i new; posts = seats_after c.posts t report }, report)
    counted_is effect h = stored_at_index (charge effect (live_thread left m)) (h ∙ ap (charge effect) is_thread)

    -- and once what it asked for was answered
    pub answered_is : (effect : Effect) → ((n : Frames) → thread.thread_status ≡ Live n → ◌≡◌ {A = Thread × Report} (new, report) (charge effect (record thread { thread_status = Live (after_request effect n) })))
        → answer_step c t left m effect ≡ (record c { threads = slice_set c.threads i new; posts = seats_after c.posts t report }, report)
    answered_is effect h =
        stored_at_index (charge effect (live_thread left (after_request effect m)))
        (h m (ap (λ (x : Thread). x.thread_status) is_thread) ∙ ap (λ (x : Thread). charge effect (record x { thread_status = Live (after_request effect m) })) is_thread)

  -- once its instruction is done
  pub instructed : (mutator : Mutator) → mutator ≡ mutator_of c t → is_live_at c.threads t ≡ true → (new : Thread) (o : Objects) (statics : List Value) (printed : List ℕ) (outcome : InstructionOutcome)
      → ((m : Frames) → thread.thread_status ≡ Live m → (n : Frames) × (new ≡ record thread { thread_status = Live n }) × IsDone c.tree mutator m c.objects c.statics c.printed (answer_of n o statics printed outcome))
      → IsInstructed c t outcome (record c { threads = slice_set c.threads i new; objects = o; statics = statics; printed = printed })
  instructed mutator own live new o statics printed outcome does =
      let there = live_there c.threads t live in
      let is_thread : thread ≡ live_thread there.0 there.1 = reached c.threads t i same thread reads (live_thread there.0 there.1) there.2 in
      let done = does there.1 (ap (λ (x : Thread). x.thread_status) is_thread) in
      let new_is : new ≡ live_thread there.0 done.0 = done.1 ∙ ap (λ (x : Thread). live_thread x.steps_left done.0) is_thread in
      record {
        left = there.0;
        frames = there.1;
        answer = answer_of done.0 o statics printed outcome;
        there = there.2;
        done = subst (λ u. IsDone c.tree u there.1 c.objects c.statics c.printed (answer_of done.0 o statics printed outcome)) own done.2;
        gives = refl;
        is = ap (λ (k : ℕ). record c { threads = slice_set c.threads k new; objects = o; statics = statics; printed = printed }) same
            ∙ ap (λ (x : Thread). record c { threads = slice_set c.threads t x; objects = o; statics = statics; printed = printed }) new_is;
      }

  -- where it is refused, and changes nothing
  pub refused_is : (new : Thread) (o : Objects) (statics : List Value) (printed : List ℕ) → new ≡ thread → o ≡ c.objects → statics ≡ c.statics → printed ≡ c.printed
      → record c { threads = slice_set c.threads i new; objects = o; statics = statics; printed = printed } ≡ c
  refused_is new o statics printed same_thread same_objects same_statics same_printed =
      ap (λ (x : Thread). record c { threads = slice_set c.threads i x; objects = o; statics = statics; printed = printed }) (same_thread ∙ reads)
      ∙ ap (λ (threads : List Thread). record c { threads = threads; objects = o; statics = statics; printed = printed }) (set-get_or c.threads i thread)
      ∙ ap (λ (x : Objects). record c { objects = x; statics = statics; printed = printed }) same_objects
      ∙ ap (λ (x : List Value). record c { statics = x; printed = printed }) same_statics
      ∙ ap (λ (x : List ℕ). record c { printed = x }) same_printed

-- ---- a ready thread

-- its instruction has a result
pub ready_for : (c : MachineState) (t : ℕ) (m : Frames) (mutator : Mutator) → mutator ≡ mutator_of c t → IsReady c t m → (op : Operation) → IsAt c.tree m op → HasSmallConstant op → IsSome (operation_transition c.tree mutator op m c.objects c.statics c.printed)
ready_for c t m mutator own ready op at small = subst (λ u. IsSome (operation_transition c.tree u op m c.objects c.statics c.printed)) (sym own) (ready.there op at small)

-- ---- a start that nothing hinders

pub started_is : (phase : Phase) (tree : Tree) (limits : Limits) (threads : List Thread) (o : Objects) (a : Addr) (new : Thread) (after : List Thread × Objects × Effect) → start_fault threads o a ≡ None → thread_for tree limits o a ≡ Some new
    → after ≡ with_start phase threads o a new → Some after ≡ start_thread phase tree limits threads o a
started_is phase tree limits threads o a new after free is e =
    let refuse : Fault → Option (List Thread × Objects × Effect) = λ x. Some (threads, o, Raises x) in
    ap Some e ∙ sym (ap (λ (f : Option Fault). option_map_or refuse f (option_map (with_start phase threads o a) (thread_for tree limits o a))) free ∙ ap (option_map (with_start phase threads o a)) is)
