-- A transition is refused memory only for a print or for the start of a thread.
use Rattle.std.proofs.Common.{◌≡◌, ◌<◌, ◌+◌, ℕ, List, [], ◌∷◌, ◌++◌, length, Option, Some, None, option_map, slice_get, Result, Ok, Err, refl, inl, inr, sym, ap, ◌∙◌, subst, arith}
use Rattle.std.proofs.lemmas.List.{length-append, length-set}
use Rattle.std.specs.Option.{option_map_or}
use Rattle.std.specs.Prelude.{IsErr, IsSome, OnErr, OnOk}
use Rattle.cil_model.specs.declared.events.Event.TheVariants.{Step}
use Rattle.cil_model.specs.declared.reports.Fault.{Fault}
use Rattle.cil_model.specs.declared.reports.Report.{Report}
use Rattle.object_memory.specs.declared.addresses.Addr.{Addr}
use Rattle.object_memory.specs.Objects.{Objects}
use Rattle.simulation.specs.instructions.barriers.Barriers.{stored_int}
use Rattle.threads_monitors.specs.Frames.{Frames}
use Rattle.threads_monitors.specs.Threads.{join_effect, start_fault, with_start}
use Rattle.threads_monitors.specs.declared.effects.Effect.{Effect}
use Rattle.threads_monitors.specs.declared.effects.Effect.TheVariants.{Continues, Raises}
use Rattle.threads_monitors.specs.declared.threads.Thread.{Thread}
use Rattle.simulation.specs.interpreter.Instructions.{IsDone, Prints, Answer}
use Rattle.simulation.specs.interpreter.declared.outcomes.InstructionOutcome.{InstructionOutcome}
use Rattle.simulation.specs.interpreter.declared.outcomes.InstructionOutcome.TheVariants.{OwnEffect, Starts, Joins}
use Rattle.simulation.specs.MachineStates.{MachineState, mutator_of}
use Rattle.simulation.specs.Transitions.{IsThreadTransition, IsTransition, TakesMemory, after_request, count_step, finish_step, left_by, live_thread, start_thread, thread_for, seat_thread}
use Rattle.simulation.specs.ReadySteps.{IsAnswerable}
use Rattle.interleaving_core.specs.FinishedSteps.{IsInstructed}
use Rattle.simulation.proofs.Threads.StepEffects.{finished_printed}

-- what holds anyway holds of an error
pub on_err : {T E P : Type 0} (r : Result T E) → P → OnErr r P
on_err (Ok x) h = tt
on_err (Err e) h = h

-- for an error whatever is said of a value holds
pub none_on_err : {T E : Type 0} (P : Type 0) (r : Result T E) → IsErr r → OnOk r P
none_on_err P (Ok x) e = absurd cc
none_on_err P (Err e) is = tt

there_mapped : {X Y : Type 0} (f : X → Y) (o : Option X) → IsSome o → (x : X) × (o ≡ Some x) × (option_map f o ≡ Some (f x))
there_mapped f (Some x) h = (x, refl, refl)
there_mapped f None h = absurd cc

module _ (c : MachineState) (t left : ℕ) (a : Answer) where
  -- the machine state and the report, where a start left this
  abbrev started_in : List Thread × Objects × Effect → MachineState × Report
  started_in x = count_step (record (left_by c t left a) { threads = x.0; posts = seat_thread x.2 c.posts (length (left_by c t left a).threads) t; objects = x.1 }) t left x.2 (after_request x.2 a.frames)

  -- a start that can be answered has a result
  module _ (object : Addr) (can : start_fault (left_by c t left a).threads a.objects object ≡ None → IsSome (thread_for c.tree c.limits a.objects object)) where
    started_there : IsSome (start_thread (mutator_of c t).phase c.tree c.limits (left_by c t left a).threads a.objects object)
    started_there = by_fault (start_fault (left_by c t left a).threads a.objects object) (thread_for c.tree c.limits a.objects object) can
      where
        by_fault : (f : Option Fault) (new : Option Thread) → (f ≡ None → IsSome new) →
            IsSome (option_map_or {U = Option (List Thread × Objects × Effect)} (λ x. Some ((left_by c t left a).threads, a.objects, Raises x)) f (option_map (with_start (mutator_of c t).phase (left_by c t left a).threads a.objects object) new))
        by_fault (Some x) new h = refl
        by_fault None (Some new) h = refl
        by_fault None None h = h refl

  finished_there : (o : InstructionOutcome) → IsAnswerable c t left a o → (after : MachineState × Report) × (finish_step c t left a o ≡ Some after)
  finished_there (OwnEffect e) h = (count_step (left_by c t left a) t left e a.frames, refl)
  finished_there (Joins object) h =
      let effect = join_effect (left_by c t left a).threads a.objects object in (count_step (left_by c t left a) t left effect (after_request effect a.frames), refl)
  finished_there (Starts object) h =
      let x = there_mapped started_in (start_thread (mutator_of c t).phase c.tree c.limits (left_by c t left a).threads a.objects object) (started_there object h.2) in (started_in x.0, x.2)

  -- a start without a fault brings one thread more
  one_more : (object : Addr) → IsAnswerable c t left a (Starts object) → start_fault (left_by c t left a).threads a.objects object ≡ None → (after : MachineState × Report) × (finish_step c t left a (Starts object) ≡ Some after) × (length c.threads < length after.0.threads)
  one_more object h free =
      let new = there_mapped (with_start (mutator_of c t).phase (left_by c t left a).threads a.objects object) (thread_for c.tree c.limits a.objects object) (h.2 free) in
      let threads = (left_by c t left a).threads in
      let x : List Thread × Objects × Effect = (threads ++ new.0 ∷ [], stored_int (mutator_of c t).phase a.objects object 0 (length threads + 1), Continues) in
      let begun : start_thread (mutator_of c t).phase c.tree c.limits threads a.objects object ≡ Some x =
      ap (λ (f : Option Fault). option_map_or {U = Option (List Thread × Objects × Effect)} (λ y. Some (threads, a.objects, Raises y)) f (option_map (with_start (mutator_of c t).phase threads a.objects object) (thread_for c.tree c.limits a.objects object))) free
      ∙ (new.2 ∙ ap (λ (f : Option Fault). Some (option_map_or {U = List Thread × Objects × Effect} (λ y. (threads, a.objects, Raises y)) f x)) free) in
      let more : length (threads ++ new.0 ∷ []) ≡ length threads + 1 = length-append threads (new.0 ∷ []) in
      let same : length threads ≡ length c.threads = length-set c.threads t (live_thread left a.frames) in
      let kept : length (started_in x).0.threads ≡ length (threads ++ new.0 ∷ []) = length-set (threads ++ new.0 ∷ []) t _ in
      (started_in x, ap (option_map started_in) begun, omega (arith, more, same, kept))

module _ (c : MachineState) (t left : ℕ) (m : Frames) (there : slice_get c.threads t ≡ Some (live_thread left m)) where
  transition_is : (a : Answer) → IsDone c.tree (mutator_of c t) m c.objects c.statics c.printed a → (after : MachineState × Report) → finish_step c t left a a.outcome ≡ Some after → IsTransition c (Step t) after
  transition_is a done after is = subst (λ (o : Option Thread). IsThreadTransition c t o after) (sym there) (a, done, is)

  -- an instruction that prints
  pub print_refused : ((a : Answer) → IsDone c.tree (mutator_of c t) m c.objects c.statics c.printed a → IsAnswerable c t left a a.outcome) → Prints c.tree (mutator_of c t) m c.objects c.statics c.printed → TakesMemory c (Step t)
  print_refused can prints =
      let a = prints.0 in
      let answerable = can a prints.1 in
      let after = finished_there c t left a a.outcome answerable in
      (after.0, transition_is a prints.1 after.0 after.1, inl (subst (λ (bytes : List ℕ). length c.printed < length bytes) (sym (finished_printed c t left a after.0 a.outcome after.1)) prints.2))

-- an instruction that starts a thread
pub start_refused : (c : MachineState) (t : ℕ) (outcome : InstructionOutcome) (middle : MachineState) (half : IsInstructed c t outcome middle) → IsAnswerable c t half.left half.answer half.answer.outcome →
    (object : Addr) → outcome ≡ Starts object → start_fault middle.threads middle.objects object ≡ None → TakesMemory c (Step t)
start_refused c t outcome middle half answerable object starts free =
    let is : half.answer.outcome ≡ Starts object = half.gives ∙ starts in
    let free' : start_fault (left_by c t half.left half.answer).threads half.answer.objects object ≡ None = subst (λ (x : MachineState). start_fault x.threads x.objects object ≡ None) half.is free in
    let more = one_more c t half.left half.answer object (subst (IsAnswerable c t half.left half.answer) is answerable) free' in
    (more.0, transition_is c t half.left half.frames half.there half.answer half.done more.0 (subst (λ (o : InstructionOutcome). finish_step c t half.left half.answer o ≡ Some more.0) (sym is) more.1), inr (inl more.2))
