-- A step that asks something of another thread: what it leaves once it has its result.
use Rattle.std.proofs.Common.{◌≡◌, ℕ, true, List, length, Some, option_map, slice_get, sym, ap, ◌∙◌}
use Rattle.cil_model.specs.declared.limits.Limits.{Limits}
use Rattle.cil_model.specs.declared.phases.Phase.{Phase}
use Rattle.cil_model.specs.declared.reports.Report.{Report}
use Rattle.cil_model.specs.declared.trees.Tree.{Tree}
use Rattle.object_memory.specs.declared.addresses.Addr.{Addr}
use Rattle.object_memory.specs.Objects.{Objects}
use Rattle.threads_monitors.specs.Frames.{Frames}
use Rattle.threads_monitors.specs.Threads.{is_live_at, join_effect}
use Rattle.threads_monitors.specs.declared.effects.Effect.{Effect}
use Rattle.threads_monitors.specs.declared.threads.Thread.{Thread}
use Rattle.simulation.specs.interpreter.declared.outcomes.InstructionOutcome.{InstructionOutcome}
use Rattle.simulation.specs.interpreter.declared.outcomes.InstructionOutcome.TheVariants.{Starts, Joins}
use Rattle.simulation.specs.ReadySteps.{CanFinish}
use Rattle.simulation.specs.MachineStates.{MachineState, mutator_of}
use Rattle.simulation.specs.Transitions.{answer_step, finish, live_thread, start_thread, seat_thread}
use Rattle.interleaving_core.proofs.Threads.HalfSteps.{live_by, live_there, started_keeps}

-- what is known of a live thread's frames
pub of_live : (c : MachineState) (t : ℕ) (outcome : InstructionOutcome) → is_live_at c.threads t ≡ true → ((left : ℕ) (m : Frames) → slice_get c.threads t ≡ Some (live_thread left m) → CanFinish c t m outcome)
    → (m : Frames) × CanFinish c t m outcome
of_live c t outcome live can = let there = live_there c.threads t live in (there.1, can there.0 there.1 there.2)

module _ (phase : Phase) (tree : Tree) (limits : Limits) (threads : List Thread) (o : Objects) (a : Addr) (t : ℕ) (live : is_live_at threads t ≡ true) (after : List Thread × Objects × Effect) (done : Some after ≡ start_thread phase tree limits threads o a) where
  -- a live thread is so after a start
  pub live_after : is_live_at after.0 t ≡ true
  live_after = let there = live_there threads t live in live_by after.0 t there.0 there.1 (started_keeps phase tree limits threads o a t (live_thread there.0 there.1) after there.2 done)

  -- and what it is then it was before
  pub started_back : (x : Thread) → slice_get after.0 t ≡ Some x → slice_get threads t ≡ Some x
  started_back x is = let there = live_there threads t live in there.2 ∙ sym (started_keeps phase tree limits threads o a t (live_thread there.0 there.1) after there.2 done) ∙ is

module _ (c : MachineState) (t left : ℕ) (m : Frames) (object : Addr) (final : MachineState × Report) where
  pub start_finished : (x : List Thread × Objects × Effect) (after : MachineState) → Some x ≡ start_thread (mutator_of c t).phase c.tree c.limits c.threads c.objects object → after ≡ record c { threads = x.0; posts = seat_thread x.2 c.posts (length c.threads) t; objects = x.1 }
      → answer_step after t left m x.2 ≡ final → finish c t left m (Starts object) ≡ Some final
  start_finished x after done is counts =
      ap (option_map (λ (y : List Thread × Objects × Effect). answer_step (record c { threads = y.0; posts = seat_thread y.2 c.posts (length c.threads) t; objects = y.1 }) t left m y.2)) (sym done)
      ∙ ap Some (ap (λ (y : MachineState). answer_step y t left m x.2) (sym is) ∙ counts)

  pub join_finished : (effect : Effect) (threads : List Thread) → effect ≡ join_effect threads c.objects object → threads ≡ c.threads → answer_step c t left m effect ≡ final → finish c t left m (Joins object) ≡ Some final
  join_finished effect threads is same counts = ap Some (ap (answer_step c t left m) (sym (is ∙ ap (λ (x : List Thread). join_effect x c.objects object) same)) ∙ counts)
