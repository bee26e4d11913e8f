-- Where a machine represents a state, each live thread has steps left.
use Rattle.std.proofs.Common.{◌≡◌, ◌<◌, ◌≤◌, true, false, Option, Some, None, slice_get, refl, sym, subst}
use Rattle.std.specs.Option.{option_map_or}
use Rattle.cil_model.specs.declared.reports.End.{End}
use Rattle.reference_machine.specs.States.{State, Thread as StateThread}
use Rattle.threads_monitors.specs.Threads.{is_live}
use Rattle.threads_monitors.specs.declared.threads.Thread.{Thread}
use Rattle.threads_monitors.specs.declared.threads.ThreadStatus.{ThreadStatus}
use Rattle.threads_monitors.specs.declared.threads.ThreadStatus.TheVariants.{Live, Ended}
use Rattle.simulation.specs.MachineStates.{MachineState}
use Rattle.simulation.specs.Refines.{IsThread, Names, Represents, StatusRefines}
use Rattle.simulation.proofs.ListLaws.AgreeingLists.{agree_at}
use Rattle.interleaving_core.proofs.Threads.Budgets.{LiveHaveSteps}
use Rattle.simulation.proofs.ProgramSizes.LimitRanges.{budget_is_some as budget_of}

module _ (c : MachineState) (s : State) (r : Represents c s) where
  pub some_budget : 1 ≤ c.limits.budget
  some_budget = budget_of c.limits r.limits

  pub live_have_steps : LiveHaveSteps c.limits.budget c.threads
  live_have_steps t = by_thread (slice_get c.threads t) refl
    where
      name : Names
      name = r.refines.name

      -- the state's thread of that number is live too
      by_state : (thread : Thread) → is_live thread ≡ true → (u : StateThread) → slice_get s.threads t ≡ Some u → IsThread c.tree c.limits name thread u → 0 < thread.steps_left
      by_state thread live u there alike = by_thread_status thread.thread_status live u.ended refl alike.thread_status
        where
          by_thread_status : (thread_status : ThreadStatus) → is_live (record thread { thread_status = thread_status }) ≡ true → (ended : Option End) → u.ended ≡ ended → StatusRefines c.tree c.limits name thread_status u.frames ended → 0 < thread.steps_left
          by_thread_status (Live m) h None is k = subst (λ n. 0 < n) (sym alike.steps_left) (r.counted.live t u there is)
          by_thread_status (Live m) h (Some e) is k = absurd k
          by_thread_status (Ended e) h ended is k = absurd cc

      by_thread : (o : Option Thread) → slice_get c.threads t ≡ o → option_map_or is_live o false ≡ true → 0 < option_map_or (λ (x : Thread). x.steps_left) o c.limits.budget
      by_thread None is h = absurd cc
      by_thread (Some thread) is h =
          let at = agree_at (IsThread c.tree c.limits name) c.threads s.threads r.refines.by.threads t thread is in
          by_state thread h at.0 at.1 at.2
