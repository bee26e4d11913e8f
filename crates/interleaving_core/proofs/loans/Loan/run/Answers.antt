use Rattle.std.proofs.Common.{◌≡◌, ℕ, arith, ap, sym, subst, ◌∙◌}
use Rattle.threads_monitors.specs.Frames.{Frames, with_running}
use Rattle.simulation.specs.interpreter.Local.{AreLocalSteps, IsReadySomewhere}
use Rattle.simulation.specs.MachineStates.{frame_room}
use Rattle.interleaving_core.specs.Loans.{IsAlone, IsLent}
use Rattle.interleaving_core.specs.declared.loans.Rooms.{Rooms}
use Rattle.interleaving_core.proofs.Threads.LocalRuns.{continues, steps_after}
use Rattle.interleaving_core.proofs.loans.Loan.run.Goals as goal

-- what a loan's memory is, by what the loan says of it
abbrev Holds : ℕ → ℕ → ℕ → Rooms → Type 0
Holds thread left done r =
    IsAlone r.origin × IsAlone r.frame × IsLent (record { tree = r.program; thread = thread; left = left; origin = r.origin.running; frame = r.frame.running; done = done })

pub run_local-requires : goal.run_local-requires
run_local-requires c = record {
  ready = λ k f less steps.
      let held : Holds c.self.inside.thread c.self.inside.left c.self.inside.done c.deref_mut-rooms.result.now =
      subst (λ (r : Rooms). Holds c.self.inside.thread c.self.inside.left c.self.inside.done r) (sym c.deref_mut-rooms.ensures.value) c.self.invariant in
      let room : c.deref_mut-rooms.result.now.frame.room ≡ frame_room = ap (λ (m : Frames). m.room) held.1 in
      let lent = held.2 in
      subst (λ n. IsReadySomewhere c.deref_mut-rooms.result.now.program n f) (sym room)
      (continues (record { tree = c.deref_mut-rooms.result.now.program; thread = c.self.inside.thread; left = c.self.inside.left; origin = c.deref_mut-rooms.result.now.origin.running; frame = c.deref_mut-rooms.result.now.frame.running; done = c.self.inside.done }) lent k f
      (omega (arith, less, lent.less, c.min-most.ensures)) (subst (λ n. AreLocalSteps c.deref_mut-rooms.result.now.program n k c.deref_mut-rooms.result.now.frame.running f) room steps));
}

pub invariant_of-self : goal.invariant_of-self
invariant_of-self c =
    let held : Holds c.self.inside.thread c.self.inside.left c.self.inside.done c.deref_mut-rooms.result.now =
    subst (λ (r : Rooms). Holds c.self.inside.thread c.self.inside.left c.self.inside.done r) (sym c.deref_mut-rooms.ensures.value) c.self.invariant in
    let room : c.deref_mut-rooms.result.now.frame.room ≡ frame_room = ap (λ (m : Frames). m.room) held.1 in
    let lent = held.2 in
    let ran : AreLocalSteps c.deref_mut-rooms.result.now.program frame_room c.run_local.result c.deref_mut-rooms.result.now.frame.running c.run_local.new.frames.running =
    subst (λ n. AreLocalSteps c.deref_mut-rooms.result.now.program n c.run_local.result c.deref_mut-rooms.result.now.frame.running c.run_local.new.frames.running) room c.run_local.ensures.ran in (
      held.0,
      c.run_local.ensures.below ∙ ap (λ (m : Frames). with_running m c.run_local.new.frames.running) held.1,
      record {
        steps = steps_after c.deref_mut-rooms.result.now.program frame_room c.self.inside.done c.run_local.result c.deref_mut-rooms.result.now.origin.running c.deref_mut-rooms.result.now.frame.running c.run_local.new.frames.running lent.steps ran;
        less = omega (arith, c.run_local.ensures.most, lent.less, c.min-most.ensures);
        ready = lent.ready;
      },
    )
