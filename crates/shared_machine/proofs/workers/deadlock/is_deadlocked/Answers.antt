use Rattle.std.proofs.Common.{◌≡◌, ◌≤◌, ℕ, false, List, Option, ap, inl, inr, length, refl, arith, below_more}
use Rattle.std.specs.Option.{option_map_or}
use Rattle.std.proofs.lemmas.Bool.{cases_lt}
use Rattle.std.proofs.lemmas.Option.{slice_get_past}
use Rattle.cil_model.proofs.SameLaws.{not_both}
use Rattle.interleaving_core.specs.simulation.threads_monitors.Threads.{is_live, is_live_at}
use Rattle.interleaving_core.specs.simulation.threads_monitors.declared.threads.Thread.{Thread}
use Rattle.shared_machine.specs.Work.{IsDeadlocked}
use Rattle.shared_machine.proofs.workers.deadlock.is_deadlocked.Goals as goal

pub loop-thread-preserved : goal.loop-thread-preserved
loop-thread-preserved c = below_more _ _ c.loop-thread.invariant (c.if-not-is_held_up.ensures.0 refl)

pub returns-then-not-is_held_up : goal.returns-then-not-is_held_up
returns-then-not-is_held_up c = (
  λ never. not_both false refl never,
  λ all. absurd (cc (c.is_held_up.ensures.1 (all c.loop-thread.thread), c.if-not-is_held_up.true)),
)

-- no thread was started with a number that is not below those that were
not_started : (ts : List Thread) (k : ℕ) → length ts ≤ k → is_live_at ts k ≡ false
not_started ts k past = ap (λ (o : Option Thread). option_map_or is_live o false) (slice_get_past ts k past)

pub returns : goal.returns
returns c =
    let all = c.started-thread-end.ensures.all in
    let test = c.loop-thread-test.false in
    let each : IsDeadlocked c.args.machine.now = λ thread. elim (cases_lt thread c.loop-thread.thread) [
      | inl less ↦ c.loop-thread.invariant thread less
      | inr more ↦ λ live. not_both (is_live_at c.args.machine.now.threads thread) (not_started c.args.machine.now.threads thread (omega (arith, all, test, more))) live
    ] in
    (λ yes. each, λ has. refl)
