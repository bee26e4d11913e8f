use Rattle.std.proofs.Common.{[], replicate, refl, sym, ap, subst, ◌∙◌}
use Rattle.cil_model.specs.declared.events.Event.TheVariants.{Step}
use Rattle.cil_model.specs.declared.reports.Report.TheVariants.{Ran}
use Rattle.simulation.specs.MachineStates.{MachineState}
use Rattle.simulation.specs.Runs.{AreTransitions}
use Rattle.simulation.proofs.Threads.LocalInstructions.{local_transitions}
use Rattle.interleaving_core.specs.Views.{machine_state_of}
use Rattle.interleaving_core.proofs.Runs.FollowedRuns.{transitions_follow, transitions_program}
use Rattle.interleaving_core.proofs.Runs.LongerRuns.{does_more}
use Rattle.interleaving_core.proofs.Threads.LiveFrames.{lent_sound, live_left, live_room, top_continues}
use Rattle.interleaving_core.proofs.machine.Machine.run_local.Goals as goal

pub run_local-requires-clause-ready : goal.run_local-requires-clause-ready
run_local-requires-clause-ready c = λ left m there.
    let e = machine_state_of c.self.inside.engine in (
      live_room e c.self.invariant.state c.self.invariant.represents c.args.thread left m there,
      live_left e c.self.invariant.state c.self.invariant.represents c.args.thread left m there,
      top_continues e c.self.invariant.state c.self.invariant.represents c.args.thread left m there,
    )

pub invariant_of-self : goal.invariant_of-self
invariant_of-self c =
    let ran = c.run_local.ensures in
    lent_sound c.self.inside.engine c.run_local.new.self c.self.invariant c.args.thread ran.left c.run_local.result ran.origin ran.frame ran.at ran.ran.less ran.ran.steps ran.is

pub returns-clause-transitions : goal.returns-clause-transitions
returns-clause-transitions c =
    let e = machine_state_of c.self.inside.engine in
    let n = c.run_local.result in
    let ran = c.run_local.ensures in
    let transitions = local_transitions e c.args.thread ran.left ran.origin ran.at n ran.frame ran.ran.less ran.ran.steps in
    subst (λ (x : MachineState). AreTransitions x (replicate n (Step c.args.thread)) (machine_state_of c.run_local.new.self) (replicate n Ran)) c.self.view_is
    (subst (λ (x : MachineState). AreTransitions e (replicate n (Step c.args.thread)) x (replicate n Ran)) (sym ran.is) transitions)

pub returns-clause-follows : goal.returns-clause-follows
returns-clause-follows c = transitions_follow _ _ _ _ (returns-clause-transitions c)

pub returns-clause-does : goal.returns-clause-does
returns-clause-does c = does_more _ _ _ _ (returns-clause-transitions c)

pub returns-clause-same : goal.returns-clause-same
returns-clause-same c = transitions_program _ _ _ _ (returns-clause-transitions c)

pub returns-clause-printed : goal.returns-clause-printed
returns-clause-printed c = ap (λ (x : MachineState). x.printed) c.run_local.ensures.is ∙ ap (λ (x : MachineState). x.printed) c.self.view_is

pub returns-then-not-is_live-clause-follows : goal.returns-then-not-is_live-clause-follows
returns-then-not-is_live-clause-follows c = transitions_follow c.args.self.now c.args.self.now [] [] (refl, refl)
