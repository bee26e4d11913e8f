use Rattle.std.proofs.Common.{sym, ap, subst, replicate, ◌∙◌}
use Rattle.cil_model.specs.declared.events.Event.TheVariants.{Step}
use Rattle.cil_model.specs.declared.reports.Report.TheVariants.{Ran}
use Rattle.cil_model.specs.declared.trees.Tree.{Tree}
use Rattle.simulation.specs.MachineStates.{MachineState, frame_room}
use Rattle.simulation.specs.Runs.{AreTransitions}
use Rattle.simulation.specs.interpreter.Local.{AreLocalSteps}
use Rattle.simulation.proofs.Threads.LocalInstructions.{local_transitions}
use Rattle.interleaving_core.specs.Loans.{IsAtOrigin}
use Rattle.interleaving_core.specs.Views.{machine_state_of}
use Rattle.interleaving_core.proofs.Runs.FollowedRuns.{transitions_program}
use Rattle.interleaving_core.proofs.Threads.LiveFrames.{lent_sound}
use Rattle.interleaving_core.proofs.machine.Machine.take_back.Goals as goal

pub invariant_of-self : goal.invariant_of-self
invariant_of-self c =
    let loan = c.args.loan in
    let e = machine_state_of c.self.inside.engine in
    let at : IsAtOrigin e loan = subst (λ (x : MachineState). IsAtOrigin x loan) (sym c.self.view_is) c.requires.origin in
    let tree = c.requires.tree ∙ sym (ap (λ (x : MachineState). x.tree) c.self.view_is) in
    let steps : AreLocalSteps e.tree frame_room loan.done loan.origin loan.frame = subst (λ (t : Tree). AreLocalSteps t frame_room loan.done loan.origin loan.frame) tree c.laws.ensures.steps in
    lent_sound c.self.inside.engine c.take_back.new.self c.self.invariant loan.thread loan.left loan.done loan.origin loan.frame at c.laws.ensures.less steps (c.take_back.ensures at)

pub returns-clause-transitions : goal.returns-clause-transitions
returns-clause-transitions c =
    let loan = c.args.loan in
    let e = machine_state_of c.self.inside.engine in
    let at : IsAtOrigin e loan = subst (λ (x : MachineState). IsAtOrigin x loan) (sym c.self.view_is) c.requires.origin in
    let tree = c.requires.tree ∙ sym (ap (λ (x : MachineState). x.tree) c.self.view_is) in
    let steps : AreLocalSteps e.tree frame_room loan.done loan.origin loan.frame = subst (λ (t : Tree). AreLocalSteps t frame_room loan.done loan.origin loan.frame) tree c.laws.ensures.steps in
    let transitions = local_transitions e loan.thread loan.left loan.origin at loan.done loan.frame c.laws.ensures.less steps in
    subst (λ (x : MachineState). AreTransitions x (replicate loan.done (Step loan.thread)) (machine_state_of c.take_back.new.self) (replicate loan.done Ran)) c.self.view_is
    (subst (λ (x : MachineState). AreTransitions e (replicate loan.done (Step loan.thread)) x (replicate loan.done Ran)) (sym (c.take_back.ensures at)) transitions)

pub returns-clause-same : goal.returns-clause-same
returns-clause-same c = transitions_program _ _ _ _ (returns-clause-transitions c)

pub returns-clause-printed : goal.returns-clause-printed
returns-clause-printed c =
    let at : IsAtOrigin (machine_state_of c.self.inside.engine) c.args.loan = subst (λ (x : MachineState). IsAtOrigin x c.args.loan) (sym c.self.view_is) c.requires.origin in
    ap (λ (x : MachineState). x.printed) (c.take_back.ensures at) ∙ ap (λ (x : MachineState). x.printed) c.self.view_is
