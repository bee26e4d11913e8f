use Rattle.std.proofs.Common.{[], ◌∷◌, subst}
use Rattle.std.specs.Prelude.{IfOk}
use Rattle.std.proofs.lemmas.Result.{IfOk-weaker}
use Rattle.simulation.specs.Runs.{FollowsReference}
use Rattle.interleaving_core.specs.Histories.{DoesMore}
use Rattle.interleaving_core.specs.Views.{machine_state_of}
use Rattle.interleaving_core.proofs.Runs.LongerRuns.{does_one}
use Rattle.interleaving_core.proofs.Runs.FollowedRuns.{SameProgram, transition_follows}
use Rattle.interleaving_core.proofs.Runs.RepresentedStates.{can_continue, same_after, sound_after}
use Rattle.interleaving_core.proofs.machine.Machine.step.Goals as goal

pub step-requires : goal.step-requires
step-requires c = record { ready = can_continue c.self.inside.engine c.self.invariant }

pub invariant_of-self : goal.invariant_of-self
invariant_of-self c = sound_after c.self.inside.engine c.step.new.self c.self.invariant c.args.event c.step.result c.step.ensures.transitions c.step.ensures.refused

pub returns-clause-follows : goal.returns-clause-follows
returns-clause-follows c =
    subst (λ x. IfOk c.step.result (λ report. FollowsReference x (machine_state_of c.step.new.self) ((c.args.event, report) ∷ []))) c.self.view_is
    (IfOk-weaker c.step.result _ _ (λ report transition. transition_follows (machine_state_of c.self.inside.engine) (machine_state_of c.step.new.self, report) c.args.event transition) c.step.ensures.transitions)

pub returns-clause-does : goal.returns-clause-does
returns-clause-does c =
    subst (λ x. IfOk c.step.result (λ report. DoesMore x (c.args.event ∷ []) (report ∷ []) (machine_state_of c.step.new.self))) c.self.view_is
    (IfOk-weaker c.step.result _ _ (λ report transition. does_one (machine_state_of c.self.inside.engine) (machine_state_of c.step.new.self) c.args.event report transition) c.step.ensures.transitions)

pub returns-clause-same : goal.returns-clause-same
returns-clause-same c =
    subst (λ x. SameProgram x (machine_state_of c.step.new.self)) c.self.view_is
    (same_after (machine_state_of c.self.inside.engine) (machine_state_of c.step.new.self) c.args.event c.step.result c.step.ensures.transitions c.step.ensures.refused)
