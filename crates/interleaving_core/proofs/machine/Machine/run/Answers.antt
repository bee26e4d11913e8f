use Rattle.std.proofs.Common.{◌≡◌, ◌+◌, ◌++◌, ◌∷◌, ◌∙◌, [], arith, ap, drop, length, subst, sym, take}
use Rattle.std.proofs.lemmas.List.{append-nil, take_all}
use Rattle.simulation.specs.Runs.{AreTransitions}
use Rattle.interleaving_core.proofs.Runs.LongerRuns.{does_more}
use Rattle.interleaving_core.proofs.Runs.FollowedRuns.{RunSoFar, SameProgram, all_reported, run_begun, run_follows, run_kept, run_program, run_step, run_transitions, transitions_follow}
use Rattle.interleaving_core.proofs.Threads.RefusedMemory.{none_on_err, on_err}
use Rattle.interleaving_core.proofs.machine.Machine.run.Goals as goal

pub loop-event-init : goal.loop-event-init
loop-event-init c = run_begun c.args.self.now c.args.reports.now.items (sym (append-nil c.args.reports.now.items))

pub loop-event-preserved : goal.loop-event-preserved
loop-event-preserved c =
    let items : c.push_reserved.new.self.items ≡ c.loop-event.reports.items ++ c.in_ok-step.field-0 ∷ [] = c.push_reserved.ensures.items ∙ ap (λ xs. xs ++ c.in_ok-step.field-0 ∷ []) c.in_ok-reserve.ensures.items in
    subst (RunSoFar c.args.self.now c.args.reports.now.items (take (c.loop-event.event-index + 1) c.args.events.now) c.step.new.self) (sym items)
    (run_step c.args.self.now c.loop-event.self c.step.new.self c.args.reports.now.items c.loop-event.reports.items c.args.events.now c.loop-event.event-index _ c.in_ok-step.field-0 (omega arith) c.loop-event.invariant c.in_ok-step.ensures.transitions)

pub returns-clause-transitions : goal.returns-clause-transitions
returns-clause-transitions c = run_transitions c.args.self.now c.loop-event.self c.args.reports.now.items c.loop-event.reports.items c.args.events.now
    (subst (λ es. RunSoFar c.args.self.now c.args.reports.now.items es c.loop-event.self c.loop-event.reports.items) (take_all c.loop-event.event-index c.args.events.now (omega arith)) c.loop-event.invariant)

pub returns-clause-does : goal.returns-clause-does
returns-clause-does c = does_more c.args.self.now c.loop-event.self c.args.events.now (drop (length c.args.reports.now.items) c.loop-event.reports.items) (returns-clause-transitions c)

pub returns-clause-each : goal.returns-clause-each
returns-clause-each c = all_reported c.args.self.now c.loop-event.self c.args.reports.now.items c.loop-event.reports.items c.args.events.now
    (subst (λ es. RunSoFar c.args.self.now c.args.reports.now.items es c.loop-event.self c.loop-event.reports.items) (take_all c.loop-event.event-index c.args.events.now (omega arith)) c.loop-event.invariant)

pub returns-clause-follows : goal.returns-clause-follows
returns-clause-follows c = run_follows c.args.self.now c.loop-event.self c.args.reports.now.items c.loop-event.reports.items c.args.events.now
    (subst (λ es. RunSoFar c.args.self.now c.args.reports.now.items es c.loop-event.self c.loop-event.reports.items) (take_all c.loop-event.event-index c.args.events.now (omega arith)) c.loop-event.invariant)

pub returns-clause-same : goal.returns-clause-same
returns-clause-same c = run_program c.args.self.now c.loop-event.self c.args.reports.now.items c.loop-event.reports.items c.args.events.now
    (subst (λ es. RunSoFar c.args.self.now c.args.reports.now.items es c.loop-event.self c.loop-event.reports.items) (take_all c.loop-event.event-index c.args.events.now (omega arith)) c.loop-event.invariant)

pub returns-in_err-reserve-clause-same : goal.returns-in_err-reserve-clause-same
returns-in_err-reserve-clause-same c =
    run_program c.args.self.now c.loop-event.self c.args.reports.now.items c.loop-event.reports.items (take c.loop-event.event-index c.args.events.now) c.loop-event.invariant

pub returns-in_err-reserve-clause-stopped : goal.returns-in_err-reserve-clause-stopped
returns-in_err-reserve-clause-stopped c =
    let events = take c.loop-event.event-index c.args.events.now in
    let transitions = run_transitions c.args.self.now c.loop-event.self c.args.reports.now.items c.loop-event.reports.items events c.loop-event.invariant in
    let own = subst (λ rs. AreTransitions c.args.self.now events c.loop-event.self (drop (length c.args.reports.now.items) rs)) (sym c.in_err-reserve.ensures.items) transitions in
    on_err c.from_residual.result (c.loop-event.event-index, omega arith, own, transitions_follow _ _ events _ own, does_more _ _ events _ own)

pub returns-in_err-step-clause-same : goal.returns-in_err-step-clause-same
returns-in_err-step-clause-same c =
    subst (λ x. SameProgram c.args.self.now x) (sym c.in_err-step.ensures.refused)
    (run_program c.args.self.now c.loop-event.self c.args.reports.now.items c.loop-event.reports.items (take c.loop-event.event-index c.args.events.now) c.loop-event.invariant)

pub returns-in_err-step-clause-stopped : goal.returns-in_err-step-clause-stopped
returns-in_err-step-clause-stopped c =
    let events = take c.loop-event.event-index c.args.events.now in
    let transitions = run_transitions c.args.self.now c.loop-event.self c.args.reports.now.items c.loop-event.reports.items events c.loop-event.invariant in
    let own = subst (λ x. AreTransitions c.args.self.now events x (drop (length c.args.reports.now.items) c.reserve.new.self.items)) (sym c.in_err-step.ensures.refused)
    (subst (λ rs. AreTransitions c.args.self.now events c.loop-event.self (drop (length c.args.reports.now.items) rs)) (sym c.in_ok-reserve.ensures.items) transitions) in
    on_err c.from_residual-in_err-step.result (c.loop-event.event-index, omega arith, own, transitions_follow _ _ events _ own, does_more _ _ events _ own)

pub returns-clause-appended : goal.returns-clause-appended
returns-clause-appended c = run_kept c.args.self.now c.loop-event.self c.args.reports.now.items c.loop-event.reports.items (take c.loop-event.event-index c.args.events.now) c.loop-event.invariant

pub returns-in_err-reserve-clause-appended : goal.returns-in_err-reserve-clause-appended
returns-in_err-reserve-clause-appended c =
    ap (take (length c.args.reports.now.items)) c.in_err-reserve.ensures.items ∙ run_kept c.args.self.now c.loop-event.self c.args.reports.now.items c.loop-event.reports.items (take c.loop-event.event-index c.args.events.now) c.loop-event.invariant

pub returns-in_err-step-clause-appended : goal.returns-in_err-step-clause-appended
returns-in_err-step-clause-appended c =
    ap (take (length c.args.reports.now.items)) c.in_ok-reserve.ensures.items ∙ run_kept c.args.self.now c.loop-event.self c.args.reports.now.items c.loop-event.reports.items (take c.loop-event.event-index c.args.events.now) c.loop-event.invariant

pub returns-in_err-reserve-clause-transitions : goal.returns-in_err-reserve-clause-transitions
returns-in_err-reserve-clause-transitions c = none_on_err _ c.from_residual.result c.from_residual.ensures.0

pub returns-in_err-reserve-clause-each : goal.returns-in_err-reserve-clause-each
returns-in_err-reserve-clause-each c = none_on_err _ c.from_residual.result c.from_residual.ensures.0

pub returns-in_err-reserve-clause-follows : goal.returns-in_err-reserve-clause-follows
returns-in_err-reserve-clause-follows c = none_on_err _ c.from_residual.result c.from_residual.ensures.0

pub returns-in_err-reserve-clause-does : goal.returns-in_err-reserve-clause-does
returns-in_err-reserve-clause-does c = none_on_err _ c.from_residual.result c.from_residual.ensures.0

pub returns-in_err-step-clause-transitions : goal.returns-in_err-step-clause-transitions
returns-in_err-step-clause-transitions c = none_on_err _ c.from_residual-in_err-step.result c.from_residual-in_err-step.ensures.0

pub returns-in_err-step-clause-each : goal.returns-in_err-step-clause-each
returns-in_err-step-clause-each c = none_on_err _ c.from_residual-in_err-step.result c.from_residual-in_err-step.ensures.0

pub returns-in_err-step-clause-follows : goal.returns-in_err-step-clause-follows
returns-in_err-step-clause-follows c = none_on_err _ c.from_residual-in_err-step.result c.from_residual-in_err-step.ensures.0

pub returns-in_err-step-clause-does : goal.returns-in_err-step-clause-does
returns-in_err-step-clause-does c = none_on_err _ c.from_residual-in_err-step.result c.from_residual-in_err-step.ensures.0
