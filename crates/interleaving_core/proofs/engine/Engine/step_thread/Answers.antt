use Rattle.std.proofs.Common.{◌∙◌}
use Rattle.std.proofs.lemmas.Result.{IfOk-weaker, on_err_weaker}
use Rattle.interleaving_core.specs.Views.{machine_state_of}
use Rattle.interleaving_core.proofs.Threads.HalfSteps.{can_finish, live_left, live_there, refused_back, transition_of_halves}
use Rattle.interleaving_core.proofs.Threads.RefusedMemory.{on_err, print_refused, start_refused}
use Rattle.interleaving_core.proofs.engine.Engine.step_thread.Goals as goal

pub finish-requires-clause-can : goal.finish-requires-clause-can
finish-requires-clause-can c =
    let half = c.in_ok-outcome.ensures.instructed in
    can_finish (machine_state_of c.args.self.now) c.args.number c.in_ok-outcome.outcome (machine_state_of c.instruct.new.self) half
    (c.requires.ready.answerable c.args.number half.left half.frames half.there half.answer half.done)

pub returns-clause-transitions : goal.returns-clause-transitions
returns-clause-transitions c =
    IfOk-weaker c.finish.result _ _
    (λ report counts. transition_of_halves (machine_state_of c.args.self.now) c.args.number c.in_ok-outcome.outcome (machine_state_of c.instruct.new.self) c.in_ok-outcome.ensures.instructed (machine_state_of c.finish.new.self) report counts) c.finish.ensures.finished

pub returns-clause-refused : goal.returns-clause-refused
returns-clause-refused c =
    on_err_weaker c.finish.result
    (λ h. h.2 ∙ refused_back (machine_state_of c.args.self.now) c.args.number c.in_ok-outcome.outcome (machine_state_of c.instruct.new.self) c.in_ok-outcome.ensures.instructed h.0 h.1) c.finish.ensures.refused

pub returns-in_err-outcome-clause-memory : goal.returns-in_err-outcome-clause-memory
returns-in_err-outcome-clause-memory c =
    let there = live_there c.args.self.now.threads.items c.args.number c.requires.live in
    on_err c.from_residual.result
    (print_refused (machine_state_of c.args.self.now) c.args.number there.0 there.1 there.2 (c.requires.ready.answerable c.args.number there.0 there.1 there.2) (c.in_err-outcome.ensures.prints there.0 there.1 there.2))

pub finish-requires-clause-live : goal.finish-requires-clause-live
finish-requires-clause-live c = live_left (machine_state_of c.args.self.now) c.args.number c.in_ok-outcome.outcome (machine_state_of c.instruct.new.self) c.in_ok-outcome.ensures.instructed

pub returns-clause-memory : goal.returns-clause-memory
returns-clause-memory c =
    let half = c.in_ok-outcome.ensures.instructed in
    on_err_weaker c.finish.result
    (λ h. start_refused (machine_state_of c.args.self.now) c.args.number c.in_ok-outcome.outcome (machine_state_of c.instruct.new.self) half
    (c.requires.ready.answerable c.args.number half.left half.frames half.there half.answer half.done) h.0 h.1 h.2) c.finish.ensures.free
