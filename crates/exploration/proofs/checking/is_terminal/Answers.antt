use Rattle.std.proofs.Common.{sym, subst, arith}
use Rattle.exploration.proofs.Names.{ℕ_discrete, dite, one_operation, CannotStepAt}
use Rattle.exploration.proofs.Paths.{does_not_end_at, ends_at}
use Rattle.exploration.proofs.checking.is_terminal.Goals as goal

pub loop-thread-preserved : goal.loop-thread-preserved
loop-thread-preserved g c = λ t below. dite (ℕ_discrete t c.loop-thread.thread)
    (λ same. subst (CannotStepAt g.M.First.first c.args.events.now) (sym same) (c.in_ok-can_step.ensures.no c.if-can_step.false))
    (λ other. c.loop-thread.invariant t (omega arith))

pub returns-then-can_step-clause-no : goal.returns-then-can_step-clause-no
returns-then-can_step-clause-no g c = λ _. does_not_end_at g.M.First.first (one_operation g.M.First.first.tree c.requires) c.args.events.now c.loop-thread.thread (c.in_ok-can_step.ensures.yes c.if-can_step.true)

pub returns-clause-yes : goal.returns-clause-yes
returns-clause-yes g c = λ _. ends_at g.M.First.first (one_operation g.M.First.first.tree c.requires) c.args.events.now c.replay.new.self c.in_ok-replay.ensures
    (λ t below. let all = c.started-count.ensures.all in let past = c.loop-thread-test.false in c.loop-thread.invariant t (omega (arith, below, all, past)))
