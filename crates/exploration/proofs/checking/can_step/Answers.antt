use Rattle.std.proofs.Common.{inl, inr, sym, ◌∙◌, subst}
use Rattle.exploration.proofs.Names.{Step, Report, IsTransition, one_operation}
use Rattle.exploration.proofs.Paths.{continues_at}
use Rattle.exploration.proofs.checking.can_step.Goals as goal

pub returns-then-not-is_live-clause-no : goal.returns-then-not-is_live-clause-no
returns-then-not-is_live-clause-no g c = λ _. (c.replay.new.self, c.in_ok-replay.ensures, inl (sym c.is_live.ensures ∙ c.if-not-is_live.true))

pub returns-in-Blocked-clause-no : goal.returns-in-Blocked-clause-no
returns-in-Blocked-clause-no g c = λ _. (
  c.replay.new.self,
  c.in_ok-replay.ensures,
  inr (c.step.new.self, subst (λ (r : Report). IsTransition c.replay.new.self (Step c.args.thread) (c.step.new.self, r)) c.in-Blocked.is c.in_ok-report.ensures),
)

pub returns-in_default-clause-yes : goal.returns-in_default-clause-yes
returns-in_default-clause-yes g c = λ _. continues_at g.M.First.first (one_operation g.M.First.first.tree c.requires) c.args.events.now c.replay.new.self c.in_ok-replay.ensures c.args.thread
    (sym c.is_live.ensures ∙ c.if-not-is_live.false) c.step.new.self c.in_ok-report.report c.in_ok-report.ensures c.in_default.not-Blocked
