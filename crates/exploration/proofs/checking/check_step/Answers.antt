use Rattle.std.proofs.Common.{◌≤◌, ℕ, refl, sym, ◌∙◌, subst}
use Rattle.exploration.proofs.Names.{same_Some, MOST_THREADS}
use Rattle.exploration.proofs.LagTransitivity.{alike_lagging, lagging_more}
use Rattle.exploration.proofs.checking.check_step.Goals as goal

pub returns : goal.returns
returns g c = λ can is. record {
  machine_state = c.replay.new.self;
  leads = c.in_ok-replay.ensures;
  few = subst (λ (n : ℕ). n ≤ MOST_THREADS) c.started-started.ensures.all c.started-started.ensures.few;
  live = sym c.is_live.ensures ∙ c.if-not-is_live.false;
  into = record {
    next = c.step.new.self;
    report = c.in_ok-report.report;
    transition = c.in_ok-report.ensures;
    within_budget = (c.is_ordinary.ensures c.if-not-is_ordinary.false).0;
    not_refused = (c.is_ordinary.ensures c.if-not-is_ordinary.false).1;
    covered = record {
      machine_state = c.args.other.now;
      among = refl;
      lagging = lagging_more c.step.new.self c.run_local.new.self c.args.other.now c.in_ok-run_local.ensures
          (lagging_more c.run_local.new.self c.run_local-2.new.self c.args.other.now c.in_ok-run_local-2.ensures (alike_lagging c.run_local-2.new.self c.args.other.now (c.is_like-is_known.ensures c.if-not-is_known.false)));
    };
  };
  not_blocked = λ yes. c.is_made.ensures (same_Some c.is_made.result can is ∙ yes);
}
