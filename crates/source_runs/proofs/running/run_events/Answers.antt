use Rattle.std.proofs.Common.{inr, subst, sym}
use Rattle.acceptance.specs.Sources.{IsNotRun}
use Rattle.acceptance.proofs.SourceLemmas.{handed_on}
use Rattle.source_runs.proofs.running.run_events.Goals as goal

pub returns-in_err-machine-clause-refused : goal.returns-in_err-machine-clause-refused
returns-in_err-machine-clause-refused g c =
    handed_on c.from_residual.result c.from_residual.ensures.1 (λ failure same.
    subst (IsNotRun c.args.source.now c.args.limits) (sym same) c.in_err-machine.ensures.refused)

pub returns-in_err-run-clause-refused : goal.returns-in_err-run-clause-refused
returns-in_err-run-clause-refused g c =
    let made = c.in_ok-machine.ensures.made in
    handed_on c.from_residual-in_err-run.result c.from_residual-in_err-run.ensures.1 (λ failure memory. inr ((made.tree, made.is_accepted), inr (made.done.in_range, memory)))

pub returns-clause-printed : goal.returns-clause-printed
returns-clause-printed g c =
    let made = c.in_ok-machine.ensures.made in
    c.in_ok-run.ensures.printed made.tree c.args.limits made.opened.initial

pub returns-clause-ran : goal.returns-clause-ran
returns-clause-ran g c =
    let made = c.in_ok-machine.ensures.made in
    (made.tree, made.is_accepted, c.in_ok-run.ensures.ran made.tree c.args.limits made.done)
