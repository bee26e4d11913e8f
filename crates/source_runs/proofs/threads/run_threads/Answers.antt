use Rattle.std.proofs.Common.{inl, inr, subst, sym}
use Rattle.acceptance.specs.Sources.{IsNotRun}
use Rattle.acceptance.proofs.SourceLemmas.{handed_on, if_ok, if_err}
use Rattle.source_runs.proofs.threads.run_threads.Goals as goal

pub returns-in_err-verified-clause-refused : goal.returns-in_err-verified-clause-refused
returns-in_err-verified-clause-refused g c =
    handed_on c.from_residual.result c.from_residual.ensures.1 (λ failure same.
    subst (IsNotRun c.args.source.now c.args.limits) (sym same) (inl c.in_err-verified.ensures.refused))

pub returns-clause-ran : goal.returns-clause-ran
returns-clause-ran g c = if_ok c.run.result c.run.ensures.ran (λ run ran. (c.in_ok-verified.verified, c.in_ok-verified.ensures.accepted, ran))

pub returns-clause-refused : goal.returns-clause-refused
returns-clause-refused g c = if_err c.run.result c.run.ensures.refused (λ failure refused. inr ((c.in_ok-verified.verified, c.in_ok-verified.ensures.accepted), refused))
