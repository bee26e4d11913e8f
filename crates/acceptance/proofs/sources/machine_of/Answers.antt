use Rattle.std.proofs.Common.{inl, inr, subst, sym}
use Rattle.std.proofs.lemmas.Result.{IfOk-from_err}
use Rattle.acceptance.specs.Sources.{IsNotRun}
use Rattle.acceptance.proofs.SourceLemmas.{handed_on, not_made}
use Rattle.acceptance.proofs.sources.machine_of.Goals as goal

pub returns-in_err-verified-clause-made : goal.returns-in_err-verified-clause-made
returns-in_err-verified-clause-made c = IfOk-from_err c.from_residual.result _ c.from_residual.ensures.0

pub returns-in_err-verified-clause-refused : goal.returns-in_err-verified-clause-refused
returns-in_err-verified-clause-refused c =
    handed_on c.from_residual.result c.from_residual.ensures.1 (λ failure same.
    subst (IsNotRun c.args.source.now c.args.limits) (sym same) (inl c.in_err-verified.ensures.refused))

pub returns-in_err-machine-clause-made : goal.returns-in_err-machine-clause-made
returns-in_err-machine-clause-made c = IfOk-from_err c.from_residual-in_err-machine.result _ c.from_residual-in_err-machine.ensures.0

pub returns-in_err-machine-clause-refused : goal.returns-in_err-machine-clause-refused
returns-in_err-machine-clause-refused c =
    handed_on c.from_residual-in_err-machine.result c.from_residual-in_err-machine.ensures.1 (λ failure same.
    inr ((c.in_ok-verified.verified, c.in_ok-verified.ensures.accepted), not_made c.args.limits c.in_err-machine.field-0.0 failure c.in_err-machine.ensures.limits same))

pub returns-clause-made : goal.returns-clause-made
returns-clause-made c =
    record {
      tree = c.in_ok-verified.verified;
      is_accepted = c.in_ok-verified.ensures.accepted;
      done = c.in_ok-machine.ensures.done;
      opened = record {
        same_program = c.in_ok-machine.ensures.program.0;
        same_limits = c.in_ok-machine.ensures.program.1;
        initial = c.in_ok-machine.ensures.begins;
        represents = c.in_ok-machine.ensures.initial_state;
      };
    }
