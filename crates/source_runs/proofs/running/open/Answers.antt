use Rattle.std.proofs.Common.{inl, inr, subst, sym}
use Rattle.std.proofs.lemmas.Result.{IfOk-from_err}
use Rattle.acceptance.proofs.SourceLemmas.{handed_on}
use Rattle.source_runs.specs.Runs.{IsNotRunBy}
use Rattle.source_runs.proofs.running.open.Goals as goal

pub returns-in_err-machine-clause-opened : goal.returns-in_err-machine-clause-opened
returns-in_err-machine-clause-opened c = IfOk-from_err c.from_residual.result _ c.from_residual.ensures.0

pub returns-in_err-machine-clause-refused : goal.returns-in_err-machine-clause-refused
returns-in_err-machine-clause-refused c =
    handed_on c.from_residual.result c.from_residual.ensures.1 (λ failure same.
    subst (IsNotRunBy c.args.source.now c.args.limits c.args.text.now) (sym same) (inl c.in_err-machine.ensures.refused))

pub returns-in_err-items-clause-opened : goal.returns-in_err-items-clause-opened
returns-in_err-items-clause-opened c = IfOk-from_err c.from_residual-in_err-items.result _ c.from_residual-in_err-items.ensures.0

pub returns-in_err-items-clause-refused : goal.returns-in_err-items-clause-refused
returns-in_err-items-clause-refused c =
    handed_on c.from_residual-in_err-items.result c.from_residual-in_err-items.ensures.1 (λ failure same.
    inr ((c.in_ok-machine.ensures.made.tree, c.in_ok-machine.ensures.made.is_accepted), c.in_ok-machine.ensures.made.done.in_range, (c.in_err-items.field-0.0, c.in_err-items.ensures, same)))

pub returns-clause-opened : goal.returns-clause-opened
returns-clause-opened c =
    record {
      tree = c.in_ok-machine.ensures.made.tree;
      is_accepted = c.in_ok-machine.ensures.made.is_accepted;
      in_range = c.in_ok-machine.ensures.made.done.in_range;
      done = c.in_ok-machine.ensures.made.done;
      opened = c.in_ok-machine.ensures.made.opened;
      are_read = c.in_ok-items.ensures;
    }
