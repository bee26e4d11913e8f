use Rattle.std.proofs.Common.{subst, sym}
use Rattle.acceptance.specs.Errors.{IsErrorOf}
use Rattle.acceptance.proofs.SourceLemmas.{accepted_source, if_err, if_ok, read_error}
use Rattle.acceptance.proofs.sources.examine.Goals as goal

pub returns-in-Ok-clause-accepted : goal.returns-in-Ok-clause-accepted
returns-in-Ok-clause-accepted c =
    if_ok c.examine_tree.result c.examine_tree.ensures.accepted (λ verified is. accepted_source c.args.source.now c.in-Ok.tree verified c.in-Ok.ensures is.0 is.1)

pub returns-in-Ok-clause-refused : goal.returns-in-Ok-clause-refused
returns-in-Ok-clause-refused c =
    if_err c.examine_tree.result c.examine_tree.ensures.refused (λ error is. is c.args.source.now c.in-Ok.ensures)

pub returns-in-Err-clause-refused : goal.returns-in-Err-clause-refused
returns-in-Err-clause-refused c = subst (IsErrorOf c.args.source.now) (sym c.unread.ensures) (read_error c.args.source.now c.in-Err.error c.in-Err.ensures)
