use Rattle.std.proofs.Common.{[], sym, ◌∙◌}
use Rattle.inheritance.proofs.ChangeLaws.{row_of, row_past}
use Rattle.inheritance.proofs.changes.changes_of.Goals as goal

pub returns-in-Some : goal.returns-in-Some
returns-in-Some c = c.as_slice.ensures.value ∙ sym (row_of (λ v. v.items) c.args.changes.now c.args.key c.in-Some.row.now [] c.in-Some.ensures.lookup.3.0 c.in-Some.ensures.lookup.1)

pub returns-in-None : goal.returns-in-None
returns-in-None c = sym (row_past (λ v. v.items) c.args.changes.now c.args.key [] c.in-None.ensures.lookup.3)
