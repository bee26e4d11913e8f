use Rattle.std.proofs.Common.{◌∙◌, sym}
use Rattle.schedule_text.proofs.WritingLemmas.{longer_run}
use Rattle.schedule_text.proofs.writing.longer.Goals as goal

pub returns-clause-one : goal.returns-clause-one
returns-clause-one c = longer_run c.args.run c.args.item (sym c.is_same.ensures ∙ c.if-not-is_same.false)
