use Rattle.std.proofs.Common.{None, ap, ◌∙◌}
use Rattle.inheritance.specs.Changes.{is_ordered, latest_known}
use Rattle.inheritance.proofs.changes.found_at.Goals as goal

pub latest-requires : goal.latest-requires
latest-requires c = ap is_ordered c.changes_of.ensures ∙ c.requires c.args.key

pub returns : goal.returns
returns c = c.latest.ensures ∙ ap (latest_known None c.args.time) c.changes_of.ensures
