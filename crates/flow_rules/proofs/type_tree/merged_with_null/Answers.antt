use Rattle.std.proofs.Common.{sym, ◌∙◌}
use Rattle.flow_rules.specs.StackTypes.{type_named}
use Rattle.flow_rules.proofs.AncestorChains.{null_apart}
use Rattle.flow_rules.proofs.type_tree.merged_with_null.Goals as goal

pub returns-else-is_reference-clause-first : goal.returns-else-is_reference-clause-first
returns-else-is_reference-clause-first c = λ tree above under over. null_apart tree (type_named tree c.args.t) (sym (c.is_reference.ensures tree) ∙ c.if-is_reference.false) above under over

pub returns-else-is_reference-clause-second : goal.returns-else-is_reference-clause-second
returns-else-is_reference-clause-second c = λ tree above under over. null_apart tree (type_named tree c.args.t) (sym (c.is_reference.ensures tree) ∙ c.if-is_reference.false) above over under
