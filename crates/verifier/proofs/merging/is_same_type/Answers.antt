use Rattle.std.proofs.Common.{sym, ◌∙◌}
use Rattle.flow_rules.proofs.Classes.{one_type}
use Rattle.verifier.proofs.merging.is_same_type.Goals as goal

pub returns-clause-apart : goal.returns-clause-apart
returns-clause-apart c = λ differ e. c.is_equal.ensures.apart differ (one_type c.args.types.now c.known_type.ensures.legal c.known_type.result c.known_type-2.result c.known_type.ensures.known c.known_type-2.ensures.known (c.known_type.ensures.same ∙ e ∙ sym c.known_type-2.ensures.same))
