use Rattle.std.proofs.Common.{sym, ap, ◌∙◌}
use Rattle.resolved_code.specs.Rules.{call_rule}
use Rattle.resolved_code.proofs.instructions.Resolver.call_operation.Goals as goal

pub returns-in-Call : goal.returns-in-Call
returns-in-Call c = c.call.ensures ∙ sym (ap (call_rule c.args.self.now.names.now.classes.tree.now) c.in-Call.is)

pub returns-in-CallVirtual : goal.returns-in-CallVirtual
returns-in-CallVirtual c = c.call_virtual.ensures ∙ sym (ap (call_rule c.args.self.now.names.now.classes.tree.now) c.in-CallVirtual.is)
