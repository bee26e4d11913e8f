use Rattle.std.proofs.Common.{sym, ap, ◌∙◌}
use Rattle.name_tables.specs.Sameness.{identity_of}
use Rattle.resolved_code.specs.Identities.{identity_number}
use Rattle.resolved_code.specs.Rules.{types_rule}
use Rattle.resolved_code.proofs.Resolution.ClassesAndMethods.{method_made}
use Rattle.resolved_code.proofs.members.ResolverResolveRefMethod.resolve.Goals as goal

pub returns : goal.returns
returns c =
    let t = c.args.self.now.names.now.classes.tree.now in
    let m = c.args.method.now.now in
    let number = c.number.ensures ∙ ap (λ tree. identity_number tree (identity_of m)) c.args.self.now.same_tree in
    let parameters = sym (ap (types_rule t) c.as_slice.ensures) ∙ c.in_ok-parameters.ensures in
    method_made t m c.number.result c.in_ok-parameters.parameters c.in_ok-return_type.return_type c.in_ok-kind.kind number parameters c.in_ok-return_type.ensures c.in_ok-kind.ensures
