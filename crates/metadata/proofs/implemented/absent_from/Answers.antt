use Rattle.std.proofs.Common.{sym, ap, ◌∙◌}
use Rattle.metadata.specs.InterfaceTables.{has_all_methods}
use Rattle.metadata.proofs.implemented.absent_from.Goals as goal

pub returns-in-Some : goal.returns-in-Some
returns-in-Some c =
    let t = c.args.methods.now.names.now.classes.tree.now in
    let reported = c.is_reported.ensures c.if-is_reported.true in
    sym (ap (λ o. has_all_methods t o c.args.interface) c.in-Some.is ∙ c.requires c.args.interface reported.0 reported.1 c.in-Some.first reported.2)
