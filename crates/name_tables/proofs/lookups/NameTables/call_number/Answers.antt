use Rattle.std.proofs.Common.{ap, ◌∙◌}
use Rattle.name_tables.specs.Keys.{method_of_key}
use Rattle.name_tables.specs.Sameness.{same_identity}
use Rattle.name_tables.proofs.KeyNumbers.{number_of_view}
use Rattle.name_tables.proofs.lookups.NameTables.call_number.Goals as goal

pub returns : goal.returns
returns c = ap (λ n. record { number = n; is_static = c.args.key.is_static }) (c.number_of.ensures ∙ number_of_view method_of_key same_identity c.args.self.now.methods.keys c.args.key.method)
