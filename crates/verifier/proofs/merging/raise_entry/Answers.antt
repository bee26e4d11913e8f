use Rattle.flow_rules.specs.StackTypes.{type_named}
use Rattle.verifier.proofs.RiseLaws.{null_falls}
use Rattle.verifier.proofs.merging.raise_entry.Goals as goal

pub returns-in-Null-Declared-clause-higher : goal.returns-in-Null-Declared-clause-higher
returns-in-Null-Declared-clause-higher c = rw (c.in-Null-Declared.is-0, c.in-Null-Declared.is-1) (λ _. null_falls c.args.types.now (type_named c.args.types.now c.in-Null-Declared.field-0-1))
