use Rattle.std.proofs.Common.{◌≡◌, map, take}
use Rattle.name_tables.specs.Keys.{text_of_key}
use Rattle.resolved_code.proofs.literals.Literals.texts.Given as goal

abbrev pub invariant-loop-key : goal.invariant-loop-key
invariant-loop-key l = l.texts.items ≡ map text_of_key (take l.key-index l.key-items)
