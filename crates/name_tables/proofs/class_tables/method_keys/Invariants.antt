use Rattle.std.proofs.Common.{◌≡◌, map, take}
use Rattle.name_tables.specs.Keys.{method_of_key}
use Rattle.name_tables.specs.Sameness.{identity_of}
use Rattle.name_tables.proofs.class_tables.method_keys.Given as goal

abbrev pub invariant-loop-method : goal.invariant-loop-method
invariant-loop-method l = map method_of_key l.keys.items ≡ map identity_of (map (λ f. f.now) (take l.method-index l.methods))
