use Rattle.std.proofs.Common.{◌≡◌, map, take}
use Rattle.name_tables.specs.BuiltInTable.{method_of}
use Rattle.name_tables.proofs.built_in.methods_of.Given as goal

abbrev pub invariant-loop-index : goal.invariant-loop-index
invariant-loop-index l = l.methods.items ≡ map method_of (take l.index l.table)
