use Rattle.std.proofs.Common.{◌≡◌, drop}
use Rattle.std.specs.List.{list_any}
use Rattle.cil_model.specs.Same.{same_text}
use Rattle.metadata.proofs.unknown.is_declared.Given as goal

abbrev pub invariant-loop-name : goal.invariant-loop-name
invariant-loop-name l = list_any (same_text l.assembly) (drop l.name-index l.externs) ≡ list_any (same_text l.assembly) l.externs
