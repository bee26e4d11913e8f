use Rattle.std.proofs.Common.{◌≡◌, drop}
use Rattle.std.specs.List.{list_all}
use Rattle.cil_model.specs.Legality.{is_known_extern}
use Rattle.metadata.proofs.unknown.unknown_extern.Given as goal

abbrev pub invariant-loop-number : goal.invariant-loop-number
invariant-loop-number l = list_all is_known_extern (drop l.number l.externs) ≡ list_all is_known_extern l.externs
