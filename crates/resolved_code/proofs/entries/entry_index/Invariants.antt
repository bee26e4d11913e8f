use Rattle.std.proofs.Common.{◌≡◌, map, drop}
use Rattle.std.specs.List.{position_from}
use Rattle.cil_model.specs.Bodies.{is_entry_point}
use Rattle.resolved_code.proofs.entries.entry_index.Given as goal

abbrev pub invariant-loop-index : goal.invariant-loop-index
invariant-loop-index l = position_from is_entry_point l.index (map (λ m. m.now) (drop l.index l.methods)) ≡ position_from is_entry_point 0 (map (λ m. m.now) l.methods)
