use Rattle.std.proofs.Common.{◌≡◌, map, drop}
use Rattle.std.specs.List.{list_all}
use Rattle.cil_model.specs.Legality.{is_small_instruction}
use Rattle.metadata.proofs.limits.exceeded_by_lines.Given as goal

abbrev pub invariant-loop-number : goal.invariant-loop-number
invariant-loop-number l = list_all is_small_instruction (map (λ x. x.instruction) (drop l.number l.lines)) ≡ list_all is_small_instruction (map (λ x. x.instruction) l.lines)
