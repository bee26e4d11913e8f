use Rattle.std.proofs.Common.{◌≡◌, ◌++◌, length, map, drop, take}
use Rattle.std.specs.List.{sum_by}
use Rattle.loaded_program.specs.ResolvedKinds.{running_counts}
use Rattle.loaded_program.proofs.numbers.first_numbers.Given as goal

abbrev pub invariant-loop-class : goal.invariant-loop-class
invariant-loop-class l = record {
  has_id : l.first.items ++ running_counts l.next (map (λ r. length r.methods) (drop l.class-index l.classes)) ≡ running_counts 0 (map (λ r. length r.methods) l.classes);
  counted : l.next ≡ sum_by (λ r. length r.methods) (take l.class-index l.classes);
}
