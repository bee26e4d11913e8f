use Rattle.std.proofs.Common.{◌≡◌, map, drop}
use Rattle.std.specs.List.{list_any}
use Rattle.cil_model.specs.Same.{same_text}
use Rattle.cil_model.specs.Legality.{has_repeat, labels_before}
use Rattle.metadata.proofs.duplicates.first_with_repeated_label.Given as goal

abbrev pub invariant-loop-method : goal.invariant-loop-method
invariant-loop-method l = list_any (λ m. has_repeat same_text (labels_before m)) (map (λ m. m.now) (drop l.method l.methods)) ≡ list_any (λ m. has_repeat same_text (labels_before m)) (map (λ m. m.now) l.methods)
