use Rattle.std.proofs.Common.{◌≡◌, map, take}
use Rattle.cil_model.specs.Chains.{is_abstract_method}
use Rattle.metadata.proofs.open_slots.marks_of.Given as goal

abbrev pub invariant-loop-method : goal.invariant-loop-method
invariant-loop-method l = l.marks.items ≡ map (λ m. is_abstract_method m.kind) (map (λ m. m.now) (take l.method-index l.methods))
