use Rattle.std.proofs.Common.{◌≡◌, map, drop}
use Rattle.std.specs.List.{list_any}
use Rattle.cil_model.specs.Chains.{is_abstract_method}
use Rattle.metadata.proofs.kinds.abstract_method.Given as goal

abbrev pub invariant-loop-method : goal.invariant-loop-method
invariant-loop-method l = list_any (λ m. is_abstract_method m.kind) (map (λ m. m.now) (drop l.method l.methods)) ≡ list_any (λ m. is_abstract_method m.kind) (map (λ m. m.now) l.methods)
