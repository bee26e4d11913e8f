use Rattle.std.proofs.Common.{◌≡◌, map, drop}
use Rattle.std.specs.List.{list_all}
use Rattle.cil_model.specs.declared.types.ClassName.{ClassName}
use Rattle.cil_model.specs.Legality.{is_small_method}
use Rattle.metadata.proofs.limits.exceeded_by_methods.Given as goal

abbrev pub invariant-loop-index : goal.invariant-loop-index
invariant-loop-index l = (o : ClassName) → list_all (is_small_method o) (map (λ m. m.now) (drop l.index l.methods)) ≡ list_all (is_small_method o) (map (λ m. m.now) l.methods)
