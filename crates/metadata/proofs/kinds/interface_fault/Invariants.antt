use Rattle.std.proofs.Common.{◌≡◌, map, drop}
use Rattle.std.specs.List.{list_all}
use Rattle.cil_model.specs.Legality.{is_interface_method}
use Rattle.metadata.proofs.kinds.interface_fault.Given as goal

abbrev pub invariant-loop-method : goal.invariant-loop-method
invariant-loop-method l = list_all is_interface_method (map (λ m. m.now) (drop l.method l.methods)) ≡ list_all is_interface_method (map (λ m. m.now) l.methods)
