use Rattle.std.proofs.Common.{◌≡◌, map, take}
use Rattle.std.specs.List.{filter_map}
use Rattle.cil_model.specs.Declarations.{as_method}
use Rattle.name_tables.proofs.classes.method_members.Given as goal

abbrev pub invariant-loop-member : goal.invariant-loop-member
invariant-loop-member l = map (λ f. f.now) l.methods.items ≡ filter_map as_method (take l.member-index l.member-items)
