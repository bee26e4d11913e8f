use Rattle.std.proofs.Common.{◌≡◌, map, take}
use Rattle.std.specs.List.{flat_map}
use Rattle.class_layout.specs.ByClass.{with_interfaces}
use Rattle.class_layout.proofs.ancestry.ancestors.Given as goal

abbrev pub invariant-loop-class : goal.invariant-loop-class
invariant-loop-class l = l.ancestors.items ≡ flat_map (with_interfaces (map (λ r. r.interfaces) l.classes.all.now)) (take l.class-index l.chain)
