use Rattle.std.proofs.Common.{◌≡◌, drop, map}
use Rattle.std.specs.Prelude.{find}
use Rattle.class_layout.specs.Targets.{is_implementer}
use Rattle.class_layout.proofs.method_families.nearest_implementer.Given as goal

abbrev pub invariant-loop-class : goal.invariant-loop-class
invariant-loop-class l = find (is_implementer (map (λ r. r.interfaces) l.classes.all.now) l.interface) (drop l.class-index l.chain) ≡ find (is_implementer (map (λ r. r.interfaces) l.classes.all.now) l.interface) l.chain
