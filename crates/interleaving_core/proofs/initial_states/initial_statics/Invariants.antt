use Rattle.std.proofs.Common.{◌≡◌, take}
use Rattle.std.specs.List.{flat_map}
use Rattle.interleaving_core.specs.Statics.{declared_fields, zeros_of}
use Rattle.interleaving_core.proofs.initial_states.initial_statics.Given as goal

abbrev pub invariant-loop-class : goal.invariant-loop-class
invariant-loop-class l = l.statics.items ≡ flat_map (λ class. zeros_of (declared_fields class)) (take l.class-index l.classes)
