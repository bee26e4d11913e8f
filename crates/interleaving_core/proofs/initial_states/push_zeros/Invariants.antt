use Rattle.std.proofs.Common.{◌≡◌, ◌++◌, map, take}
use Rattle.interleaving_core.specs.Statics.{zeros_of}
use Rattle.interleaving_core.proofs.initial_states.push_zeros.Given as goal

abbrev pub invariant-loop-field : goal.invariant-loop-field
invariant-loop-field l = l.statics.items ≡ l.initial.statics.items ++ zeros_of (map (λ f. f.now) (take l.field-index l.fields))
