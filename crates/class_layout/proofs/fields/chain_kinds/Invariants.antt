use Rattle.std.proofs.Common.{◌≡◌, ◌++◌, [], map, take, slice_get, unwrap_or}
use Rattle.std.specs.List.{flat_map}
use Rattle.class_layout.specs.Kinds.{hidden_kinds}
use Rattle.class_layout.proofs.fields.chain_kinds.Given as goal

abbrev pub invariant-loop-class : goal.invariant-loop-class
invariant-loop-class l = l.kinds.items ≡ hidden_kinds l.chain ++ flat_map (λ n. unwrap_or (slice_get (map (λ row. row.items) l.own) n) []) (take l.class-index l.class-items)
