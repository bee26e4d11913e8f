use Rattle.std.proofs.Common.{◌≡◌, map, take}
use Rattle.std.specs.List.{filter_map}
use Rattle.cil_model.specs.declared.trees.Tree.{Tree}
use Rattle.class_layout.specs.Kinds.{resolved_kind}
use Rattle.class_layout.proofs.fields.all_own_kinds.Given as goal

abbrev pub invariant-loop-class : goal.invariant-loop-class
invariant-loop-class l = (tree : Tree) → map (λ row. row.items) l.rows.items ≡ map (λ r. filter_map (resolved_kind tree) r.fields) (take l.class-index l.classes)
