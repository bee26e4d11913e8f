use Rattle.std.proofs.Common.{◌≡◌, take}
use Rattle.std.specs.List.{filter_map}
use Rattle.cil_model.specs.declared.trees.Tree.{Tree}
use Rattle.class_layout.specs.Kinds.{resolved_kind}
use Rattle.class_layout.proofs.fields.instance_kinds.Given as goal

abbrev pub invariant-loop-field : goal.invariant-loop-field
invariant-loop-field l = (tree : Tree) → l.kinds.items ≡ filter_map (resolved_kind tree) (take l.field-index l.fields)
