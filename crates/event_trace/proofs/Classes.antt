-- The class of a number after the built-in ones is one of the source.
use Rattle.std.proofs.Common.{◌≡◌, ◌+◌, ℕ, length, map, Some, option_map, slice_get, ap, ◌∙◌}
use Rattle.cil_model.proofs.Lists.{get_after}
use Rattle.interleaving_core.specs.simulation.resolved_code.ById.{class_name}
use Rattle.event_trace.proofs.Names.{slice_get-map, Declaration, built_ins, source_name, Class, Tree, ClassName, source_entry}

pub source_class : (tree : Tree) (n k : ℕ) (class : Class) → n ≡ length built_ins + k → slice_get tree.classes k ≡ Some class → class_name tree n ≡ Some (source_name class)
source_class tree n k class is there =
    ap (option_map (λ (e : ClassName × Declaration). e.0))
    (get_after built_ins (map source_entry tree.classes) n k is ∙ slice_get-map source_entry tree.classes k ∙ ap (option_map source_entry) there)
