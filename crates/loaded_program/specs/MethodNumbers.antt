-- The number of a method by its name.
use Rattle.std.specs.Prelude.{ℕ, ◌&&◌, Option}
use Rattle.std.specs.List.{position_from}
use Rattle.cil_model.specs.declared.types.ClassName.{ClassName}
use Rattle.cil_model.specs.declared.trees.Tree.{Tree}
use Rattle.cil_model.specs.declared.trees.Method.{Method}
use Rattle.cil_model.specs.Same.{same_class}
use Rattle.cil_model.specs.Legality.{same_method}
use Rattle.loaded_program.specs.AllMethods.{all_methods}

-- the flat number of the first method of this class, name and signature; none where there is none
abbrev pub number_of : Tree → ClassName × Method → Option ℕ
number_of tree found = position_from (λ (e : ClassName × Method). same_class e.0 found.0 && same_method e.1 found.1) 0 (all_methods tree)
