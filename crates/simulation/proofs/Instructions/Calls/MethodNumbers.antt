-- Each method of a legal program has a number, which represents that method.
use Rattle.std.proofs.Common.{◌≡◌, ◌+◌, ℕ, Option, Some, None, slice_get, refl}
use Rattle.interpreter.specs.cil_model.declared.types.ClassName.{ClassName}
use Rattle.interpreter.specs.cil_model.declared.trees.Tree.{Tree}
use Rattle.interpreter.specs.cil_model.declared.trees.Method.{Method}
use Rattle.interpreter.specs.cil_model.Legality.{IsLegal}
use Rattle.interpreter.specs.name_tables.Numbers.{declarations, method_at}
use Rattle.interpreter.specs.loaded_program.AllMethods.{all_methods, first_numbers}
use Rattle.interpreter.specs.loaded_program.MethodNumbers.{number_of}
use Rattle.interpreter.proofs.loaded_program.FlatLaws.{first_is_there, number_after}
use Rattle.interpreter.proofs.loaded_program.NumberLaws.{number_of_index}

-- a method's number, at which it stands
pub record HasId (tree : Tree) (found : ClassName × Method) : Type 0 where
  pub number : ℕ
  pub is : number_of tree found ≡ Some number
  pub there : slice_get (all_methods tree) number ≡ Some found

-- that of a method at an index of a class
pub method_id_is : (tree : Tree) → IsLegal tree → (class index : ℕ) (found : ClassName × Method) → method_at tree (class, index) ≡ Some found → HasId tree found
method_id_is tree legal class index found at = by_first (slice_get (first_numbers 0 (declarations tree)) class) refl
  where
    by_first : (o : Option ℕ) → slice_get (first_numbers 0 (declarations tree)) class ≡ o → HasId tree found
    by_first None e = absurd (first_is_there tree class index found at (first_numbers 0 (declarations tree)) refl e)
    by_first (Some first) e =
        let there : slice_get (all_methods tree) (first + index) ≡ Some found = (number_after tree class index found at (first_numbers 0 (declarations tree)) first refl e).1 in
        record { number = first + index; is = number_of_index tree legal (first + index) found there; there = there }
