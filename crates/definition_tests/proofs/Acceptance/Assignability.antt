-- Which types are assignable, and which lie below which.
use Rattle.std.proofs.Common.{◌≡◌, ◌∷◌, [], true, false, Some, None, refl, codes}
use Rattle.cil_model.specs.declared.types.Element.TheVariants.{Int32, Int64, Object, String}
use Rattle.cil_model.specs.declared.trees.Tree.{Tree}
use Rattle.cil_model.specs.Declarations.{thread_name, plain}
use Rattle.cil_model.specs.Assignable.{is_assignable, type_of_class}
use Rattle.cil_model.specs.TypeTree.{Declared, NativeInt, Null, i4, parent, ancestor, IsBelow, fits}
use Rattle.cil_model.proofs.SameLaws.{never}
use Rattle.definition_tests.proofs.Samples.Tables.{Answers, PairAnswers}
use Rattle.definition_tests.proofs.Samples.Programs.{of_class, arrays_of}
use Rattle.definition_tests.proofs.Samples.FarmProgram.{farm}

-- ---- assignable

assignable_types : PairAnswers (is_assignable farm) (
    (codes "itself", of_class (codes "Dog"), of_class (codes "Dog"), true) ∷
    (codes "to base", of_class (codes "Dog"), of_class (codes "Animal"), true) ∷
    (codes "from base", of_class (codes "Animal"), of_class (codes "Dog"), false) ∷
    (codes "to interface", of_class (codes "Dog"), of_class (codes "IRun"), true) ∷
    (codes "interface to object", of_class (codes "IRun"), plain Object, true) ∷
    (codes "interface to class", of_class (codes "IRun"), of_class (codes "Dog"), false) ∷
    (codes "cat to interface", of_class (codes "Cat"), of_class (codes "IRun"), false) ∷
    (codes "string to object", plain String, plain Object, true) ∷
    (codes "integer to object", plain Int32, plain Object, false) ∷
    (codes "integer to long", plain Int32, plain Int64, false) ∷
    (codes "thread class", of_class (codes "T"), type_of_class thread_name, true) ∷
    (codes "arrays", arrays_of (of_class (codes "Dog")) 1, arrays_of (of_class (codes "IRun")) 1, true) ∷
    (codes "array to object", arrays_of (plain Int32) 1, plain Object, true) ∷
    (codes "integers to objects", arrays_of (plain Int32) 1, arrays_of (plain Object) 1, false) ∷
    (codes "integers to integers", arrays_of (plain Int32) 1, arrays_of (plain Int32) 1, true) ∷
    (codes "integers to longs", arrays_of (plain Int32) 1, arrays_of (plain Int64) 1, false) ∷
    (codes "nested integers", arrays_of (plain Int32) 2, arrays_of (plain Object) 1, true) ∷
    (codes "nested too deep", arrays_of (plain Int32) 2, arrays_of (plain Object) 2, false) ∷
    (codes "nested arrays", arrays_of (of_class (codes "Dog")) 2, arrays_of (of_class (codes "Animal")) 2, true) ∷
    [])
assignable_types = refl

-- ---- parents

parents_of_types : Answers (parent farm) (
    (codes "parent of class", of_class (codes "Dog"), Some (of_class (codes "Animal"))) ∷
    (codes "parent of lone class", of_class (codes "Animal"), Some (plain Object)) ∷
    (codes "parent of interface", of_class (codes "IRun"), Some (plain Object)) ∷
    (codes "parent of thread", type_of_class thread_name, Some (plain Object)) ∷
    (codes "parent of string", plain String, Some (plain Object)) ∷
    (codes "parent of object", plain Object, None) ∷
    (codes "parent of integer", plain Int32, None) ∷
    (codes "parent of dogs", arrays_of (of_class (codes "Dog")) 2, Some (arrays_of (of_class (codes "Animal")) 2)) ∷
    (codes "parent of runners", arrays_of (of_class (codes "IRun")) 1, Some (arrays_of (plain Object) 1)) ∷
    (codes "parent of objects", arrays_of (plain Object) 1, Some (plain Object)) ∷
    (codes "parent of integers", arrays_of (plain Int32) 1, Some (plain Object)) ∷
    (codes "parent of nested integers", arrays_of (plain Int32) 2, Some (arrays_of (plain Object) 1)) ∷
    [])
parents_of_types = refl

two_up : ancestor farm 2 (arrays_of (of_class (codes "Dog")) 1) ≡ Some (arrays_of (plain Object) 1)
two_up = refl

three_up : ancestor farm 3 (arrays_of (of_class (codes "Dog")) 1) ≡ Some (plain Object)
three_up = refl

-- ---- what may be given

fitting_types : PairAnswers (fits farm) (
    (codes "null fits reference", Null, of_class (codes "Dog"), true) ∷
    (codes "native fits nothing", NativeInt, plain Int32, false) ∷
    (codes "dog fits interface", Declared (of_class (codes "Dog")), of_class (codes "IRun"), true) ∷
    [])
fitting_types = refl

-- null is below references alone
null_is_no_integer : (tree : Tree) → IsBelow tree Null i4 → ⊥
null_is_no_integer tree h = never h

null_fits_no_integer : (tree : Tree) → fits tree Null (plain Int32) ≡ false
null_fits_no_integer tree = refl

-- a class and an interface that it lists have nothing but `object` above both
dog_below_animal : IsBelow farm (Declared (of_class (codes "Dog"))) (Declared (of_class (codes "Animal")))
dog_below_animal = (1, refl)

runner_below_object : IsBelow farm (Declared (of_class (codes "IRun"))) (Declared (plain Object))
runner_below_object = (1, refl)
