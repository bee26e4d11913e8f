-- Each instruction on fields, arrays and types: a result, and each of its faults in the order of the checks.
use Rattle.std.proofs.Common.{◌≡◌, pos, [], ◌∷◌, Some, None, refl, codes}
use Rattle.cil_model.specs.declared.types.DeclaredType.{DeclaredType}
use Rattle.cil_model.specs.declared.types.Element.TheVariants.{Int32 as Int32Element, Int64 as Int64Element, Object, String}
use Rattle.cil_model.specs.declared.instructions.ElementKind.TheVariants as kinds
use Rattle.cil_model.specs.declared.instructions.Instruction.{Instruction}
use Rattle.cil_model.specs.declared.instructions.Instruction.TheVariants.{LoadField, StoreField, LoadStaticField, StoreStaticField, NewArray, LoadLength, LoadElement, StoreElement, CastClass, IsInstance}
use Rattle.cil_model.specs.declared.reports.Fault.TheVariants.{NullReference, IndexOutOfRange, ArrayTypeMismatch, InvalidCast, Overflow, OutOfMemory}
use Rattle.cil_model.specs.Declarations.{plain}
use Rattle.reference_machine.specs.Values.{Born, Native, Null}
use Rattle.reference_machine.specs.States.{Free, Array}
use Rattle.definition_tests.proofs.Samples.Tables.{PairAnswers}
use Rattle.definition_tests.proofs.Samples.Programs.{of_class, arrays_of}
use Rattle.definition_tests.proofs.Samples.FarmProgram.{int, minus, long, object, text, key, heap_object, Leaves, Faults, NoMeaning, does, does_refused, field_of_animal, field_after, elements_after, statics_after, born_after}

abbrev age : Instruction
age = LoadField (field_of_animal (plain Int32Element) (codes "age"))

abbrev to_age : Instruction
to_age = StoreField (field_of_animal (plain Int32Element) (codes "age"))

abbrev to_friend : Instruction
to_friend = StoreField (field_of_animal (of_class (codes "Animal")) (codes "friend"))

abbrev count : Instruction
count = LoadStaticField (field_of_animal (plain Int32Element) (codes "count"))

abbrev to_count : Instruction
to_count = StoreStaticField (field_of_animal (plain Int32Element) (codes "count"))

abbrev integers : DeclaredType
integers = plain Int32Element

-- ---- fields

field_instructions : PairAnswers does (
    (codes "field", age, object 0 ∷ [], Leaves (int 3 ∷ [])) ∷
    (codes "field of null", age, Null ∷ [], Faults NullReference) ∷
    (codes "field of array", age, object 1 ∷ [], NoMeaning) ∷
    (codes "field of literal", age, text (codes "a") ∷ [], NoMeaning) ∷
    (codes "field of integer", age, int 0 ∷ [], NoMeaning) ∷
    (codes "no such field", LoadField (field_of_animal (plain Int64Element) (codes "age")), object 0 ∷ [], NoMeaning) ∷
    (codes "static by ldfld", LoadField (field_of_animal (plain Int32Element) (codes "count")), object 0 ∷ [], NoMeaning) ∷
    (codes "store to null", to_age, Null ∷ int 9 ∷ [], Faults NullReference) ∷
    (codes "store of other kind", to_age, object 0 ∷ long 9 ∷ [], NoMeaning) ∷
    (codes "store reference", to_friend, int 1 ∷ object 0 ∷ object 3 ∷ [], Leaves (int 1 ∷ [])) ∷
    (codes "store null", to_friend, object 0 ∷ Null ∷ [], Leaves []) ∷
    (codes "static", count, [], Leaves (int 1 ∷ [])) ∷
    (codes "no such static", LoadStaticField (field_of_animal (plain Int32Element) (codes "age")), [], NoMeaning) ∷
    [])
field_instructions = refl

stored_field : field_after (codes "age") (Born 3) to_age (object 3 ∷ int 9 ∷ []) ≡ Some (int 9)
stored_field = refl

other_field : field_after (codes "weight") (Born 3) to_age (object 3 ∷ int 9 ∷ []) ≡ Some (long 4)
other_field = refl

other_object : field_after (codes "age") (Born 0) to_age (object 3 ∷ int 9 ∷ []) ≡ Some (int 3)
other_object = refl

stored_static : statics_after to_count (int 8 ∷ []) ≡ Some ((key (codes "count"), int 8) ∷ (key (codes "lock"), Null) ∷ [])
stored_static = refl

static_of_other_kind : does to_count (Null ∷ []) ≡ NoMeaning
static_of_other_kind = refl

-- ---- new arrays: the sign is looked at before memory

births_of_arrays : PairAnswers does (
    (codes "new array", NewArray integers, int 2 ∷ [], Leaves (object 10 ∷ [])) ∷
    (codes "empty array", NewArray integers, int 0 ∷ [], Leaves (object 10 ∷ [])) ∷
    (codes "negative length", NewArray integers, minus 1 ∷ [], Faults Overflow) ∷
    (codes "length of long", NewArray integers, long 2 ∷ [], NoMeaning) ∷
    [])
births_of_arrays = refl

arrays_after_births : PairAnswers born_after (
    (codes "born array", NewArray integers, int 2 ∷ [], Some (Some (heap_object (Array integers (int 0 ∷ int 0 ∷ [])) Free None))) ∷
    (codes "born references", NewArray (of_class (codes "Dog")), Native (pos 1) ∷ [], Some (Some (heap_object (Array (of_class (codes "Dog")) (Null ∷ [])) Free None))) ∷
    (codes "born nested", NewArray (arrays_of integers 1), int 1 ∷ [], Some (Some (heap_object (Array (arrays_of integers 1) (Null ∷ [])) Free None))) ∷
    [])
arrays_after_births = refl

negative_length_refused : does_refused (NewArray integers) (minus 1 ∷ []) ≡ Faults Overflow
negative_length_refused = refl

array_refused : does_refused (NewArray integers) (int 2 ∷ []) ≡ Faults OutOfMemory
array_refused = refl

-- ---- arrays: null, then the index, then the class of the value

array_instructions : PairAnswers does (
    (codes "length", LoadLength, object 1 ∷ [], Leaves (Native (pos 2) ∷ [])) ∷
    (codes "length of null", LoadLength, Null ∷ [], Faults NullReference) ∷
    (codes "length of object", LoadLength, object 0 ∷ [], NoMeaning) ∷
    (codes "int element", LoadElement kinds.Int32, object 1 ∷ int 1 ∷ [], Leaves (int 6 ∷ [])) ∷
    (codes "int element by native", LoadElement kinds.Int32, object 1 ∷ Native (pos 0) ∷ [], Leaves (int 5 ∷ [])) ∷
    (codes "int element of null", LoadElement kinds.Int32, Null ∷ minus 1 ∷ [], Faults NullReference) ∷
    (codes "int element past", LoadElement kinds.Int32, object 1 ∷ int 2 ∷ [], Faults IndexOutOfRange) ∷
    (codes "int element before", LoadElement kinds.Int32, object 1 ∷ minus 1 ∷ [], Faults IndexOutOfRange) ∷
    (codes "int element of longs", LoadElement kinds.Int32, object 7 ∷ int 0 ∷ [], NoMeaning) ∷
    (codes "long element", LoadElement kinds.Int64, object 7 ∷ int 0 ∷ [], Leaves (long 7 ∷ [])) ∷
    (codes "long element of null", LoadElement kinds.Int64, Null ∷ int 0 ∷ [], Faults NullReference) ∷
    (codes "long element past", LoadElement kinds.Int64, object 7 ∷ int 1 ∷ [], Faults IndexOutOfRange) ∷
    (codes "reference element", LoadElement kinds.Reference, object 2 ∷ int 1 ∷ [], Leaves (object 0 ∷ [])) ∷
    (codes "reference element of null", LoadElement kinds.Reference, Null ∷ int 0 ∷ [], Faults NullReference) ∷
    (codes "reference element past", LoadElement kinds.Reference, object 2 ∷ int 2 ∷ [], Faults IndexOutOfRange) ∷
    (codes "reference element of integers", LoadElement kinds.Reference, object 1 ∷ int 0 ∷ [], NoMeaning) ∷
    (codes "store int to null", StoreElement kinds.Int32, Null ∷ int 5 ∷ int 8 ∷ [], Faults NullReference) ∷
    (codes "store int past", StoreElement kinds.Int32, object 1 ∷ int 2 ∷ int 8 ∷ [], Faults IndexOutOfRange) ∷
    (codes "store int of long", StoreElement kinds.Int32, object 1 ∷ int 0 ∷ long 8 ∷ [], NoMeaning) ∷
    (codes "store long to null", StoreElement kinds.Int64, Null ∷ int 0 ∷ long 8 ∷ [], Faults NullReference) ∷
    (codes "store long past", StoreElement kinds.Int64, object 7 ∷ minus 1 ∷ long 8 ∷ [], Faults IndexOutOfRange) ∷
    (codes "store reference to null", StoreElement kinds.Reference, Null ∷ int 9 ∷ object 3 ∷ [], Faults NullReference) ∷
    (codes "store reference past", StoreElement kinds.Reference, object 2 ∷ int 2 ∷ object 3 ∷ [], Faults IndexOutOfRange) ∷
    (codes "store cat among dogs", StoreElement kinds.Reference, object 2 ∷ int 0 ∷ object 3 ∷ [], Faults ArrayTypeMismatch) ∷
    (codes "store integer among dogs", StoreElement kinds.Reference, object 2 ∷ int 0 ∷ int 3 ∷ [], NoMeaning) ∷
    [])
array_instructions = refl

stored_int : elements_after (Born 1) (StoreElement kinds.Int32) (object 1 ∷ int 0 ∷ int 8 ∷ []) ≡ Some (integers, int 8 ∷ int 6 ∷ [])
stored_int = refl

stored_long : elements_after (Born 7) (StoreElement kinds.Int64) (object 7 ∷ int 0 ∷ long 8 ∷ []) ≡ Some (plain Int64Element, long 8 ∷ [])
stored_long = refl

stored_reference : elements_after (Born 2) (StoreElement kinds.Reference) (object 2 ∷ int 0 ∷ object 0 ∷ []) ≡ Some (of_class (codes "Dog"), object 0 ∷ object 0 ∷ [])
stored_reference = refl

stored_null : elements_after (Born 2) (StoreElement kinds.Reference) (object 2 ∷ int 1 ∷ Null ∷ []) ≡ Some (of_class (codes "Dog"), Null ∷ Null ∷ [])
stored_null = refl

-- ---- types at run time

types_at_run_time : PairAnswers does (
    (codes "cast up", CastClass (of_class (codes "Animal")), object 0 ∷ [], Leaves (object 0 ∷ [])) ∷
    (codes "cast to interface", CastClass (of_class (codes "IRun")), object 0 ∷ [], Leaves (object 0 ∷ [])) ∷
    (codes "cast to object", CastClass (plain Object), object 1 ∷ [], Leaves (object 1 ∷ [])) ∷
    (codes "cast of null", CastClass (of_class (codes "Dog")), Null ∷ [], Leaves (Null ∷ [])) ∷
    (codes "cast aside", CastClass (of_class (codes "Dog")), object 3 ∷ [], Faults InvalidCast) ∷
    (codes "cast array", CastClass (arrays_of (of_class (codes "Animal")) 1), object 2 ∷ [], Leaves (object 2 ∷ [])) ∷
    (codes "cast array down", CastClass (arrays_of (of_class (codes "Cat")) 1), object 2 ∷ [], Faults InvalidCast) ∷
    (codes "cast literal", CastClass (plain String), text (codes "a") ∷ [], Leaves (text (codes "a") ∷ [])) ∷
    (codes "cast integer", CastClass (plain Object), int 0 ∷ [], NoMeaning) ∷
    (codes "instance", IsInstance (of_class (codes "Animal")), object 0 ∷ [], Leaves (object 0 ∷ [])) ∷
    (codes "no instance", IsInstance (of_class (codes "Dog")), object 3 ∷ [], Leaves (Null ∷ [])) ∷
    (codes "instance of null", IsInstance (of_class (codes "Dog")), Null ∷ [], Leaves (Null ∷ [])) ∷
    [])
types_at_run_time = refl
