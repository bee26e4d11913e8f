-- What each instruction does to a stack of types: a result, and stacks on which it has none. Stacks are written as they were pushed.
use Rattle.std.proofs.Common.{◌≡◌, pos, negsuc, true, false, List, [], ◌∷◌, reverse, Option, Some, None, option_map, refl, codes}
use Rattle.cil_model.specs.declared.types.Element.TheVariants.{Int32 as Int32Element, Int64 as Int64Element, Object, String}
use Rattle.cil_model.specs.declared.types.Signature.{Signature}
use Rattle.cil_model.specs.declared.instructions.BinaryOperation.TheVariants.{Add}
use Rattle.cil_model.specs.declared.instructions.UnaryOperation.TheVariants.{Negate}
use Rattle.cil_model.specs.declared.instructions.ShiftOperation.TheVariants.{Left}
use Rattle.cil_model.specs.declared.instructions.Comparison.TheVariants.{Equal, Greater}
use Rattle.cil_model.specs.declared.instructions.BranchComparison.TheVariants.{NotEqual, Less}
use Rattle.cil_model.specs.declared.instructions.MethodName.TheVariants.{Named}
use Rattle.cil_model.specs.declared.instructions.BranchCondition.TheVariants as conditions
use Rattle.cil_model.specs.declared.instructions.ElementKind.TheVariants as kinds
use Rattle.cil_model.specs.declared.instructions.Instruction.{Instruction}
use Rattle.cil_model.specs.declared.instructions.Instruction.TheVariants.{NoOperation, LoadInt32, LoadInt64, LoadNull, LoadString, LoadArgument, StoreArgument, LoadLocal, StoreLocal, Duplicate, Pop, Binary, Unary, Shift, Compare, ConvertInt32, ConvertInt64, Branch, Switch, LoadField, StoreField, LoadStaticField, StoreStaticField, NewArray, LoadLength, LoadElement, StoreElement, CastClass, IsInstance, Call, CallVirtual, NewObject, Return}
use Rattle.cil_model.specs.Declarations.{object_name, plain}
use Rattle.cil_model.specs.TypeTree.{StackType, Declared, NativeInt, Null, i4, i8}
use Rattle.cil_model.specs.FlowRules.{flow}
use Rattle.definition_tests.proofs.Samples.Tables.{PairAnswers}
use Rattle.definition_tests.proofs.Samples.Programs.{no_types, of_class, arrays_of, reference_to}
use Rattle.definition_tests.proofs.Samples.FarmProgram.{farm, animal, dog, cat, runner, field_of_animal}

-- in a method of a Dog and a number, with a local Animal, that gives an Animal
abbrev gives : Instruction → List StackType → Option (List StackType)
gives i stack = option_map reverse (flow farm (of_class (codes "Dog") ∷ plain Int64Element ∷ []) (of_class (codes "Animal") ∷ []) (Some (of_class (codes "Animal"))) i (reverse stack))

-- in one that gives nothing
abbrev gives_void : Instruction → List StackType → Option (List StackType)
gives_void i stack = option_map reverse (flow farm [] [] None i (reverse stack))

abbrev dogs : StackType
dogs = Declared (arrays_of (of_class (codes "Dog")) 1)

abbrev a_dog : StackType
a_dog = Declared (of_class (codes "Dog"))

abbrev an_animal : StackType
an_animal = Declared (of_class (codes "Animal"))

abbrev a_cat : StackType
a_cat = Declared (of_class (codes "Cat"))

abbrev an_object : StackType
an_object = Declared (plain Object)

abbrev a_string : StackType
a_string = Declared (plain String)

abbrev ints : StackType
ints = Declared (arrays_of (plain Int32Element) 1)

abbrev longs : StackType
longs = Declared (arrays_of (plain Int64Element) 1)

abbrev takes_int : Signature
takes_int = record { parameters = plain Int32Element ∷ []; return_type = Some (plain Int32Element) }

-- ---- constants, arguments, locals

constants : PairAnswers gives (
    (codes "nothing", NoOperation, i4 ∷ [], Some (i4 ∷ [])) ∷
    (codes "constant", LoadInt32 (pos 1), i8 ∷ [], Some (i8 ∷ i4 ∷ [])) ∷
    (codes "long constant", LoadInt64 (pos 1), [], Some (i8 ∷ [])) ∷
    (codes "null constant", LoadNull, [], Some (Null ∷ [])) ∷
    (codes "literal", LoadString (codes "a"), [], Some (a_string ∷ [])) ∷
    (codes "argument", LoadArgument (pos 1), [], Some (i8 ∷ [])) ∷
    (codes "no argument", LoadArgument (pos 2), [], None) ∷
    (codes "negative argument", LoadArgument (negsuc 0), [], None) ∷
    (codes "to argument", StoreArgument (pos 0), i4 ∷ Null ∷ [], Some (i4 ∷ [])) ∷
    (codes "animal to dog", StoreArgument (pos 0), an_animal ∷ [], None) ∷
    (codes "local", LoadLocal (pos 0), [], Some (an_animal ∷ [])) ∷
    (codes "no local", LoadLocal (pos 1), [], None) ∷
    (codes "to local", StoreLocal (pos 0), a_dog ∷ [], Some []) ∷
    (codes "object to local", StoreLocal (pos 0), an_object ∷ [], None) ∷
    (codes "to no local", StoreLocal (pos 1), a_dog ∷ [], None) ∷
    (codes "duplicate", Duplicate, i4 ∷ NativeInt ∷ [], Some (i4 ∷ NativeInt ∷ NativeInt ∷ [])) ∷
    (codes "duplicate nothing", Duplicate, [], None) ∷
    (codes "popped", Pop, i4 ∷ NativeInt ∷ [], Some (i4 ∷ [])) ∷
    (codes "pop nothing", Pop, [], None) ∷
    [])
constants = refl

-- ---- integers

integers : PairAnswers gives (
    (codes "sum", Binary Add, i8 ∷ i8 ∷ [], Some (i8 ∷ [])) ∷
    (codes "mixed sum", Binary Add, i4 ∷ i8 ∷ [], None) ∷
    (codes "native sum", Binary Add, NativeInt ∷ NativeInt ∷ [], None) ∷
    (codes "negated", Unary Negate, i4 ∷ [], Some (i4 ∷ [])) ∷
    (codes "negated native", Unary Negate, NativeInt ∷ [], None) ∷
    (codes "shifted", Shift Left, i8 ∷ i4 ∷ [], Some (i8 ∷ [])) ∷
    (codes "shifted by long", Shift Left, i8 ∷ i8 ∷ [], None) ∷
    (codes "equal integers", Compare Equal, i8 ∷ i8 ∷ [], Some (i4 ∷ [])) ∷
    (codes "equal references", Compare Equal, a_dog ∷ Null ∷ [], Some (i4 ∷ [])) ∷
    (codes "equal natives", Compare Equal, NativeInt ∷ NativeInt ∷ [], None) ∷
    (codes "equal mixed", Compare Equal, i4 ∷ Null ∷ [], None) ∷
    (codes "greater", Compare Greater, i4 ∷ i4 ∷ [], Some (i4 ∷ [])) ∷
    (codes "greater references", Compare Greater, a_dog ∷ a_dog ∷ [], None) ∷
    (codes "native converted", ConvertInt32, NativeInt ∷ [], Some (i4 ∷ [])) ∷
    (codes "long converted", ConvertInt32, i8 ∷ [], Some (i4 ∷ [])) ∷
    (codes "int extended", ConvertInt64, i4 ∷ [], Some (i8 ∷ [])) ∷
    (codes "null converted", ConvertInt64, Null ∷ [], None) ∷
    [])
integers = refl

-- ---- branches

branches : PairAnswers gives (
    (codes "branch", Branch conditions.Always (codes "A"), i4 ∷ [], Some (i4 ∷ [])) ∷
    (codes "true integer", Branch conditions.IfTrue (codes "A"), i8 ∷ [], Some []) ∷
    (codes "true reference", Branch conditions.IfTrue (codes "A"), Null ∷ [], Some []) ∷
    (codes "true native", Branch conditions.IfTrue (codes "A"), NativeInt ∷ [], None) ∷
    (codes "false reference", Branch conditions.IfFalse (codes "A"), ints ∷ [], Some []) ∷
    (codes "false native", Branch conditions.IfFalse (codes "A"), NativeInt ∷ [], None) ∷
    (codes "unequal references", Branch (conditions.Compare NotEqual) (codes "A"), a_dog ∷ ints ∷ [], Some []) ∷
    (codes "less integers", Branch (conditions.Compare Less) (codes "A"), i4 ∷ i4 ∷ i4 ∷ [], Some (i4 ∷ [])) ∷
    (codes "less references", Branch (conditions.Compare Less) (codes "A"), a_dog ∷ a_dog ∷ [], None) ∷
    (codes "switch", Switch (codes "A" ∷ []), i4 ∷ [], Some []) ∷
    (codes "switch on long", Switch (codes "A" ∷ []), i8 ∷ [], None) ∷
    [])
branches = refl

-- ---- fields

fields : PairAnswers gives (
    (codes "field", LoadField (field_of_animal (plain Int32Element) (codes "age")), a_dog ∷ [], Some (i4 ∷ [])) ∷
    (codes "field of null", LoadField (field_of_animal (plain Int32Element) (codes "age")), Null ∷ [], Some (i4 ∷ [])) ∷
    (codes "field of animal by dog", LoadField (field_of_animal (plain Int32Element) (codes "age")), an_animal ∷ [], None) ∷
    (codes "static by ldfld", LoadField (field_of_animal (plain Int32Element) (codes "count")), a_dog ∷ [], None) ∷
    (codes "store field", StoreField (field_of_animal (of_class (codes "Animal")) (codes "friend")), a_dog ∷ a_cat ∷ [], Some []) ∷
    (codes "store object", StoreField (field_of_animal (of_class (codes "Animal")) (codes "friend")), a_dog ∷ an_object ∷ [], None) ∷
    (codes "static", LoadStaticField (field_of_animal (plain Object) (codes "lock")), [], Some (an_object ∷ [])) ∷
    (codes "store static", StoreStaticField (field_of_animal (plain Object) (codes "lock")), ints ∷ [], Some []) ∷
    (codes "store integer static", StoreStaticField (field_of_animal (plain Object) (codes "lock")), i4 ∷ [], None) ∷
    [])
fields = refl

-- ---- arrays

arrays : PairAnswers gives (
    (codes "new array", NewArray (of_class (codes "Dog")), NativeInt ∷ [], Some (dogs ∷ [])) ∷
    (codes "new array of long", NewArray (of_class (codes "Dog")), i8 ∷ [], None) ∷
    (codes "length", LoadLength, dogs ∷ [], Some (NativeInt ∷ [])) ∷
    (codes "length of null", LoadLength, Null ∷ [], Some (NativeInt ∷ [])) ∷
    (codes "length of string", LoadLength, a_string ∷ [], None) ∷
    (codes "int element", LoadElement kinds.Int32, ints ∷ i4 ∷ [], Some (i4 ∷ [])) ∷
    (codes "int element of null", LoadElement kinds.Int32, Null ∷ NativeInt ∷ [], Some (i4 ∷ [])) ∷
    (codes "int element of longs", LoadElement kinds.Int32, longs ∷ i4 ∷ [], None) ∷
    (codes "long element", LoadElement kinds.Int64, longs ∷ i4 ∷ [], Some (i8 ∷ [])) ∷
    (codes "long element by long", LoadElement kinds.Int64, longs ∷ i8 ∷ [], None) ∷
    (codes "reference element", LoadElement kinds.Reference, dogs ∷ i4 ∷ [], Some (a_dog ∷ [])) ∷
    (codes "reference element of null", LoadElement kinds.Reference, Null ∷ i4 ∷ [], Some (Null ∷ [])) ∷
    (codes "reference element of integers", LoadElement kinds.Reference, ints ∷ i4 ∷ [], None) ∷
    (codes "store int", StoreElement kinds.Int32, ints ∷ i4 ∷ i4 ∷ [], Some []) ∷
    (codes "store long as int", StoreElement kinds.Int32, ints ∷ i4 ∷ i8 ∷ [], None) ∷
    (codes "store long", StoreElement kinds.Int64, Null ∷ NativeInt ∷ i8 ∷ [], Some []) ∷
    (codes "store long among ints", StoreElement kinds.Int64, ints ∷ i4 ∷ i8 ∷ [], None) ∷
    (codes "store any reference", StoreElement kinds.Reference, dogs ∷ i4 ∷ a_string ∷ [], Some []) ∷
    (codes "store integer", StoreElement kinds.Reference, dogs ∷ i4 ∷ i4 ∷ [], None) ∷
    (codes "store among integers", StoreElement kinds.Reference, ints ∷ i4 ∷ Null ∷ [], None) ∷
    [])
arrays = refl

-- ---- casts

casts : PairAnswers gives (
    (codes "cast", CastClass (of_class (codes "IRun")), a_cat ∷ [], Some (Declared (of_class (codes "IRun")) ∷ [])) ∷
    (codes "cast integer", CastClass (plain Object), i4 ∷ [], None) ∷
    (codes "cast to integer", CastClass (plain Int32Element), Null ∷ [], None) ∷
    (codes "instance", IsInstance (of_class (codes "Dog")), Null ∷ [], Some (a_dog ∷ [])) ∷
    (codes "instance of native", IsInstance (of_class (codes "Dog")), NativeInt ∷ [], None) ∷
    [])
casts = refl

-- ---- calls

calls : PairAnswers gives (
    (codes "call", Call true (record { owner = dog; name = Named (codes "g"); signature = takes_int }), a_dog ∷ i4 ∷ [], Some (i4 ∷ [])) ∷
    (codes "call on animal", Call true (record { owner = dog; name = Named (codes "g"); signature = takes_int }), an_animal ∷ i4 ∷ [], None) ∷
    (codes "call with long", Call true (record { owner = dog; name = Named (codes "g"); signature = takes_int }), a_dog ∷ i8 ∷ [], None) ∷
    (codes "call static", Call false (reference_to animal (Named (codes "h")) (plain Object ∷ [])), i4 ∷ ints ∷ [], Some (i4 ∷ [])) ∷
    (codes "call of abstract", Call true (reference_to runner (Named (codes "f")) []), a_dog ∷ [], None) ∷
    (codes "virtual call", CallVirtual runner (codes "f") no_types, a_dog ∷ [], Some []) ∷
    (codes "virtual call on cat", CallVirtual runner (codes "f") no_types, a_cat ∷ [], None) ∷
    (codes "virtual call of static", CallVirtual animal (codes "h") no_types, an_object ∷ [], None) ∷
    (codes "new object", NewObject cat [], i4 ∷ [], Some (i4 ∷ a_cat ∷ [])) ∷
    (codes "new system object", NewObject object_name [], [], Some (an_object ∷ [])) ∷
    (codes "new interface", NewObject runner [], [], None) ∷
    [])
calls = refl

-- ---- ret

ret : PairAnswers gives (
    (codes "return value", Return, a_dog ∷ [], Some []) ∷
    (codes "return other", Return, an_object ∷ [], None) ∷
    (codes "return over more", Return, i4 ∷ a_dog ∷ [], None) ∷
    (codes "return without value", Return, [], None) ∷
    [])
ret = refl

return_void : gives_void Return [] ≡ Some []
return_void = refl

return_void_over_more : gives_void Return (i4 ∷ []) ≡ None
return_void_over_more = refl
