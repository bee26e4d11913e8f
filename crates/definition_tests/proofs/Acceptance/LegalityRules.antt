-- Each rule of legality, clause by clause, on a tree that breaks it alone, beside trees that do not.
use Rattle.std.proofs.Common.{ℕ, pos, negsuc, Bool, true, false, List, [], ◌∷◌, ◌++◌, replicate, Some, None, refl, codes}
use Rattle.cil_model.specs.declared.types.ClassName.{ClassName}
use Rattle.cil_model.specs.declared.types.DeclaredType.{DeclaredType}
use Rattle.cil_model.specs.declared.types.Element.TheVariants.{Int32, Int64, Object, Class as ClassElement}
use Rattle.cil_model.specs.declared.types.Signature.{Signature}
use Rattle.cil_model.specs.declared.instructions.FieldReference.{FieldReference}
use Rattle.cil_model.specs.declared.instructions.MethodName.TheVariants.{Named}
use Rattle.cil_model.specs.declared.instructions.BranchCondition.TheVariants as conditions
use Rattle.cil_model.specs.declared.instructions.Instruction.{Instruction}
use Rattle.cil_model.specs.declared.instructions.Instruction.TheVariants.{NoOperation, Branch, Switch, LoadField, LoadStaticField, StoreField, Call, CallVirtual, NewObject, NewArray, CastClass, IsInstance, Return}
use Rattle.cil_model.specs.declared.trees.Class.{Class}
use Rattle.cil_model.specs.declared.trees.ClassKind.TheVariants.{Class as PlainClass}
use Rattle.cil_model.specs.declared.trees.Code.{Code}
use Rattle.cil_model.specs.declared.trees.Line.{Line}
use Rattle.cil_model.specs.declared.trees.Member.{Member}
use Rattle.cil_model.specs.declared.trees.Member.TheVariants.{Field as FieldMember, Method as MethodMember}
use Rattle.cil_model.specs.declared.trees.MethodKind.{MethodKind}
use Rattle.cil_model.specs.declared.trees.MethodKind.TheVariants.{Static, Instance, Virtual, Abstract}
use Rattle.cil_model.specs.declared.trees.Tree.{Tree}
use Rattle.cil_model.specs.Declarations.{mscorlib, object_name, string_name, console_name, thread_name, plain, void_method}
use Rattle.cil_model.specs.Legality.{least_broken, passes_limit}
use Rattle.cil_model.specs.Examples.{unlabelled_line}
use Rattle.definition_tests.proofs.Samples.Tables.{Answers}
use Rattle.definition_tests.proofs.Samples.Programs.{named, no_types, of_class, arrays_of, class_with, interface_with, code_with, constructor_over, virtual_f, abstract_f, reference_to, with_main, without_main}

-- ---- trees

abbrev a : ClassName
a = named (codes "A")

abbrev i : ClassName
i = named (codes "I")

abbrev interface_i : Class
interface_i = interface_with (codes "I") (abstract_f ∷ [])

abbrev returns : List Line
returns = unlabelled_line Return ∷ []

-- these classes beside P, whose Main returns
abbrev beside : List Class → Tree
beside classes = with_main classes [] returns

-- one class A over `object`
abbrev a_with : List Member → Tree
a_with members = beside (class_with (codes "A") object_name [] members ∷ [])

-- Main's lines, where class A has a field, a static field, and a method of each kind
abbrev field_of : Bool → DeclaredType → List ℕ → Member
field_of is_static t name = FieldMember (record { is_static = is_static; field_type = t; name = name })

abbrev void : MethodKind → List ℕ → List DeclaredType → Member
void kind name parameters = MethodMember (void_method (Named name) parameters kind)

abbrev plain_code : Code
plain_code = code_with [] (Return ∷ [])

abbrev full_a : Class
full_a = class_with (codes "A") object_name [] (field_of false (plain Int32) (codes "x") ∷ field_of true (plain Int32) (codes "s") ∷ void (Instance plain_code) (codes "m") [] ∷ void (Static plain_code) (codes "k") (plain Int32 ∷ []) ∷ constructor_over object_name ∷ [])

abbrev main_lines : List Line → Tree
main_lines lines = with_main (full_a ∷ class_with (codes "B") a [] [] ∷ interface_i ∷ []) [] lines

abbrev main_does : Instruction → Tree
main_does instruction = main_lines (unlabelled_line instruction ∷ returns)

abbrev field_ref : DeclaredType → ClassName → List ℕ → FieldReference
field_ref t owner name = record { field_type = t; owner = owner; name = name }

abbrev lines_labelled : List (List ℕ) → List Line
lines_labelled labels = record { labels = labels; instruction = NoOperation } ∷ returns

-- Main alone, with another kind, parameters and result
abbrev entry : MethodKind → Signature → Tree
entry kind signature = without_main (class_with (codes "P") object_name [] (MethodMember (record { name = Named (codes "Main"); signature = signature; kind = kind }) ∷ []) ∷ [])

abbrev entry_code : Code
entry_code = record plain_code { is_entry_point = true }

-- a static method of P with this code and these parameters
abbrev with_code : Code → List DeclaredType → Tree
with_code code parameters = without_main (class_with (codes "P") object_name [] (MethodMember (void_method (Named (codes "k")) parameters (Static code)) ∷ []) ∷ [])

-- ---- 201: a duplicate name

duplicate_names : Answers least_broken (
    (codes "main is legal", main_lines returns, None) ∷
    (codes "two externs", record (beside []) { externs = mscorlib ∷ mscorlib ∷ [] }, Some 201) ∷
    (codes "two classes", beside (class_with (codes "A") object_name [] [] ∷ class_with (codes "A") object_name [] [] ∷ []), Some 201) ∷
    (codes "class and interface", beside (class_with (codes "A") object_name [] [] ∷ interface_with (codes "A") [] ∷ []), Some 201) ∷
    (codes "two fields", a_with (field_of false (plain Int32) (codes "x") ∷ field_of true (plain Object) (codes "x") ∷ []), Some 201) ∷
    (codes "two methods", a_with (void (Instance plain_code) (codes "m") [] ∷ void (Static plain_code) (codes "m") [] ∷ []), Some 201) ∷
    (codes "two constructors", a_with (constructor_over object_name ∷ constructor_over object_name ∷ []), Some 201) ∷
    (codes "two signatures", a_with (void (Instance plain_code) (codes "m") [] ∷ void (Instance plain_code) (codes "m") (plain Int32 ∷ []) ∷ []), None) ∷
    (codes "field and method", a_with (field_of false (plain Int32) (codes "m") ∷ void (Instance plain_code) (codes "m") [] ∷ []), None) ∷
    (codes "two labels on a line", main_lines (lines_labelled (codes "L" ∷ codes "L" ∷ [])), Some 201) ∷
    (codes "two labels on two lines", main_lines (lines_labelled (codes "L" ∷ []) ++ lines_labelled (codes "L" ∷ [])), Some 201) ∷
    (codes "two labels of two names", main_lines (lines_labelled (codes "L" ∷ codes "K" ∷ [])), None) ∷
    (codes "interface twice", beside (interface_i ∷ class_with (codes "A") object_name (i ∷ i ∷ []) (virtual_f true ∷ []) ∷ []), Some 201) ∷
    (codes "brackets tell names apart", beside (interface_i ∷ class_with (codes "A") object_name (i ∷ record { assembly = Some (codes "x"); name = codes "I" } ∷ []) (virtual_f true ∷ []) ∷ []), Some 202) ∷
    [])
duplicate_names = refl

-- ---- 202: a name refers to nothing of the kind needed

names_without_their_kind : Answers least_broken (
    (codes "other extern", record (beside []) { externs = mscorlib ∷ codes "x" ∷ [] }, Some 202) ∷
    (codes "extern not declared", record (beside []) { externs = [] }, Some 202) ∷
    (codes "no built in class", main_does (NewObject (record { assembly = Some mscorlib; name = codes "System.Int32" }) []), Some 202) ∷
    (codes "base string", beside (class_with (codes "A") string_name [] [] ∷ []), Some 202) ∷
    (codes "base interface", beside (interface_i ∷ class_with (codes "A") i [] [] ∷ []), Some 202) ∷
    (codes "base unknown", beside (class_with (codes "A") (named (codes "Z")) [] [] ∷ []), Some 202) ∷
    (codes "base thread", beside (class_with (codes "A") thread_name [] [] ∷ []), None) ∷
    (codes "own class of a built in name", beside (class_with (codes "System.Object") object_name [] [] ∷ class_with (codes "A") (named (codes "System.Object")) [] [] ∷ []), None) ∷
    (codes "implements class", beside (class_with (codes "A") object_name [] [] ∷ class_with (codes "B") object_name (a ∷ []) [] ∷ []), Some 202) ∷
    (codes "type object as class", a_with (field_of false (plain (ClassElement object_name)) (codes "x") ∷ []), Some 202) ∷
    (codes "type console", a_with (field_of false (plain (ClassElement console_name)) (codes "x") ∷ []), Some 202) ∷
    (codes "type thread", a_with (field_of false (plain (ClassElement thread_name)) (codes "x") ∷ []), None) ∷
    (codes "type unknown", a_with (field_of false (of_class (codes "Z")) (codes "x") ∷ []), Some 202) ∷
    (codes "type unknown in signature", a_with (void (Static plain_code) (codes "m") (of_class (codes "Z") ∷ []) ∷ []), Some 202) ∷
    (codes "no label", main_does (Branch conditions.Always (codes "L")), Some 202) ∷
    (codes "no label of switch", main_lines (record { labels = codes "L" ∷ []; instruction = Switch (codes "L" ∷ codes "K" ∷ []) } ∷ returns), Some 202) ∷
    (codes "field found", main_does (LoadField (field_ref (plain Int32) (named (codes "B")) (codes "x"))), None) ∷
    (codes "no field", main_does (LoadField (field_ref (plain Int32) a (codes "y"))), Some 202) ∷
    (codes "field of other type", main_does (LoadField (field_ref (plain Int64) a (codes "x"))), Some 202) ∷
    (codes "field that is static", main_does (LoadField (field_ref (plain Int32) a (codes "s"))), Some 202) ∷
    (codes "static found", main_does (LoadStaticField (field_ref (plain Int32) (named (codes "B")) (codes "s"))), None) ∷
    (codes "static that is none", main_does (LoadStaticField (field_ref (plain Int32) a (codes "x"))), Some 202) ∷
    (codes "owner unknown", main_does (StoreField (field_ref (plain Int32) (named (codes "Z")) (codes "x"))), Some 202) ∷
    (codes "method found", main_does (Call true (reference_to (named (codes "B")) (Named (codes "m")) [])), None) ∷
    (codes "static method found", main_does (Call false (reference_to (named (codes "B")) (Named (codes "k")) (plain Int32 ∷ []))), None) ∷
    (codes "method as static", main_does (Call false (reference_to a (Named (codes "m")) [])), Some 202) ∷
    (codes "static as method", main_does (CallVirtual a (codes "k") (record { parameters = plain Int32 ∷ []; return_type = None })), Some 202) ∷
    (codes "method of other parameters", main_does (Call true (reference_to a (Named (codes "m")) (plain Int32 ∷ []))), Some 202) ∷
    (codes "method of other result", main_does (CallVirtual a (codes "m") (record { parameters = []; return_type = Some (plain Int32) })), Some 202) ∷
    (codes "constructor found", main_does (NewObject a []), None) ∷
    (codes "constructor of base alone", main_does (NewObject (named (codes "B")) []), Some 202) ∷
    (codes "member of built in", main_does (Call true (reference_to thread_name (Named (codes "Join")) [])), None) ∷
    (codes "no member of built in", main_does (Call true (reference_to thread_name (Named (codes "Stop")) [])), Some 202) ∷
    [])
names_without_their_kind = refl

-- a type that refers to nothing, at each position where a type may be written
abbrev z : DeclaredType
z = of_class (codes "Z")

-- A with a static method that has this local
abbrev with_local : DeclaredType → Tree
with_local t = a_with (void (Static (code_with (t ∷ []) (Return ∷ []))) (codes "m") [] ∷ [])

-- no parameters, and this result
abbrev returning : DeclaredType → Signature
returning t = record { parameters = []; return_type = Some t }

types_without_a_class : Answers least_broken (
    (codes "local found", with_local (of_class (codes "A")), None) ∷
    (codes "local unknown", with_local z, Some 202) ∷
    (codes "local console", with_local (plain (ClassElement console_name)), Some 202) ∷
    (codes "local array unknown", with_local (arrays_of z 1), Some 202) ∷
    (codes "result unknown", a_with (MethodMember (record { name = Named (codes "m"); signature = returning z; kind = Static plain_code }) ∷ []), Some 202) ∷
    (codes "array found", main_does (NewArray (of_class (codes "I"))), None) ∷
    (codes "array unknown", main_does (NewArray z), Some 202) ∷
    (codes "cast found", main_does (CastClass (of_class (codes "I"))), None) ∷
    (codes "cast unknown", main_does (CastClass z), Some 202) ∷
    (codes "cast array unknown", main_does (CastClass (arrays_of z 2)), Some 202) ∷
    -- `string` has a word of its own, and its class is no type after `class`
    (codes "cast string by class", main_does (CastClass (plain (ClassElement string_name))), Some 202) ∷
    (codes "instance found", main_does (IsInstance (plain (ClassElement thread_name))), None) ∷
    (codes "instance unknown", main_does (IsInstance z), Some 202) ∷
    -- a bracketed name is looked for among the built-in classes alone, and A is none
    (codes "instance in other assembly", main_does (IsInstance (plain (ClassElement (record { assembly = Some mscorlib; name = codes "A" })))), Some 202) ∷
    -- a method with that signature would need the type, so an unknown type in a call's signature finds none
    (codes "call of unknown parameter", main_does (Call false (reference_to a (Named (codes "k")) (z ∷ []))), Some 202) ∷
    (codes "call of unknown result", main_does (Call true (record { owner = a; name = Named (codes "m"); signature = returning z })), Some 202) ∷
    (codes "virtual call of unknown result", main_does (CallVirtual a (codes "m") (returning z)), Some 202) ∷
    (codes "constructor of unknown parameter", main_does (NewObject a (z ∷ [])), Some 202) ∷
    (codes "call owner unknown", main_does (Call false (reference_to (named (codes "Z")) (Named (codes "k")) (plain Int32 ∷ []))), Some 202) ∷
    (codes "constructor owner unknown", main_does (NewObject (named (codes "Z")) []), Some 202) ∷
    [])
types_without_a_class = refl

-- ---- 203: a class in its own chain

cycles : Answers least_broken (
    (codes "own base", beside (class_with (codes "A") a [] [] ∷ []), Some 203) ∷
    (codes "two in a cycle", beside (class_with (codes "A") (named (codes "B")) [] [] ∷ class_with (codes "B") a [] [] ∷ []), Some 203) ∷
    (codes "cycle before 204", beside (interface_i ∷ class_with (codes "A") a (i ∷ []) [] ∷ []), Some 203) ∷
    [])
cycles = refl

-- ---- 204: an interface's method is absent

absent_methods : Answers least_broken (
    (codes "absent", beside (interface_i ∷ class_with (codes "A") object_name (i ∷ []) [] ∷ []), Some 204) ∷
    (codes "not virtual", beside (interface_i ∷ class_with (codes "A") object_name (i ∷ []) (void (Instance plain_code) (codes "f") [] ∷ []) ∷ []), Some 204) ∷
    (codes "of other signature", beside (interface_i ∷ class_with (codes "A") object_name (i ∷ []) (void (Virtual true plain_code) (codes "f") (plain Int32 ∷ []) ∷ []) ∷ []), Some 204) ∷
    (codes "inherited", beside (interface_i ∷ class_with (codes "A") object_name [] (virtual_f true ∷ []) ∷ class_with (codes "B") a (i ∷ []) [] ∷ []), None) ∷
    (codes "by run of thread", beside (interface_with (codes "R") (void (Abstract true) (codes "Run") [] ∷ []) ∷ class_with (codes "A") thread_name (named (codes "R") ∷ []) [] ∷ []), None) ∷
    [])
absent_methods = refl

-- an abstract class that lists an interface has each of its methods too, as a virtual or an abstract one (this profile)
abbrev abstract_with : List Member → Class
abstract_with members = record { name = codes "A"; kind = PlainClass true object_name (i ∷ []); members = members }

absent_methods_of_abstract_classes : Answers least_broken (
    (codes "absent in abstract class", beside (interface_i ∷ abstract_with [] ∷ []), Some 204) ∷
    (codes "abstract for abstract class", beside (interface_i ∷ abstract_with (abstract_f ∷ []) ∷ []), None) ∷
    (codes "virtual for abstract class", beside (interface_i ∷ abstract_with (virtual_f true ∷ []) ∷ []), None) ∷
    -- it does not wait for a class below it
    (codes "filled below abstract class", beside (interface_i ∷ abstract_with [] ∷ class_with (codes "B") a [] (virtual_f true ∷ []) ∷ []), Some 204) ∷
    -- a class below that lists nothing itself has only to fill the slot (205)
    (codes "open below abstract class", beside (interface_i ∷ abstract_with (abstract_f ∷ []) ∷ class_with (codes "B") a [] [] ∷ []), Some 205) ∷
    -- an abstract method of a base implements it, and the open slot breaks the next rule
    (codes "by abstract of base", beside (interface_i ∷ record { name = codes "A"; kind = PlainClass true object_name []; members = abstract_f ∷ [] } ∷ class_with (codes "B") a (i ∷ []) [] ∷ []), Some 205) ∷
    -- of two interfaces each has to be there
    (codes "second of two absent", beside (interface_i ∷ interface_with (codes "J") (void (Abstract true) (codes "g") [] ∷ []) ∷ record { name = codes "A"; kind = PlainClass true object_name (i ∷ named (codes "J") ∷ []); members = abstract_f ∷ [] } ∷ []), Some 204) ∷
    [])
absent_methods_of_abstract_classes = refl

-- ---- 205: a method's kind doesn't fit

kinds_that_differ : Answers least_broken (
    (codes "interface without newslot", beside (interface_with (codes "J") (void (Abstract false) (codes "f") [] ∷ []) ∷ []), Some 205) ∷
    (codes "interface with code", beside (interface_with (codes "J") (void (Virtual true plain_code) (codes "f") [] ∷ []) ∷ []), Some 205) ∷
    (codes "abstract in plain class", a_with (abstract_f ∷ []), Some 205) ∷
    (codes "over plain method", beside (class_with (codes "A") object_name [] (void (Instance plain_code) (codes "f") [] ∷ []) ∷ class_with (codes "B") a [] (virtual_f false ∷ []) ∷ []), Some 205) ∷
    (codes "newslot over plain method", beside (class_with (codes "A") object_name [] (void (Instance plain_code) (codes "f") [] ∷ []) ∷ class_with (codes "B") a [] (virtual_f true ∷ []) ∷ []), None) ∷
    (codes "over start of thread", beside (class_with (codes "A") thread_name [] (void (Virtual false plain_code) (codes "Start") [] ∷ []) ∷ []), Some 205) ∷
    (codes "over nothing", a_with (virtual_f false ∷ []), None) ∷
    [])
kinds_that_differ = refl

-- ---- 206: the entry point

entry_points : Answers least_broken (
    (codes "one entry", entry (Static entry_code) no_types, None) ∷
    (codes "no entry", entry (Static plain_code) no_types, Some 206) ∷
    (codes "two entries", with_main [] (MethodMember (void_method (Named (codes "k")) [] (Static entry_code)) ∷ []) returns, Some 206) ∷
    (codes "entry of instance", entry (Instance entry_code) no_types, Some 206) ∷
    (codes "entry with parameter", entry (Static entry_code) (record { parameters = plain Int32 ∷ []; return_type = None }), Some 206) ∷
    (codes "entry with result", entry (Static entry_code) (record { parameters = []; return_type = Some (plain Int32) }), Some 206) ∷
    (codes "no class", without_main [], Some 206) ∷
    [])
entry_points = refl

-- ---- 207: limits, each at its last allowed value and one beyond

limits : Answers passes_limit (
    (codes "classes", without_main (replicate 257 interface_i), true) ∷
    (codes "methods", without_main (class_with (codes "P") object_name [] (replicate 1025 (virtual_f true)) ∷ []), true) ∷
    (codes "static fields", without_main (class_with (codes "P") object_name [] (replicate 1025 (field_of true (plain Int32) (codes "x"))) ∷ []), true) ∷
    (codes "instance fields", without_main (class_with (codes "P") object_name [] (replicate 64 (field_of false (plain Int32) (codes "x"))) ∷ []), false) ∷
    (codes "too many instance fields", without_main (class_with (codes "P") object_name [] (replicate 65 (field_of false (plain Int32) (codes "x"))) ∷ []), true) ∷
    (codes "inherited fields", without_main (class_with (codes "P") object_name [] (replicate 64 (field_of false (plain Int32) (codes "x"))) ∷ class_with (codes "Q") (named (codes "P")) [] (field_of false (plain Int32) (codes "y") ∷ []) ∷ []), true) ∷
    (codes "hidden field not counted", without_main (class_with (codes "P") thread_name [] (replicate 64 (field_of false (plain Int32) (codes "x"))) ∷ []), false) ∷
    (codes "instructions", with_code (record plain_code { lines = replicate 4097 (unlabelled_line Return) }) [], true) ∷
    (codes "targets", with_code (code_with [] (Switch (replicate 256 (codes "L")) ∷ [])) [], false) ∷
    (codes "too many targets", with_code (code_with [] (Switch (replicate 257 (codes "L")) ∷ [])) [], true) ∷
    (codes "locals", with_code (code_with (replicate 64 (plain Int32)) []) [], false) ∷
    (codes "too many locals", with_code (code_with (replicate 65 (plain Int32)) []) [], true) ∷
    (codes "arguments", with_code plain_code (replicate 16 (plain Int32)), false) ∷
    (codes "too many arguments", with_code plain_code (replicate 17 (plain Int32)), true) ∷
    (codes "this is counted", without_main (class_with (codes "P") object_name [] (MethodMember (void_method (Named (codes "k")) (replicate 16 (plain Int32)) (Abstract true)) ∷ []) ∷ []), true) ∷
    (codes "stack", with_code (record plain_code { max_stack = pos 64 }) [], false) ∷
    (codes "too high stack", with_code (record plain_code { max_stack = pos 65 }) [], true) ∷
    (codes "negative stack", with_code (record plain_code { max_stack = negsuc 0 }) [], true) ∷
    (codes "brackets", with_code plain_code (arrays_of (plain Int32) 8 ∷ []), false) ∷
    (codes "too many brackets", with_code plain_code (arrays_of (plain Int32) 9 ∷ []), true) ∷
    (codes "array of seven", with_code (code_with [] (NewArray (arrays_of (plain Int32) 7) ∷ [])) [], false) ∷
    (codes "array of eight", with_code (code_with [] (NewArray (arrays_of (plain Int32) 8) ∷ [])) [], true) ∷
    [])
limits = refl

-- ---- open slots: an abstract class may leave a slot to its heirs, and one that isn't abstract may not

abbrev abstract_a : Class
abstract_a = record { name = codes "A"; kind = PlainClass true object_name []; members = abstract_f ∷ [] }

open_slots : Answers least_broken (
    (codes "open in abstract class", beside (abstract_a ∷ []), None) ∷
    (codes "open slot", beside (abstract_a ∷ class_with (codes "B") a [] [] ∷ []), Some 205) ∷
    (codes "filled slot", beside (abstract_a ∷ class_with (codes "B") a [] (virtual_f false ∷ []) ∷ []), None) ∷
    -- newslot takes another slot, so the abstract one stays open
    (codes "hidden slot", beside (abstract_a ∷ class_with (codes "B") a [] (virtual_f true ∷ []) ∷ []), Some 205) ∷
    (codes "over static", beside (class_with (codes "A") object_name [] (void (Static plain_code) (codes "f") [] ∷ []) ∷ class_with (codes "B") a [] (virtual_f false ∷ []) ∷ []), Some 205) ∷
    [])
open_slots = refl
