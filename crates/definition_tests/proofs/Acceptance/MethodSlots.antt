-- Slots, targets and look-ups: hiding, newslot, static methods between, and an interface that is listed again.
use Rattle.std.proofs.Common.{◌≡◌, ℕ, true, false, List, [], ◌∷◌, Option, Some, None, option_map, refl, codes}
use Rattle.cil_model.specs.declared.types.ClassName.{ClassName}
use Rattle.cil_model.specs.declared.types.Element.TheVariants.{Int32, Int64, Object, String}
use Rattle.cil_model.specs.declared.instructions.MethodName.TheVariants.{Constructor, Named}
use Rattle.cil_model.specs.declared.instructions.Instruction.TheVariants.{NewObject, Return}
use Rattle.cil_model.specs.declared.trees.Class.{Class}
use Rattle.cil_model.specs.declared.trees.ClassKind.TheVariants.{Class as PlainClass}
use Rattle.cil_model.specs.declared.trees.Field.{Field}
use Rattle.cil_model.specs.declared.trees.Member.{Member}
use Rattle.cil_model.specs.declared.trees.Member.TheVariants.{Field as FieldMember, Method as MethodMember}
use Rattle.cil_model.specs.declared.trees.Method.{Method}
use Rattle.cil_model.specs.declared.trees.MethodKind.TheVariants.{Static, Instance, Abstract}
use Rattle.cil_model.specs.declared.trees.Tree.{Tree}
use Rattle.cil_model.specs.Declarations.{object_name, thread_name, run_method, plain, void_method}
use Rattle.cil_model.specs.Chains.{chain_of, find_field, find_method}
use Rattle.cil_model.specs.Slots.{target}
use Rattle.cil_model.specs.Fields.{FieldKey, static_slot, instance_slot, is_reference_slot, slot_types}
use Rattle.cil_model.specs.FlowRules.{flow}
use Rattle.definition_tests.proofs.Samples.Tables.{Answers, PairAnswers}
use Rattle.definition_tests.proofs.Samples.Programs.{named, class_with, interface_with, without_main, virtual_f, abstract_f, code_with, constructor_over, reference_to, thread_class}

abbrev a : ClassName
a = named (codes "A")

abbrev b : ClassName
b = named (codes "B")

abbrev c : ClassName
c = named (codes "C")

abbrev d : ClassName
d = named (codes "D")

abbrev i : ClassName
i = named (codes "I")

-- a reference to the method f, whose kind counts only as virtual or not
abbrev f : Method
f = void_method (Named (codes "f")) [] (Abstract true)

abbrev plain_f : Method
plain_f = void_method (Named (codes "f")) [] (Instance (code_with [] (Return ∷ [])))

abbrev static_f : Member
static_f = MethodMember (void_method (Named (codes "f")) [] (Static (code_with [] (Return ∷ []))))

abbrev runs_in : Option (ClassName × Method) → Option ClassName
runs_in found = option_map (λ (m : ClassName × Method). m.0) found

abbrev interface_i : Class
interface_i = interface_with (codes "I") (abstract_f ∷ [])

abbrev over_a : List Class → Tree
over_a classes = without_main (interface_i ∷ class_with (codes "A") object_name [] (virtual_f true ∷ []) ∷ classes)

abbrev fields : Tree
fields = without_main (
    class_with (codes "A") object_name [] (
    FieldMember (record { is_static = false; field_type = plain Int32; name = codes "x" }) ∷
    FieldMember (record { is_static = true; field_type = plain Int32; name = codes "s" }) ∷
    FieldMember (record { is_static = false; field_type = plain Object; name = codes "y" }) ∷ []) ∷
    class_with (codes "B") a [] (
    FieldMember (record { is_static = false; field_type = plain Int64; name = codes "x" }) ∷
    FieldMember (record { is_static = true; field_type = plain Object; name = codes "y" }) ∷ []) ∷
    class_with (codes "T") thread_name [] (FieldMember (record { is_static = false; field_type = plain String; name = codes "x" }) ∷ []) ∷ [])

abbrev key : ClassName → List ℕ → FieldKey
key owner name = record { declared_in = owner; name = name }

abbrev found_in : Option (ClassName × Field) → Option ClassName
found_in found = option_map (λ (x : ClassName × Field). x.0) found

-- ---- slots of virtual methods

slots_of_virtual_methods : Answers runs_in (
    (codes "own slot", target (over_a []) a a f, Some a) ∷
    (codes "inherited method", target (over_a (class_with (codes "B") a [] [] ∷ [])) b a f, Some a) ∷
    (codes "overridden", target (over_a (class_with (codes "B") a [] (virtual_f false ∷ []) ∷ [])) b a f, Some b) ∷
    (codes "of the base itself", target (over_a (class_with (codes "B") a [] (virtual_f false ∷ []) ∷ [])) a a f, Some a) ∷
    (codes "hidden", target (over_a (class_with (codes "B") a [] (virtual_f true ∷ []) ∷ [])) b a f, Some a) ∷
    (codes "hidden and overridden", target (over_a (class_with (codes "B") a [] (virtual_f true ∷ []) ∷ class_with (codes "C") b [] (virtual_f false ∷ []) ∷ [])) c a f, Some a) ∷
    (codes "overrides the nearer", target (over_a (class_with (codes "B") a [] (virtual_f true ∷ []) ∷ class_with (codes "C") b [] (virtual_f false ∷ []) ∷ [])) c b f, Some c) ∷
    (codes "not newslot takes a slot", target (without_main (class_with (codes "A") object_name [] (virtual_f false ∷ []) ∷ class_with (codes "B") a [] (virtual_f false ∷ []) ∷ [])) b a f, Some b) ∷
    (codes "not virtual is its own", target (over_a []) a a plain_f, Some a) ∷
    (codes "run of thread", target (without_main (thread_class (Return ∷ []) ∷ [])) (named (codes "T")) thread_name run_method, Some (named (codes "T"))) ∷
    (codes "run not overridden", target (without_main (class_with (codes "A") thread_name [] [] ∷ [])) a thread_name run_method, Some thread_name) ∷
    [])
slots_of_virtual_methods = refl

-- ---- interfaces

methods_of_interfaces : Answers runs_in (
    (codes "listed", target (without_main (interface_i ∷ class_with (codes "A") object_name (i ∷ []) (virtual_f true ∷ []) ∷ [])) a i f, Some a) ∷
    (codes "listed over inherited", target (over_a (class_with (codes "B") a (i ∷ []) [] ∷ [])) b i f, Some a) ∷
    (codes "overridden below implementer", target (without_main (interface_i ∷ class_with (codes "A") object_name (i ∷ []) (virtual_f true ∷ []) ∷ class_with (codes "B") a [] (virtual_f false ∷ []) ∷ [])) b i f, Some b) ∷
    (codes "hidden below implementer", target (without_main (interface_i ∷ class_with (codes "A") object_name (i ∷ []) (virtual_f true ∷ []) ∷ class_with (codes "B") a [] (virtual_f true ∷ []) ∷ [])) b i f, Some a) ∷
    (codes "hidden and listed again", target (without_main (interface_i ∷ class_with (codes "A") object_name (i ∷ []) (virtual_f true ∷ []) ∷ class_with (codes "B") a (i ∷ []) (virtual_f true ∷ []) ∷ [])) b i f, Some b) ∷
    (codes "listed again then overridden", target (without_main (interface_i ∷ class_with (codes "A") object_name (i ∷ []) (virtual_f true ∷ []) ∷ class_with (codes "B") a (i ∷ []) (virtual_f true ∷ []) ∷ class_with (codes "C") b [] (virtual_f false ∷ []) ∷ [])) c i f, Some c) ∷
    (codes "not listed", target (over_a []) a i f, None) ∷
    [])
methods_of_interfaces = refl

-- ---- fields

chain : chain_of fields b ≡ b ∷ a ∷ object_name ∷ []
chain = refl

fields_by_name : Answers found_in (
    (codes "field found by type", find_field fields false (record { field_type = plain Int32; owner = b; name = codes "x" }), Some a) ∷
    (codes "nearest field", find_field fields false (record { field_type = plain Int64; owner = b; name = codes "x" }), Some b) ∷
    (codes "field found by staticness", find_field fields false (record { field_type = plain Object; owner = b; name = codes "y" }), Some a) ∷
    (codes "static found", find_field fields true (record { field_type = plain Object; owner = b; name = codes "y" }), Some b) ∷
    (codes "static of base", find_field fields true (record { field_type = plain Int32; owner = b; name = codes "s" }), Some a) ∷
    [])
fields_by_name = refl

slots_of_fields : Answers (instance_slot fields) (
    (codes "slot of base field", key a (codes "y"), Some 1) ∷
    (codes "slot of own field", key b (codes "x"), Some 2) ∷
    (codes "slot after hidden field", key (named (codes "T")) (codes "x"), Some 1) ∷
    (codes "slot of static", key a (codes "s"), None) ∷
    [])
slots_of_fields = refl

first_static : static_slot fields (key a (codes "s")) ≡ Some 0
first_static = refl

second_static : static_slot fields (key b (codes "y")) ≡ Some 1
second_static = refl

slots_of_references : PairAnswers (is_reference_slot fields) (
    (codes "integer slot", b, 0, false) ∷
    (codes "reference slot", b, 1, true) ∷
    (codes "past the slots", b, 3, false) ∷
    (codes "hidden slot", named (codes "T"), 0, false) ∷
    [])
slots_of_references = refl

slots_of_b : slot_types fields b ≡ Some (plain Int32) ∷ Some (plain Object) ∷ Some (plain Int64) ∷ []
slots_of_b = refl

-- ---- methods

methods_by_name : Answers runs_in (
    (codes "static method of base", find_method (without_main (class_with (codes "A") object_name [] (static_f ∷ []) ∷ class_with (codes "B") a [] [] ∷ [])) false (reference_to b (Named (codes "f")) []), Some a) ∷
    (codes "static method passed over", find_method (over_a (class_with (codes "B") a [] (static_f ∷ []) ∷ [])) true (reference_to b (Named (codes "f")) []), Some a) ∷
    (codes "constructor of owner alone", find_method (without_main (class_with (codes "A") object_name [] (constructor_over object_name ∷ []) ∷ class_with (codes "B") a [] [] ∷ [])) true (reference_to b Constructor []), None) ∷
    [])
methods_by_name = refl

no_object_of_abstract_class : flow (without_main (record { name = codes "A"; kind = PlainClass true object_name []; members = constructor_over object_name ∷ [] } ∷ [])) [] [] None (NewObject a []) [] ≡ None
no_object_of_abstract_class = refl
