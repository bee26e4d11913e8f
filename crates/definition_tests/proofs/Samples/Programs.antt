-- Programs for the tests, in the shape of their text.
use Rattle.std.proofs.Common.{ℕ, pos, Bool, true, false, List, [], ◌∷◌, ◌++◌, map, None, codes}
use Rattle.cil_model.specs.declared.types.ClassName.{ClassName}
use Rattle.cil_model.specs.declared.types.Element.TheVariants.{Object, Class as ClassElement}
use Rattle.cil_model.specs.declared.types.DeclaredType.{DeclaredType}
use Rattle.cil_model.specs.declared.types.Signature.{Signature}
use Rattle.cil_model.specs.declared.instructions.MethodName.{MethodName}
use Rattle.cil_model.specs.declared.instructions.MethodName.TheVariants.{Constructor, Named}
use Rattle.cil_model.specs.declared.instructions.FieldReference.{FieldReference}
use Rattle.cil_model.specs.declared.instructions.MethodReference.{MethodReference}
use Rattle.cil_model.specs.declared.instructions.Instruction.{Instruction}
use Rattle.cil_model.specs.declared.instructions.Instruction.TheVariants.{LoadArgument, Call, CallVirtual, Return}
use Rattle.cil_model.specs.declared.trees.Tree.{Tree}
use Rattle.cil_model.specs.declared.trees.Class.{Class}
use Rattle.cil_model.specs.declared.trees.ClassKind.TheVariants.{Interface, Class as PlainClass}
use Rattle.cil_model.specs.declared.trees.Member.{Member}
use Rattle.cil_model.specs.declared.trees.Member.TheVariants.{Field as FieldMember, Method as MethodMember}
use Rattle.cil_model.specs.declared.trees.MethodKind.TheVariants.{Static, Instance, Virtual, Abstract}
use Rattle.cil_model.specs.declared.trees.Code.{Code}
use Rattle.cil_model.specs.declared.trees.Line.{Line}
use Rattle.cil_model.specs.Declarations.{mscorlib, cilvm, object_name, monitor_name, thread_name, plain, void_method}
use Rattle.cil_model.specs.Examples.{unlabelled_line, main_code}

abbrev pub named : List ℕ → ClassName
named n = record { assembly = None; name = n }

abbrev pub of_class : List ℕ → DeclaredType
of_class n = plain (ClassElement (named n))

abbrev pub arrays_of : DeclaredType → ℕ → DeclaredType
arrays_of t n = record { element = t.element; brackets = n }

abbrev pub class_with : List ℕ → ClassName → List ClassName → List Member → Class
class_with name base interfaces members = record { name = name; kind = PlainClass false base interfaces; members = members }

abbrev pub interface_with : List ℕ → List Member → Class
interface_with name members = record { name = name; kind = Interface; members = members }

abbrev pub code_with : List DeclaredType → List Instruction → Code
code_with locals instructions = record { is_entry_point = false; max_stack = pos 8; locals = locals; lines = map unlabelled_line instructions }

-- no parameters, and no result
abbrev pub no_types : Signature
no_types = record { parameters = []; return_type = None }

abbrev pub reference_to : ClassName → MethodName → List DeclaredType → MethodReference
reference_to owner name parameters = record { owner = owner; name = name; signature = record { parameters = parameters; return_type = None } }

-- `.ctor` that calls the base's
abbrev pub constructor_over : ClassName → Member
constructor_over base = MethodMember (void_method Constructor [] (Instance (code_with [] (LoadArgument (pos 0) ∷ Call true (reference_to base Constructor []) ∷ Return ∷ []))))

-- `f`, virtual and perhaps newslot, that does nothing
abbrev pub virtual_f : Bool → Member
virtual_f is_new_slot = MethodMember (void_method (Named (codes "f")) [] (Virtual is_new_slot (code_with [] (Return ∷ []))))

abbrev pub abstract_f : Member
abstract_f = MethodMember (void_method (Named (codes "f")) [] (Abstract true))

-- a class P with Main, beside other classes
abbrev pub with_main : List Class → List Member → List Line → Tree
with_main classes members lines =
    record {
      externs = mscorlib ∷ cilvm ∷ [];
      assembly = None;
      classes = classes ++ record { name = codes "P"; kind = PlainClass false object_name []; members = MethodMember (void_method (Named (codes "Main")) [] (Static (main_code lines))) ∷ members } ∷ [];
    }

abbrev pub without_main : List Class → Tree
without_main classes = record { externs = mscorlib ∷ cilvm ∷ []; assembly = None; classes = classes }

-- ---- classes

-- Animal, Dog and Cat, and IRun, which Dog lists
abbrev pub animals : List Class
animals =
    class_with (codes "Animal") object_name [] (constructor_over object_name ∷ []) ∷
    class_with (codes "Dog") (named (codes "Animal")) (named (codes "IRun") ∷ []) (constructor_over (named (codes "Animal")) ∷ virtual_f true ∷ []) ∷
    class_with (codes "Cat") (named (codes "Animal")) [] (constructor_over (named (codes "Animal")) ∷ []) ∷
    interface_with (codes "IRun") (abstract_f ∷ []) ∷ []

-- a class of threads whose Run has this code
abbrev pub thread_class : List Instruction → Class
thread_class run = class_with (codes "T") thread_name [] (constructor_over thread_name ∷ MethodMember (void_method (Named (codes "Run")) [] (Virtual false (code_with [] run))) ∷ [])

abbrev pub call_monitor : List ℕ → Instruction
call_monitor name = Call false (reference_to monitor_name (Named name) (plain Object ∷ []))

-- `callvirt` of a member of Cilvm.Thread
abbrev pub on_thread : List ℕ → Instruction
on_thread name = CallVirtual thread_name name no_types

abbrev pub lock_field : FieldReference
lock_field = record { field_type = plain Object; owner = named (codes "P"); name = codes "lock" }

abbrev pub lock_member : Member
lock_member = FieldMember (record { is_static = true; field_type = plain Object; name = codes "lock" })
