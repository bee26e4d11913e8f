-- Worked runs with fields, virtual calls, casts, literals and many threads.
use Rattle.std.proofs.Common.{◌≡◌, ℕ, pos, Bool, true, false, List, [], ◌∷◌, ◌++◌, map, flat_map, None, refl, codes, replicate}
use Rattle.std.specs.Fmt.{digits}
use Rattle.cil_model.specs.declared.types.Element.TheVariants.{Int32, Object, String}
use Rattle.cil_model.specs.declared.instructions.Comparison.TheVariants.{Equal}
use Rattle.cil_model.specs.declared.instructions.FieldReference.{FieldReference}
use Rattle.cil_model.specs.declared.instructions.MethodName.TheVariants.{Named}
use Rattle.cil_model.specs.declared.instructions.ElementKind.TheVariants as kinds
use Rattle.cil_model.specs.declared.instructions.Instruction.{Instruction}
use Rattle.cil_model.specs.declared.instructions.Instruction.TheVariants.{LoadInt32, LoadNull, LoadString, Duplicate, Pop, Compare, LoadField, StoreField, NewArray, StoreElement, CastClass, IsInstance, Call, CallVirtual, NewObject, Return}
use Rattle.cil_model.specs.declared.trees.Class.{Class}
use Rattle.cil_model.specs.declared.trees.Member.{Member}
use Rattle.cil_model.specs.declared.trees.Member.TheVariants.{Field as FieldMember, Method as MethodMember}
use Rattle.cil_model.specs.declared.trees.MethodKind.TheVariants.{Virtual}
use Rattle.cil_model.specs.declared.trees.Tree.{Tree}
use Rattle.cil_model.specs.declared.reports.Fault.TheVariants.{ArrayTypeMismatch, InvalidCast, NullReference, TooManyThreads}
use Rattle.cil_model.specs.declared.reports.Report.TheVariants.{Ran, Ended}
use Rattle.cil_model.specs.declared.reports.End.TheVariants.{Done, Fault}
use Rattle.cil_model.specs.Declarations.{object_name, console_name, plain}
use Rattle.cil_model.specs.Legality.{least_broken}
use Rattle.reference_machine.specs.Runs.{StepRequest}
use Rattle.reference_machine.specs.Outcomes.{outputs_of, Shows}
use Rattle.cil_model.specs.Examples.{program_of, unlabelled_line, usual_limits, write_line}
use Rattle.definition_tests.proofs.Samples.Programs.{named, no_types, of_class, arrays_of, with_main, thread_class, on_thread, class_with, interface_with, abstract_f, constructor_over, code_with, reference_to}

abbrev transitions : ℕ → List StepRequest
transitions n = replicate n (0, false)

abbrev write_text : Instruction
write_text = Call false (reference_to console_name (Named (codes "WriteLine")) (plain String ∷ []))

-- `f` that prints a number
abbrev prints : Bool → ℕ → Member
prints is_new_slot n = MethodMember (record { name = Named (codes "f"); signature = record { parameters = []; return_type = None }; kind = Virtual is_new_slot (code_with [] (LoadInt32 (pos n) ∷ write_line ∷ Return ∷ [])) })

-- A has a field and prints 1, B has another of the same name and prints 2; both list I
abbrev family : List Class
family =
    interface_with (codes "I") (abstract_f ∷ []) ∷
    class_with (codes "A") object_name (named (codes "I") ∷ []) (FieldMember (record { is_static = false; field_type = plain Int32; name = codes "x" }) ∷ constructor_over object_name ∷ prints true 1 ∷ []) ∷
    class_with (codes "B") (named (codes "A")) [] (FieldMember (record { is_static = false; field_type = plain Int32; name = codes "x" }) ∷ constructor_over (named (codes "A")) ∷ prints false 2 ∷ []) ∷ []

abbrev family_main : List Instruction → Tree
family_main instructions = with_main family [] (map unlabelled_line instructions)

abbrev field_x : List ℕ → FieldReference
field_x owner = record { field_type = plain Int32; owner = named owner; name = codes "x" }

abbrev call_f : List ℕ → Instruction
call_f owner = CallVirtual (named owner) (codes "f") no_types

family_is_legal : least_broken (family_main (Return ∷ [])) ≡ None
family_is_legal = refl

-- a B is made in seven steps
through_class : outputs_of (family_main (NewObject (named (codes "B")) [] ∷ call_f (codes "A") ∷ Return ∷ [])) usual_limits (transitions 12) ≡ Shows (replicate 11 Ran ++ Ended Done ∷ []) (codes "2\n")
unfolding digits
through_class = refl

through_interface : outputs_of (family_main (NewObject (named (codes "B")) [] ∷ call_f (codes "I") ∷ Return ∷ [])) usual_limits (transitions 12) ≡ Shows (replicate 11 Ran ++ Ended Done ∷ []) (codes "2\n")
unfolding digits
through_interface = refl

on_null : outputs_of (family_main (LoadNull ∷ call_f (codes "I") ∷ Return ∷ [])) usual_limits (transitions 2) ≡ Shows (Ran ∷ Ended (Fault NullReference) ∷ []) []
on_null = refl

-- two fields of one name are two
two_fields : outputs_of (family_main (NewObject (named (codes "B")) [] ∷ Duplicate ∷ Duplicate ∷ LoadInt32 (pos 7) ∷ StoreField (field_x (codes "A")) ∷ LoadInt32 (pos 8) ∷ StoreField (field_x (codes "B")) ∷ LoadNull ∷ Pop ∷ Return ∷ [])) usual_limits (transitions 16)
    ≡ Shows (replicate 15 Ran ++ Ended Done ∷ []) []
two_fields = refl

reads_base_field : outputs_of (family_main (NewObject (named (codes "B")) [] ∷ Duplicate ∷ Duplicate ∷ LoadInt32 (pos 7) ∷ StoreField (field_x (codes "A")) ∷ LoadInt32 (pos 8) ∷ StoreField (field_x (codes "B")) ∷ NewObject (named (codes "B")) [] ∷ LoadField (field_x (codes "A")) ∷ write_line ∷ Return ∷ [])) usual_limits (transitions 23)
    ≡ Shows (replicate 22 Ran ++ Ended Done ∷ []) (codes "0\n")
unfolding digits
reads_base_field = refl

reads_back : outputs_of (family_main (NewObject (named (codes "B")) [] ∷ Duplicate ∷ Duplicate ∷ LoadInt32 (pos 8) ∷ StoreField (field_x (codes "B")) ∷ LoadInt32 (pos 7) ∷ StoreField (field_x (codes "A")) ∷ Return ∷ [])) usual_limits (transitions 14)
    ≡ Shows (replicate 13 Ran ++ Ended Done ∷ []) []
reads_back = refl

-- ---- casts

cast_down : outputs_of (family_main (NewObject (named (codes "A")) [] ∷ CastClass (of_class (codes "B")) ∷ Return ∷ [])) usual_limits (transitions 5) ≡ Shows (replicate 4 Ran ++ Ended (Fault InvalidCast) ∷ []) []
cast_down = refl

cast_null : outputs_of (family_main (LoadNull ∷ CastClass (of_class (codes "B")) ∷ Pop ∷ Return ∷ [])) usual_limits (transitions 4) ≡ Shows (replicate 3 Ran ++ Ended Done ∷ []) []
cast_null = refl

is_no_instance : outputs_of (family_main (LoadString (codes "a") ∷ IsInstance (of_class (codes "B")) ∷ LoadNull ∷ Compare Equal ∷ write_line ∷ Return ∷ [])) usual_limits (transitions 6) ≡ Shows (replicate 5 Ran ++ Ended Done ∷ []) (codes "1\n")
unfolding digits
is_no_instance = refl

-- ---- literals

equal_literals : outputs_of (program_of (map unlabelled_line (LoadString (codes "a") ∷ LoadString (codes "a") ∷ Compare Equal ∷ write_line ∷ Return ∷ []))) usual_limits (transitions 5) ≡ Shows (replicate 4 Ran ++ Ended Done ∷ []) (codes "1\n")
unfolding digits
equal_literals = refl

texts : outputs_of (program_of (map unlabelled_line (LoadString (codes "hi") ∷ write_text ∷ LoadNull ∷ write_text ∷ Return ∷ []))) usual_limits (transitions 5) ≡ Shows (replicate 4 Ran ++ Ended Done ∷ []) (codes "hi\n\n")
texts = refl

-- ---- arrays of arrays

-- an `int32[]` into an `object[][]`, and into an `object[]`
into_nested : outputs_of (program_of (map unlabelled_line (LoadInt32 (pos 1) ∷ NewArray (arrays_of (plain Object) 1) ∷ LoadInt32 (pos 0) ∷ LoadInt32 (pos 0) ∷ NewArray (plain Int32) ∷ StoreElement kinds.Reference ∷ Return ∷ []))) usual_limits (transitions 6)
    ≡ Shows (replicate 5 Ran ++ Ended (Fault ArrayTypeMismatch) ∷ []) []
into_nested = refl

into_objects : outputs_of (program_of (map unlabelled_line (LoadInt32 (pos 1) ∷ NewArray (plain Object) ∷ LoadInt32 (pos 0) ∷ LoadInt32 (pos 0) ∷ NewArray (plain Int32) ∷ StoreElement kinds.Reference ∷ Return ∷ []))) usual_limits (transitions 7)
    ≡ Shows (replicate 6 Ran ++ Ended Done ∷ []) []
into_objects = refl

-- ---- many threads

abbrev started : List Instruction
started = NewObject (named (codes "T")) [] ∷ on_thread (codes "Start") ∷ []

-- fifteen starts run, and the sixteenth would number a seventeenth thread
sixteen_starts : outputs_of (with_main (thread_class (Return ∷ []) ∷ []) [] (map unlabelled_line (flat_map (λ (n : ℕ). started) (replicate 16 0) ++ Return ∷ []))) usual_limits (transitions 80)
    ≡ Shows (replicate 79 Ran ++ Ended (Fault TooManyThreads) ∷ []) []
sixteen_starts = refl
