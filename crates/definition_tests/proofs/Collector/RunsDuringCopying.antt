-- What a user sees of programs that run while a heap is being copied: what the machine shows whose objects never move.
use Rattle.std.proofs.Common.{◌≡◌, ℕ, pos, Bool, true, false, List, [], ◌∷◌, ◌++◌, map, flat_map, None, refl, codes, replicate}
use Rattle.std.specs.Fmt.{digits}
use Rattle.cil_model.specs.declared.types.Element.TheVariants.{Int32, Object}
use Rattle.cil_model.specs.declared.types.DeclaredType.{DeclaredType}
use Rattle.cil_model.specs.declared.instructions.Comparison.TheVariants.{Equal}
use Rattle.cil_model.specs.declared.instructions.FieldReference.{FieldReference}
use Rattle.cil_model.specs.declared.instructions.Instruction.{Instruction}
use Rattle.cil_model.specs.declared.instructions.Instruction.TheVariants.{LoadInt32, LoadNull, Duplicate, Pop, Compare, LoadField, StoreField, LoadStaticField, StoreStaticField, NewArray, NewObject, Return}
use Rattle.cil_model.specs.declared.trees.Class.{Class}
use Rattle.cil_model.specs.declared.trees.Member.{Member}
use Rattle.cil_model.specs.declared.trees.Member.TheVariants.{Field as FieldMember}
use Rattle.cil_model.specs.declared.trees.Tree.{Tree}
use Rattle.cil_model.specs.declared.phases.Phase.TheVariants.{Idle}
use Rattle.cil_model.specs.declared.reports.Fault.TheVariants.{OutOfMemory}
use Rattle.cil_model.specs.declared.reports.Report.TheVariants.{Ran, Ended}
use Rattle.cil_model.specs.declared.reports.End.TheVariants.{Done, Fault}
use Rattle.cil_model.specs.Declarations.{object_name, plain}
use Rattle.cil_model.specs.Legality.{least_broken}
use Rattle.reference_machine.specs.Values.{Int32 as Int32Value}
use Rattle.reference_machine.specs.States.{Array}
use Rattle.reference_machine.specs.Cycles.{is_refused}
use Rattle.reference_machine.specs.Rooms.{cell_words}
use Rattle.reference_machine.specs.Runs.{StepRequest}
use Rattle.reference_machine.specs.Outcomes.{outputs_of, Shows}
use Rattle.cil_model.specs.Examples.{program_of, sum_program, unlabelled_line, usual_limits, write_line}
use Rattle.definition_tests.proofs.Samples.Programs.{named, of_class, with_main, thread_class, on_thread, class_with, constructor_over}

-- n steps of a thread
abbrev of : ℕ → ℕ → List StepRequest
of thread n = replicate n (thread, false)

abbrev box : DeclaredType
box = of_class (codes "Box")

abbrev member : Bool → DeclaredType → List ℕ → Member
member is_static t name = FieldMember (record { is_static = is_static; field_type = t; name = name })

-- a number, and another box
abbrev box_class : Class
box_class = class_with (codes "Box") object_name [] (member false (plain Int32) (codes "number") ∷ member false box (codes "next") ∷ constructor_over object_name ∷ [])

abbrev number : FieldReference
number = record { field_type = plain Int32; owner = named (codes "Box"); name = codes "number" }

abbrev next : FieldReference
next = record { field_type = box; owner = named (codes "Box"); name = codes "next" }

-- a static of P that holds a box
abbrev kept : FieldReference
kept = record { field_type = box; owner = named (codes "P"); name = codes "kept" }

-- takes four steps
abbrev new_box : Instruction
new_box = NewObject (named (codes "Box")) []

-- Main beside boxes and a class of threads
abbrev boxes : List Instruction → List Instruction → Tree
boxes run main = with_main (box_class ∷ thread_class run ∷ []) (member true box (codes "kept") ∷ []) (map unlabelled_line main)

-- takes five steps
abbrev start_thread : List Instruction
start_thread = NewObject (named (codes "T")) [] ∷ on_thread (codes "Start") ∷ []

-- ---- one writer

abbrev write : ℕ → List Instruction
write n = Duplicate ∷ LoadInt32 (pos n) ∷ StoreField number ∷ []

abbrev print : List Instruction
print = LoadField number ∷ write_line ∷ []

-- writes 1 to 8 to a field, prints it before the seventh write and after the last
writes_through_a_cycle : outputs_of (boxes (Return ∷ []) (new_box ∷ flat_map write (1 ∷ 2 ∷ 3 ∷ 4 ∷ 5 ∷ 6 ∷ []) ++ Duplicate ∷ print ++ flat_map write (7 ∷ 8 ∷ []) ++ print ++ Return ∷ [])) usual_limits (of 0 34)
    ≡ Shows (replicate 33 Ran ++ Ended Done ∷ []) (codes "6\n8\n")
unfolding digits
writes_through_a_cycle = refl

-- ---- one object, two references

abbrev two_statics : List Member
two_statics = member true (plain Object) (codes "first") ∷ member true (plain Object) (codes "second") ∷ []

abbrev static_of : List ℕ → FieldReference
static_of name = record { field_type = plain Object; owner = named (codes "P"); name = name }

abbrev first : FieldReference
first = static_of (codes "first")

abbrev second : FieldReference
second = static_of (codes "second")

-- one thread holds an object from before, and compares it with what another stores now
one_object_is_equal : outputs_of
    (with_main (thread_class (LoadStaticField first ∷ LoadStaticField second ∷ Compare Equal ∷ write_line ∷ Return ∷ []) ∷ []) two_statics
    (map unlabelled_line (NewObject object_name [] ∷ Duplicate ∷ StoreStaticField first ∷ start_thread ++ StoreStaticField second ∷ Return ∷ [])))
    usual_limits (of 0 8 ++ of 1 1 ++ of 0 1 ++ of 1 4)
    ≡ Shows (replicate 13 Ran ++ Ended Done ∷ []) (codes "1\n")
unfolding digits
one_object_is_equal = refl

-- ---- the only reference

abbrev load_next : List Instruction
load_next = LoadStaticField kept ∷ LoadField next ∷ []

-- it is loaded out of a field, and the field is overwritten with null
loaded_and_overwritten : outputs_of
    (boxes (Return ∷ []) (new_box ∷ StoreStaticField kept ∷ LoadStaticField kept ∷ new_box ∷ StoreField next ∷ load_next ++ LoadInt32 (pos 7) ∷ StoreField number ∷
    load_next ++ LoadStaticField kept ∷ LoadNull ∷ StoreField next ∷ print ++ Return ∷ []))
    usual_limits (of 0 23)
    ≡ Shows (replicate 22 Ran ++ Ended Done ∷ []) (codes "7\n")
unfolding digits
loaded_and_overwritten = refl

-- it is stored into a field of an object that another thread has made
stored_into_anothers : outputs_of
    (boxes (LoadStaticField kept ∷ new_box ∷ Duplicate ∷ LoadInt32 (pos 7) ∷ StoreField number ∷ StoreField next ∷ load_next ++ print ++ Return ∷ [])
    (start_thread ++ new_box ∷ StoreStaticField kept ∷ Return ∷ []))
    usual_limits (of 0 10 ++ of 1 14)
    ≡ Shows (replicate 23 Ran ++ Ended Done ∷ []) (codes "7\n")
unfolding digits
stored_into_anothers = refl

-- ---- a thread that is new

-- it writes to an object of its starter's, and both read that
new_thread_writes : outputs_of
    (boxes (LoadStaticField kept ∷ LoadInt32 (pos 9) ∷ StoreField number ∷ LoadStaticField kept ∷ print ++ Return ∷ [])
    (new_box ∷ StoreStaticField kept ∷ start_thread ++ LoadStaticField kept ∷ print ++ Return ∷ []))
    usual_limits (of 0 10 ++ of 1 7 ++ of 0 4)
    ≡ Shows (replicate 16 Ran ++ Ended Done ∷ Ran ∷ Ran ∷ Ran ∷ Ended Done ∷ []) (codes "9\n9\n")
unfolding digits
new_thread_writes = refl

-- ---- a space that is full

-- n arrays of one number, none of which is kept
abbrev dropped_arrays : ℕ → Tree
dropped_arrays n = program_of (map unlabelled_line (flat_map (λ (i : ℕ). LoadInt32 (pos 1) ∷ NewArray (plain Int32) ∷ Pop ∷ []) (replicate n 0) ++ Return ∷ []))

four_words : cell_words sum_program (Array (plain Int32) (Int32Value (pos 0) ∷ [])) ≡ 4
four_words = refl

-- the sixteenth birth of four words fills a space of 64
sixteenth_fits : is_refused (record { old = record { words = 64; used = 60 }; newer = None }) Idle 4 ≡ false
sixteenth_fits = refl

seventeenth_is_refused : is_refused (record { old = record { words = 64; used = 64 }; newer = None }) Idle 4 ≡ true
seventeenth_is_refused = refl

-- without a cycle
full_space : outputs_of (dropped_arrays 17) usual_limits (of 0 49 ++ (0, true) ∷ []) ≡ Shows (replicate 49 Ran ++ Ended (Fault OutOfMemory) ∷ []) []
full_space = refl

-- with one before it
emptied_space : outputs_of (dropped_arrays 17) usual_limits (of 0 52) ≡ Shows (replicate 51 Ran ++ Ended Done ∷ []) []
emptied_space = refl

-- ---- the programs are programs

boxes_are_legal : least_broken (boxes (Return ∷ []) (Return ∷ [])) ≡ None
boxes_are_legal = refl
