-- Worked runs of the reference machine.
use Rattle.std.proofs.Common.{◌≡◌, ℕ, ℤ, pos, negsuc, true, false, List, [], ◌∷◌, ◌++◌, map, refl, codes, replicate}
use Rattle.std.specs.Fmt.{digits}
use Rattle.cil_model.specs.declared.types.Element.TheVariants.{Int32}
use Rattle.cil_model.specs.declared.instructions.BinaryOperation.TheVariants.{Add}
use Rattle.cil_model.specs.declared.instructions.ElementKind.TheVariants as kinds
use Rattle.cil_model.specs.declared.instructions.Instruction.{Instruction}
use Rattle.cil_model.specs.declared.instructions.Instruction.TheVariants.{LoadInt32, LoadNull, LoadArgument, Duplicate, Pop, Binary, Switch, LoadStaticField, StoreStaticField, NewArray, LoadLength, ConvertInt32, LoadElement, StoreElement, NewObject, Return}
use Rattle.cil_model.specs.declared.limits.Limits.{Limits}
use Rattle.cil_model.specs.declared.trees.Tree.{Tree}
use Rattle.cil_model.specs.declared.reports.Fault.TheVariants.{ArrayTypeMismatch, NullReference, OutOfMemory, StackOverflow, SynchronizationLock, ThreadState}
use Rattle.cil_model.specs.declared.reports.Report.TheVariants.{Ran, Blocked, Ended, Absent}
use Rattle.cil_model.specs.declared.reports.End.TheVariants.{Done, Budget, Fault}
use Rattle.cil_model.specs.Declarations.{object_name, plain}
use Rattle.reference_machine.specs.Runs.{StepRequest}
use Rattle.reference_machine.specs.Outcomes.{outputs_of, Shows, StuckAfter, NeverBegins}
use Rattle.cil_model.specs.Examples.{sum_program, program_of, unlabelled_line, usual_limits, write_line}
use Rattle.definition_tests.proofs.Samples.Programs.{named, of_class, arrays_of, with_main, without_main, animals, thread_class, call_monitor, on_thread, lock_field, lock_member, class_with, constructor_over}

abbrev transitions : ℕ → List StepRequest
transitions n = replicate n (0, false)

abbrev budget_of : ℕ → Limits
budget_of n = record usual_limits { budget = n }

abbrev main : List Instruction → Tree
main instructions = program_of (map unlabelled_line instructions)

abbrev int : ℤ → Instruction
int = LoadInt32

-- the budget ends it, and then it is absent
budget_three : outputs_of sum_program (budget_of 3) (transitions 5) ≡ Shows (Ran ∷ Ran ∷ Ended Budget ∷ Absent ∷ Absent ∷ []) []
budget_three = refl

-- the last step of the budget ended it otherwise
budget_five : outputs_of sum_program (budget_of 5) (transitions 5) ≡ Shows (Ran ∷ Ran ∷ Ran ∷ Ran ∷ Ended Done ∷ []) (codes "5\n")
unfolding digits
budget_five = refl

no_such_thread : outputs_of sum_program usual_limits ((7, false) ∷ []) ≡ Shows (Absent ∷ []) []
no_such_thread = refl

-- a switch on -1 advances to the next instruction
switch_program : Tree
switch_program = program_of (map unlabelled_line (int (negsuc 0) ∷ Switch (codes "A" ∷ []) ∷ int (pos 7) ∷ write_line ∷ Return ∷ []) ++ record { labels = codes "A" ∷ []; instruction = Return } ∷ [])

switch_on_minus_one : outputs_of switch_program usual_limits (transitions 5) ≡ Shows (Ran ∷ Ran ∷ Ran ∷ Ran ∷ Ended Done ∷ []) (codes "7\n")
unfolding digits switch_program
switch_on_minus_one = refl

-- ---- arrays

birth_refused : outputs_of (main (int (pos 1) ∷ NewArray (plain Int32) ∷ Pop ∷ Return ∷ [])) usual_limits ((0, true) ∷ (0, true) ∷ (0, false) ∷ []) ≡ Shows (Ran ∷ Ended (Fault OutOfMemory) ∷ Absent ∷ []) []
birth_refused = refl

-- an array of arrays of integers
nested_arrays : outputs_of (main (int (pos 2) ∷ NewArray (arrays_of (plain Int32) 1) ∷ Duplicate ∷ int (pos 0) ∷ int (pos 3) ∷ NewArray (plain Int32) ∷ StoreElement kinds.Reference ∷ int (pos 0) ∷ LoadElement kinds.Reference ∷ LoadLength ∷ ConvertInt32 ∷ write_line ∷ Return ∷ [])) usual_limits (transitions 13)
    ≡ Shows (replicate 12 Ran ++ Ended Done ∷ []) (codes "3\n")
unfolding digits
nested_arrays = refl

-- a Cat into a `Dog[]`, and null
store_cat : outputs_of (with_main animals [] (map unlabelled_line (int (pos 1) ∷ NewArray (of_class (codes "Dog")) ∷ int (pos 0) ∷ NewObject (named (codes "Cat")) [] ∷ StoreElement kinds.Reference ∷ Return ∷ []))) usual_limits (transitions 11)
    ≡ Shows (replicate 10 Ran ++ Ended (Fault ArrayTypeMismatch) ∷ []) []
store_cat = refl

store_null : outputs_of (with_main animals [] (map unlabelled_line (int (pos 1) ∷ NewArray (of_class (codes "Dog")) ∷ int (pos 0) ∷ LoadNull ∷ StoreElement kinds.Reference ∷ Return ∷ []))) usual_limits (transitions 6)
    ≡ Shows (replicate 5 Ran ++ Ended Done ∷ []) []
store_null = refl

-- ---- frames

constructs : outputs_of (with_main (class_with (codes "Q") object_name [] (constructor_over object_name ∷ []) ∷ []) [] (map unlabelled_line (NewObject (named (codes "Q")) [] ∷ Pop ∷ Return ∷ []))) usual_limits (transitions 6)
    ≡ Shows (replicate 5 Ran ++ Ended Done ∷ []) []
constructs = refl

too_deep : outputs_of (with_main (class_with (codes "Q") object_name [] (constructor_over object_name ∷ []) ∷ []) [] (map unlabelled_line (NewObject (named (codes "Q")) [] ∷ Pop ∷ Return ∷ []))) (record usual_limits { depth = 1 }) ((0, true) ∷ [])
    ≡ Shows (Ended (Fault StackOverflow) ∷ []) []
too_deep = refl

built_in_makes_no_frame : outputs_of (main (NewObject object_name [] ∷ Pop ∷ Return ∷ [])) (record usual_limits { depth = 1 }) (transitions 3) ≡ Shows (Ran ∷ Ran ∷ Ended Done ∷ []) []
built_in_makes_no_frame = refl

-- ---- threads

-- a thread that joins itself is blocked until its budget ends it
joins_itself : outputs_of (with_main (thread_class (LoadArgument (pos 0) ∷ on_thread (codes "Join") ∷ Return ∷ []) ∷ []) [] (map unlabelled_line (NewObject (named (codes "T")) [] ∷ on_thread (codes "Start") ∷ Return ∷ []))) (budget_of 5) (transitions 5 ++ replicate 5 (1, false))
    ≡ Shows (replicate 4 Ran ++ Ended Budget ∷ Ran ∷ Blocked ∷ Blocked ∷ Blocked ∷ Ended Budget ∷ []) []
joins_itself = refl

starts_twice : outputs_of (with_main (thread_class (Return ∷ []) ∷ []) [] (map unlabelled_line (NewObject (named (codes "T")) [] ∷ Duplicate ∷ on_thread (codes "Start") ∷ on_thread (codes "Start") ∷ Return ∷ []))) usual_limits (transitions 7)
    ≡ Shows (replicate 6 Ran ++ Ended (Fault ThreadState) ∷ []) []
starts_twice = refl

joins_unstarted : outputs_of (with_main (thread_class (Return ∷ []) ∷ []) [] (map unlabelled_line (NewObject (named (codes "T")) [] ∷ on_thread (codes "Join") ∷ Return ∷ []))) usual_limits (transitions 5)
    ≡ Shows (replicate 4 Ran ++ Ended (Fault ThreadState) ∷ []) []
joins_unstarted = refl

leaves_too_often : outputs_of (main (NewObject object_name [] ∷ Duplicate ∷ Duplicate ∷ Duplicate ∷ Duplicate ∷ call_monitor (codes "Enter") ∷ call_monitor (codes "Enter") ∷ call_monitor (codes "Exit") ∷ call_monitor (codes "Exit") ∷ call_monitor (codes "Exit") ∷ Return ∷ [])) usual_limits (transitions 10)
    ≡ Shows (replicate 9 Ran ++ Ended (Fault SynchronizationLock) ∷ []) []
leaves_too_often = refl

-- a thread waits for a monitor that a thread which faulted holds
waits_for_monitor : outputs_of
    (with_main (thread_class (LoadStaticField lock_field ∷ call_monitor (codes "Enter") ∷ Return ∷ []) ∷ []) (lock_member ∷ [])
    (map unlabelled_line (NewObject object_name [] ∷ StoreStaticField lock_field ∷ NewObject (named (codes "T")) [] ∷ on_thread (codes "Start") ∷ LoadStaticField lock_field ∷ call_monitor (codes "Enter") ∷ LoadNull ∷ LoadLength ∷ Pop ∷ Return ∷ [])))
    (budget_of 20) (transitions 11 ++ replicate 20 (1, false))
    ≡ Shows (replicate 10 Ran ++ Ended (Fault NullReference) ∷ Ran ∷ (replicate 18 Blocked ++ Ended Budget ∷ [])) []
waits_for_monitor = refl

-- the last step of the budget starts a thread, which then runs
start_is_last : outputs_of (with_main (thread_class (Return ∷ []) ∷ []) [] (map unlabelled_line (NewObject (named (codes "T")) [] ∷ on_thread (codes "Start") ∷ Return ∷ []))) (budget_of 5) (transitions 6 ++ (1, false) ∷ [])
    ≡ Shows (replicate 4 Ran ++ Ended Budget ∷ Absent ∷ Ended Done ∷ []) []
start_is_last = refl

-- a join advances once the thread has ended
joins_ended : outputs_of (with_main (thread_class (Return ∷ []) ∷ []) [] (map unlabelled_line (NewObject (named (codes "T")) [] ∷ Duplicate ∷ on_thread (codes "Start") ∷ on_thread (codes "Join") ∷ Return ∷ []))) usual_limits (transitions 7 ++ (1, false) ∷ transitions 2)
    ≡ Shows (replicate 6 Ran ++ Blocked ∷ Ended Done ∷ Ran ∷ Ended Done ∷ []) []
joins_ended = refl

-- ---- what sticks

-- a run that sticks keeps the reports before it, and no step follows
sticks : outputs_of (main (int (pos 1) ∷ LoadNull ∷ Binary Add ∷ Return ∷ [])) usual_limits (transitions 9) ≡ StuckAfter (Ran ∷ Ran ∷ [])
sticks = refl

past_the_end : outputs_of (main (int (pos 1) ∷ [])) usual_limits (transitions 2) ≡ StuckAfter (Ran ∷ [])
past_the_end = refl

no_entry_point : outputs_of (without_main []) usual_limits (transitions 2) ≡ NeverBegins
no_entry_point = refl
