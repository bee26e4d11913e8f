-- Each kind of call: what it enters or does at once, and each of its faults in the order of the checks.
use Rattle.std.proofs.Common.{◌≡◌, true, false, List, [], ◌∷◌, Some, None, refl, codes}
use Rattle.std.specs.Fmt.{digits}
use Rattle.cil_model.specs.declared.types.DeclaredType.{DeclaredType}
use Rattle.cil_model.specs.declared.types.Element.TheVariants.{Int32 as Int32Element, Int64 as Int64Element, Object, String}
use Rattle.cil_model.specs.declared.types.Signature.{Signature}
use Rattle.cil_model.specs.declared.instructions.MethodName.TheVariants.{Constructor, Named}
use Rattle.cil_model.specs.declared.instructions.Instruction.{Instruction}
use Rattle.cil_model.specs.declared.instructions.Instruction.TheVariants.{Call, CallVirtual, NewObject, Return}
use Rattle.cil_model.specs.declared.reports.Fault.TheVariants.{NullReference, OutOfMemory, StackOverflow, ArgumentNull, SynchronizationLock, ThreadState}
use Rattle.cil_model.specs.Declarations.{object_name, console_name, thread_name, plain}
use Rattle.cil_model.specs.Fields.{FieldKey}
use Rattle.reference_machine.specs.Values.{Value, Born, Literal, Null}
use Rattle.reference_machine.specs.States.{Free, Held, Instance}
use Rattle.definition_tests.proofs.Samples.Tables.{PairAnswers}
use Rattle.definition_tests.proofs.Samples.Programs.{named, no_types, reference_to, call_monitor, on_thread}
use Rattle.definition_tests.proofs.Samples.FarmProgram.{animal, dog, cat, runner, method_g, method_h, int, minus, long, object, text, key, heap_object, Leaves, Calls, Finishes, Waits, Faults, NoMeaning, does, does_refused, does_deep, returns, monitor_after, printed_after, born_after}

abbrev takes_int : Signature
takes_int = record { parameters = plain Int32Element ∷ []; return_type = Some (plain Int32Element) }

-- `call instance int32 Dog::g(int32)`, and `callvirt` of the same
abbrev call_g : Instruction
call_g = Call true (record { owner = dog; name = Named (codes "g"); signature = takes_int })

abbrev virtual_g : Instruction
virtual_g = CallVirtual dog (codes "g") takes_int

abbrev call_h : Instruction
call_h = Call false (reference_to cat (Named (codes "h")) (plain Object ∷ []))

abbrev run_f : Instruction
run_f = CallVirtual runner (codes "f") no_types

abbrev write_of : DeclaredType → Instruction
write_of t = Call false (reference_to console_name (Named (codes "WriteLine")) (t ∷ []))

abbrev fields_at_first : List (FieldKey × Value)
fields_at_first = (key (codes "age"), int 0) ∷ (key (codes "weight"), long 0) ∷ (key (codes "friend"), Null) ∷ []

-- ---- call

calls : PairAnswers does (
    (codes "calls", call_g, int 5 ∷ object 0 ∷ int 1 ∷ [], Calls animal (object 0 ∷ int 1 ∷ [])) ∷
    (codes "calls on null", call_g, Null ∷ int 1 ∷ [], Calls animal (Null ∷ int 1 ∷ [])) ∷
    (codes "calls static", call_h, object 0 ∷ [], Calls animal (object 0 ∷ [])) ∷
    (codes "call with too few", call_g, int 1 ∷ [], NoMeaning) ∷
    (codes "call with other kind", call_g, object 0 ∷ long 1 ∷ [], NoMeaning) ∷
    (codes "call of nothing", Call false (reference_to dog (Named (codes "k")) []), [], NoMeaning) ∷
    (codes "call of abstract", Call true (reference_to runner (Named (codes "f")) []), object 0 ∷ [], NoMeaning) ∷
    [])
calls = refl

call_too_deep : does_deep call_g (object 0 ∷ int 1 ∷ []) ≡ Faults StackOverflow
call_too_deep = refl

-- ---- callvirt: null is looked at before the depth

virtual_calls : PairAnswers does (
    (codes "runs target", run_f, object 0 ∷ [], Calls dog (object 0 ∷ [])) ∷
    (codes "runs plain method", virtual_g, object 0 ∷ int 1 ∷ [], Calls animal (object 0 ∷ int 1 ∷ [])) ∷
    (codes "runs plain method on array", virtual_g, object 1 ∷ int 1 ∷ [], Calls animal (object 1 ∷ int 1 ∷ [])) ∷
    (codes "runs plain method on null", virtual_g, Null ∷ int 1 ∷ [], Faults NullReference) ∷
    (codes "runs without target", run_f, object 3 ∷ [], NoMeaning) ∷
    [])
virtual_calls = refl

runs_on_null : does_deep run_f (Null ∷ []) ≡ Faults NullReference
runs_on_null = refl

runs_too_deep : does_deep run_f (object 0 ∷ []) ≡ Faults StackOverflow
runs_too_deep = refl

-- ---- newobj: the depth is looked at before memory

constructs : does (NewObject cat []) (int 1 ∷ []) ≡ Calls cat (object 10 ∷ [])
constructs = refl

constructed : born_after (NewObject cat []) [] ≡ Some (Some (heap_object (Instance cat fields_at_first) Free None))
constructed = refl

construct_too_deep : does_deep (NewObject cat []) [] ≡ Faults StackOverflow
construct_too_deep = refl

construct_refused : does_refused (NewObject cat []) [] ≡ Faults OutOfMemory
construct_refused = refl

constructor_calls : PairAnswers does (
    (codes "built in at once", NewObject object_name [], int 1 ∷ [], Leaves (int 1 ∷ object 10 ∷ [])) ∷
    (codes "thread object at once", NewObject thread_name [], [], Leaves (object 10 ∷ [])) ∷
    (codes "no constructor", NewObject cat (plain Object ∷ []), Null ∷ [], NoMeaning) ∷
    [])
constructor_calls = refl

built_in_not_too_deep : does_deep (NewObject object_name []) [] ≡ Faults OutOfMemory
built_in_not_too_deep = refl

-- ---- ret

returns_value : returns method_g None (int 9 ∷ []) ≡ Leaves (int 7 ∷ int 9 ∷ [])
returns_value = refl

returns_nothing : returns method_h None [] ≡ Leaves (int 7 ∷ [])
returns_nothing = refl

returns_constructed : returns method_h (Some (Born 3)) [] ≡ Leaves (int 7 ∷ object 3 ∷ [])
returns_constructed = refl

returns_of_other_kind : returns method_g None (long 9 ∷ []) ≡ NoMeaning
returns_of_other_kind = refl

returns_without_value : returns method_g None [] ≡ NoMeaning
returns_without_value = refl

last_return : does Return [] ≡ Finishes
last_return = refl

-- ---- built-in members make no frame, and no depth is too deep for them

prints_int : printed_after (write_of (plain Int32Element)) (minus 12 ∷ []) ≡ Some (codes "x-12\n")
unfolding digits
prints_int = refl

prints_long : printed_after (write_of (plain Int64Element)) (long 4294967296 ∷ []) ≡ Some (codes "x4294967296\n")
unfolding digits
prints_long = refl

prints_text : printed_after (write_of (plain String)) (text (codes "a b") ∷ []) ≡ Some (codes "xa b\n")
prints_text = refl

prints_null : printed_after (write_of (plain String)) (Null ∷ []) ≡ Some (codes "x\n")
prints_null = refl

prints_deep : does_deep (write_of (plain String)) (Null ∷ []) ≡ Leaves []
prints_deep = refl

constructs_base : does (Call true (reference_to object_name Constructor [])) (int 1 ∷ object 0 ∷ []) ≡ Leaves (int 1 ∷ [])
constructs_base = refl

-- ---- monitors

enters : monitor_after (Born 0) (call_monitor (codes "Enter")) (object 0 ∷ []) ≡ Some (Held 0 1)
enters = refl

enters_again : monitor_after (Born 8) (call_monitor (codes "Enter")) (object 8 ∷ []) ≡ Some (Held 0 3)
enters_again = refl

enters_literal : monitor_after (Literal (codes "a")) (call_monitor (codes "Enter")) (text (codes "a") ∷ []) ≡ Some (Held 0 1)
enters_literal = refl

exits_once : monitor_after (Born 8) (call_monitor (codes "Exit")) (object 8 ∷ []) ≡ Some (Held 0 1)
exits_once = refl

calls_on_monitors : PairAnswers does (
    (codes "waits", call_monitor (codes "Enter"), object 9 ∷ [], Waits) ∷
    (codes "enters null", call_monitor (codes "Enter"), Null ∷ [], Faults ArgumentNull) ∷
    (codes "exits free", call_monitor (codes "Exit"), object 0 ∷ [], Faults SynchronizationLock) ∷
    (codes "exits of other", call_monitor (codes "Exit"), object 9 ∷ [], Faults SynchronizationLock) ∷
    (codes "exits null", call_monitor (codes "Exit"), Null ∷ [], Faults ArgumentNull) ∷
    [])
calls_on_monitors = refl

-- ---- start and join: null, then whether it was started

start_and_join : PairAnswers does (
    (codes "starts", on_thread (codes "Start"), object 4 ∷ [], Leaves []) ∷
    (codes "starts null", on_thread (codes "Start"), Null ∷ [], Faults NullReference) ∷
    (codes "starts null by call", Call true (reference_to thread_name (Named (codes "Start")) []), Null ∷ [], Faults NullReference) ∷
    (codes "starts again", on_thread (codes "Start"), object 6 ∷ [], Faults ThreadState) ∷
    (codes "starts no thread", on_thread (codes "Start"), object 0 ∷ [], NoMeaning) ∷
    (codes "joins live", on_thread (codes "Join"), object 5 ∷ [], Waits) ∷
    (codes "joins ended", on_thread (codes "Join"), int 1 ∷ object 6 ∷ [], Leaves (int 1 ∷ [])) ∷
    (codes "joins unstarted", on_thread (codes "Join"), object 4 ∷ [], Faults ThreadState) ∷
    (codes "joins null", on_thread (codes "Join"), Null ∷ [], Faults NullReference) ∷
    (codes "runs thread method", on_thread (codes "Run"), object 4 ∷ [], Calls (named (codes "T")) (object 4 ∷ [])) ∷
    (codes "calls built in run", Call true (reference_to thread_name (Named (codes "Run")) []), Null ∷ [], Calls thread_name (Null ∷ [])) ∷
    [])
start_and_join = refl

built_in_run_too_deep : does_deep (Call true (reference_to thread_name (Named (codes "Run")) [])) (Null ∷ []) ≡ Faults StackOverflow
built_in_run_too_deep = refl
