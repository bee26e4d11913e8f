-- What runs for calls and newobj, and for the built-in members (III.3.19, III.4.2, III.4.21, Partition IV). A rule has no result where an
-- operand is missing or of another kind.
use Rattle.std.specs.Prelude.{ℕ, zero, suc, ◌==◌, Bool, false, if◌then◌else◌, nat_lt, List, ◌∷◌, length, Option, Some, None, option_map, option_and_then, slice_get}
use Rattle.std.specs.Option.{option_map_or}
use Rattle.cil_model.specs.declared.types.ClassName.{ClassName}
use Rattle.cil_model.specs.declared.trees.Tree.{Tree}
use Rattle.cil_model.specs.declared.trees.Method.{Method}
use Rattle.cil_model.specs.declared.reports.Fault.TheVariants.{NullReference}
use Rattle.cil_model.specs.Bodies.{argument_types}
use Rattle.cil_model.specs.Mentions.{literals_of}
use Rattle.reference_machine.specs.BuiltIn.{Action, Construct, Write, Enter, Exit, Start, Join, action_of}
use Rattle.name_tables.specs.declared.ids.MethodId.{MethodId}
use Rattle.name_tables.specs.Numbers.{method_at}
use Rattle.object_memory.specs.declared.addresses.Addr.{Addr}
use Rattle.object_memory.specs.declared.kinds.Kind.{Kind}
use Rattle.object_memory.specs.declared.kinds.Kind.TheVariants.{Instance, Array}
use Rattle.object_memory.specs.declared.values.Value.{Value}
use Rattle.object_memory.specs.declared.values.Value.TheVariants.{Ref}
use Rattle.object_memory.specs.Cells.{Cell, literal_number}
use Rattle.object_memory.specs.Objects.{Objects, object_cell}
use Rattle.loaded_program.specs.AllMethods.{all_methods}
use Rattle.loaded_program.specs.name_tables.declared.ids.TheConstants.{STRING_NUMBER}
use Rattle.loaded_program.specs.MethodNumbers.{number_of}
use Rattle.loaded_program.specs.LocalKinds.{local_kinds}
use Rattle.threads_monitors.specs.declared.mutators.Mutator.{Mutator}
use Rattle.threads_monitors.specs.Frames.{Frames}
use Rattle.threads_monitors.specs.declared.effects.Effect.{Effect}
use Rattle.threads_monitors.specs.declared.effects.Effect.TheVariants.{Raises}
pub use Rattle.loaded_program.specs.LoadedPrograms.{chosen_by}
use Rattle.instructions.specs.Frames.{when_some, with_top, onward}
use Rattle.instructions.specs.ObjectTransitions.{ObjectTransition, with_objects}
use Rattle.instructions.specs.Calls.{CalledMethod, call_transition, new_object_transition, new_plain_object_transition}
use Rattle.instructions.specs.BuiltInTransitions.{enter_transition, exit_transition, write_transition}
use Rattle.interpreter.specs.declared.outcomes.InstructionOutcome.{InstructionOutcome}
use Rattle.interpreter.specs.declared.outcomes.InstructionOutcome.TheVariants.{OwnEffect, Starts, Joins}

-- the frames, the objects and the printed bytes after an instruction, and its outcome
pub record CallAnswer : Type 0 where
  pub frames : Frames
  pub objects : Objects
  pub printed : List ℕ
  pub outcome : InstructionOutcome

abbrev pub call_answer : Frames → Objects → List ℕ → InstructionOutcome → CallAnswer
call_answer m o console outcome = record { frames = m; objects = o; printed = console; outcome = outcome }

-- or there is none
abbrev pub CallTransition : Type 0
CallTransition = Option CallAnswer

-- a transition of frames and objects beside the printed bytes
abbrev pub with_console : List ℕ → ObjectTransition → CallTransition
with_console console transition = option_map (λ (t : Frames × Objects × Effect). call_answer t.0 t.1 console (OwnEffect t.2)) transition

-- whether a rule has a result that prints: there are more bytes than there were
abbrev pub grows_console : List ℕ → CallTransition → Bool
grows_console console transition = option_map_or (λ (t : CallAnswer). nat_lt (length console) (length t.printed)) transition false

-- ---- built-in members

-- the topmost value, where it is a reference
abbrev pub top_reference : List Value → Option Addr
top_reference (Ref a ∷ rest) = Some a
top_reference _ = None

-- asks for something of another thread; the operand stays until it is done
abbrev pub request_outcome : (Addr → InstructionOutcome) → Frames → Objects → List ℕ → CallTransition
request_outcome what m o console = option_map (λ a. call_answer m o console (what a)) (top_reference m.running.stack)

-- what a member without code does
abbrev pub act_transition : Tree → Mutator → Action → Frames → Objects → List ℕ → CallTransition
act_transition tree mutator Construct m o console = with_top m (λ v n. with_console console (with_objects o (onward n)))
act_transition tree mutator Write m o console = option_map (λ (t : Frames × List ℕ × Effect). call_answer t.0 o t.1 (OwnEffect t.2)) (write_transition (literals_of tree) console m)
act_transition tree mutator Enter m o console = with_console console (enter_transition mutator m o)
act_transition tree mutator Exit m o console = with_console console (exit_transition mutator m o)
act_transition tree mutator Start m o console = request_outcome Starts m o console
act_transition tree mutator Join m o console = request_outcome Joins m o console

-- ---- calls

-- a method as it is called, under its number
abbrev pub called_method : ClassName × Method → ℕ → CalledMethod
called_method found n = record { method = n; arguments = length (argument_types found.1 found.0); locals = local_kinds found.1 }

-- a method that runs: an action of its own, or a frame (III.3.19)
abbrev pub run_transition : Tree → Mutator → ClassName × Method → Frames → Objects → List ℕ → CallTransition
run_transition tree mutator found m o console =
    option_map_or (λ a. act_transition tree mutator a m o console) (action_of found.0 found.1)
    (when_some (number_of tree found) (λ n. with_console console (with_objects o (call_transition (called_method found n) m))))

-- the same of the method of a flat number
abbrev pub call_by_id : Tree → Mutator → ℕ → Frames → Objects → List ℕ → CallTransition
call_by_id tree mutator number m o console = when_some (slice_get (all_methods tree) number) (λ found. run_transition tree mutator found m o console)

-- the number of the class of an object of this kind; an array has none
abbrev pub class_of_kind : Kind → Option ℕ
class_of_kind (Instance c) = Some c
class_of_kind (Array a) = None

-- of what lies at an address: a literal is of System.String
abbrev pub class_at : Objects → Addr → Option (Option ℕ)
class_at o a = option_map_or (λ n. Some (Some STRING_NUMBER)) (literal_number a) (option_map (λ (c : Cell). class_of_kind c.kind) (object_cell o a))

-- the method that runs for an object
abbrev pub chosen_method : Tree → Objects → Addr → ClassName × Method → Option (ClassName × Method)
chosen_method tree o a found = option_and_then (chosen_by tree found) (class_at o a)

-- the same of the method of a number
abbrev pub chosen_at : Tree → Objects → Addr → MethodId → Option (ClassName × Method)
chosen_at tree o a n = option_and_then (chosen_method tree o a) (method_at tree (n.class, n.index))

-- the object on which a method with this number of operands is called
abbrev pub receiver_in : Option Value → Option Addr
receiver_in (Some (Ref a)) = Some a
receiver_in _ = None

abbrev pub receiver : List Value → ℕ → Option Addr
receiver stack zero = None
receiver stack (suc n) = receiver_in (slice_get stack n)

-- the method runs that an object has for the named one; null raises NullReference (III.4.2)
abbrev pub run_on : Tree → Mutator → ClassName × Method → Addr → Frames → Objects → List ℕ → CallTransition
run_on tree mutator found a m o console =
    if a.number == 0 then Some (call_answer m o console (OwnEffect (Raises NullReference)))
    else when_some (chosen_method tree o a found) (λ run. run_transition tree mutator run m o console)

-- a virtual call of a method with this number of operands (III.4.2)
abbrev pub virtual_transition : Tree → Mutator → ClassName × Method → ℕ → Frames → Objects → List ℕ → CallTransition
virtual_transition tree mutator found operands m o console = when_some (receiver m.running.stack operands) (λ a. run_on tree mutator found a m o console)

-- of the method of a flat number
abbrev pub virtual_by_id : Tree → Mutator → ℕ → ℕ → Frames → Objects → List ℕ → CallTransition
virtual_by_id tree mutator number operands m o console = when_some (slice_get (all_methods tree) number) (λ found. virtual_transition tree mutator found operands m o console)

-- an object of a class with this number of slots, at once where its constructor is built in (III.4.21)
abbrev pub make_object : Tree → Mutator → ℕ → ℕ → ClassName × Method → Frames → Objects → ObjectTransition
make_object tree mutator class slots found m o =
    option_map_or (λ a. new_plain_object_transition mutator.phase class slots m o) (action_of found.0 found.1)
    (when_some (number_of tree found) (λ n. new_object_transition mutator.phase class slots (called_method found n) m o))

-- the same with the constructor of a flat number
abbrev pub made_by_id : Tree → Mutator → ℕ → ℕ → ℕ → Frames → Objects → ObjectTransition
made_by_id tree mutator class slots number m o = when_some (slice_get (all_methods tree) number) (λ found. make_object tree mutator class slots found m o)
