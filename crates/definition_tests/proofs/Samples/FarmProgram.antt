-- A small program and a state of it, in which single instructions are tested.
use Rattle.std.proofs.Common.{ℕ, ◌-◌, pos, negsuc, Bool, true, false, List, [], ◌∷◌, reverse, Option, Some, None, codes, option_map, option_and_then, slice_get}
use Rattle.cil_model.specs.declared.types.ClassName.{ClassName}
use Rattle.cil_model.specs.declared.types.Element.TheVariants.{Int32 as Int32Element, Int64 as Int64Element, Object}
use Rattle.cil_model.specs.declared.types.DeclaredType.{DeclaredType}
use Rattle.cil_model.specs.declared.instructions.FieldReference.{FieldReference}
use Rattle.cil_model.specs.declared.instructions.MethodName.TheVariants.{Named}
use Rattle.cil_model.specs.declared.instructions.Instruction.{Instruction}
use Rattle.cil_model.specs.declared.instructions.Instruction.TheVariants.{NoOperation, LoadInt32, LoadString, Return}
use Rattle.cil_model.specs.declared.trees.Tree.{Tree}
use Rattle.cil_model.specs.declared.trees.Class.{Class}
use Rattle.cil_model.specs.declared.trees.Method.{Method}
use Rattle.cil_model.specs.declared.trees.MethodKind.TheVariants.{Static, Instance}
use Rattle.cil_model.specs.declared.trees.Member.{Member}
use Rattle.cil_model.specs.declared.trees.Member.TheVariants.{Field as FieldMember, Method as MethodMember}
use Rattle.cil_model.specs.declared.reports.Fault.{Fault}
use Rattle.cil_model.specs.declared.reports.End.TheVariants.{Done}
use Rattle.cil_model.specs.Declarations.{object_name, plain, void_method}
use Rattle.cil_model.specs.Fields.{FieldKey}
use Rattle.reference_machine.specs.Values.{ObjectName, Born, Literal, Value, Int32, Int64, Null, Reference}
use Rattle.reference_machine.specs.States.{Monitor, Free, Held, Contents, Instance as Object_, Array, HeapObject, Frame, Thread, State, object_at, field_value, array_at, monitor_of}
use Rattle.reference_machine.specs.Effects.{StepContext, Effect, Goes, Blocks, Raises, Sticks}
use Rattle.reference_machine.specs.Steps.{execute}
use Rattle.cil_model.specs.Examples.{usual_limits, unlabelled_line}
use Rattle.definition_tests.proofs.Samples.Programs.{named, of_class, class_with, interface_with, thread_class, code_with, constructor_over, virtual_f, abstract_f}

-- ---- the program

abbrev pub animal : ClassName
animal = named (codes "Animal")

abbrev pub dog : ClassName
dog = named (codes "Dog")

abbrev pub cat : ClassName
cat = named (codes "Cat")

abbrev pub runner : ClassName
runner = named (codes "IRun")

abbrev pub field_member : Bool → DeclaredType → List ℕ → Member
field_member is_static t name = FieldMember (record { is_static = is_static; field_type = t; name = name })

abbrev pub method_member : Method → Member
method_member m = MethodMember m

-- `g` of Animal, which is not virtual and gives a number
abbrev pub method_g : Method
method_g = record { name = Named (codes "g"); signature = record { parameters = plain Int32Element ∷ []; return_type = Some (plain Int32Element) }; kind = Instance (code_with [] (LoadInt32 (pos 1) ∷ Return ∷ [])) }

-- `h` of Animal, which is static
abbrev pub method_h : Method
method_h = void_method (Named (codes "h")) (plain Object ∷ []) (Static (code_with (plain Int64Element ∷ of_class (codes "Dog") ∷ []) (Return ∷ [])))

-- Main has two labels, and two literals which are equal
abbrev pub main_of_farm : Method
main_of_farm = void_method (Named (codes "Main")) [] (Static (record {
  is_entry_point = true;
  max_stack = pos 8;
  locals = plain Int64Element ∷ [];
  lines = record { labels = codes "A" ∷ []; instruction = NoOperation } ∷ unlabelled_line NoOperation ∷ record { labels = codes "B" ∷ codes "C" ∷ []; instruction = LoadString (codes "a") } ∷ unlabelled_line (LoadString (codes "a")) ∷ unlabelled_line Return ∷ [];
}))

abbrev pub farm_classes : List Class
farm_classes =
    interface_with (codes "IRun") (abstract_f ∷ []) ∷
    class_with (codes "Animal") object_name [] (
    field_member false (plain Int32Element) (codes "age") ∷ field_member false (plain Int64Element) (codes "weight") ∷ field_member false (of_class (codes "Animal")) (codes "friend") ∷
    field_member true (plain Int32Element) (codes "count") ∷ field_member true (plain Object) (codes "lock") ∷
    constructor_over object_name ∷ method_member method_g ∷ method_member method_h ∷ []) ∷
    class_with (codes "Dog") animal (runner ∷ []) (constructor_over animal ∷ virtual_f true ∷ []) ∷
    class_with (codes "Cat") animal [] (constructor_over animal ∷ []) ∷
    thread_class (Return ∷ []) ∷
    class_with (codes "P") object_name [] (method_member main_of_farm ∷ []) ∷ []

abbrev pub farm : Tree
farm = record { externs = codes "mscorlib" ∷ codes "cilvm" ∷ []; assembly = None; classes = farm_classes }

-- ---- the state

abbrev pub int : ℕ → Value
int n = Int32 (pos n)

abbrev pub minus : ℕ → Value
minus n = Int32 (negsuc (n - 1))

abbrev pub long : ℕ → Value
long n = Int64 (pos n)

abbrev pub object : ℕ → Value
object n = Reference (Born n)

abbrev pub text : List ℕ → Value
text characters = Reference (Literal characters)

abbrev pub key : List ℕ → FieldKey
key name = record { declared_in = animal; name = name }

abbrev pub heap_object : Contents → Monitor → Option ℕ → HeapObject
heap_object contents monitor thread = record { contents = contents; monitor = monitor; thread = thread }

abbrev pub animal_fields : List (FieldKey × Value)
animal_fields = (key (codes "age"), int 3) ∷ (key (codes "weight"), long 4) ∷ (key (codes "friend"), Null) ∷ []

abbrev pub idle_frame : Frame
idle_frame = record { owner = named (codes "P"); method = main_of_farm; pc = 1; arguments = int 10 ∷ Null ∷ []; locals = long 20 ∷ []; stack = []; constructed = None }

-- 0 a Dog, 1 an `int32[]`, 2 a `Dog[]`, 3 a Cat, 4 a thread that was not started, 5 one that is live, 6 one that has
-- ended, 7 an `int64[]`, 8 an object whose monitor thread 0 holds twice, 9 one whose monitor thread 1 holds
abbrev pub farm_state : State
farm_state = record {
  objects =
      heap_object (Object_ dog animal_fields) Free None ∷
      heap_object (Array (plain Int32Element) (int 5 ∷ int 6 ∷ [])) Free None ∷
      heap_object (Array (of_class (codes "Dog")) (Null ∷ object 0 ∷ [])) Free None ∷
      heap_object (Object_ cat animal_fields) Free None ∷
      heap_object (Object_ (named (codes "T")) []) Free None ∷
      heap_object (Object_ (named (codes "T")) []) Free (Some 1) ∷
      heap_object (Object_ (named (codes "T")) []) Free (Some 2) ∷
      heap_object (Array (plain Int64Element) (long 7 ∷ [])) Free None ∷
      heap_object (Object_ object_name []) (Held 0 2) None ∷
      heap_object (Object_ object_name []) (Held 1 1) None ∷ [];
  literal_monitors = (codes "a", Free) ∷ [];
  statics = (key (codes "count"), int 1) ∷ (key (codes "lock"), Null) ∷ [];
  threads =
      record { frames = idle_frame ∷ []; steps_left = 9; ended = None } ∷
      record { frames = idle_frame ∷ []; steps_left = 9; ended = None } ∷
      record { frames = []; steps_left = 9; ended = Some Done } ∷ [];
  printed = codes "x";
}

-- ---- one instruction on operands that were pushed in this order

abbrev pub setting : StepContext
setting = record { tree = farm; limits = record usual_limits { depth = 2 }; thread = 0; is_refused = false }

abbrev pub effect_in : StepContext → Instruction → List Value → Effect
effect_in here i operands = execute here farm_state (record idle_frame { stack = reverse operands }) [] i

-- what the thread does then, with the stack in the order in which it was pushed
pub data Deed : Type 0 where
  Leaves : List Value → Deed
  Calls : ClassName → List Value → Deed
  Finishes : Deed
  Waits : Deed
  Faults : Fault → Deed
  NoMeaning : Deed

abbrev pub deed_of : Effect → Deed
deed_of (Goes [] s) = Finishes
deed_of (Goes (f ∷ []) s) = Leaves (reverse f.stack)
deed_of (Goes (f ∷ g ∷ fs) s) = Calls f.owner f.arguments
deed_of Blocks = Waits
deed_of (Raises x) = Faults x
deed_of Sticks = NoMeaning

abbrev pub does : Instruction → List Value → Deed
does i operands = deed_of (effect_in setting i operands)

-- where a birth is refused, and where no further frame is allowed
abbrev pub does_refused : Instruction → List Value → Deed
does_refused i operands = deed_of (effect_in (record setting { is_refused = true }) i operands)

abbrev pub does_deep : Instruction → List Value → Deed
does_deep i operands = deed_of (effect_in (record setting { limits = record usual_limits { depth = 1 }; is_refused = true }) i operands)

-- the pc of the next instruction, and what a state shows afterwards
abbrev pub pc_after : Instruction → List Value → Option ℕ
pc_after i operands = by_effect (effect_in setting i operands)
  where
    by_effect : Effect → Option ℕ
    by_effect (Goes (f ∷ fs) s) = Some f.pc
    by_effect _ = None

abbrev pub state_after : Instruction → List Value → Option State
state_after i operands = by_effect (effect_in setting i operands)
  where
    by_effect : Effect → Option State
    by_effect (Goes fs s) = Some s
    by_effect _ = None

-- field references
abbrev pub field_of_animal : DeclaredType → List ℕ → FieldReference
field_of_animal t name = record { field_type = t; owner = dog; name = name }

-- what is found in the state after an instruction
abbrev pub field_after : List ℕ → ObjectName → Instruction → List Value → Option Value
field_after name n i operands = option_and_then (λ s. field_value s n (key name)) (state_after i operands)

abbrev pub elements_after : ObjectName → Instruction → List Value → Option (DeclaredType × List Value)
elements_after n i operands = option_and_then (λ s. array_at s n) (state_after i operands)

abbrev pub monitor_after : ObjectName → Instruction → List Value → Option Monitor
monitor_after n i operands = option_and_then (λ s. monitor_of s n) (state_after i operands)

abbrev pub statics_after : Instruction → List Value → Option (List (FieldKey × Value))
statics_after i operands = option_map (λ (s : State). s.statics) (state_after i operands)

abbrev pub printed_after : Instruction → List Value → Option (List ℕ)
printed_after i operands = option_map (λ (s : State). s.printed) (state_after i operands)

abbrev pub born_after : Instruction → List Value → Option (Option HeapObject)
born_after i operands = option_map (λ s. object_at s (Born 10)) (state_after i operands)

abbrev pub thread_after : ℕ → Instruction → List Value → Option (Option Thread)
thread_after t i operands = option_map (λ (s : State). slice_get s.threads t) (state_after i operands)

-- a return from a method to a caller whose stack holds 7
abbrev pub returns : Method → Option ObjectName → List Value → Deed
returns m constructed stack = deed_of (execute setting farm_state (record idle_frame { method = m; stack = reverse stack; constructed = constructed }) (record idle_frame { stack = int 7 ∷ [] } ∷ []) Return)
