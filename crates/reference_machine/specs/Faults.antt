-- Which faults an instruction may raise, in the order of their checks (the exceptions of each entry of III.3 and III.4; the order is this profile's).
use Rattle.std.specs.Prelude.{◌≡◌, ◌⊎◌, true, List, [], ◌∷◌, Some, Contains}
use Rattle.cil_model.specs.declared.instructions.BinaryOperation.{BinaryOperation}
use Rattle.cil_model.specs.declared.instructions.BinaryOperation.TheVariants.{AddOverflow, SubtractOverflow, MultiplyOverflow, Divide, Remainder}
use Rattle.cil_model.specs.declared.instructions.ElementKind.TheVariants as kinds
use Rattle.cil_model.specs.declared.instructions.Instruction.{Instruction}
use Rattle.cil_model.specs.declared.instructions.Instruction.TheVariants.{Binary, LoadField, StoreField, NewArray, LoadLength, LoadElement, StoreElement, CastClass, Call, CallVirtual, NewObject}
use Rattle.cil_model.specs.declared.types.ClassName.{ClassName}
use Rattle.cil_model.specs.declared.trees.Method.{Method}
use Rattle.cil_model.specs.declared.trees.Tree.{Tree}
use Rattle.cil_model.specs.declared.reports.Fault.{Fault}
use Rattle.cil_model.specs.declared.reports.Fault.TheVariants.{NullReference, IndexOutOfRange, ArrayTypeMismatch, InvalidCast, DivideByZero, Arithmetic, Overflow, OutOfMemory, TooManyThreads, StackOverflow, ArgumentNull, SynchronizationLock, ThreadState}
use Rattle.cil_model.specs.Bodies.{virtual_reference}
use Rattle.cil_model.specs.Chains.{find_method}
use Rattle.cil_model.specs.Slots.{target}
use Rattle.reference_machine.specs.BuiltIn.{Action, Construct, Write, Enter, Exit, Start, Join, action_of}

-- those of an operation on two integers (III.3.2, III.3.31, III.3.49, III.3.55, III.3.65)
abbrev pub faults_of_operation : BinaryOperation → List Fault
faults_of_operation AddOverflow = Overflow ∷ []
faults_of_operation SubtractOverflow = Overflow ∷ []
faults_of_operation MultiplyOverflow = Overflow ∷ []
faults_of_operation Divide = DivideByZero ∷ Arithmetic ∷ []
faults_of_operation Remainder = DivideByZero ∷ Arithmetic ∷ []
faults_of_operation _ = []

-- a call of a built-in member raises that member's faults in place of a stack overflow
abbrev pub faults_of : Instruction → List Fault
faults_of (Binary op) = faults_of_operation op
faults_of (LoadField r) = NullReference ∷ []
faults_of (StoreField r) = NullReference ∷ []
faults_of (NewArray t) = Overflow ∷ OutOfMemory ∷ []
faults_of LoadLength = NullReference ∷ []
faults_of (LoadElement kind) = NullReference ∷ IndexOutOfRange ∷ []
faults_of (StoreElement kinds.Reference) = NullReference ∷ IndexOutOfRange ∷ ArrayTypeMismatch ∷ []
faults_of (StoreElement kind) = NullReference ∷ IndexOutOfRange ∷ []
faults_of (CastClass t) = InvalidCast ∷ []
faults_of (Call is_instance r) = StackOverflow ∷ []
faults_of (CallVirtual owner name signature) = NullReference ∷ StackOverflow ∷ []
faults_of (NewObject c parameters) = StackOverflow ∷ OutOfMemory ∷ []
faults_of _ = []

-- those of a built-in member (Partition IV; Cilvm.Thread is this profile's)
abbrev pub faults_of_action : Action → List Fault
faults_of_action Construct = []
faults_of_action Write = []
faults_of_action Enter = ArgumentNull ∷ []
faults_of_action Exit = ArgumentNull ∷ SynchronizationLock ∷ []
faults_of_action Start = NullReference ∷ ThreadState ∷ TooManyThreads ∷ []
faults_of_action Join = NullReference ∷ ThreadState ∷ []

-- the method that a call may run: the one that it names, or what the class of the object has in its place
abbrev pub MayRun : Tree → Instruction → ClassName × Method → Type 0
MayRun tree (Call is_instance r) chosen = find_method tree is_instance r ≡ Some chosen
MayRun tree (CallVirtual owner name signature) chosen =
    (found : ClassName × Method) × (find_method tree true (virtual_reference owner name signature) ≡ Some found)
    × ((chosen ≡ found) ⊎ ((d : ClassName) × (target tree d found.0 found.1 ≡ Some chosen)))
MayRun tree _ chosen = ⊥

-- the fault is one of the instruction's own, or one of the built-in member's that it runs
pub data MayRaise (tree : Tree) : Instruction → Fault → Type 0 where
  itself : (i : Instruction) (x : Fault) → Contains (faults_of i) x → MayRaise tree i x
  member : (i : Instruction) (chosen : ClassName × Method) (a : Action) (x : Fault) → MayRun tree i chosen → action_of chosen.0 chosen.1 ≡ Some a → Contains (faults_of_action a) x → MayRaise tree i x
