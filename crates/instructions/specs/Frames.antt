-- What instructions that change frames alone do to them (III.3; the limits are this profile's). A rule has no result where an
-- operand is missing or of another kind, or where the frame has no room: no verified program comes there.
use Rattle.std.specs.Prelude.{ℕ, ◌+◌, ℤ, pos, Bool, true, false, not, ◌==◌, if◌then◌else◌, nat_lt, List, [], ◌∷◌, length, Option, Some, None, Result, Ok, Err, slice_get}
use Rattle.std.specs.Int.{w32, cast_unsigned}
use Rattle.cil_model.specs.declared.instructions.BinaryOperation.{BinaryOperation}
use Rattle.cil_model.specs.declared.instructions.UnaryOperation.{UnaryOperation}
use Rattle.cil_model.specs.declared.instructions.ShiftOperation.{ShiftOperation}
use Rattle.cil_model.specs.declared.instructions.Comparison.{Comparison}
use Rattle.cil_model.specs.declared.instructions.Comparison.TheVariants.{Equal}
use Rattle.cil_model.specs.declared.instructions.BranchComparison.{BranchComparison}
use Rattle.cil_model.specs.declared.instructions.BranchComparison.TheVariants.{Equal as BranchEqual, NotEqual}
use Rattle.cil_model.specs.declared.instructions.BranchCondition.{BranchCondition}
use Rattle.cil_model.specs.declared.instructions.BranchCondition.TheVariants as conditions
use Rattle.cil_model.specs.declared.limits.TheConstants.{MOST_INSTRUCTIONS}
use Rattle.cil_model.specs.declared.reports.Fault.{Fault}
use Rattle.cil_model.specs.Bodies.{at_index}
use Rattle.cil_model.specs.declared.phases.Phase.{Phase}
use Rattle.object_memory.specs.declared.values.Value.{Value}
use Rattle.object_memory.specs.declared.values.Value.TheVariants.{Int32, Int64, Native, Ref}
use Rattle.object_memory.specs.Objects.{Objects}
use Rattle.barriers.specs.Barriers.{are_comparable, are_same}
use Rattle.threads_monitors.specs.Frames.{Frames, size, with_pc, with_stack, with_argument, with_local}
use Rattle.threads_monitors.specs.declared.effects.Effect.{Effect}
use Rattle.threads_monitors.specs.declared.effects.Effect.TheVariants.{Continues, Raises}
use Rattle.reference_machine.specs.Values.{Int32 as Int32Value, Int64 as Int64Value}
use Rattle.reference_machine.specs.Arithmetic.{Operand, I4, I8, NativeInt, Object, binary_of, unary_of, shift_of, is_set_of, convert_32_of, convert_64_of, one_or_zero_of, comparison_holds, branch_values}

-- the frames after an instruction, and its outcome; or it has no result
abbrev pub Transition : Type 0
Transition = Option (Frames × Effect)

-- ---- what instructions are put together from

-- on to the instruction at a pc
abbrev pub jump : ℕ → Frames → Transition
jump pc m = if nat_lt pc MOST_INSTRUCTIONS then Some (with_pc m pc, Continues) else None

-- on to the next instruction
abbrev pub onward : Frames → Transition
onward m = if nat_lt m.running.pc MOST_INSTRUCTIONS then Some (with_pc m (m.running.pc + 1), Continues) else None

-- to one or the other
abbrev pub branch_if : Bool → ℕ → Frames → Transition
branch_if true pc m = jump pc m
branch_if false pc m = onward m

-- pushes a value and advances
abbrev pub value_pushed : Value → Frames → Transition
value_pushed v m = if nat_lt (size m.running) m.room then onward (with_stack m (v ∷ m.running.stack)) else None

-- continues with the topmost value, which is taken
abbrev pub top_of : {R : Type 0} → List Value → Frames → (Value → Frames → Option R) → Option R
top_of [] m go = None
top_of (v ∷ rest) m go = go v (with_stack m rest)

abbrev pub with_top : {R : Type 0} → Frames → (Value → Frames → Option R) → Option R
with_top m go = top_of m.running.stack m go

-- continues with what is there
abbrev pub when_some : {X R : Type 0} → Option X → (X → Option R) → Option R
when_some None go = None
when_some (Some x) go = go x

-- a result, or the fault
abbrev pub result_pushed : Frames → Result Value Fault → Transition
result_pushed m (Ok v) = value_pushed v m
result_pushed m (Err f) = Some (m, Raises f)

-- ---- values

-- what an operation sees of a value (III.1.5)
abbrev pub operand : Value → Operand
operand (Int32 x) = I4 x
operand (Int64 x) = I8 x
operand (Native x) = NativeInt x
operand (Ref a) = Object (a.number == 0)

-- the operations on operands, on values of this machine
abbrev pub binary_result : BinaryOperation → Value → Value → Option (Result Value Fault)
binary_result op v w = binary_of Int32 Int64 op (operand v) (operand w)

abbrev pub unary_result : UnaryOperation → Value → Option Value
unary_result op v = unary_of Int32 Int64 op (operand v)

abbrev pub shift_result : ShiftOperation → Value → Value → Option Value
shift_result op v amount = shift_of Int32 Int64 op (operand v) (operand amount)

abbrev pub is_set : Value → Option Bool
is_set v = is_set_of (operand v)

abbrev pub in_32_bits : Value → Option Value
in_32_bits v = convert_32_of Int32 (operand v)

abbrev pub in_64_bits : Value → Option Value
in_64_bits v = convert_64_of Int64 (operand v)

abbrev pub one_or_zero : Bool → Value
one_or_zero holds = one_or_zero_of Int32 holds

-- two references that are compared for being one (III.1.5, table 4)
abbrev pub same_reference : Comparison → Bool → Option Bool
same_reference Equal same = Some same
same_reference _ same = None

abbrev pub comparison : Phase → Objects → Comparison → Value → Value → Option Bool
comparison phase o op (Int32 x) (Int32 y) = Some (comparison_holds op x y)
comparison phase o op (Int64 x) (Int64 y) = Some (comparison_holds op x y)
comparison phase o op (Ref a) (Ref b) = if are_comparable phase o a b then same_reference op (are_same phase o a b) else None
comparison phase o op _ _ = None

abbrev pub branch_reference : BranchComparison → Bool → Option Bool
branch_reference BranchEqual same = Some same
branch_reference NotEqual same = Some (not same)
branch_reference _ same = None

abbrev pub branch_test : Phase → Objects → BranchComparison → Value → Value → Option Bool
branch_test phase o op (Int32 x) (Int32 y) = branch_values op (Int32Value x) (Int32Value y)
branch_test phase o op (Int64 x) (Int64 y) = branch_values op (Int64Value x) (Int64Value y)
branch_test phase o op (Ref a) (Ref b) = if are_comparable phase o a b then branch_reference op (are_same phase o a b) else None
branch_test phase o op _ _ = None

-- ---- instructions

abbrev pub argument_transition : ℤ → Frames → Transition
argument_transition n m = when_some (at_index m.running.arguments n) (λ v. value_pushed v m)

abbrev pub local_transition : ℤ → Frames → Transition
local_transition n m = when_some (at_index m.running.locals n) (λ v. value_pushed v m)

-- a store to an index that is there
abbrev pub store_in : {X : Type 0} → (ℕ → Frames) → List X → ℤ → Transition
store_in store xs (pos n) = if nat_lt n (length xs) then onward (store n) else None
store_in store xs _ = None

abbrev pub store_argument_transition : ℤ → Frames → Transition
store_argument_transition n m = with_top m (λ v k. store_in (λ i. with_argument k i v) k.running.arguments n)

abbrev pub store_local_transition : ℤ → Frames → Transition
store_local_transition n m = with_top m (λ v k. store_in (λ i. with_local k i v) k.running.locals n)

abbrev pub duplicate_transition : Frames → Transition
duplicate_transition m = with_top m (λ v n. value_pushed v m)

abbrev pub pop_transition : Frames → Transition
pop_transition m = with_top m (λ v n. onward n)

-- the second operand lies topmost
abbrev pub binary_transition : BinaryOperation → Frames → Transition
binary_transition op m = with_top m (λ w n. with_top n (λ v k. when_some (binary_result op v w) (result_pushed k)))

abbrev pub unary_transition : UnaryOperation → Frames → Transition
unary_transition op m = with_top m (λ v n. when_some (unary_result op v) (λ u. value_pushed u n))

abbrev pub shift_transition : ShiftOperation → Frames → Transition
shift_transition op m = with_top m (λ w n. with_top n (λ v k. when_some (shift_result op v w) (λ u. value_pushed u k)))

abbrev pub compare_transition : Phase → Comparison → Frames → Objects → Transition
compare_transition phase op m o = with_top m (λ w n. with_top n (λ v k. when_some (comparison phase o op v w) (λ holds. value_pushed (one_or_zero holds) k)))

abbrev pub convert_32_transition : Frames → Transition
convert_32_transition m = with_top m (λ v n. when_some (in_32_bits v) (λ u. value_pushed u n))

abbrev pub convert_64_transition : Frames → Transition
convert_64_transition m = with_top m (λ v n. when_some (in_64_bits v) (λ u. value_pushed u n))

-- a branch, by how it compares two operands (III.3.5 to III.3.18)
abbrev pub branch_by : (BranchComparison → Value → Value → Option Bool) → BranchCondition → ℕ → Frames → Transition
branch_by compared conditions.Always pc m = jump pc m
branch_by compared conditions.IfTrue pc m = with_top m (λ v n. when_some (is_set v) (λ holds. branch_if holds pc n))
branch_by compared conditions.IfFalse pc m = with_top m (λ v n. when_some (is_set v) (λ holds. branch_if (not holds) pc n))
branch_by compared (conditions.Compare op) pc m = with_top m (λ w n. with_top n (λ v k. when_some (compared op v w) (λ holds. branch_if holds pc k)))

abbrev pub branch_transition : Phase → BranchCondition → ℕ → Frames → Objects → Transition
branch_transition phase condition pc m o = branch_by (branch_test phase o) condition pc m

-- to the pc at that index of the table, read as unsigned, or on to the next instruction (III.3.66)
abbrev pub to_pc : Option ℕ → Frames → Transition
to_pc None m = onward m
to_pc (Some pc) m = jump pc m

abbrev pub switch_on : List ℕ → Value → Frames → Transition
switch_on pcs (Int32 z) m = to_pc (slice_get pcs (cast_unsigned w32 z)) m
switch_on pcs _ m = None

abbrev pub switch_transition : List ℕ → Frames → Transition
switch_transition pcs m = with_top m (switch_on pcs)
