-- The results of operations on integers (III.1.5 and III.3).
use Rattle.std.specs.Prelude.{ℕ, ◌-◌, ◌*◌, ◌/◌, ◌%◌, ◌^◌, ℤ, pos, negsuc, ◌+ℤ◌, ◌-ℤ◌, ◌*ℤ◌, Bool, true, false, not, ◌&&◌, if◌then◌else◌, int_lt, int_le, int_div, int_rem, Option, Some, None, Result, Ok, Err}
use Rattle.std.specs.Ordering.{int_eq}
use Rattle.std.specs.Int.{Width, byte_len, w32, w64, cast_signed, cast_unsigned, int_wrapping_add, int_wrapping_sub, int_wrapping_mul, int_wrapping_neg, int_bit_and, int_bit_or, int_bit_xor, int_bit_not, int_shl, int_shr}
use Rattle.cil_model.specs.declared.instructions.BinaryOperation.{BinaryOperation}
use Rattle.cil_model.specs.declared.instructions.BinaryOperation.TheVariants.{Add, Subtract, Multiply, AddOverflow, SubtractOverflow, MultiplyOverflow, Divide, Remainder, And, Or, ExclusiveOr}
use Rattle.cil_model.specs.declared.instructions.UnaryOperation.{UnaryOperation}
use Rattle.cil_model.specs.declared.instructions.UnaryOperation.TheVariants.{Negate, Complement}
use Rattle.cil_model.specs.declared.instructions.ShiftOperation.{ShiftOperation}
use Rattle.cil_model.specs.declared.instructions.ShiftOperation.TheVariants.{Left, Right, RightUnsigned}
use Rattle.cil_model.specs.declared.instructions.Comparison.{Comparison}
use Rattle.cil_model.specs.declared.instructions.Comparison.TheVariants.{Equal, Greater, Less}
use Rattle.cil_model.specs.declared.instructions.BranchComparison.{BranchComparison}
use Rattle.cil_model.specs.declared.instructions.BranchComparison.TheVariants.{Equal as BranchEqual, NotEqual, GreaterOrEqual, Greater as BranchGreater, LessOrEqual, Less as BranchLess}
use Rattle.cil_model.specs.declared.reports.Fault.{Fault}
use Rattle.cil_model.specs.declared.reports.Fault.TheVariants.{DivideByZero, Arithmetic, Overflow}
use Rattle.reference_machine.specs.Values.{Value, Int32, Int64, Native, Null, Reference, same_object}

-- how many bits an integer has
abbrev pub bit_count : Width → ℕ
bit_count w = 8 * byte_len w

-- the integer of least value
abbrev pub least : Width → ℤ
least w = negsuc (2 ^ (bit_count w - 1) - 1)

-- whether the number is an integer of that many bits
abbrev pub is_in_range : Width → ℤ → Bool
is_in_range w z = int_le (least w) z && int_lt z (pos (2 ^ (bit_count w - 1)))

-- the exact result, where it fits (III.3.2)
abbrev pub exact : Width → ℤ → Result ℤ Fault
exact w z = if is_in_range w z then Ok z else Err Overflow

-- a result of a division (III.3.31, III.3.55; a remainder of least value by -1 faults too in this profile)
abbrev pub quotient : Width → ℤ → ℤ → ℤ → Result ℤ Fault
quotient w x y result =
    if int_eq y (pos 0) then Err DivideByZero
    else if int_eq x (least w) && int_eq y (negsuc 0) then Err Arithmetic
    else Ok result

-- an operation on two integers of one size
abbrev pub binary : Width → BinaryOperation → ℤ → ℤ → Result ℤ Fault
binary w Add x y = Ok (int_wrapping_add w x y)
binary w Subtract x y = Ok (int_wrapping_sub w x y)
binary w Multiply x y = Ok (int_wrapping_mul w x y)
binary w AddOverflow x y = exact w (x +ℤ y)
binary w SubtractOverflow x y = exact w (x -ℤ y)
binary w MultiplyOverflow x y = exact w (x *ℤ y)
binary w Divide x y = quotient w x y (int_div x y)
binary w Remainder x y = quotient w x y (int_rem x y)
binary w And x y = Ok (int_bit_and w x y)
binary w Or x y = Ok (int_bit_or w x y)
binary w ExclusiveOr x y = Ok (int_bit_xor w x y)

-- an operation on one integer (III.3.50, III.3.52)
abbrev pub unary : Width → UnaryOperation → ℤ → ℤ
unary w Negate x = int_wrapping_neg w x
unary w Complement x = int_bit_not w x

-- a shift by an amount of which the low five or six bits count (III.3.58 to III.3.60; the mask is this profile's)
abbrev pub shift_by : Width → ShiftOperation → ℤ → ℕ → ℤ
shift_by w Left x k = int_shl w x k
shift_by w Right x k = int_shr x k
shift_by w RightUnsigned x k = cast_signed w (cast_unsigned w x / 2 ^ k)

-- the amount counts as unsigned (this profile)
abbrev pub shift : Width → ShiftOperation → ℤ → ℤ → ℤ
shift w op x amount = shift_by w op x (cast_unsigned w32 amount % bit_count w)

-- a comparison of two integers (III.1.5, table 4)
abbrev pub comparison_holds : Comparison → ℤ → ℤ → Bool
comparison_holds Equal x y = int_eq x y
comparison_holds Greater x y = int_lt y x
comparison_holds Less x y = int_lt x y

-- ---- the same on operands of whatever values; none where one is of the wrong kind

-- what an operation sees of a value on the stack (III.1.5): an integer of one size, or a reference, which is null or is not
pub data Operand : Type 0 where
  I4 : ℤ → Operand
  I8 : ℤ → Operand
  NativeInt : ℤ → Operand
  Object : (is_null : Bool) → Operand

-- a result with its value replaced, or the same fault
abbrev pub result_as : {A B : Type 0} → (A → B) → Result A Fault → Result B Fault
result_as kind (Ok z) = Ok (kind z)
result_as kind (Err f) = Err f

-- both operands have one size (III.1.5, table 2)
abbrev pub binary_of : {V : Type 0} → (ℤ → V) → (ℤ → V) → BinaryOperation → Operand → Operand → Option (Result V Fault)
binary_of int32 int64 op (I4 x) (I4 y) = Some (result_as int32 (binary w32 op x y))
binary_of int32 int64 op (I8 x) (I8 y) = Some (result_as int64 (binary w64 op x y))
binary_of int32 int64 op _ _ = None

-- the operand is an integer of either size (III.1.5, table 3)
abbrev pub unary_of : {V : Type 0} → (ℤ → V) → (ℤ → V) → UnaryOperation → Operand → Option V
unary_of int32 int64 op (I4 x) = Some (int32 (unary w32 op x))
unary_of int32 int64 op (I8 x) = Some (int64 (unary w64 op x))
unary_of int32 int64 op _ = None

-- the amount has 32 bits (III.1.5, table 6)
abbrev pub shift_of : {V : Type 0} → (ℤ → V) → (ℤ → V) → ShiftOperation → Operand → Operand → Option V
shift_of int32 int64 op (I4 x) (I4 amount) = Some (int32 (shift w32 op x amount))
shift_of int32 int64 op (I8 x) (I4 amount) = Some (int64 (shift w64 op x amount))
shift_of int32 int64 op _ _ = None

-- whether the operand is neither zero nor null (III.3.17, III.3.18)
abbrev pub is_set_of : Operand → Option Bool
is_set_of (I4 x) = Some (not (int_eq x (pos 0)))
is_set_of (I8 x) = Some (not (int_eq x (pos 0)))
is_set_of (NativeInt x) = None
is_set_of (Object is_null) = Some (not is_null)

-- conv.i4 keeps the low 32 bits (III.3.27)
abbrev pub convert_32_of : {V : Type 0} → (ℤ → V) → Operand → Option V
convert_32_of int32 (I4 x) = Some (int32 x)
convert_32_of int32 (I8 x) = Some (int32 (cast_signed w32 (cast_unsigned w64 x % 2 ^ 32)))
convert_32_of int32 (NativeInt x) = Some (int32 (cast_signed w32 (cast_unsigned w64 x % 2 ^ 32)))
convert_32_of int32 (Object is_null) = None

-- conv.i8 extends the sign (III.3.27)
abbrev pub convert_64_of : {V : Type 0} → (ℤ → V) → Operand → Option V
convert_64_of int64 (I4 x) = Some (int64 x)
convert_64_of int64 (I8 x) = Some (int64 x)
convert_64_of int64 (NativeInt x) = Some (int64 x)
convert_64_of int64 (Object is_null) = None

-- what a comparison leaves on the stack (III.3.21)
abbrev pub one_or_zero_of : {V : Type 0} → (ℤ → V) → Bool → V
one_or_zero_of int32 true = int32 (pos 1)
one_or_zero_of int32 false = int32 (pos 0)

-- ---- the same on values

-- what an operation sees of a value
abbrev pub operand : Value → Operand
operand (Int32 x) = I4 x
operand (Int64 x) = I8 x
operand (Native x) = NativeInt x
operand Null = Object true
operand (Reference n) = Object false

abbrev pub binary_value : BinaryOperation → Value → Value → Option (Result Value Fault)
binary_value op v w = binary_of Int32 Int64 op (operand v) (operand w)

abbrev pub unary_value : UnaryOperation → Value → Option Value
unary_value op v = unary_of Int32 Int64 op (operand v)

abbrev pub shift_value : ShiftOperation → Value → Value → Option Value
shift_value op v amount = shift_of Int32 Int64 op (operand v) (operand amount)

abbrev pub is_set : Value → Option Bool
is_set v = is_set_of (operand v)

abbrev pub convert_32 : Value → Option Value
convert_32 v = convert_32_of Int32 (operand v)

abbrev pub convert_64 : Value → Option Value
convert_64 v = convert_64_of Int64 (operand v)

abbrev pub one_or_zero : Bool → Value
one_or_zero holds = one_or_zero_of Int32 holds

-- references are equal where they are one object's (III.1.5, table 4)
abbrev pub equal_values : Value → Value → Option Bool
equal_values (Int32 x) (Int32 y) = Some (int_eq x y)
equal_values (Int64 x) (Int64 y) = Some (int_eq x y)
equal_values Null Null = Some true
equal_values Null (Reference n) = Some false
equal_values (Reference m) Null = Some false
equal_values (Reference m) (Reference n) = Some (same_object m n)
equal_values _ _ = None

-- an ordering test on two integers of one size
abbrev pub ordered_values : (ℤ → ℤ → Bool) → Value → Value → Option Bool
ordered_values test (Int32 x) (Int32 y) = Some (test x y)
ordered_values test (Int64 x) (Int64 y) = Some (test x y)
ordered_values test _ _ = None

-- ceq, cgt and clt (III.3.21, III.3.22, III.3.25)
abbrev pub compare_values : Comparison → Value → Value → Option Bool
compare_values Equal v w = equal_values v w
compare_values Greater v w = ordered_values (λ x y. int_lt y x) v w
compare_values Less v w = ordered_values int_lt v w

-- the opposite of a result, where there is one
abbrev pub not_option : Option Bool → Option Bool
not_option None = None
not_option (Some b) = Some (not b)

-- whether a branch is taken (III.3.5 to III.3.14)
abbrev pub branch_values : BranchComparison → Value → Value → Option Bool
branch_values BranchEqual v w = equal_values v w
branch_values NotEqual v w = not_option (equal_values v w)
branch_values GreaterOrEqual v w = ordered_values (λ x y. int_le y x) v w
branch_values BranchGreater v w = ordered_values (λ x y. int_lt y x) v w
branch_values LessOrEqual v w = ordered_values int_le v w
branch_values BranchLess v w = ordered_values int_lt v w

-- an array's length or an index (III.4.20, III.4.8)
abbrev pub as_index : Value → Option ℤ
as_index (Int32 x) = Some x
as_index (Native x) = Some x
as_index _ = None
