-- Each instruction on integers: a result, and each of its faults in the order of the checks.
use Rattle.std.proofs.Common.{pos, negsuc, [], ◌∷◌, refl, codes}
use Rattle.cil_model.specs.declared.instructions.BinaryOperation.TheVariants.{Add, Subtract, Multiply, AddOverflow, SubtractOverflow, MultiplyOverflow, Divide, Remainder, And, Or, ExclusiveOr}
use Rattle.cil_model.specs.declared.instructions.UnaryOperation.TheVariants.{Negate, Complement}
use Rattle.cil_model.specs.declared.instructions.ShiftOperation.TheVariants.{Left, Right, RightUnsigned}
use Rattle.cil_model.specs.declared.instructions.Comparison.TheVariants.{Equal, Greater, Less}
use Rattle.cil_model.specs.declared.instructions.Instruction.TheVariants.{NoOperation, LoadInt32, LoadInt64, LoadNull, LoadString, LoadArgument, StoreArgument, LoadLocal, StoreLocal, Duplicate, Pop, Binary, Unary, Shift, Compare, ConvertInt32, ConvertInt64}
use Rattle.cil_model.specs.declared.reports.Fault.TheVariants.{DivideByZero, Arithmetic, Overflow}
use Rattle.reference_machine.specs.Values.{Value, Int32, Int64, Native, Null}
use Rattle.definition_tests.proofs.Samples.Tables.{PairAnswers}
use Rattle.definition_tests.proofs.Samples.FarmProgram.{int, minus, long, object, text, Leaves, Faults, NoMeaning, does}

abbrev most : Value
most = int 2147483647

abbrev least : Value
least = Int32 (negsuc 2147483647)

abbrev most_long : Value
most_long = Int64 (pos 9223372036854775807)

abbrev least_long : Value
least_long = Int64 (negsuc 9223372036854775807)

-- ---- constants, arguments, locals

constants : PairAnswers does (
    (codes "nothing", NoOperation, int 1 ∷ [], Leaves (int 1 ∷ [])) ∷
    (codes "constant", LoadInt32 (negsuc 0), [], Leaves (minus 1 ∷ [])) ∷
    (codes "long constant", LoadInt64 (pos 5), int 1 ∷ [], Leaves (int 1 ∷ long 5 ∷ [])) ∷
    (codes "null constant", LoadNull, [], Leaves (Null ∷ [])) ∷
    (codes "literal", LoadString (codes "a"), [], Leaves (text (codes "a") ∷ [])) ∷
    (codes "argument", LoadArgument (pos 0), [], Leaves (int 10 ∷ [])) ∷
    (codes "no argument", LoadArgument (pos 2), [], NoMeaning) ∷
    (codes "negative argument", LoadArgument (negsuc 0), [], NoMeaning) ∷
    (codes "local", LoadLocal (pos 0), [], Leaves (long 20 ∷ [])) ∷
    (codes "no local", LoadLocal (pos 1), [], NoMeaning) ∷
    (codes "to argument", StoreArgument (pos 0), int 1 ∷ int 2 ∷ [], Leaves (int 1 ∷ [])) ∷
    (codes "to argument of other kind", StoreArgument (pos 0), long 2 ∷ [], NoMeaning) ∷
    (codes "null argument", StoreArgument (pos 1), object 0 ∷ [], Leaves []) ∷
    (codes "to local", StoreLocal (pos 0), long 2 ∷ [], Leaves []) ∷
    (codes "to no local", StoreLocal (pos 1), long 2 ∷ [], NoMeaning) ∷
    (codes "duplicate", Duplicate, int 1 ∷ long 2 ∷ [], Leaves (int 1 ∷ long 2 ∷ long 2 ∷ [])) ∷
    (codes "duplicate nothing", Duplicate, [], NoMeaning) ∷
    (codes "popped", Pop, int 1 ∷ long 2 ∷ [], Leaves (int 1 ∷ [])) ∷
    (codes "pop nothing", Pop, [], NoMeaning) ∷
    [])
constants = refl

-- ---- sums and products

sums_and_products : PairAnswers does (
    (codes "sum wraps", Binary Add, most ∷ int 1 ∷ [], Leaves (least ∷ [])) ∷
    (codes "long sum wraps", Binary Add, most_long ∷ long 1 ∷ [], Leaves (least_long ∷ [])) ∷
    (codes "difference", Binary Subtract, int 2 ∷ int 5 ∷ [], Leaves (minus 3 ∷ [])) ∷
    (codes "difference wraps", Binary Subtract, least ∷ int 1 ∷ [], Leaves (most ∷ [])) ∷
    (codes "product wraps", Binary Multiply, int 65536 ∷ int 65537 ∷ [], Leaves (int 65536 ∷ [])) ∷
    (codes "long product", Binary Multiply, long 65536 ∷ long 65536 ∷ [], Leaves (long 4294967296 ∷ [])) ∷
    (codes "two sizes", Binary Add, int 1 ∷ long 1 ∷ [], NoMeaning) ∷
    (codes "sum of references", Binary Add, Null ∷ Null ∷ [], NoMeaning) ∷
    (codes "one operand", Binary Add, int 1 ∷ [], NoMeaning) ∷
    (codes "sum fits", Binary AddOverflow, most ∷ minus 1 ∷ [], Leaves (int 2147483646 ∷ [])) ∷
    (codes "sum overflows", Binary AddOverflow, most ∷ int 1 ∷ [], Faults Overflow) ∷
    (codes "long sum overflows", Binary AddOverflow, most_long ∷ long 1 ∷ [], Faults Overflow) ∷
    (codes "difference overflows", Binary SubtractOverflow, least ∷ int 1 ∷ [], Faults Overflow) ∷
    (codes "difference fits", Binary SubtractOverflow, minus 1 ∷ most ∷ [], Leaves (least ∷ [])) ∷
    (codes "product overflows", Binary MultiplyOverflow, int 65536 ∷ int 32768 ∷ [], Faults Overflow) ∷
    (codes "product fits", Binary MultiplyOverflow, int 65536 ∷ Int32 (negsuc 32767) ∷ [], Leaves (least ∷ [])) ∷
    [])
sums_and_products = refl

-- ---- division: the divisor 0 is looked at first

division : PairAnswers does (
    (codes "quotient", Binary Divide, minus 7 ∷ int 2 ∷ [], Leaves (minus 3 ∷ [])) ∷
    (codes "quotient by zero", Binary Divide, least ∷ int 0 ∷ [], Faults DivideByZero) ∷
    (codes "least by minus one", Binary Divide, least ∷ minus 1 ∷ [], Faults Arithmetic) ∷
    (codes "long least by minus one", Binary Divide, least_long ∷ Int64 (negsuc 0) ∷ [], Faults Arithmetic) ∷
    (codes "remainder", Binary Remainder, minus 7 ∷ int 2 ∷ [], Leaves (minus 1 ∷ [])) ∷
    (codes "remainder by zero", Binary Remainder, int 7 ∷ int 0 ∷ [], Faults DivideByZero) ∷
    (codes "remainder of least", Binary Remainder, least ∷ minus 1 ∷ [], Faults Arithmetic) ∷
    [])
division = refl

-- ---- bits

bits : PairAnswers does (
    (codes "both bits", Binary And, int 12 ∷ int 10 ∷ [], Leaves (int 8 ∷ [])) ∷
    (codes "either bits", Binary Or, int 12 ∷ int 10 ∷ [], Leaves (int 14 ∷ [])) ∷
    (codes "other bits", Binary ExclusiveOr, int 12 ∷ int 10 ∷ [], Leaves (int 6 ∷ [])) ∷
    (codes "negated", Unary Negate, int 5 ∷ [], Leaves (minus 5 ∷ [])) ∷
    (codes "negated least", Unary Negate, least ∷ [], Leaves (least ∷ [])) ∷
    (codes "complemented", Unary Complement, int 0 ∷ [], Leaves (minus 1 ∷ [])) ∷
    (codes "negated null", Unary Negate, Null ∷ [], NoMeaning) ∷
    (codes "shifted left", Shift Left, int 1 ∷ int 33 ∷ [], Leaves (int 2 ∷ [])) ∷
    (codes "long shifted left", Shift Left, long 1 ∷ int 33 ∷ [], Leaves (long 8589934592 ∷ [])) ∷
    (codes "long shifted by 65", Shift Left, long 1 ∷ int 65 ∷ [], Leaves (long 2 ∷ [])) ∷
    (codes "shifted right", Shift Right, minus 8 ∷ int 1 ∷ [], Leaves (minus 4 ∷ [])) ∷
    (codes "shifted right unsigned", Shift RightUnsigned, minus 1 ∷ int 31 ∷ [], Leaves (int 1 ∷ [])) ∷
    (codes "shifted by minus one", Shift RightUnsigned, minus 1 ∷ minus 1 ∷ [], Leaves (int 1 ∷ [])) ∷
    (codes "shifted by long", Shift Left, int 1 ∷ long 1 ∷ [], NoMeaning) ∷
    [])
bits = refl

-- ---- comparisons

comparisons : PairAnswers does (
    (codes "equal integers", Compare Equal, int 3 ∷ int 3 ∷ [], Leaves (int 1 ∷ [])) ∷
    (codes "unequal longs", Compare Equal, long 3 ∷ long 4 ∷ [], Leaves (int 0 ∷ [])) ∷
    (codes "equal references", Compare Equal, object 1 ∷ object 1 ∷ [], Leaves (int 1 ∷ [])) ∷
    (codes "unequal references", Compare Equal, object 1 ∷ object 2 ∷ [], Leaves (int 0 ∷ [])) ∷
    (codes "null and null", Compare Equal, Null ∷ Null ∷ [], Leaves (int 1 ∷ [])) ∷
    (codes "object and null", Compare Equal, object 1 ∷ Null ∷ [], Leaves (int 0 ∷ [])) ∷
    (codes "object and literal", Compare Equal, object 1 ∷ text (codes "a") ∷ [], Leaves (int 0 ∷ [])) ∷
    (codes "integer and null", Compare Equal, int 0 ∷ Null ∷ [], NoMeaning) ∷
    (codes "natives", Compare Equal, Native (pos 0) ∷ Native (pos 0) ∷ [], NoMeaning) ∷
    (codes "greater", Compare Greater, int 1 ∷ minus 1 ∷ [], Leaves (int 1 ∷ [])) ∷
    (codes "less", Compare Less, int 1 ∷ minus 1 ∷ [], Leaves (int 0 ∷ [])) ∷
    (codes "greater references", Compare Greater, Null ∷ Null ∷ [], NoMeaning) ∷
    [])
comparisons = refl

-- ---- conversions

conversions : PairAnswers does (
    (codes "same width", ConvertInt32, minus 1 ∷ [], Leaves (minus 1 ∷ [])) ∷
    (codes "low bits", ConvertInt32, long 4294967297 ∷ [], Leaves (int 1 ∷ [])) ∷
    (codes "low bits signed", ConvertInt32, long 2147483648 ∷ [], Leaves (least ∷ [])) ∷
    (codes "native to 32", ConvertInt32, Native (pos 7) ∷ [], Leaves (int 7 ∷ [])) ∷
    (codes "sign extended", ConvertInt64, minus 1 ∷ [], Leaves (Int64 (negsuc 0) ∷ [])) ∷
    (codes "native to 64", ConvertInt64, Native (pos 7) ∷ [], Leaves (long 7 ∷ [])) ∷
    (codes "converted null", ConvertInt64, Null ∷ [], NoMeaning) ∷
    [])
conversions = refl
