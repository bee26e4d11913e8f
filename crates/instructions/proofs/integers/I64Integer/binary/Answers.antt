use Rattle.std.proofs.Common.{ap, ◌∙◌, ◌+ℤ◌, ◌-ℤ◌, ◌*ℤ◌, int_div, int_rem, Ok, to_z, of_z, arith}
use Rattle.std.specs.Int.{w64}
use Rattle.std.proofs.lemmas.Int.{to_z-of_z, rem_is}
use Rattle.reference_machine.specs.Arithmetic.{binary}
use Rattle.instructions.proofs.Results.{quotient_fits, read_back, never_both, machine_quotient, checked, by_divisor, by_both, divided, tests_64}
use Rattle.instructions.proofs.integers.I64Integer.binary.Goals as goal

pub returns-in-AddOverflow : goal.returns-in-AddOverflow
returns-in-AddOverflow c = checked w64 tests_64 c.args.op c.args.x c.args.y c.ranges.x c.ranges.y ◌+ℤ◌ c.checked_add.result c.ok_or.result (ap (λ op. binary w64 op c.args.x c.args.y) c.in-AddOverflow.is) c.checked_add.ensures c.ok_or.ensures.value

pub returns-in-SubtractOverflow : goal.returns-in-SubtractOverflow
returns-in-SubtractOverflow c = checked w64 tests_64 c.args.op c.args.x c.args.y c.ranges.x c.ranges.y ◌-ℤ◌ c.checked_sub.result c.ok_or-in-SubtractOverflow.result (ap (λ op. binary w64 op c.args.x c.args.y) c.in-SubtractOverflow.is) c.checked_sub.ensures c.ok_or-in-SubtractOverflow.ensures.value

pub returns-in-MultiplyOverflow : goal.returns-in-MultiplyOverflow
returns-in-MultiplyOverflow c = checked w64 tests_64 c.args.op c.args.x c.args.y c.ranges.x c.ranges.y ◌*ℤ◌ c.checked_mul.result c.ok_or-in-MultiplyOverflow.result (ap (λ op. binary w64 op c.args.x c.args.y) c.in-MultiplyOverflow.is) c.checked_mul.ensures c.ok_or-in-MultiplyOverflow.ensures.value

pub returns-then-y-eq0 : goal.returns-then-y-eq0
returns-then-y-eq0 c = by_divisor w64 tests_64 c.args.op c.args.x c.args.y c.ranges.x c.ranges.y (int_div c.args.x c.args.y) (ap (λ op. binary w64 op c.args.x c.args.y) c.in-Divide.is) 0 c.if-y-eq0.true

pub returns-then-y-eqminus1 : goal.returns-then-y-eqminus1
returns-then-y-eqminus1 c = by_both w64 tests_64 c.args.op c.args.x c.args.y c.ranges.x c.ranges.y (int_div c.args.x c.args.y) (ap (λ op. binary w64 op c.args.x c.args.y) c.in-Divide.is) 18446744073709551615 9223372036854775808 c.if-y-eqminus1.true c.if-x-eqminus9223372036854775808.true

pub nonzero_div-result : goal.nonzero_div-result
nonzero_div-result c =
    (omega (arith, c.if-y-eq0.false), machine_quotient w64 c.args.x c.args.y c.ranges.x c.ranges.y (never_both w64 c.args.x c.args.y c.else-x-eqminus9223372036854775808.either))

pub returns-else-x-eqminus9223372036854775808 : goal.returns-else-x-eqminus9223372036854775808
returns-else-x-eqminus9223372036854775808 c =
    ap Ok (read_back w64 (λ a b. to_z w64 (of_z w64 (int_div a b))) c.args.x c.args.y c.ranges.x c.ranges.y ∙ to_z-of_z w64 (int_div c.args.x c.args.y) (quotient_fits w64 c.args.x c.args.y c.ranges.x c.ranges.y (never_both w64 c.args.x c.args.y c.else-x-eqminus9223372036854775808.either)))
    ∙ divided w64 tests_64 c.args.op c.args.x c.args.y c.ranges.x c.ranges.y (int_div c.args.x c.args.y) (ap (λ op. binary w64 op c.args.x c.args.y) c.in-Divide.is) c.if-y-eq0.false c.else-x-eqminus9223372036854775808.either

pub returns-then-y-eq0-2 : goal.returns-then-y-eq0-2
returns-then-y-eq0-2 c = by_divisor w64 tests_64 c.args.op c.args.x c.args.y c.ranges.x c.ranges.y (int_rem c.args.x c.args.y) (ap (λ op. binary w64 op c.args.x c.args.y) c.in-Remainder.is) 0 c.if-y-eq0-2.true

pub returns-then-y-eqminus1-2 : goal.returns-then-y-eqminus1-2
returns-then-y-eqminus1-2 c = by_both w64 tests_64 c.args.op c.args.x c.args.y c.ranges.x c.ranges.y (int_rem c.args.x c.args.y) (ap (λ op. binary w64 op c.args.x c.args.y) c.in-Remainder.is) 18446744073709551615 9223372036854775808 c.if-y-eqminus1-2.true c.if-x-eqminus9223372036854775808-2.true

pub nonzero_rem-result : goal.nonzero_rem-result
nonzero_rem-result c =
    (omega (arith, c.if-y-eq0-2.false), machine_quotient w64 c.args.x c.args.y c.ranges.x c.ranges.y (never_both w64 c.args.x c.args.y c.else-x-eqminus9223372036854775808-2.either))

pub returns-else-x-eqminus9223372036854775808-2 : goal.returns-else-x-eqminus9223372036854775808-2
returns-else-x-eqminus9223372036854775808-2 c =
    ap Ok (rem_is w64 c.args.x c.args.y c.ranges.x c.ranges.y)
    ∙ divided w64 tests_64 c.args.op c.args.x c.args.y c.ranges.x c.ranges.y (int_rem c.args.x c.args.y) (ap (λ op. binary w64 op c.args.x c.args.y) c.in-Remainder.is) c.if-y-eq0-2.false c.else-x-eqminus9223372036854775808-2.either
