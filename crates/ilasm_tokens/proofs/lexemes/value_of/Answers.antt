use Rattle.std.proofs.Common.{◌<◌, drop, length, length-drop, arith}
use Rattle.ilasm_tokens.proofs.Text.{value_beyond}
use Rattle.ilasm_tokens.proofs.lexemes.value_of.Goals as goal

pub returns-then-value-gt922337203685477580 : goal.returns-then-value-gt922337203685477580
returns-then-value-gt922337203685477580 c =
    let left : 0 < length (drop c.loop-digit.digit-index c.args.digits.now) = omega (arith, length-drop c.loop-digit.digit-index c.args.digits.now) in
    rw (← c.loop-digit.invariant.so_far) (value_beyond c.loop-digit.value (drop c.loop-digit.digit-index c.args.digits.now) left (omega arith))
