use Rattle.std.proofs.Common.{◌-◌, get_or, arith}
use Rattle.schedule_text.proofs.NumberLemmas.{value_next, capped_next}
use Rattle.schedule_text.proofs.reading.value_of.Goals as goal

pub loop-digit-preserved : goal.loop-digit-preserved
loop-digit-preserved c =
    let next = value_next c.args.digits.now c.loop-digit.digit-index c.requires (omega arith) in
    let capped = capped_next c.loop-digit.value _ (get_or c.args.digits.now c.loop-digit.digit-index 0 - 48) 4294967295 c.loop-digit.invariant.0 in
    (cc, omega arith)
