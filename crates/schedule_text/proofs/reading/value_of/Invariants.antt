use Rattle.std.proofs.Common.{◌≡◌, ◌-◌, ◌^◌, min, take, ◌≤◌, length}
use Rattle.std.specs.Str.Parse.{digits_value}
use Rattle.schedule_text.proofs.reading.value_of.Given as goal

abbrev pub invariant-loop-digit : goal.invariant-loop-digit
invariant-loop-digit l =
    (l.value ≡ min (digits_value 10 (take l.digit-index l.digits)) (2 ^ 32 - 1)) × (l.digit-index ≤ length l.digits)
