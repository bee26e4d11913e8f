-- What the thread of a seat promises (this profile).
use Rattle.std.specs.Prelude.{ℕ, ◌*◌}
use Rattle.std.specs.declared.thread.PromisedHandle.{PromisedHandle}
use Rattle.flip_stress.specs.Stress.{own_count}
use Rattle.flip_stress.specs.declared.stress.KeepsAll.{KeepsAll}
use Rattle.flip_stress.specs.declared.seat.SeatReport.{SeatReport}

-- how many loads give what was stored: one for each of the seat's own slots in each round
abbrev pub promised_count : KeepsAll → ℕ
promised_count promise = promise.rounds * own_count promise.writer.value

abbrev pub promised_by : PromisedHandle SeatReport KeepsAll → ℕ
promised_by thread = promised_count thread.promise
