use Rattle.std.proofs.Common.{◌≡◌, ◌≤◌, ◌++◌, replicate, vec_len, vec_capacity}
use Rattle.shared_machine.specs.Histories.{plain, room_in}
use Rattle.shared_machine.proofs.history.History.add_times.Given as goal

abbrev pub invariant-loop-left : goal.invariant-loop-left
invariant-loop-left l = record {
  added : plain l.self-inside.runs.items ++ replicate l.left l.entry ≡ plain l.initial.self-inside.runs.items ++ replicate l.times l.entry;
  room : l.left ≤ room_in (vec_len l.self-inside.runs) (vec_capacity l.self-inside.runs);
}

abbrev pub decreases-loop-left : goal.decreases-loop-left
decreases-loop-left l = l.left
