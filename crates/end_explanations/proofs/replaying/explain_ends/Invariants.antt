use Rattle.std.proofs.Common.{◌≡◌, map, take}
use Rattle.event_trace.specs.MethodPositions.{ArePositionsOf}
use Rattle.shared_machine.specs.Histories.{plain}
use Rattle.end_explanations.specs.Replays.{AreReplayed, initial_replay, pair_of}
use Rattle.end_explanations.proofs.replaying.explain_ends.Given as goal

-- the events of the runs so far were performed
abbrev pub invariant-loop-run : goal.invariant-loop-run
invariant-loop-run l = record {
  replayed : AreReplayed l.names.lines l.fn.machine initial_replay (map pair_of (plain (take l.run-index l.runs))) l.machine l.progress;
  positions : ArePositionsOf l.machine.tree l.names.methods;
  limits : l.machine.limits ≡ l.fn.machine.limits;
}
