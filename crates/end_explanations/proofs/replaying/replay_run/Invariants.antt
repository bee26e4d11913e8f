use Rattle.std.proofs.Common.{◌≡◌, map}
use Rattle.std.specs.Prelude.{replicate}
use Rattle.end_explanations.specs.Replays.{AreReplayed, pair_of}
use Rattle.end_explanations.proofs.replaying.replay_run.Given as goal

-- the event was performed once in each iteration so far
abbrev pub invariant-loop-time : goal.invariant-loop-time
invariant-loop-time l = record {
  replayed : AreReplayed l.names.lines l.fn.machine l.fn.progress (map pair_of (replicate l._time l.run.entry)) l.machine l.progress;
  program : l.machine.tree ≡ l.fn.machine.tree;
  limits : l.machine.limits ≡ l.fn.machine.limits;
}
