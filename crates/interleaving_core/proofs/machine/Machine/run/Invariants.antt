use Rattle.std.proofs.Common.{take}
use Rattle.interleaving_core.proofs.Runs.FollowedRuns.{RunSoFar}
use Rattle.interleaving_core.proofs.machine.Machine.run.Given as goal

-- the run so far
abbrev pub invariant-loop-event : goal.invariant-loop-event
invariant-loop-event l = RunSoFar l.fn.self l.fn.reports.items (take l.event-index l.events) l.self l.reports.items
