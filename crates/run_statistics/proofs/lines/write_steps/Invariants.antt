use Rattle.outputs.specs.Streams.{Takes}
use Rattle.shared_machine.specs.Histories.{events_of, reports_of}
use Rattle.run_statistics.specs.Lines.{steps_text}
use Rattle.run_statistics.proofs.lines.write_steps.Given as goal

-- the lines of the threads so far are written
abbrev pub invariant-loop-thread : goal.invariant-loop-thread
invariant-loop-thread g l = Takes (g.E.Out.taken l.initial.err) (g.E.Out.taken l.err) (steps_text (events_of l.history.entries) (reports_of l.history.entries) l.thread)
