use Rattle.std.proofs.Common.{◌≡◌, ◌++◌}
use Rattle.std.specs.Prelude.{string_bytes}
use Rattle.event_trace.proofs.Names.{lines_below}
use Rattle.event_trace.proofs.explanations.add_threads.Given as goal

-- the lines of the threads so far were added
abbrev pub invariant-loop-thread : goal.invariant-loop-thread
invariant-loop-thread l = string_bytes l.text ≡ string_bytes l.fn.text ++ lines_below l.machine l.thread
