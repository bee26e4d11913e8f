use Rattle.std.proofs.Common.{◌≡◌, ◌++◌}
use Rattle.std.specs.Prelude.{string_bytes}
use Rattle.event_trace.proofs.Names.{count_below, numbers_below}
use Rattle.event_trace.proofs.explanations.add_thread_numbers.Given as goal

-- the numbers so far were added, and counted
abbrev pub invariant-loop-thread : goal.invariant-loop-thread
invariant-loop-thread l = (string_bytes l.text ≡ string_bytes l.fn.text ++ numbers_below l.set l.thread) × (l.count ≡ count_below l.set l.thread)
