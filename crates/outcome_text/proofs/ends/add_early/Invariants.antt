use Rattle.std.proofs.Common.{◌≡◌, ◌++◌}
use Rattle.std.specs.Prelude.{string_bytes}
use Rattle.outcome_text.specs.Outcomes.{early_below}
use Rattle.outcome_text.proofs.ends.add_early.Given as goal

-- the threads so far that ended early are appended
abbrev pub invariant-loop-thread : goal.invariant-loop-thread
invariant-loop-thread l = string_bytes l.text ≡ string_bytes l.fn.text ++ early_below l.ends l.thread-counter
