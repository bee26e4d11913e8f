use Rattle.std.proofs.Common.{◌≡◌, ◌++◌}
use Rattle.std.specs.Prelude.{string_bytes}
use Rattle.outcome_text.specs.Outcomes.{blocked_below, is_blocked_below}
use Rattle.outcome_text.proofs.ends.add_blocked.Given as goal

-- the numbers of the blocked threads so far are appended
abbrev pub invariant-loop-thread : goal.invariant-loop-thread
invariant-loop-thread l =
    (string_bytes l.text ≡ string_bytes l.fn.text ++ blocked_below l.ends l.thread) × (l.has_blocked ≡ is_blocked_below l.ends l.thread)
