use Rattle.std.proofs.Common.{◌≡◌, ◌<◌, ◌+◌, ◌*◌, ℕ, Bool, Some, true, slice_get}
use Rattle.exploration.proofs.Names.{MOST_THREADS}
use Rattle.exploration.proofs.checking.can_any_step.Given as goal

-- the threads so far are checked, and one of them can make a step if some can
abbrev pub invariant-loop-thread : goal.invariant-loop-thread
invariant-loop-thread l =
    ((t : ℕ) → t < l.thread → (can : Bool) × (slice_get l.entries (l.path_index * MOST_THREADS + t) ≡ Some (Some can)))
    × (l.can_any ≡ true → (t : ℕ) × (t < MOST_THREADS) × (slice_get l.entries (l.path_index * MOST_THREADS + t) ≡ Some (Some true)))
