use Rattle.std.proofs.Common.{◌<◌, ◌≤◌, ℕ}
use Rattle.verifier.specs.Tables.{IsPending}
use Rattle.verifier.proofs.search.pending_from.Given as goal

abbrev pub invariant-loop-pc : goal.invariant-loop-pc
invariant-loop-pc l = (p : ℕ) → l.fn.from ≤ p → p < l.pc → IsPending l.is_pending p → ⊥
