use Rattle.std.proofs.Common.{◌≡◌, ◌<◌, ℕ, Some, slice_get}
use Rattle.exploration.proofs.Names.{IsReal, FoundOutcome}
use Rattle.exploration.proofs.checking.are_real.Given as goal

-- the outcomes found so far
abbrev pub invariant-loop-index : goal.invariant-loop-index
invariant-loop-index g l = (n : ℕ) → n < l.index → (f : FoundOutcome) → slice_get l.fn.found n ≡ Some f → IsReal g.M.First.first f
