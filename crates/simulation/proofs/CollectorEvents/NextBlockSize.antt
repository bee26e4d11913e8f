-- The words of the block that a cycle opens with: no fewer than the only one has, and no more than the most.
use Rattle.std.proofs.Common.{◌*◌, ◌≤◌, ℕ, min, Bool, true, false, if◌then◌else◌, arith}
use Rattle.std.specs.Prelude.{nat_lt}
use Rattle.std.proofs.Math.Nat.{le-min, min-le_right}
use Rattle.interpreter.specs.reference_machine.Cycles.{next_words}

module _ (words used most : ℕ) (within : words ≤ most) where
  pub next_grows : words ≤ next_words words used most
  next_grows = by_test (nat_lt words (2 * used))
    where
      by_test : (t : Bool) → words ≤ (if t then min (2 * words) most else words)
      by_test true = le-min {k = words} {a = 2 * words} {b = most} (omega arith) within
      by_test false = omega arith

  pub next_within : next_words words used most ≤ most
  next_within = by_test (nat_lt words (2 * used))
    where
      by_test : (t : Bool) → (if t then min (2 * words) most else words) ≤ most
      by_test true = min-le_right (2 * words) most
      by_test false = within
