-- The words of a block, the first of which are in use.
use Rattle.std.specs.Prelude.{ℕ, List, replicate}

-- the words, of which those that are not in use are 0, and how many are in use
pub record Row : Type 0 where
  pub words : List ℕ
  pub used : ℕ

-- a block of the given number of words without one in use
abbrev pub blank : ℕ → Row
blank count = record { words = replicate count 0; used = 0 }
