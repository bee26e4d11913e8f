-- The memory that a cycle of the collector takes when it opens (this profile).
use Rattle.std.specs.Prelude.{ℕ}

-- the words of its block, and the number of objects that its grey list has room for
pub record CycleRoom : Type 0 where
  pub words : ℕ
  pub objects : ℕ
