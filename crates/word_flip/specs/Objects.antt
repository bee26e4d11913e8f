-- How a word names an object: 0 is null, and n + 1 the object n (this profile).
use Rattle.std.specs.Prelude.{ℕ, zero, suc, Option, Some, None}

abbrev pub object_of : ℕ → Option ℕ
object_of zero = None
object_of (suc n) = Some n
