-- What an output has taken, and which of its calls failed.
use Rattle.std.specs.Prelude.{◌≡◌, ◌<◌, ◌≤◌, ◌⊎◌, ◌-◌, ◌^◌, ◌∷◌, [], zero, suc, ℕ, Bool, true, false, List, Option, Some, None, take}
use Rattle.std.specs.Io.KnownBytes.{Appends}
use Rattle.outputs.specs.Beginnings.{AppendsBeginning}

-- the bytes that an output has taken, where they are known, and how many of its calls failed, of which 2^64 - 1 are counted
pub record StreamState : Type 0 where
  pub contents : Option (List ℕ)
  pub failures : ℕ

-- the prefix of some bytes that a call has taken
abbrev pub prefix_of : Option ℕ → List ℕ → List ℕ
prefix_of None bytes = []
prefix_of (Some count) bytes = take count bytes

-- a call has failed that returned this for these bytes: it took none of them, though there are some, or returned none
abbrev pub is_failure : Option ℕ → List ℕ → Bool
is_failure None bytes = true
is_failure (Some zero) (byte ∷ bytes) = true
is_failure (Some zero) [] = false
is_failure (Some (suc count)) bytes = false

-- a count of failures has grown, or it is at its most
abbrev pub HasGrown : ℕ → ℕ → Type 0
HasGrown old new = (old < new) ⊎ (2 ^ 64 - 1 ≤ new)

-- all of these bytes are taken, and no call failed
abbrev pub Takes : StreamState → StreamState → List ℕ → Type 0
Takes old new bytes = Appends old.contents new.contents bytes × (new.failures ≡ old.failures)

-- a prefix of these bytes is taken, and a call failed
abbrev pub Fails : StreamState → StreamState → List ℕ → Type 0
Fails old new bytes = AppendsBeginning old.contents new.contents bytes × HasGrown old.failures new.failures
