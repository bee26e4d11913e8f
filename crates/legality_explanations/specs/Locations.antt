-- Where the parts of a source stand that explanations show (this profile).
use Rattle.std.specs.Prelude.{◌≡◌, ℕ}
use Rattle.source_positions.specs.declared.locations.Location.{Location}
use Rattle.source_positions.specs.declared.locations.Location.TheVariants.{Extern, InClass, InMember, InLine}

-- the part belongs to the class of this number in the source
abbrev pub IsOfClass : ℕ → Location → Type 0
IsOfClass number (Extern name) = ⊥
IsOfClass number (InClass class part) = class ≡ number
IsOfClass number (InMember class member part) = class ≡ number
IsOfClass number (InLine class member line part) = class ≡ number
