-- Cycles of bases that are cut, and the parts of lines between the cuts.
use Rattle.std.specs.Prelude.{◌≡◌, ℕ, ◌+◌, List, map, Option, Some, None, option_map, slice_index_or}
use Rattle.inheritance.specs.declared.forests.Forest.{Forest}
use Rattle.inheritance.specs.declared.cut_cycles.Part.{Part}
use Rattle.inheritance.specs.Lines.{base_in}

-- each class has the same base or none
abbrev pub HasBasesOf : List (Option ℕ) → List (Option ℕ) → Type 0
HasBasesOf bases cut = (class base : ℕ) → base_in cut class ≡ Some base → base_in bases class ≡ Some base

-- the same classes, of which some have no base any more
pub record IsCut (forest cut : Forest) : Type 0 where
  pub bases : HasBasesOf forest.bases.items cut.bases.items
  pub declared : map (λ v. v.items) cut.declared.items ≡ map (λ v. v.items) forest.declared.items
  pub keys : cut.keys ≡ forest.keys
  pub most : cut.most ≡ forest.most

-- the part of a class's line that is written down
abbrev pub part_in : List (Option Part) → ℕ → Option Part
part_in parts class = slice_index_or parts class None

-- the part of a class's line: the class alone where it has no base, otherwise one class more than that of its base
abbrev pub part_of : List (Option Part) → ℕ → Option ℕ → Option Part
part_of parts class None = Some (record { last = class; length = 1 })
part_of parts class (Some base) = option_map (λ (p : Part). record { last = p.last; length = p.length + 1 }) (part_in parts base)

-- each part that is written down follows from that of the base
abbrev pub AreParts : List (Option ℕ) → List (Option Part) → Type 0
AreParts bases parts = (class : ℕ) (part : Part) → part_in parts class ≡ Some part → part_of parts class (base_in bases class) ≡ Some part
