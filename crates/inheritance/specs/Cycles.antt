-- Bases that lead back to their own class.
use Rattle.std.specs.Prelude.{◌≡◌, ◌≤◌, ◌<◌, ◌⊎◌, ◌↔◌, ℕ, zero, suc, List, length, Option, Some, None, option_and_then, slice_index_or}
use Rattle.inheritance.specs.Lines.{base_in}

-- the class that is n bases further on
abbrev pub along : List (Option ℕ) → ℕ → ℕ → Option ℕ
along bases zero class = Some class
along bases (suc n) class = option_and_then (along bases n) (base_in bases class)

-- bases lead back to the class
abbrev pub IsOnBaseCycle : List (Option ℕ) → ℕ → Type 0
IsOnBaseCycle bases class = (n : ℕ) × (along bases (suc n) class ≡ Some class)

-- the least such class; none where there is none
abbrev pub IsLeastOnBaseCycle : List (Option ℕ) → Option ℕ → Type 0
IsLeastOnBaseCycle bases None = (class : ℕ) → IsOnBaseCycle bases class → ⊥
IsLeastOnBaseCycle bases (Some least) = IsOnBaseCycle bases least × ((class : ℕ) → IsOnBaseCycle bases class → least ≤ class)

-- a class, its base, and so on, lead to another
abbrev pub Leads : List (Option ℕ) → ℕ → ℕ → Type 0
Leads bases c d = (n : ℕ) × (along bases n c ≡ Some d)

-- with a class its base is among these, where that has a base too
abbrev pub IsClosed : List (Option ℕ) → (ℕ → Type 0) → Type 0
IsClosed bases IsIn = (c d b : ℕ) → IsIn c → base_in bases c ≡ Some d → base_in bases d ≡ Some b → IsIn d

-- the walk that reached a class first
abbrev pub walk_at : List (Option ℕ) → ℕ → Option ℕ
walk_at marks class = slice_index_or marks class None

abbrev pub IsMarked : List (Option ℕ) → ℕ → Type 0
IsMarked marks class = (walk : ℕ) × (walk_at marks class ≡ Some walk)

-- exactly the classes that bases lead back to are marked
abbrev pub MarksBaseCycles : List (Option ℕ) → List (Option ℕ) → Type 0
MarksBaseCycles bases marks = (class : ℕ) → IsMarked marks class ↔ IsOnBaseCycle bases class

-- what a walk from a class on leaves: all that it marks is reached from that class, a class that it meets again is among its own base classes, and all
-- classes that are among their own base classes and were first reached in this walk lead to it
pub record HasWalked (bases old : List (Option ℕ)) (first walk : ℕ) (marks : List (Option ℕ)) (met : Option ℕ) : Type 0 where
  pub width : length marks ≡ length old
  pub kept : (c w : ℕ) → walk_at old c ≡ Some w → walk_at marks c ≡ Some w
  pub later : (c w : ℕ) → walk_at marks c ≡ Some w → (walk_at old c ≡ Some w) ⊎ ((w ≡ walk) × Leads bases first c)
  pub begun : first < length marks → IsMarked marks first
  pub closed : IsClosed bases (IsMarked old) → IsClosed bases (IsMarked marks)
  pub own : (class : ℕ) → met ≡ Some class → IsOnBaseCycle bases class
  pub covered : IsClosed bases (IsMarked old) → (c : ℕ) → IsMarked marks c → walk_at old c ≡ None → IsOnBaseCycle bases c → (class : ℕ) × (met ≡ Some class) × Leads bases c class
