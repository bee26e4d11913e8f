-- The words that a collection must keep: those of what was reachable when its cycle began, or was born since (this profile).
use Rattle.std.specs.Prelude.{◌≡◌, ◌↔◌, ◌≤◌, ◌⊎◌, ℕ, ◌+◌, List, length, sum_by, Option, Some, None, slice_get, Contains, nat_eq}
use Rattle.std.specs.List.{IsDistinct}
use Rattle.cil_model.specs.declared.trees.Tree.{Tree}
use Rattle.reference_machine.specs.Values.{Born}
use Rattle.reference_machine.specs.States.{HeapObject, State}
use Rattle.reference_machine.specs.Rooms.{cell_words}
use Rattle.reference_machine.specs.Reachable.{IsReachable}

-- the words of an object that is there
abbrev pub words_of_object : Tree → Option HeapObject → ℕ
words_of_object tree None = 0
words_of_object tree (Some o) = cell_words tree o.contents

-- the object was reachable when the cycle began, or was born since
abbrev pub IsRetained : State → State → ℕ → Type 0
IsRetained before now n = IsReachable before (Born n) ⊎ ((length before.objects ≤ n) × (n + 1 ≤ length now.objects))

-- the cells of exactly the objects that are retained have this number of words together
pub record RetainsWords (tree : Tree) (before now : State) (words : ℕ) : Type 0 where
  pub names : List ℕ
  pub distinct : IsDistinct nat_eq names
  pub retained : (n : ℕ) → Contains names n ↔ IsRetained before now n
  pub total : sum_by (λ n. words_of_object tree (slice_get now.objects n)) names ≡ words
