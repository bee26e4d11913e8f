-- Results for each class, by the classes' numbers.
use Rattle.std.specs.Prelude.{ℕ, zero, suc, Bool, false, List, [], ◌∷◌, map, filter_map, Option, Some, None, option_and_then, slice_get, unwrap_or}
use Rattle.cil_model.specs.declared.types.ClassName.{ClassName}
use Rattle.cil_model.specs.declared.trees.Tree.{Tree}
use Rattle.cil_model.specs.Declarations.{Declaration}
use Rattle.cil_model.specs.Chains.{base_of, interfaces_declared}
use Rattle.cil_model.specs.Assignable.{is_class_assignable}
use Rattle.name_tables.specs.Numbers.{declarations, class_number}

-- the result for the name of each class
abbrev pub by_class : {X : Type 0} → Tree → (ClassName → X) → List X
by_class tree answer = map (λ (e : ClassName × Declaration). answer e.0) (declarations tree)

-- the numbers of the interfaces that a class lists
abbrev pub interface_numbers : Tree → ClassName → List ℕ
interface_numbers tree c = filter_map (class_number tree) (interfaces_declared tree c)

-- the number of the base that a class names
abbrev pub base_number : Tree → ClassName → Option ℕ
base_number tree c = option_and_then (class_number tree) (base_of tree c)

-- which classes a class is assignable to
abbrev pub assignable_row : Tree → ClassName → List Bool
assignable_row tree c = by_class tree (is_class_assignable tree c)

-- a class with the interfaces that it lists, from the table of these
abbrev pub with_interfaces : List (List ℕ) → ℕ → List ℕ
with_interfaces listed n = n ∷ unwrap_or (slice_get listed n) []

-- a flag of a table by rows
abbrev pub marked_at : List (List Bool) → ℕ → ℕ → Bool
marked_at rows n m = unwrap_or (slice_get (unwrap_or (slice_get rows n) []) m) false

-- ---- chains by numbers alone

-- the base of a number
abbrev pub base_at : List (Option ℕ) → ℕ → Option ℕ
base_at bases n = unwrap_or (slice_get bases n) None

-- a number, its base, and so on, up to the given number of classes (I.8.9.9)
abbrev pub chain_by : List (Option ℕ) → ℕ → Option ℕ → List ℕ
chain_by bases zero n = []
chain_by bases (suc k) None = []
chain_by bases (suc k) (Some n) = n ∷ chain_by bases k (base_at bases n)
