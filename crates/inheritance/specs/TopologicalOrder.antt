-- Classes, each after its base.
use Rattle.std.specs.Prelude.{◌≡◌, ◌≤◌, ◌<◌, ◌⊎◌, ◌==◌, ℕ, Bool, true, false, List, [], ◌∷◌, take, length, Option, Some, slice_get, slice_index_or}
use Rattle.std.specs.List.{count_by}
use Rattle.std.specs.Option.{option_map_or}
use Rattle.inheritance.specs.Lines.{base_in, Ends}

-- how often a class occurs in a list
abbrev pub times : List ℕ → ℕ → ℕ
times classes class = count_by (λ c. c == class) classes

-- the classes whose bases end, each once, and after its base where that is a class
pub record AreTopologicallyOrdered (bases : List (Option ℕ)) (classes : List ℕ) : Type 0 where
  pub following : (index class base : ℕ) → slice_get classes index ≡ Some class → base_in bases class ≡ Some base → base < length bases → 0 < times (take index classes) base
  pub occurs_once : (class most : ℕ) → class < length bases → Ends bases most class → times classes class ≡ 1
  pub others : (class : ℕ) → (times classes class ≡ 0) ⊎ ((class < length bases) × ((most : ℕ) × Ends bases most class))

-- a class, its base, and so on, with what comes after the last of them
abbrev pub IsPath : List (Option ℕ) → Option ℕ → List ℕ → Option ℕ → Type 0
IsPath bases first [] next = first ≡ next
IsPath bases first (class ∷ classes) next = (first ≡ Some class) × IsPath bases (base_in bases class) classes next

abbrev pub is_met : List Bool → ℕ → Bool
is_met met class = slice_index_or met class false

-- what a walk from a class on leaves: a path of the classes that are met first now
pub record HasMet (bases : List (Option ℕ)) (old : List Bool) (first : ℕ) (met : List Bool) (path : List ℕ) (next : Option ℕ) : Type 0 where
  pub width : length met ≡ length old
  pub on_path : IsPath bases (Some first) path next
  pub occurs_once : (class : ℕ) → times path class ≤ 1
  pub of_path : (class : ℕ) → 0 < times path class → (class < length met) × (is_met old class ≡ false) × (is_met met class ≡ true)
  pub kept : (class : ℕ) → is_met old class ≡ true → is_met met class ≡ true
  pub met_now : (class : ℕ) → is_met met class ≡ true → (is_met old class ≡ true) ⊎ (0 < times path class)

-- what comes next is met, where it is a class
abbrev pub IsMetNext : List Bool → Option ℕ → Type 0
IsMetNext met next = (class : ℕ) → next ≡ Some class → class < length met → is_met met class ≡ true

-- whether what comes next is listed, or no class
abbrev pub is_listed_next : List Bool → Option ℕ → Bool
is_listed_next listed next = option_map_or (λ class. slice_index_or listed class true) next true

-- a list of which the classes of a path are marked too
pub record MarksMore (old : List Bool) (path : List ℕ) (listed : List Bool) : Type 0 where
  pub width : length listed ≡ length old
  pub kept : (class : ℕ) → is_met old class ≡ true → is_met listed class ≡ true
  pub met_now : (class : ℕ) → is_met listed class ≡ true → (is_met old class ≡ true) ⊎ (0 < times path class)
  pub of_path : (class : ℕ) → 0 < times path class → class < length listed → is_met listed class ≡ true
