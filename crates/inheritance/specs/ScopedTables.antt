-- What is known while the classes are visited.
use Rattle.std.specs.Prelude.{◌≡◌, ◌≤◌, ◌<◌, ℕ, List, length, map, Option, None, Some, option_map, slice_index_or}
use Rattle.inheritance.specs.declared.changes.Declared.{Declared}
use Rattle.inheritance.specs.declared.changes.Change.{Change}
use Rattle.std.specs.Option.{option_map_or}
use Rattle.inheritance.specs.declared.changes.Source.{Source}
use Rattle.inheritance.specs.declared.changes.Source.TheVariants.{Nothing, Time}
use Rattle.inheritance.specs.declared.forests.Forest.{Forest}
use Rattle.inheritance.specs.declared.scoped_tables.Entry.{Entry}
use Rattle.inheritance.specs.declared.scoped_tables.ScopedTable.{ScopedTable}
use Rattle.inheritance.specs.Changes.{known_of, AreOrdered, AreUpTo}
use Rattle.inheritance.specs.Lines.{base_in, line_within, Ends, index_in, nearest}

-- the class and the index of a declaration
abbrev pub pair_of : Option Declared → Option (ℕ × ℕ)
pair_of found = option_map (λ (d : Declared). (d.class, d.index)) found

-- the nearest class with a key, from a class on, among the given number of classes
abbrev pub nearest_from : Forest → ℕ → ℕ → Option ℕ → Option (ℕ × ℕ)
nearest_from forest key n class = nearest (index_in (map (λ v. v.items) forest.declared.items) key) (line_within forest.bases.items n class)

-- when a class was entered
abbrev pub entry_in : List (Option Entry) → ℕ → Option Entry
entry_in entries class = slice_index_or entries class None

-- at its time, each key finds the nearest class with it
pub record IsEntered (forest : Forest) (rows : List (List Change)) (class : ℕ) (entry : Entry) : Type 0 where
  pub length_is_bounded : entry.length ≤ forest.most
  pub ended : (n : ℕ) → entry.length ≤ n → line_within forest.bases.items n (Some class) ≡ line_within forest.bases.items entry.length (Some class)
  pub lookup_is_correct : (key n : ℕ) → key < forest.keys → entry.length ≤ n → pair_of (known_of rows key entry.time) ≡ nearest_from forest key n (Some class)

-- from a time on each key finds what it found as the current class was entered, and nothing where there is none
abbrev pub HoldsSince : Forest → List (List Change) → List (Option Entry) → ℕ → Option ℕ → Type 0
HoldsSince forest rows entries time None = (key t : ℕ) → key < forest.keys → time ≤ t → known_of rows key t ≡ None
HoldsSince forest rows entries time (Some class) =
    (entry : Entry) × (entry_in entries class ≡ Some entry) × ((key t : ℕ) → key < forest.keys → time ≤ t → known_of rows key t ≡ known_of rows key entry.time)

-- what is written before a time is right
pub record IsCorrectBefore (forest : Forest) (time : ℕ) (rows : List (List Change)) (entries : List (Option Entry)) (current : Option ℕ) : Type 0 where
  pub width : length rows ≡ forest.keys
  pub up_to : AreUpTo time rows
  pub earlier : (class : ℕ) (entry : Entry) → entry_in entries class ≡ Some entry → entry.time < time
  pub entries_are_entered : (class : ℕ) (entry : Entry) → entry_in entries class ≡ Some entry → IsEntered forest rows class entry
  pub base_is_entered : (class base : ℕ) (entry : Entry) → entry_in entries class ≡ Some entry → base_in forest.bases.items class ≡ Some base → (other : Entry) × (entry_in entries base ≡ Some other)
  pub holds_since : HoldsSince forest rows entries time current

abbrev pub IsCorrect : Forest → ℕ → ScopedTable → Type 0
IsCorrect forest time scoped_table = IsCorrectBefore forest time (map (λ v. v.items) scoped_table.changes.items) scoped_table.entries.items scoped_table.current

-- each key finds the nearest class with it, from each class that was entered, whose bases end
pub record IsDone (forest : Forest) (scoped_table : ScopedTable) : Type 0 where
  pub width : length scoped_table.changes.items ≡ forest.keys
  pub ordered : AreOrdered (map (λ v. v.items) scoped_table.changes.items)
  pub ended : (class : ℕ) (entry : Entry) → entry_in scoped_table.entries.items class ≡ Some entry → Ends forest.bases.items forest.most class
  pub lookup_is_correct : (class : ℕ) (entry : Entry) → entry_in scoped_table.entries.items class ≡ Some entry → (key : ℕ) → key < forest.keys → pair_of (known_of (map (λ v. v.items) scoped_table.changes.items) key entry.time) ≡ nearest_from forest key forest.most (Some class)

-- how many classes there are from a class on
abbrev pub height_of : List (Option Entry) → Option ℕ → Option ℕ
height_of entries None = Some 0
height_of entries (Some class) = option_map (λ (e : Entry). e.length) (entry_in entries class)

-- what was found as a class was entered
abbrev pub source_of : List (Option Entry) → Option ℕ → Source
source_of entries None = Nothing
source_of entries (Some class) = option_map_or (λ (e : Entry). Time e.time) (entry_in entries class) Nothing

-- a class that was not entered
pub record IsLeftOut (bases : List (Option ℕ)) (entries : List (Option Entry)) (class : ℕ) : Type 0 where
  pub within : class < length bases
  pub absent : entry_in entries class ≡ None

-- nor was its base
abbrev pub HasBaseLeftOut : List (Option ℕ) → List (Option Entry) → ℕ → Type 0
HasBaseLeftOut bases entries class = (base : ℕ) × (base_in bases class ≡ Some base) × IsLeftOut bases entries base
